use Rattle.ra_theorems.proofs.TheoremIndex.{insertion_after_present_anchor-admitted, insertion_after_present_anchor-behind}
use Rattle.ra_theorems.proofs.theorems.rga.insertion_after_present_anchor.Goals as goal

pub returns-clause-admitted : goal.returns-clause-admitted
returns-clause-admitted c = insertion_after_present_anchor-admitted

pub returns-clause-behind : goal.returns-clause-behind
returns-clause-behind c = insertion_after_present_anchor-behind
