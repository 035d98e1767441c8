use Rattle.ra_theorems.proofs.TheoremIndex.{delivered_cases}
use Rattle.ra_theorems.proofs.theorems.visibility.delivered_cases.Goals as goal

pub returns : goal.returns
returns c = delivered_cases
