use Rattle.ra_theorems.proofs.TheoremIndex.{lww_set_contents-added, lww_set_contents-removed}
use Rattle.ra_theorems.proofs.TheoremIndex.{lww_set_contents-never, lww_set_contents-rises}
use Rattle.ra_theorems.proofs.theorems.specification.lww_set_contents.Goals as goal

pub returns-clause-added : goal.returns-clause-added
returns-clause-added c = lww_set_contents-added

pub returns-clause-removed : goal.returns-clause-removed
returns-clause-removed c = lww_set_contents-removed

pub returns-clause-never : goal.returns-clause-never
returns-clause-never c = lww_set_contents-never

pub returns-clause-rises : goal.returns-clause-rises
returns-clause-rises c = lww_set_contents-rises
