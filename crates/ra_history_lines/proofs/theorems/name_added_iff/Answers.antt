use Rattle.ra_history_lines.proofs.AddedNames.{added-exactly, stopped-once}
use Rattle.ra_history_lines.proofs.theorems.name_added_iff.Goals as goal

pub returns-clause-added : goal.returns-clause-added
returns-clause-added c = added-exactly

pub returns-clause-one : goal.returns-clause-one
returns-clause-one c = stopped-once
