use Rattle.ra_theorems.proofs.TheoremIndex.{ok_and_yes_imply_linearization-ok, ok_and_yes_imply_linearization-yes}
use Rattle.ra_theorems.proofs.theorems.answer.ok_and_yes_imply_linearization.Goals as goal

pub returns-clause-ok : goal.returns-clause-ok
returns-clause-ok c = ok_and_yes_imply_linearization-ok

pub returns-clause-yes : goal.returns-clause-yes
returns-clause-yes c = ok_and_yes_imply_linearization-yes
