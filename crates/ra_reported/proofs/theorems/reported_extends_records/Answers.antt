use Rattle.std.proofs.Common.{[]}
use Rattle.ra_reported.proofs.Records.{all_reported, first_reported}
use Rattle.ra_reported.proofs.theorems.reported_extends_records.Goals as goal

pub returns-clause-all : goal.returns-clause-all
returns-clause-all c = λ kind replicas commands none. all_reported kind replicas [] commands none

pub returns-clause-first : goal.returns-clause-first
returns-clause-first c = λ kind replicas commands. first_reported kind replicas [] commands
