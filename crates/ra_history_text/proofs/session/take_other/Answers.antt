use Rattle.std.proofs.Common.{rules}
use Rattle.ra_history_text.proofs.session.take_other.Goals as goal

pub returns-in_default-clause-fault : goal.returns-in_default-clause-fault
returns-in_default-clause-fault c = search rules steps 3000000
