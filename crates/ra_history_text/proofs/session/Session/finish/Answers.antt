use Rattle.std.proofs.Common.{rules}
use Rattle.ra_history_text.proofs.session.Session.finish.Goals as goal

pub returns-then-not-is_empty-clause-fault : goal.returns-then-not-is_empty-clause-fault
returns-then-not-is_empty-clause-fault c = search rules steps 250000
