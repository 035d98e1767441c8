use Rattle.std.proofs.Common.{rules}
use Rattle.ra_history_text.proofs.outcome.status.Goals as goal

pub returns-in-Ok-3 : goal.returns-in-Ok-3
returns-in-Ok-3 c = search rules steps 150000
