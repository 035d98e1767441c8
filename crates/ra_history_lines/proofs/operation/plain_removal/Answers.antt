use Rattle.std.proofs.Common.{rules}
use Rattle.ra_history_lines.proofs.operation.plain_removal.Goals as goal

pub returns-in-Rga : goal.returns-in-Rga
returns-in-Rga c = search rules steps 100000
