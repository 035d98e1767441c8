use Rattle.std.proofs.Common.{rules}
use Rattle.ra_history_lines.proofs.number.begins_as_number.Goals as goal

pub returns-in-48 : goal.returns-in-48
returns-in-48 c = search rules steps 150000
