use Rattle.std.proofs.Common.{rules}
use Rattle.ra_history_lines.proofs.name.is_bad_behind.Goals as goal

pub returns-then-not-is_name : goal.returns-then-not-is_name
returns-then-not-is_name c = search rules steps 100000

pub returns-else-not-is_name : goal.returns-else-not-is_name
returns-else-not-is_name c = search rules steps 100000
