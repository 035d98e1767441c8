use Rattle.ra_history_text.proofs.Prefixes.{whole_lines}
use Rattle.ra_history_text.proofs.theorems.no_memory_leaves_whole_lines.Goals as goal

pub returns : goal.returns
returns c = whole_lines
