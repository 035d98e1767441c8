use Rattle.ra_history_lines.proofs.EndLines.{no_end_line}
use Rattle.ra_history_lines.proofs.theorems.reply_line_ne_end_line.Goals as goal

pub returns : goal.returns
returns c = no_end_line
