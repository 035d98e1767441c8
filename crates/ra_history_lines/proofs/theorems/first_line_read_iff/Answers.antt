use Rattle.std.proofs.Common.{ap, ◌∙◌}
use Rattle.ra_history_lines.specs.Reading.{head_read}
use Rattle.ra_history_lines.proofs.Heads.{head_found, head_only}
use Rattle.ra_history_lines.proofs.theorems.first_line_read_iff.Goals as goal

pub returns : goal.returns
returns c = λ format kind line. (head_found line format kind, λ is. ap head_read is ∙ head_only format kind)
