use Rattle.ra_history_lines.proofs.Heads.{names_read-Some, names_read-listed}
use Rattle.ra_history_lines.proofs.theorems.names_line_read_iff.Goals as goal

pub returns : goal.returns
returns c = λ format names line. (names_read-Some format line names, names_read-listed format line names)
