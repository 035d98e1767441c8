use Rattle.ra_history_text.proofs.Endings.{syntax_only}
use Rattle.ra_history_text.proofs.StoppedBytes.{syntax_found}
use Rattle.ra_history_text.proofs.theorems.syntax_iff_line_spells_nothing.Goals as goal

pub returns : goal.returns
returns c = λ text said number. (λ both. syntax_found text said number both.0 both.1, syntax_only text said number)
