use Rattle.ra_history_text.proofs.Texts.{says_found, says_only}
use Rattle.ra_history_text.proofs.theorems.regular_text_iff_lines.Goals as goal

pub returns : goal.returns
returns c = λ text format kind first joined commands. (
  λ both. says_found text format kind first joined commands both.0 both.1,
  says_only text format kind first joined commands,
)
