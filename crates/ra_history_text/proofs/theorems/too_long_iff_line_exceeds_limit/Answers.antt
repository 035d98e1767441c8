use Rattle.ra_history_text.proofs.Endings.{long_only}
use Rattle.ra_history_text.proofs.StoppedBytes.{long_found}
use Rattle.ra_history_text.proofs.theorems.too_long_iff_line_exceeds_limit.Goals as goal

pub returns : goal.returns
returns c = λ text said number. (λ both. long_found text said number both.0 both.1, long_only text said number)
