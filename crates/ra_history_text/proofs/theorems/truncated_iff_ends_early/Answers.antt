use Rattle.ra_history_text.proofs.Endings.{truncated_only}
use Rattle.ra_history_text.proofs.StoppedBytes.{truncated_found}
use Rattle.ra_history_text.proofs.theorems.truncated_iff_ends_early.Goals as goal

pub returns : goal.returns
returns c = λ text said number. (λ both. truncated_found text said number both.0 both.1, truncated_only text said number)
