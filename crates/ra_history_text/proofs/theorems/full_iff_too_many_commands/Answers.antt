use Rattle.ra_history_text.proofs.Endings.{full_only}
use Rattle.ra_history_text.proofs.StoppedBytes.{full_found}
use Rattle.ra_history_text.proofs.theorems.full_iff_too_many_commands.Goals as goal

pub returns : goal.returns
returns c = λ text said number. (λ both. full_found text said number both.0 both.1, full_only text said number)
