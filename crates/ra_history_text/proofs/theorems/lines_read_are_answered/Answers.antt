use Rattle.ra_history_text.proofs.Prefixes.{each_is_answered}
use Rattle.ra_history_text.proofs.theorems.lines_read_are_answered.Goals as goal

pub returns : goal.returns
returns c = each_is_answered
