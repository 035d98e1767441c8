use Rattle.ra_history_text.proofs.Prefixes.{unwritten}
use Rattle.ra_history_text.proofs.theorems.stopped_output_is_proper_prefix.Goals as goal

pub returns : goal.returns
returns c = unwritten
