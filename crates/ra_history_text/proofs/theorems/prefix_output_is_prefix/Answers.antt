use Rattle.ra_history_text.proofs.Prefixes.{front_begins}
use Rattle.ra_history_text.proofs.theorems.prefix_output_is_prefix.Goals as goal

pub returns : goal.returns
returns c = front_begins
