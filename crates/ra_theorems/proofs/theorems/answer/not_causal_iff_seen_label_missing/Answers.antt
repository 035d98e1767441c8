use Rattle.ra_theorems.proofs.TheoremIndex.{not_causal_iff_seen_label_missing}
use Rattle.ra_theorems.proofs.theorems.answer.not_causal_iff_seen_label_missing.Goals as goal

pub returns : goal.returns
returns c = not_causal_iff_seen_label_missing
