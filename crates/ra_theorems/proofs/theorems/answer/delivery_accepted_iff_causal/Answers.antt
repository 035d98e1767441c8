use Rattle.ra_theorems.proofs.TheoremIndex.{delivery_accepted_iff_causal}
use Rattle.ra_theorems.proofs.theorems.answer.delivery_accepted_iff_causal.Goals as goal

pub returns : goal.returns
returns c = delivery_accepted_iff_causal
