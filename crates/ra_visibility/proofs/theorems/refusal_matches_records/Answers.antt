use Rattle.ra_visibility.proofs.TheoremIndex.{refusal_matches_records}
use Rattle.ra_visibility.proofs.theorems.refusal_matches_records.Goals as goal

pub returns : goal.returns
returns c = refusal_matches_records
