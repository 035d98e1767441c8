use Rattle.ra_visibility.proofs.TheoremIndex.{seen_matches_records}
use Rattle.ra_visibility.proofs.theorems.seen_matches_records.Goals as goal

pub returns : goal.returns
returns c = seen_matches_records
