use Rattle.ra_visibility.proofs.TheoremIndex.{issued_matches_records}
use Rattle.ra_visibility.proofs.theorems.issued_matches_records.Goals as goal

pub returns : goal.returns
returns c = issued_matches_records
