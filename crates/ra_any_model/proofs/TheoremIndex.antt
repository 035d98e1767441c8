-- Index of the theorems, each under the name of the function whose clause it is; a theorem with several clauses has one
-- name for each, THEOREM-CLAUSE. Other crates use these names, and no other file of this directory.
pub use Rattle.ra_any_model.proofs.AgreeingReads.{same_exactly as sees_the_same_iff_delivered}
pub use Rattle.ra_any_model.proofs.AgreeingReads.{new_read as new_read_decides_agreement-read, no_read as new_read_decides_agreement-other}
pub use Rattle.ra_any_model.proofs.AgreeingReads.{agree_alike as visibility_decides_agreement}
