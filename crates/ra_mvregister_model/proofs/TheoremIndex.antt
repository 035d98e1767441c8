-- Index of the theorems, each under the name of the function whose clause it is; a theorem with several clauses has one
-- name for each, THEOREM-CLAUSE. Other crates use these names, and no other file of this directory.
pub use Rattle.ra_mvregister_model.proofs.ChangedSiblings.{after_write-own as siblings_after_write-own, after_write-others as siblings_after_write-others}
pub use Rattle.ra_mvregister_model.proofs.ChangedSiblings.{after_read as siblings_after_read}
pub use Rattle.ra_mvregister_model.proofs.ChangedSiblings.{after_delivery-receiver as siblings_after_delivery-receiver, after_delivery-others as siblings_after_delivery-others}
pub use Rattle.ra_mvregister_model.proofs.ChangedSiblings.{after_join-joined as siblings_after_join-joined, after_join-others as siblings_after_join-others}
pub use Rattle.ra_mvregister_model.proofs.UnseenLabels.{replaced-new as replaced_when_issued-new, replaced-others as replaced_when_issued-others}
pub use Rattle.ra_mvregister_model.proofs.UnseenLabels.{siblings_exactly as siblings_iff_unseen-siblings}
pub use Rattle.ra_mvregister_model.proofs.ReadValues.{reads_alike as visibility_decides_reads}
