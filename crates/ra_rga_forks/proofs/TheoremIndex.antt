-- Index of the theorems, each under the name of the function whose clause it is; a theorem with several clauses has one
-- name for each, THEOREM-CLAUSE. Other crates use these names, and no other file of this directory.
pub use Rattle.ra_rga_forks.proofs.Trees.{anchor_first, later_child_first}
pub use Rattle.ra_rga_forks.proofs.NamedElements.{not_itself as inserted_before_named-itself, not_named_before as inserted_before_named-named, root_stays as inserted_before_named-root, named_in as inserted_before_named-named_in}
pub use Rattle.ra_rga_forks.proofs.Relatives.{fork_or_under}
