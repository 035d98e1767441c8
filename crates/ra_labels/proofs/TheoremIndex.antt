-- Index of the theorems on lists. Each is exported under the name of the function whose clause it is; a theorem with
-- several clauses has one name for each, THEOREM-CLAUSE.
pub use Rattle.ra_labels.proofs.InLists.{rises-exactly as rises_iff_sorted-places, rises-sorted as rises_iff_sorted-sorted, same-exactly as have_same_elements_iff-elements, rising-same as have_same_elements_iff-rising}
