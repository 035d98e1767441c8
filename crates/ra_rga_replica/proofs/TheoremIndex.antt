-- Index of the theorems of this crate, each under the name of the function whose clause it is; a theorem with several
-- clauses has one name for each, THEOREM-CLAUSE. Other crates use these names, and no other file of this directory.
use Rattle.std.proofs.Common.{◌≡◌, ℕ, List, ◌∷◌, [], ◌++◌, Option, Some}
use Rattle.ra_labels.specs.declared.operation.Update.TheVariants.{RgaRemove}
use Rattle.ra_labels.specs.Records.{Records}
use Rattle.ra_labels.specs.HistorySoFar.{NextOperation, operate}
use Rattle.ra_labels.specs.Insertion.{HasUpdate}
use Rattle.ra_rga_elements.specs.ElementList.{ElementList}
use Rattle.ra_rga_replica.specs.declared.edit.Edit.{Edit}
use Rattle.ra_rga_replica.specs.declared.edit.Edit.TheVariants.{Removes}
use Rattle.ra_rga_replica.specs.Edits.{element_at, AreElementsOf}
use Rattle.ra_rga_replica.specs.ReplicaList.{ReplicaList, IsListOf}
use Rattle.ra_rga_replica.proofs.LaterRecords.{removal-stays}
pub use Rattle.ra_rga_replica.proofs.LaterRecords.{insertion-stays as list_unchanged_by_others-insertion, query-stays as list_unchanged_by_others-query, delivery-stays as list_unchanged_by_others-delivery, join-stays as list_unchanged_by_others-join, join-copied as join_copies_list}
pub use Rattle.ra_rga_replica.proofs.Ranks.{greatest-ranks as next_label_rank}

pub list_unchanged_by_others-removal : (list : ReplicaList) (all : ElementList) (edits : List (Option Edit))
    (records : Records) (replica number : ℕ) (next : NextOperation) → AreElementsOf all edits records
    → IsListOf list all.arrivals edits records replica → ¬ (next.by ≡ replica)
    → HasUpdate next.op (RgaRemove (element_at all.arrivals number))
    → IsListOf list all.arrivals (edits ++ Some (Removes number) ∷ []) (operate next ∷ records) replica
list_unchanged_by_others-removal list all edits records replica number next stand held other makes =
    removal-stays list all edits records replica number next stand held other
