-- Index of the theorems, each under the name of the function whose clause it is; a theorem with several clauses has one
-- name for each, THEOREM-CLAUSE. Other crates use these names, and no other file of this directory.
pub use Rattle.ra_rga_conditions.proofs.Precedences.{keeps_precedence as linearization_keeps_precedence-precedence, inserted_once as linearization_keeps_precedence-once}
pub use Rattle.ra_rga_conditions.proofs.FinalSets.{stuck_final as stuck_set_is_final}
pub use Rattle.ra_rga_conditions.proofs.ExplainedReads.{order_explains}
pub use Rattle.ra_rga_conditions.proofs.PlainConditions.{plain_hold as linearization_meets_plain_conditions, some_order_iff}
pub use Rattle.ra_rga_conditions.proofs.EarlierRecords.{none_later as no_order_persists}
pub use Rattle.ra_rga_conditions.proofs.LabelOrders.{label_order_explains, label_order_exactly as label_order_iff}
