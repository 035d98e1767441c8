-- Index of the theorems, each under the name of the function whose clause it is. Other crates use these names, and no
-- other file of this directory.
pub use Rattle.ra_precedence.proofs.StuckSets.{no_order_meets_stuck}
pub use Rattle.ra_precedence.proofs.HeldLabels.{reasons_show_stuck}
