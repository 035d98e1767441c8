-- Index of the theorems, each under the name of the function whose clause it is; a theorem with several clauses has one
-- name for each, THEOREM-CLAUSE. Other crates use these names, and no other file of this directory.
use Rattle.std.proofs.Common.{refl}
use Rattle.ra_labels.specs.declared.kind.Kind.TheVariants.{Register, LwwSet, Rga}
use Rattle.ra_visibility.specs.Order.{IsByTimestamp}

pub timestamp_order_kinds-register : IsByTimestamp Register
timestamp_order_kinds-register records label = refl

pub timestamp_order_kinds-lww_set : IsByTimestamp LwwSet
timestamp_order_kinds-lww_set records label = refl

pub timestamp_order_kinds-rga : IsByTimestamp Rga
timestamp_order_kinds-rga records label = refl
