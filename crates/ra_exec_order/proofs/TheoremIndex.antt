-- Index of the theorems, each under the name of the function whose clause it is; a theorem with several clauses has one
-- name for each, THEOREM-CLAUSE. Other crates use these names, and no other file of this directory.
use Rattle.std.proofs.Common.{◌≡◌, true, refl}
use Rattle.ra_labels.specs.declared.kind.Kind.{Kind}
use Rattle.ra_labels.specs.declared.kind.Kind.TheVariants.{Counter, OrSet}
use Rattle.ra_labels.specs.declared.kind.Kind.TheVariants as kinds
use Rattle.ra_labels.specs.Records.{Records}
use Rattle.ra_labels.specs.Linearization.{extends_visibility}
use Rattle.ra_labels.specs.NamedOrder.{named_sequence}
use Rattle.ra_theorems.proofs.TheoremIndex.{execution_order_extends_visibility-labels}
use Rattle.ra_visibility.specs.Order.{IsByExecution}

pub execution_order_kinds-counter : IsByExecution Counter
execution_order_kinds-counter records label = refl

pub execution_order_kinds-or_set : IsByExecution OrSet
execution_order_kinds-or_set records label = refl

pub execution_order_kinds-list : IsByExecution kinds.List
execution_order_kinds-list records label = refl

pub execution_order_kinds-any : IsByExecution kinds.Any
execution_order_kinds-any records label = refl

pub execution_order_kinds-mv_register : IsByExecution kinds.MvRegister
execution_order_kinds-mv_register records label = refl

pub execution_order_extends_any_visibility : (kind : Kind) → IsByExecution kind → (records : Records) → extends_visibility records (named_sequence kind records) ≡ true
execution_order_extends_any_visibility kind by_execution records = execution_order_extends_visibility-labels kind records (by_execution records)
