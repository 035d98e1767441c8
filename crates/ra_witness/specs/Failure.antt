-- The cycle that shows that no order of the elements explains the labels of a list.
use Rattle.std.specs.Prelude.{◌≡◌, false, List, Option, Some, None}
use Rattle.std.specs.Global as global
use Rattle.ra_labels.specs.declared.edge.Edge.{Edge}
use Rattle.ra_labels.specs.declared.kind.Kind.{Kind}
use Rattle.ra_labels.specs.declared.kind.Kind.TheVariants as kinds
use Rattle.ra_labels.specs.declared.reply.Cause.{Cause}
use Rattle.ra_labels.specs.declared.reply.Cause.TheVariants.{Order}
use Rattle.ra_labels.specs.Edges.{IsCycle}
use Rattle.ra_labels.specs.Explained.{is_explained, unexplained_cause}
use Rattle.ra_labels.specs.ListHistory.{required_edges}
use Rattle.ra_labels.specs.Records.{Records}
use Rattle.ra_witness.specs.declared.failure.Failure.{Failure}

-- holds if the edges are a cycle of those that the labels of a list require
abbrev pub IsCycleIn : Kind → Records → List Edge → Type 0
IsCycleIn kind records cycle = (kind ≡ kinds.List) × IsCycle (required_edges records) cycle

-- Holds if a cycle is given exactly if the kind is a list and the cause is the order. Its edges are among those that
-- the labels require.
abbrev pub ShowsCycle : Kind → Records → Cause → Option (global.Vec Edge) → Type 0
ShowsCycle kind records cause None = kind ≡ kinds.List → ¬ (cause ≡ Order)
ShowsCycle kind records cause (Some cycle) = (cause ≡ Order) × IsCycleIn kind records cycle.items

-- holds if the records do not meet the condition of their kind, and this is the failure that says so
pub record IsUnexplained (kind : Kind) (records : Records) (failure : Failure) : Type 0 where
  pub fails : is_explained kind records ≡ false
  pub cause : failure.cause ≡ unexplained_cause kind
  pub cycle : ShowsCycle kind records failure.cause failure.cycle
