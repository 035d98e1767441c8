-- The halves of an operation, and the edges that it requires of an order of all elements.
use Rattle.std.specs.Prelude.{ℕ, Bool, true, false, List, [], Option, Some, None, flat_map}
use Rattle.ra_labels.specs.declared.edge.Edge.{Edge}
use Rattle.ra_labels.specs.Reads.{edges_of_read}
use Rattle.ra_labels.specs.Neighborhood.{neighborhood}
use Rattle.ra_labels.specs.declared.list_operation.ListOp.{ListOp}
use Rattle.ra_labels.specs.declared.list_operation.ListOp.TheVariants as op
use Rattle.ra_labels.specs.declared.list_operation.ListUpdate.{ListUpdate}
use Rattle.ra_labels.specs.declared.list_operation.ListUpdate.TheVariants.{Put, Hide}
use Rattle.ra_labels.specs.declared.list_operation.ListQuery.{ListQuery}
use Rattle.ra_labels.specs.declared.list_operation.ListQuery.TheVariants.{Near, Has, Read, Part}

-- what the operation asks
abbrev pub query_of : ListOp → ListQuery
query_of (op.Insert insertion) = Near insertion
query_of (op.Remove x) = Has x
query_of (op.Read list) = Read list
query_of (op.Part list) = Part list

-- what the operation changes; none if it is a read
abbrev pub update_of : ListOp → Option ListUpdate
update_of (op.Insert insertion) = Some (Put insertion)
update_of (op.Remove x) = Some (Hide x)
update_of (op.Read list) = None
update_of (op.Part list) = None

-- `true` if the operation is an insertion or a removal
abbrev pub changes_list : ListOp → Bool
changes_list (op.Insert insertion) = true
changes_list (op.Remove x) = true
changes_list (op.Read list) = false
changes_list (op.Part list) = false

-- the edges that an insertion requires: its element is behind the left neighbour and before the right one
abbrev pub edges_of_update : ℕ → ListUpdate → List Edge
edges_of_update label (Put insertion) = edges_of_read label (neighborhood insertion)
edges_of_update label (Hide x) = []

-- the edges of numbered updates
abbrev pub edges_of_updates : List (ℕ × ListUpdate) → List Edge
edges_of_updates numbered = flat_map (λ entry. edges_of_update entry.0 entry.1) numbered

-- the edges that a read requires: each listed element is before the next one
abbrev pub edges_of_query : ℕ → ListQuery → List Edge
edges_of_query label (Near insertion) = []
edges_of_query label (Has x) = []
edges_of_query label (Read list) = edges_of_read label list
edges_of_query label (Part list) = edges_of_read label list

-- the edges of the operation with this label
abbrev pub edges_of : ℕ → ListOp → List Edge
edges_of label (op.Insert insertion) = edges_of_update label (Put insertion)
edges_of label (op.Remove x) = []
edges_of label (op.Read list) = edges_of_query label (Read list)
edges_of label (op.Part list) = edges_of_query label (Part list)
