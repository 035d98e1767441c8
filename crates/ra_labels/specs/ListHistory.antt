-- What the labels of a history of a list require of an order of its elements.
use Rattle.std.specs.Prelude.{ℕ, Bool, List, [], ◌∷◌, ◌++◌, is_some}
use Rattle.ra_labels.specs.declared.edge.Edge.{Edge}
use Rattle.ra_labels.specs.declared.operation.Op.{Op}
use Rattle.ra_labels.specs.declared.operation.Op.TheVariants as op
use Rattle.ra_labels.specs.declared.list_operation.ListOp.TheVariants as list
use Rattle.ra_labels.specs.declared.command.Command.TheVariants.{Operate}
use Rattle.ra_labels.specs.Listing.{list_order_of}
use Rattle.ra_labels.specs.ListOperations.{edges_of}
use Rattle.ra_labels.specs.Records.{Records, label_count}

-- the element that the operation inserts into a list, if it is an insertion
abbrev pub inserted_by : Op → List ℕ
inserted_by (op.List (list.Insert insertion)) = insertion.element ∷ []
inserted_by _ = []

-- the edges that the operation with this label requires; none if it is not one of a list
abbrev pub edges_required_by : ℕ → Op → List Edge
edges_required_by label (op.List operation) = edges_of label operation
edges_required_by label _ = []

-- the elements that the labels insert into a list, in the order of the labels
abbrev pub inserted_elements : Records → List ℕ
inserted_elements [] = []
inserted_elements (Operate by op clock ∷ before) = inserted_elements before ++ inserted_by op
inserted_elements (_ ∷ before) = inserted_elements before

-- the edges that the labels require, in the order of the labels
abbrev pub required_edges : Records → List Edge
required_edges [] = []
required_edges (Operate by op clock ∷ before) = required_edges before ++ edges_required_by (label_count before) op
required_edges (_ ∷ before) = required_edges before

-- `true` if some order of the inserted elements extends the required edges
abbrev pub keeps_an_order : Records → Bool
keeps_an_order records = is_some (list_order_of (inserted_elements records) (required_edges records))
