-- A plan: the order that results from it.
use Rattle.std.specs.Prelude.{ℕ, List, ◌++◌}
use Rattle.ra_labels.specs.declared.edge.Edge.{Edge}
use Rattle.ra_list_order.specs.declared.search.Plan.{Plan}
use Rattle.ra_list_order.specs.Chunks.{Chunk}
use Rattle.ra_list_order.specs.Gathering.{gathered, left_of, right_of, CanBeGathered}

-- the elements that move
abbrev pub moved_by : Plan → List ℕ
moved_by plan = plan.ancestors.items ++ plan.descendants.items

-- the order before the cut, and that behind it
abbrev pub left_by : List Chunk → Plan → List ℕ
left_by chunks plan = left_of chunks plan.cut.chunk plan.cut.index

abbrev pub right_by : List Chunk → Plan → List ℕ
right_by chunks plan = right_of chunks plan.cut.chunk plan.cut.index

-- the order that results
abbrev pub order_by : List Chunk → Plan → List ℕ
order_by chunks plan = gathered (left_by chunks plan) (moved_by plan) (right_by chunks plan)

-- holds if the plan can be carried out for the new edge
abbrev pub CanBeDone : List Chunk → Plan → List Edge → Edge → Type 0
CanBeDone chunks plan edges new =
    CanBeGathered (left_by chunks plan) (right_by chunks plan) plan.ancestors.items plan.descendants.items edges new
