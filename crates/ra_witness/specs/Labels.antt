-- The updates and the queries of labels.
use Rattle.std.specs.Prelude.{Bool, false, List, [], ◌∷◌, Option, Some, None, map, reverse, filter_map, if◌then◌else◌}
use Rattle.std.specs.List.{list_all}
use Rattle.std.specs.Option.{option_map_or}
use Rattle.ra_labels.specs.declared.operation.Op.{Op}
use Rattle.ra_labels.specs.declared.operation.Update.{Update}
use Rattle.ra_labels.specs.declared.operation.Query.{Query}
use Rattle.ra_labels.specs.declared.reply.Cause.{Cause}
use Rattle.ra_labels.specs.declared.reply.Cause.TheVariants as cause
use Rattle.ra_labels.specs.Records.{Records, labels_of}
use Rattle.ra_labels.specs.Rewriting.{Half, Act, acts_of, update_of, query_of}
use Rattle.ra_labels.specs.Specification.{State, answers}

abbrev pub updates_in : List (Half × Act) → List Update
updates_in acts = filter_map (λ act. update_of act.1) acts

abbrev pub queries_in : List (Half × Act) → List Query
queries_in acts = filter_map (λ act. query_of act.1) acts

abbrev pub head_of : {A : Type 0} → List A → Option A
head_of [] = None
head_of (x ∷ xs) = Some x

-- the update of the operation, if it has one
abbrev pub update_in : Op → Option Update
update_in op = head_of (updates_in (acts_of op))

-- the update of each label, if it has one; oldest label first
abbrev pub updates_by_number : Records → List (Option Update)
updates_by_number records = map (λ label. update_in label.op) (reverse (labels_of records))

-- `true` if there is a state and the query's answer is right in it
abbrev pub answers_in : Option State → Query → Bool
answers_in state query = option_map_or (λ s. answers s query) state false

-- the cause of a violation by a query of these parts at a replica in this state; none if all answers are right
abbrev pub cause_in : Option State → List (Half × Act) → Option Cause
cause_in state acts = if list_all (answers_in state) (queries_in acts) then None else Some cause.Query
