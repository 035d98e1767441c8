-- Which updates lead to the answer of a read.
use Rattle.std.specs.Prelude.{◌||◌, ◌&&◌, ◌++◌, ◌∷◌, [], not, ◌==◌, length, ℕ, Bool, false, List, filter, is_none, Option, Some, None, slice_get, option_and_then}
use Rattle.std.specs.Option.{option_map_or}
use Rattle.ra_labels.specs.declared.operation.Op.{Op}
use Rattle.ra_labels.specs.declared.operation.Op.TheVariants as op
use Rattle.ra_precedence.specs.Conditions.{Condition}
use Rattle.ra_some_order.specs.VisibleUpdates.{writes, writes_other}

-- `true` if the operation of the label passes the test
abbrev pub passes_at : List Op → (Op → Bool) → ℕ → Bool
passes_at operations passes n = option_map_or passes (slice_get operations n) false

-- whether an operation writes the value to a register; none if it is no write
abbrev pub writes_it : Option ℕ → Op → Option Bool
writes_it value (op.Write written) = Some (writes value (op.Write written))
writes_it value _ = None

abbrev pub leads_to : List Op → Option ℕ → ℕ → Option Bool
leads_to operations value n = option_and_then (writes_it value) (slice_get operations n)

-- the last one of these writes is one of the value
abbrev pub narrow_value : List Op → List ℕ → Option ℕ → Condition
narrow_value operations newest value = record {
  before = filter (passes_at operations (writes_other value)) newest;
  after = filter (passes_at operations (writes value)) newest;
}

-- `true` if one of these writes is of the value, or if there is none and no value was read
abbrev pub is_possible_value : Condition → Option ℕ → Bool
is_possible_value condition value = not (length condition.after == 0) || (is_none value && length condition.before == 0)

-- these labels, and this one if there is one
abbrev pub with_option : List ℕ → Option ℕ → List ℕ
with_option labels None = labels
with_option labels (Some label) = labels ++ label ∷ []

-- the newest updates that a label sees and the previous label of its replica stand before it
abbrev pub order_condition : List ℕ → Option ℕ → ℕ → Condition
order_condition newest previous n = record { before = with_option newest previous; after = n ∷ [] }
