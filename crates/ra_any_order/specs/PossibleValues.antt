-- The values that the next read of a register can return.
use Rattle.std.specs.Prelude.{◌≡◌, ◌⊎◌, ℕ, List, [], Contains, Option, Some, None, slice_get, option_and_then}
use Rattle.ra_labels.specs.declared.kind.Kind.TheVariants.{Register}
use Rattle.ra_labels.specs.declared.operation.Op.{Op}
use Rattle.ra_labels.specs.declared.operation.Op.TheVariants as op
use Rattle.ra_labels.specs.Records.{Records}
use Rattle.ra_some_order.specs.SomeOrder.{SomeOrderExplains}
use Rattle.ra_any_order.specs.NextRead.{with_read}

-- holds if some order explains the records and a read of the value by the replica
abbrev pub IsPossibleValue : Records → ℕ → Option ℕ → Type 0
IsPossibleValue records replica value = SomeOrderExplains Register (with_read records replica (op.Last value))

-- the value that the operation writes; none if it is no write
abbrev pub value_written : Op → Option ℕ
value_written (op.Write x) = Some x
value_written _ = None

abbrev pub written_at : List Op → ℕ → Option ℕ
written_at operations n = option_and_then value_written (slice_get operations n)

-- holds if one of the last writes wrote the value, or if there are no newest ones and it is none
abbrev pub IsValueAmong : List Op → List ℕ → List ℕ → Option ℕ → Type 0
IsValueAmong operations newest lasts value =
    ((w : ℕ) × Contains lasts w × ((x : ℕ) × (written_at operations w ≡ Some x) × (value ≡ Some x)))
    ⊎ ((newest ≡ []) × (value ≡ None))
