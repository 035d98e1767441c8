-- Which label inserts what a label needs.
use Rattle.std.specs.Prelude.{◌≡◌, ◌<◌, ℕ, List, length, get_or, Option, Some, None}
use Rattle.ra_labels.specs.declared.operation.Op.{Op}
use Rattle.ra_rga_precedence.specs.declared.needs.Need.{Need}
use Rattle.ra_rga_precedence.specs.declared.needs.Need.TheVariants.{Nothing, Inserted, Absent}
use Rattle.ra_rga_precedence.specs.declared.needs.Needs.{Needs}
use Rattle.ra_rga_precedence.specs.declared.needs.Needs.TheVariants as needs
use Rattle.ra_rga_precedence.specs.Operations.{needed_at}

-- holds if this label inserts the element that label n needs; or if n needs none, and there is no such label
abbrev pub IsNeeded : List Op → (ℕ → Option ℕ) → ℕ → Option ℕ → Type 0
IsNeeded operations inserter n None = needed_at operations n ≡ None
IsNeeded operations inserter n (Some m) = (x : ℕ) × (needed_at operations n ≡ Some x) × (inserter x ≡ Some m)

-- holds if label n needs an element that no label inserts
abbrev pub NeedsAbsent : List Op → (ℕ → Option ℕ) → ℕ → Type 0
NeedsAbsent operations inserter n = (x : ℕ) × (needed_at operations n ≡ Some x) × (inserter x ≡ None)

-- holds if this is what label n needs
abbrev pub IsNeed : List Op → (ℕ → Option ℕ) → ℕ → Need → Type 0
IsNeed operations inserter n Nothing = IsNeeded operations inserter n None
IsNeed operations inserter n (Inserted m) = IsNeeded operations inserter n (Some m)
IsNeed operations inserter n Absent = NeedsAbsent operations inserter n

-- holds if the list has for each label the one that inserts what it needs
pub record AreNeeded (operations : List Op) (inserter : ℕ → Option ℕ) (labels : List (Option ℕ)) : Type 0 where
  pub each : (n : ℕ) → n < length labels → IsNeeded operations inserter n (get_or labels n None)

-- holds if what each label needs is inserted; or if this label needs what no label inserts
abbrev pub AreNeeds : List Op → ℕ → (ℕ → Option ℕ) → Needs → Type 0
AreNeeds operations count inserter (needs.Each labels) =
    (length labels.items ≡ count) × AreNeeded operations inserter labels.items
AreNeeds operations count inserter (needs.Absent n) = NeedsAbsent operations inserter n
