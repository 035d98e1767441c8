-- Which updates of an element lead to the answer of a read of an LWW set.
use Rattle.std.specs.Prelude.{◌≡◌, ◌++◌, ◌||◌, ◌&&◌, ◌<◌, not, ◌==◌, length, ℕ, Bool, true, false, List, filter, Contains, Some, None}
use Rattle.std.specs.BTreeMap.{BTreeMap}
use Rattle.ra_labels.specs.declared.operation.Op.{Op}
use Rattle.ra_precedence.specs.Conditions.{Condition}
use Rattle.ra_some_order.specs.VisibleUpdates.{adds, removes}
use Rattle.ra_any_order.specs.declared.outcome.Outcome.{Outcome}
use Rattle.ra_any_order.specs.declared.outcome.Outcome.TheVariants.{Possible, Impossible}
use Rattle.ra_any_order.specs.Changes.{newest_in}
use Rattle.ra_any_order.specs.Reading.{passes_at}

-- `true` if the operation adds the element, where it is listed, and if it removes it, where it is not
abbrev pub leads : Bool → ℕ → Op → Bool
leads true x = adds x
leads false x = removes x

-- the last one of these updates leads to the element's being listed or not
abbrev pub narrow_element : List Op → List ℕ → Bool → ℕ → Condition
narrow_element operations newest listed x = record {
  before = filter (passes_at operations (leads (not listed) x)) newest;
  after = filter (passes_at operations (leads listed x)) newest;
}

-- `true` if one of these updates leads there, or if there is none and the element is not listed
abbrev pub is_possible_element : Condition → Bool → Bool
is_possible_element condition listed = not (length condition.after == 0) || (not listed && length condition.before == 0)

-- holds if these are the newest updates of the element by the replicas below a number
pub record AreNewestOf (found : BTreeMap (ℕ × ℕ) ℕ) (x bound : ℕ) (newest : List ℕ) : Type 0 where
  pub each : (m : ℕ) → Contains newest m
      → (replica : ℕ) × (replica < bound) × (newest_in found x replica ≡ Some m)
  pub all : (replica m : ℕ) → replica < bound → newest_in found x replica ≡ Some m → Contains newest m

-- holds if each condition is that of an element, and each of these elements has one, to which some update can lead
pub record AreElementsAdded (operations : List Op) (found : BTreeMap (ℕ × ℕ) ℕ) (replicas : ℕ)
    (is_listed : ℕ → Bool) (elements : List ℕ) (added : List Condition) : Type 0 where
  pub each : (condition : Condition) → Contains added condition
      → (x : ℕ) × ((newest : List ℕ) × AreNewestOf found x replicas newest
      × (narrow_element operations newest (is_listed x) x ≡ condition))
  pub all : (x : ℕ) → Contains elements x
      → (newest : List ℕ) × AreNewestOf found x replicas newest
      × Contains added (narrow_element operations newest (is_listed x) x)
      × (is_possible_element (narrow_element operations newest (is_listed x) x) (is_listed x) ≡ true)

-- holds if the conditions of the elements were added, or if no update can lead to the answer for this element
abbrev pub IsElementsOutcome : List Op → BTreeMap (ℕ × ℕ) ℕ → ℕ → (ℕ → Bool) → List ℕ
    → List Condition → List Condition → Outcome → Type 0
IsElementsOutcome operations found replicas is_listed elements old new Possible =
    (added : List Condition) × (new ≡ old ++ added)
    × AreElementsAdded operations found replicas is_listed elements added
IsElementsOutcome operations found replicas is_listed elements old new (Impossible (Some x)) =
    (newest : List ℕ) × AreNewestOf found x replicas newest
    × (is_possible_element (narrow_element operations newest (is_listed x) x) (is_listed x) ≡ false)
IsElementsOutcome operations found replicas is_listed elements old new (Impossible None) = ⊥
