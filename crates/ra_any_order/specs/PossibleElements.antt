-- The elements that the next read of an LWW set can list.
use Rattle.std.specs.Prelude.{◌≡◌, ◌≤◌, ℕ, true, List, [], length, Contains, Option, Some, option_map}
use Rattle.ra_labels.specs.declared.kind.Kind.TheVariants.{LwwSet}
use Rattle.ra_labels.specs.declared.operation.Op.{Op}
use Rattle.ra_labels.specs.declared.operation.Op.TheVariants as op
use Rattle.ra_labels.specs.HistorySoFar.{History}
use Rattle.ra_labels.specs.Lists.{rises}
use Rattle.ra_labels.specs.Places.{issuer_of}
use Rattle.ra_labels.specs.Records.{Records, label_at, label_count}
use Rattle.ra_labels.specs.Visibility.{sees}
use Rattle.ra_some_order.specs.SomeOrder.{SomeOrderExplains}
use Rattle.ra_visibility.specs.Tracked.{Tracked}
use Rattle.ra_any_order.specs.declared.next_elements.PossibleElements.{PossibleElements}
use Rattle.ra_any_order.specs.declared.next_elements.TheConstants.{MOST_ASKED}
use Rattle.ra_any_order.specs.Changes.{changes}
use Rattle.ra_any_order.specs.NextRead.{with_read}
use Rattle.ra_any_order.specs.Situation.{IsHistoryOf}

-- holds if some order explains the records and a read of the list by the replica
abbrev pub IsPossibleList : Records → ℕ → List ℕ → Type 0
IsPossibleList records replica list = SomeOrderExplains LwwSet (with_read records replica (op.LwwRead list))

-- holds if each possible list has the element
abbrev pub IsInEach : Records → ℕ → ℕ → Type 0
IsInEach records replica x = (list : List ℕ) → IsPossibleList records replica list → Contains list x

-- holds if no possible list has the element
abbrev pub IsInNone : Records → ℕ → ℕ → Type 0
IsInNone records replica x = (list : List ℕ) → IsPossibleList records replica list → ¬ Contains list x

-- holds if some possible list has the element, and some possible list has not
abbrev pub IsInSomeOnly : Records → ℕ → ℕ → Type 0
IsInSomeOnly records replica x =
    ((list : List ℕ) × IsPossibleList records replica list × Contains list x)
    × ((list : List ℕ) × IsPossibleList records replica list × (¬ Contains list x))

-- the operation of a label; none if there is no such label
abbrev pub label_operation : Records → ℕ → Option Op
label_operation records n = option_map (λ label. label.op) (label_at records n)

-- holds if the label has the operation, and is the newest update of the element by its replica that label n sees
pub record IsNewestUpdate (records : Records) (n x m : ℕ) (operation : Op) : Type 0 where
  pub seen : sees records n m ≡ true
  pub is : label_operation records m ≡ Some operation
  pub latest : (k : ℕ) (other : Op) → sees records n k ≡ true → issuer_of records k ≡ issuer_of records m
      → label_operation records k ≡ Some other → changes x other ≡ true → k ≤ m

-- holds if additions and removals are among the newest updates of the element that a read of the replica sees
abbrev pub IsContested : Records → ℕ → ℕ → Type 0
IsContested records replica x =
    let read = with_read records replica (op.LwwRead []) in
    ((m : ℕ) × IsNewestUpdate read (label_count records) x m (op.LwwAdd x))
    × ((m : ℕ) × IsNewestUpdate read (label_count records) x m (op.LwwRemove x))

-- holds if the solver was asked about at least the given number of contested elements, none of which is among these
abbrev pub AreAskedAbout : ℕ → Records → ℕ → List ℕ → Type 0
AreAskedAbout count records replica unasked = (asked : List ℕ) × (rises asked ≡ true) × (count ≤ length asked)
    × ((x : ℕ) → Contains asked x → IsContested records replica x × (¬ Contains unasked x))

-- holds if the claim does of the records of each history of an LWW set that the tracker and the operations represent
-- and that some order explains
abbrev pub OfEachExplained : Tracked → List Op → (Records → Type 0) → Type 0
OfEachExplained tracked operations claim = (past : History) → IsHistoryOf tracked operations past
    → past.kind ≡ LwwSet → SomeOrderExplains LwwSet past.records → claim past.records

-- Holds if some list is possible, each possible list has each listed element, some has and some has not each undecided
-- one, and none has an element that is in none of the three lists; and if each element about which the solver was not
-- asked is contested, and it was asked about `MOST_ASKED` others if there is any.
pub record IsFoundOf (records : Records) (replica : ℕ) (found : PossibleElements) : Type 0 where
  pub some : (list : List ℕ) × IsPossibleList records replica list
  pub listed : (x : ℕ) → Contains found.listed.items x → IsInEach records replica x
  pub undecided : (x : ℕ) → Contains found.undecided.items x → IsInSomeOnly records replica x
  pub others : (x : ℕ) → ¬ Contains found.listed.items x → ¬ Contains found.undecided.items x
      → ¬ Contains found.unasked.items x → IsInNone records replica x
  pub contested : (x : ℕ) → Contains found.unasked.items x → IsContested records replica x
  pub full : (x : ℕ) → Contains found.unasked.items x → AreAskedAbout MOST_ASKED records replica found.unasked.items
