-- How far the search for the newest updates of elements has come that a read of an LWW set sees.
use Rattle.std.specs.Prelude.{◌≡◌, ℕ, ◌<◌, ◌≤◌, ◌⊎◌, true, List, Contains, Option, Some, None, IfSome}
use Rattle.std.specs.BTreeMap.{BTreeMap}
use Rattle.ra_labels.specs.declared.operation.Op.{Op}
use Rattle.ra_labels.specs.Records.{Records}
use Rattle.ra_labels.specs.Visibility.{sees}
use Rattle.ra_labels.specs.Places.{issuer_of}
use Rattle.ra_any_order.specs.Changes.{changes, newest_in, is_seen_by, AreNewestChanges}
use Rattle.ra_any_order.specs.Reading.{passes_at}

-- holds if the map has updates that label n sees, the newest ones of those that were reached; and if the list has each
-- element of which the map has an update that the last read does not see
pub record IsFinding (records : Records) (operations : List Op) (last : Option ℕ) (n : ℕ)
    (Reached : ℕ → Type 0) (found : BTreeMap (ℕ × ℕ) ℕ) (changed : List ℕ) : Type 0 where
  pub seen : (x replica m : ℕ) → newest_in found x replica ≡ Some m
      → (sees records n m ≡ true) × (issuer_of records m ≡ replica) × (passes_at operations (changes x) m ≡ true)
  pub listed : (x replica m : ℕ) → newest_in found x replica ≡ Some m
      → (is_seen_by records last m ≡ true) ⊎ Contains changed x
  pub latest : (x k : ℕ) → sees records n k ≡ true → passes_at operations (changes x) k ≡ true → Reached k
      → (m : ℕ) × (newest_in found x (issuer_of records k) ≡ Some m) × (k ≤ m)

-- holds if the last read sees the label, or if its replica is below a number
abbrev pub IsOfReplicaBelow : Records → Option ℕ → ℕ → ℕ → Type 0
IsOfReplicaBelow records last bound k = (is_seen_by records last k ≡ true) ⊎ (issuer_of records k < bound)

-- holds if a label is later than the next one, if there is one
abbrev pub IsPast : Option ℕ → ℕ → Type 0
IsPast None k = Unit {0}
IsPast (Some next) k = next < k

-- holds if the label was reached before the search came to the next one of a replica
abbrev pub IsReached : Records → Option ℕ → ℕ → Option ℕ → ℕ → Type 0
IsReached records last replica next k =
    IsOfReplicaBelow records last replica k ⊎ ((issuer_of records k ≡ replica) × IsPast next k)

-- holds if the next label is one of the replica, and not later than some update of it that label n sees
abbrev pub IsNextOf : Records → ℕ → ℕ → Option ℕ → Type 0
IsNextOf records n replica next = IfSome next (λ m. (issuer_of records m ≡ replica)
    × ((o : ℕ) × (sees records n o ≡ true) × (issuer_of records o ≡ replica) × (m ≤ o)))

-- holds if the map has the newest updates of elements that label n sees, and the list each element of which the label
-- sees an update that the last read does not see
pub record AreFound (records : Records) (operations : List Op) (last : Option ℕ) (n : ℕ)
    (found : BTreeMap (ℕ × ℕ) ℕ) (changed : List ℕ) : Type 0 where
  pub newest : AreNewestChanges records operations (Some n) found
  pub listed : (x k : ℕ) → sees records n k ≡ true → passes_at operations (changes x) k ≡ true
      → (is_seen_by records last k ≡ true) ⊎ Contains changed x
