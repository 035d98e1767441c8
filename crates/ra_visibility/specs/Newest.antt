-- The newest update of a replica that a label sees, and those of all replicas.
use Rattle.std.specs.Prelude.{◌≡◌, ℕ, ◌-◌, ◌==◌, ◌≤◌, true, List, Contains, Option, Some, None, if◌then◌else◌}
use Rattle.ra_labels.specs.Records.{Records}
use Rattle.ra_labels.specs.Visibility.{sees}
use Rattle.ra_labels.specs.Places.{issuer_of}
use Rattle.ra_visibility.specs.Tracked.{Tracked, seen_count}
use Rattle.ra_visibility.specs.Kept.{issued_at}

abbrev pub newest_seen_in : Tracked → ℕ → ℕ → Option ℕ
newest_seen_in tracked n of =
    let count = seen_count tracked n of in if count == 0 then None else Some (issued_at tracked of (count - 1))

-- holds if this is the newest update of the replica that label n sees; none if n sees none of them
abbrev pub IsNewestSeen : Records → ℕ → ℕ → Option ℕ → Type 0
IsNewestSeen records n of None = (m : ℕ) → sees records n m ≡ true → ¬ (issuer_of records m ≡ of)
IsNewestSeen records n of (Some newest) = (sees records n newest ≡ true) × (issuer_of records newest ≡ of)
    × ((m : ℕ) → sees records n m ≡ true → issuer_of records m ≡ of → m ≤ newest)

-- holds if label n sees each of the updates, and for each one that it sees this one or a later one of its replica is
-- among them
pub record AreNewest (records : Records) (n : ℕ) (newest : List ℕ) : Type 0 where
  pub seen : (m : ℕ) → Contains newest m → sees records n m ≡ true
  pub latest : (k : ℕ) → sees records n k ≡ true
      → (m : ℕ) × Contains newest m × (k ≤ m) × (issuer_of records k ≡ issuer_of records m)
