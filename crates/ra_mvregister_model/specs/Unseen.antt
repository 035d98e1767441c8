-- Siblings in words: what no other label of a set sees.
use Rattle.std.specs.Prelude.{◌≡◌, ℕ, Bool, true, false}
use Rattle.ra_labels.specs.Records.{Records}
use Rattle.ra_labels.specs.Visibility.{sees}

-- holds if label m passes the test, and no label that passes it sees m
abbrev pub IsUnseenAmong : Records → (ℕ → Bool) → ℕ → Type 0
IsUnseenAmong records passes m =
    (passes m ≡ true) × ((n : ℕ) → passes n ≡ true → sees records n m ≡ false)
