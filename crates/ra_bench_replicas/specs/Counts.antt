-- Counts of updates, one for each replica.
use Rattle.std.specs.Prelude.{ℕ, ◌+◌, ◌-◌, ◌^◌, min, nat_le, Bool, List, get_or, set}
use Rattle.std.specs.List.{list_all, zip}

-- the next count, up to the largest number
abbrev pub next_count : ℕ → ℕ
next_count count = min (count + 1) (2 ^ 32 - 1)

-- `true` if, at each position that both lists have, the count of the others is at most the one here
abbrev pub reach : List ℕ → List ℕ → Bool
reach counts others = list_all (λ both. nat_le both.1 both.0) (zip counts others)

-- the counts with one more for this replica
abbrev pub counted : List ℕ → ℕ → List ℕ
counted counts replica = set counts replica (next_count (get_or counts replica 0))
