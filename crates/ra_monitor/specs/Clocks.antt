-- The clocks of one replica's own stamps.
use Rattle.std.specs.Prelude.{ℕ, ◌≤◌, ◌<◌, nat_eq, Bool, List, length, get_or}
use Rattle.std.specs.List.{list_any}

pub record Clocks : Type 0 where
  pub clocks : List ℕ
  -- the number of further clocks that there is room for
  pub room : ℕ

abbrev pub is_clock_in : Clocks → ℕ → Bool
is_clock_in clocks clock = list_any (nat_eq clock) clocks.clocks

-- holds if exactly the clocks before the index are below this one
pub record IsIndexFor (clocks : List ℕ) (clock index : ℕ) : Type 0 where
  pub among : index ≤ length clocks
  pub before : (k : ℕ) → k < index → get_or clocks k 0 < clock
  pub behind : (k : ℕ) → index ≤ k → k < length clocks → clock ≤ get_or clocks k 0
