-- Whether a label comes after another one, by their positions.
use Rattle.std.specs.Prelude.{ℕ, Bool, true, List, Option, Some, None}
use Rattle.ra_precedence.specs.Positions.{is_before_by_position}

-- `true` if the label comes after the other one, or if there is no other one
abbrev pub comes_after : List ℕ → Option ℕ → ℕ → Bool
comes_after positions None n = true
comes_after positions (Some m) n = is_before_by_position positions m n
