-- Numbers that are in a set, and those that were in it before others.
use Rattle.std.specs.Prelude.{ℕ, Bool, List, not, ◌&&◌}
use Rattle.ra_labels.specs.Lists.{is_among}
use Rattle.ra_rga_elements.specs.ElementList.{is_marked}

-- `true` if the number was in the set before these were inserted
abbrev pub was_marked : List Bool → List ℕ → ℕ → Bool
was_marked marks put number = is_marked marks number && not (is_among number put)
