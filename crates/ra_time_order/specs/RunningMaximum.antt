-- The greatest stamps of a replica, as contracts describe them.
use Rattle.std.specs.Prelude.{ℕ, ◌-◌, List, [], ◌∷◌, ◌++◌, length, get_or, take, Option}
use Rattle.std.specs.Option.{option_map_or}
use Rattle.ra_labels.specs.declared.label.Stamp.{Stamp}
use Rattle.ra_labels.specs.NamedOrder.{lowest_rank, greater_of}

pub record RunningMaximum : Type 0 where
  -- the greatest own stamp of its first update, of its first two, and so on
  pub stamps : List Stamp
  -- the number of further updates that there is room for
  pub room : ℕ

-- the last stamp; the lowest rank if there is none
abbrev pub last_of : List Stamp → Stamp
last_of stamps = get_or stamps (length stamps - 1) lowest_rank

-- the greatest own stamp among the first `count` updates
abbrev pub greatest_among : List Stamp → ℕ → Stamp
greatest_among stamps count = last_of (take count stamps)

-- the stamps with one more update, which has an own stamp or not
abbrev pub with_stamp : List Stamp → Option Stamp → List Stamp
with_stamp stamps own = stamps ++ option_map_or (greater_of (last_of stamps)) own (last_of stamps) ∷ []
