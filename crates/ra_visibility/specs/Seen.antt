-- The set of updates that a label sees, as contracts describe it.
use Rattle.std.specs.Prelude.{ℕ, nat_lt, Bool, ◌&&◌, List, false, get_or}
use Rattle.ra_visibility.specs.declared.row.Row.{Row}

pub record Seen : Type 0 where
  -- one row for each label, oldest first
  pub rows : List Row
  -- the number of updates of each replica in the set
  pub counts : List ℕ

-- the number of this replica's updates in the set; they are its first ones
abbrev pub count_in : Seen → ℕ → ℕ
count_in seen replica = get_or seen.counts replica 0

-- the row of a label that does not exist: it is no update
abbrev pub no_row : Row
no_row = record { replica = 0; is_update = false; width = 0; place = 0; counts = 0 }

-- `true` if the label is an update whose position among its replica's updates is below their count
abbrev pub is_in : Seen → ℕ → Bool
is_in seen m =
    let row = get_or seen.rows m no_row in row.is_update && nat_lt row.place (count_in seen row.replica)
