-- The representation invariant of names.
use Rattle.std.specs.Prelude.{◌≡◌, ℕ, ◌≤◌, true, List, length}
use Rattle.std.specs.Global as global
use Rattle.std.specs.List.{list_all}
use Rattle.ra_history_lines.specs.declared.limits.TheConstants.{MOST_NAMES}
use Rattle.ra_history_lines.specs.Grammar.{is_name}
use Rattle.ra_history_lines.specs.Names.{bytes_of_each}
use Rattle.ra_history_lines.specs.Reading.{are_distinct}

-- holds if the names are valid, distinct and not too many
pub record NamesKept (keys : List (global.Vec ℕ)) : Type 0 where
  pub few : length keys ≤ MOST_NAMES
  pub each : list_all is_name (bytes_of_each keys) ≡ true
  pub distinct : are_distinct (bytes_of_each keys) ≡ true
