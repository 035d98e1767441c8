-- The greatest stamps of all replicas, as contracts describe them.
use Rattle.std.specs.Prelude.{◌≡◌, ℕ, ◌<◌, ◌≤◌, nat_lt, Bool, List, [], length, map, get_or}
use Rattle.std.specs.List.{list_all}
use Rattle.ra_labels.specs.declared.label.Stamp.{Stamp}
use Rattle.ra_time_order.specs.RunningMaximum.{RunningMaximum}
use Rattle.ra_time_order.specs.Stamps.{stamps_at}

pub record RunningMaxima : Type 0 where
  pub stamps : List (List Stamp)
  -- `true` if there is room for one more update, whichever replica issues it
  pub has_room : Bool

abbrev pub stamps_of : List RunningMaximum → List (List Stamp)
stamps_of members = map (λ member. member.stamps) members

abbrev pub have_room : List RunningMaximum → Bool
have_room members = list_all (λ member. nat_lt 0 member.room) members

-- holds if each member but the newest has room for one more update, and only the used ones have updates
pub record RunningMaximaKept (members : List RunningMaximum) (newest used : ℕ) : Type 0 where
  pub few : length members < 256
  pub there : newest < length members
  pub room : (k : ℕ) (d : RunningMaximum) → k < length members → (k ≡ newest → ⊥) → 0 < (get_or members k d).room
  pub within : used ≤ length members
  pub unused : (k : ℕ) → used ≤ k → stamps_at (stamps_of members) k ≡ []
