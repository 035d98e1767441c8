-- The elements of an RGA as a tree, in which each stands under its anchor.
use Rattle.std.specs.Prelude.{◌≡◌, ◌⊎◌, ℕ, List, [], ◌∷◌, Contains}
use Rattle.ra_labels.specs.declared.operation.Update.{Update}
use Rattle.ra_labels.specs.declared.operation.Update.TheVariants.{After, RgaRemove}
use Rattle.ra_labels.specs.TheoremTerms.{StandsBefore}

-- holds if one comes from the first element to the second one from anchor to anchor, along the way
abbrev pub IsWay : List Update → ℕ → List ℕ → ℕ → Type 0
IsWay updates from [] to = from ≡ to
IsWay updates from (anchor ∷ way) to = Contains updates (After anchor from) × IsWay updates anchor way to

-- holds if the element is the other one or stands under it
abbrev pub IsUnder : List Update → ℕ → ℕ → Type 0
IsUnder updates x top = (way : List ℕ) × IsWay updates x way top

-- holds if two elements stand under two children of one element, each under its own
pub record IsFork (updates : List Update) (x y left right : ℕ) : Type 0 where
  pub anchor : ℕ
  pub left_child : Contains updates (After anchor left)
  pub right_child : Contains updates (After anchor right)
  pub apart : ¬ (left ≡ right)
  pub under_left : IsUnder updates x left
  pub under_right : IsUnder updates y right

-- holds if one element was inserted before the other one
abbrev pub IsInsertedBefore : List Update → ℕ → ℕ → Type 0
IsInsertedBefore updates x y = (a b : ℕ) × StandsBefore (After a x) (After b y) updates

-- holds if the update inserts the element, inserts behind it or removes it
abbrev pub Names : Update → ℕ → Type 0
Names update x = ((anchor : ℕ) × (update ≡ After anchor x)) ⊎ ((y : ℕ) × (update ≡ After x y)) ⊎ (update ≡ RgaRemove x)
