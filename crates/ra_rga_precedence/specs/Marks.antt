-- What a read sees and lists, by marks of labels.
use Rattle.std.specs.Prelude.{◌≡◌, ◌<◌, ◌⊎◌, ◌&&◌, not, ℕ, Bool, true, false, List, length, get_or, set, Contains, Option, Some, None, is_some, slice_get, option_and_then, if◌then◌else◌}
use Rattle.std.specs.Option.{option_map_or}
use Rattle.ra_labels.specs.declared.operation.Op.{Op}
use Rattle.ra_labels.specs.declared.operation.Op.TheVariants as op
use Rattle.ra_labels.specs.TheoremTerms.{HasNoDuplicates}
use Rattle.ra_visibility.specs.Seen.{Seen, is_in}
use Rattle.ra_rga_precedence.specs.Operations.{inserted_at}
use Rattle.ra_rga_precedence.specs.declared.marks.Listing.{Listing}
use Rattle.ra_rga_precedence.specs.declared.marks.Listing.TheVariants.{Labels, Wrong}

-- `true` if the label is visible, and the one that inserts what it needs is not
abbrev pub lacks_need : List (Option ℕ) → Seen → ℕ → Bool
lacks_need needed seen m = is_in seen m && option_map_or (λ k. not (is_in seen k)) (get_or needed m None) false

-- `true` if the operation is a removal
abbrev pub is_removal : Op → Bool
is_removal (op.RgaRemove x) = true
is_removal _ = false

-- the label that inserts what label m removes, if m is a removal; below, if it is also visible
abbrev pub removal_at : List Op → List (Option ℕ) → ℕ → Option ℕ
removal_at operations needed m =
    if option_map_or is_removal (slice_get operations m) false then get_or needed m None else None

abbrev pub removed_at : List Op → List (Option ℕ) → Seen → ℕ → Option ℕ
removed_at operations needed seen m =
    if is_in seen m && option_map_or is_removal (slice_get operations m) false then get_or needed m None else None

-- the marks with that of the label, if there is one
abbrev pub with_mark : List Bool → Option ℕ → List Bool
with_mark marks None = marks
with_mark marks (Some k) = set marks k true

-- holds if those labels are marked that the labels below a number remove
pub record AreMarks (bound : ℕ) (removed : ℕ → Option ℕ) (marks : List Bool) : Type 0 where
  pub marked : (m k : ℕ) → m < bound → removed m ≡ Some k → get_or marks k false ≡ true
  pub only : (k : ℕ) → get_or marks k false ≡ true → (m : ℕ) × (m < bound) × (removed m ≡ Some k)

-- the label that inserts the element, if it is visible and not marked
abbrev pub shown_label : (ℕ → Option ℕ) → Seen → List Bool → ℕ → Option ℕ
shown_label inserter seen marks x =
    option_and_then (λ k. if is_in seen k && not (get_or marks k false) then Some k else None) (inserter x)

-- holds if the labels insert the first ones of the list, are visible, were not marked, and are marked now, each once
pub record AreShown (inserter : ℕ → Option ℕ) (seen : Seen) (marks : List Bool) (list labels : List ℕ) (now : List Bool)
    : Type 0 where
  pub each : (i : ℕ) → i < length labels → inserter (get_or list i 0) ≡ Some (get_or labels i 0)
  pub shown : (k : ℕ) → Contains labels k → (is_in seen k ≡ true) × (get_or marks k false ≡ false)
  pub once : HasNoDuplicates labels
  pub kept : (k : ℕ) → get_or marks k false ≡ true → get_or now k false ≡ true
  pub marked : (k : ℕ) → Contains labels k → get_or now k false ≡ true
  pub only : (k : ℕ) → get_or now k false ≡ true → (get_or marks k false ≡ true) ⊎ Contains labels k

-- holds if the element is in the list, and is listed before if a visible label that is not marked inserts it
pub record IsWrong (inserter : ℕ → Option ℕ) (seen : Seen) (marks : List Bool) (list : List ℕ) (x : ℕ) : Type 0 where
  pub place : ℕ
  pub within : place < length list
  pub here : get_or list place 0 ≡ x
  pub before : (k : ℕ) → inserter x ≡ Some k → is_in seen k ≡ true → get_or marks k false ≡ false
      → (i : ℕ) × (i < place) × (inserter (get_or list i 0) ≡ Some k)

-- holds if the labels insert the elements of the list in its order, or if an element is wrong
abbrev pub IsListing : (ℕ → Option ℕ) → Seen → List Bool → List ℕ → List Bool → Listing → Type 0
IsListing inserter seen marks list now (Labels labels) =
    (length labels.items ≡ length list) × AreShown inserter seen marks list labels.items now
IsListing inserter seen marks list now (Wrong x) = IsWrong inserter seen marks list x

-- holds if the marks of the labels were removed, and no others
pub record AreUnmarked (old : List Bool) (labels : List ℕ) (new : List Bool) : Type 0 where
  pub len : length new ≡ length old
  pub gone : (k : ℕ) → Contains labels k → get_or new k false ≡ false
  pub kept : (k : ℕ) → ¬ Contains labels k → get_or new k false ≡ get_or old k false

-- `true` if the label is a visible insertion and not marked
abbrev pub is_unlisted : List Op → Seen → List Bool → ℕ → Bool
is_unlisted operations seen marks m =
    is_in seen m && (is_some (inserted_at operations m) && not (get_or marks m false))
