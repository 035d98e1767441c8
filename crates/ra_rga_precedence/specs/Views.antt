-- What the reads of one replica see, as a view keeps it from read to read.
use Rattle.std.specs.Prelude.{◌≡◌, ◌<◌, ◌≤◌, ◌++◌, ◌∷◌, [], ℕ, true, false, List, length, get_or, Contains, Option, Some, None, is_some, if◌then◌else◌}
use Rattle.ra_labels.specs.declared.operation.Op.{Op}
use Rattle.ra_visibility.specs.Seen.{Seen, is_in, count_in}
use Rattle.ra_visibility.specs.Tracked.{Tracked, labels_in, replicas_in}
use Rattle.ra_rga_precedence.specs.declared.view.View.{View}
use Rattle.ra_rga_precedence.specs.Marks.{lacks_need, removed_at, AreMarks}
use Rattle.ra_rga_precedence.specs.Operations.{inserted_at}

-- the set of the updates that the view has taken
abbrev pub taken_in : Tracked → View → Seen
taken_in tracked view = record { rows = tracked.rows; counts = view.taken.items }

-- holds if no update was taken
pub record IsNewView (replicas labels : ℕ) (view : View) : Type 0 where
  pub wide : length view.taken.items ≡ replicas
  pub long : length view.removed.items ≡ labels
  pub none : (k : ℕ) → get_or view.taken.items k 0 ≡ 0
  pub unmarked : (k : ℕ) → get_or view.removed.items k false ≡ false
  pub empty : view.present.items ≡ []

-- holds if the view has what the updates that it has taken insert and remove
pub record HasTaken (tracked : Tracked) (operations : List Op) (needed : List (Option ℕ)) (view : View) : Type 0 where
  pub wide : length view.taken.items ≡ replicas_in tracked
  pub long : length view.removed.items ≡ labels_in tracked
  pub removed : AreMarks (labels_in tracked) (removed_at operations needed (taken_in tracked view)) view.removed.items
  pub present : (m : ℕ) → is_in (taken_in tracked view) m ≡ true → is_some (inserted_at operations m) ≡ true
      → get_or view.removed.items m false ≡ false → Contains view.present.items m
  pub only : (m : ℕ) → Contains view.present.items m → (m < labels_in tracked)
      × (is_in (taken_in tracked view) m ≡ true) × (is_some (inserted_at operations m) ≡ true)

-- holds if, in addition, whatever the taken updates need is among them
pub record IsView (tracked : Tracked) (operations : List Op) (needed : List (Option ℕ)) (view : View) : Type 0 where
  pub has : HasTaken tracked operations needed view
  pub closed : (m : ℕ) → is_in (taken_in tracked view) m ≡ true → lacks_need needed (taken_in tracked view) m ≡ false

-- holds if the view has taken what the read sees, and keeps as many insertions as the read lists
pub record IsViewOfRead (tracked : Tracked) (operations : List Op) (needed : List (Option ℕ)) (seen : Seen)
    (list : List ℕ) (view : View) : Type 0 where
  pub is : IsView tracked operations needed view
  pub taken : (k : ℕ) → get_or view.taken.items k 0 ≡ count_in seen k
  pub listed : length view.present.items ≡ length list

-- holds if the view has taken no more updates of each replica than there are in the set
abbrev pub IsBehind : Seen → View → Type 0
IsBehind seen view = (k : ℕ) → get_or view.taken.items k 0 ≤ count_in seen k

-- the insertions with the label, if it is one
abbrev pub with_insertion : List Op → List ℕ → ℕ → List ℕ
with_insertion operations present n = if is_some (inserted_at operations n) then present ++ n ∷ [] else present

-- holds if what the taken updates need is in the set
abbrev pub NeedOnly : Tracked → List (Option ℕ) → Seen → View → Type 0
NeedOnly tracked needed seen view =
    (m : ℕ) → is_in (taken_in tracked view) m ≡ true → lacks_need needed seen m ≡ false

-- holds if the view has taken those of one replica that are in the set; or if one of them needs what is not in it
abbrev pub IsTakenUp : Tracked → List Op → List (Option ℕ) → Seen → ℕ → View → View → Option ℕ → Type 0
IsTakenUp tracked operations needed seen replica old new None =
    (get_or new.taken.items replica 0 ≡ count_in seen replica)
    × ((k : ℕ) → ¬ (k ≡ replica) → get_or new.taken.items k 0 ≡ get_or old.taken.items k 0)
    × (HasTaken tracked operations needed old → HasTaken tracked operations needed new)
    × (NeedOnly tracked needed seen old → NeedOnly tracked needed seen new)
    × (length new.taken.items ≡ length old.taken.items) × (length new.removed.items ≡ length old.removed.items)
IsTakenUp tracked operations needed seen replica old new (Some m) =
    (m < labels_in tracked) × (lacks_need needed seen m ≡ true)

-- holds if the view has taken the updates of the set; or if one of them needs what is not in it
abbrev pub IsBroughtUp : Tracked → List Op → List (Option ℕ) → Seen → View → Option ℕ → Type 0
IsBroughtUp tracked operations needed seen view None =
    IsView tracked operations needed view × ((k : ℕ) → get_or view.taken.items k 0 ≡ count_in seen k)
IsBroughtUp tracked operations needed seen view (Some m) =
    (m < labels_in tracked) × (lacks_need needed seen m ≡ true)
