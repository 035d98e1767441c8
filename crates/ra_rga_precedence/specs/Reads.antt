-- What is known of a read whose list was checked.
use Rattle.std.specs.Prelude.{◌≡◌, ◌<◌, ◌+◌, ℕ, Bool, true, false, List, length, get_or, Option, Some, None}
use Rattle.ra_labels.specs.declared.operation.Op.{Op}
use Rattle.ra_precedence.specs.Conditions.{Condition}
use Rattle.ra_visibility.specs.Seen.{Seen}
use Rattle.ra_rga_precedence.specs.declared.reads.ReadFault.{ReadFault}
use Rattle.ra_rga_precedence.specs.declared.reads.ReadFault.TheVariants.{Open, Wrong, Unlisted, Below}
use Rattle.ra_rga_precedence.specs.Inserting.{AreInserters}
use Rattle.ra_rga_precedence.specs.Needing.{AreNeeded}
use Rattle.ra_rga_precedence.specs.Ranks.{AreNeedRanks}
use Rattle.ra_rga_precedence.specs.Marks.{lacks_need, removed_at, AreMarks, AreShown, IsWrong, is_unlisted}
use Rattle.ra_rga_precedence.specs.Neighbors.{AreEdges, IsUnderNext}

-- holds if this is known of the insertions of the labels below the count
pub record AreInsertions (operations : List Op) (count : ℕ) (inserter : ℕ → Option ℕ) (needed : List (Option ℕ))
    (ranks : List ℕ) : Type 0 where
  pub inserters : AreInserters operations count inserter
  pub len : length needed ≡ count
  pub needs : AreNeeded operations inserter needed
  pub ranked : AreNeedRanks needed ranks

-- holds if the labels insert the elements of the list, are visible, and visible removals leave them
pub record ListsShown (operations : List Op) (count : ℕ) (inserter : ℕ → Option ℕ) (needed : List (Option ℕ))
    (seen : Seen) (list labels : List ℕ) (now : List Bool) : Type 0 where
  pub marks : List Bool
  pub removed : AreMarks count (removed_at operations needed seen) marks
  pub len : length labels ≡ length list
  pub shown : AreShown inserter seen marks list labels now

-- holds if the read is possible, and the conditions of its neighbours were added; or if it has the fault
abbrev pub IsChecked : List Op → ℕ → (ℕ → Option ℕ) → List (Option ℕ) → Seen → List ℕ → List Condition → List Condition
    → Option ReadFault → Type 0
IsChecked operations count inserter needed seen list old new None =
    (labels : List ℕ) × ((now : List Bool) × ListsShown operations count inserter needed seen list labels now
    × ((m : ℕ) → m < count → lacks_need needed seen m ≡ false)
    × ((m : ℕ) → m < count → is_unlisted operations seen now m ≡ false)
    × AreEdges needed labels old new (length labels))
IsChecked operations count inserter needed seen list old new (Some (Open m)) =
    (m < count) × (lacks_need needed seen m ≡ true)
IsChecked operations count inserter needed seen list old new (Some (Wrong x)) =
    (marks : List Bool) × AreMarks count (removed_at operations needed seen) marks × IsWrong inserter seen marks list x
IsChecked operations count inserter needed seen list old new (Some (Unlisted m)) =
    (labels : List ℕ) × ((now : List Bool) × ListsShown operations count inserter needed seen list labels now
    × (m < count) × (is_unlisted operations seen now m ≡ true))
IsChecked operations count inserter needed seen list old new (Some (Below x y)) =
    (labels : List ℕ) × ((now : List Bool) × ListsShown operations count inserter needed seen list labels now
    × ((m : ℕ) → m < count → lacks_need needed seen m ≡ false) × ((place : ℕ) × IsUnderNext needed labels place
    × (get_or list place 0 ≡ x) × (get_or list (place + 1) 0 ≡ y)))
