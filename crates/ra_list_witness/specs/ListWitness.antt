-- A list's witness, as contracts describe it.
use Rattle.std.specs.Prelude.{◌≡◌, ℕ, ◌<◌, ◌≤◌, ◌==◌, ◌&&◌, List, [], length, get_or, Contains, if◌then◌else◌}
use Rattle.ra_labels.specs.declared.edge.Edge.{Edge}
use Rattle.ra_list_replica.specs.declared.mark.Mark.{Mark}
use Rattle.ra_list_replica.specs.declared.mark.Mark.TheVariants.{Missing}
use Rattle.ra_list_replica.specs.View.{View, mark_at}
use Rattle.ra_list_witness.specs.Adjacent.{HasPairs}
use Rattle.ra_list_witness.specs.Named.{AreBetweenNumbers}

pub record ListWitness : Type 0 where
  -- the elements by number, in the order of their insertion
  pub elements : List ℕ
  -- the view of each replica
  pub views : List View
  -- the edges of the operations
  pub edges : List Edge

-- the view of a replica that has no elements
abbrev pub no_view : View
no_view = record { marks = []; last = [] }

abbrev pub view_at : List View → ℕ → View
view_at views replica = get_or views replica no_view

-- what the replica's view says of the element with this number
abbrev pub mark_of : List View → ℕ → ℕ → Mark
mark_of views replica number = mark_at (view_at views replica).marks number

-- holds if the new views have the same marks
pub record AreSameMarks (old new : List View) : Type 0 where
  pub as_many : length new ≡ length old
  pub each : (replica number : ℕ) → mark_of new replica number ≡ mark_of old replica number

-- holds if the new views have this mark for the replica and the number, and else the same marks
pub record IsMarked (old : List View) (at number : ℕ) (mark : Mark) (new : List View) : Type 0 where
  pub as_many : length new ≡ length old
  pub each : (replica other : ℕ) → mark_of new replica other
      ≡ (if replica == at && other == number then mark else mark_of old replica other)

-- the representation invariant, of an order and edges in which elements go by their numbers: the order has all numbers,
-- and perhaps one of an element whose insertion was rejected
pub record ListWitnessKept (elements : List ℕ) (views : List View) (order : List ℕ) (edges : List Edge) : Type 0 where
  -- each number, and that of the next element, fits 32 bits
  pub few : length elements < 4294967296
  pub ordered : (number : ℕ) → number < length elements → Contains order number
  pub between : AreBetweenNumbers elements edges
  pub beyond : (replica number : ℕ) → length elements ≤ number → mark_of views replica number ≡ Missing
  -- the adjacent numbers of each replica's last read have edges
  pub lasts : (replica : ℕ) → HasPairs edges (view_at views replica).last
