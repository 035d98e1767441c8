-- What one walk along a part of the order finds.
use Rattle.std.specs.Prelude.{◌≡◌, ℕ, true, List, ◌++◌, Contains}
use Rattle.std.specs.List.Sorted.{IsPermutation}
use Rattle.ra_labels.specs.declared.edge.Edge.{Edge}
use Rattle.ra_labels.specs.Edges.{IsBefore}
use Rattle.ra_list_order.specs.Marks.{is_marked, AreWalked}

-- holds if the second list has exactly the edges from x, in any order
pub record AreEdgesFrom (x : ℕ) (edges begun : List Edge) : Type 0 where
  pub only : (edge : Edge) → Contains begun edge → Contains edges edge × (edge.before ≡ x)
  pub each : (edge : Edge) → Contains edges edge → edge.before ≡ x → Contains begun edge

-- holds if the edges from x were appended, in any order
abbrev pub PushesEdgesFrom : ℕ → List Edge → List Edge → List Edge → Type 0
PushesEdgesFrom x edges old new = (begun : List Edge) × (new ≡ old ++ begun) × AreEdgesFrom x edges begun

-- holds if the second list has exactly the edges to x, in any order
pub record AreEdgesInto (x : ℕ) (edges ended : List Edge) : Type 0 where
  pub only : (edge : Edge) → Contains ended edge → Contains edges edge × (edge.after ≡ x)
  pub each : (edge : Edge) → Contains edges edge → edge.after ≡ x → Contains ended edge

-- holds if the edges to x were appended, in any order
abbrev pub PushesEdgesInto : ℕ → List Edge → List Edge → List Edge → Type 0
PushesEdgesInto x edges old new = (ended : List Edge) × (new ≡ old ++ ended) × AreEdgesInto x edges ended

pub record IsSwept (stretch : List ℕ) (edges : List Edge) (start : ℕ) (stays moves : List ℕ)
    (walked : List Edge) : Type 0 where
  -- the two lists have the elements of the stretch
  pub parts : IsPermutation stretch (stays ++ moves)
  -- each edge along the stretch is also one along the two lists
  pub keeps : (edge : Edge) → Contains edges edge → IsBefore stretch edge.before edge.after
      → IsBefore (stays ++ moves) edge.before edge.after
  -- the start does not stay
  pub start_moves : ¬ Contains stays start
  -- each moved element is marked
  pub marked : (x : ℕ) → Contains moves x → is_marked start walked x ≡ true
  -- each edge from a moved element was walked
  pub closed : (edge : Edge) → Contains edges edge → Contains moves edge.before → Contains walked edge
  pub among : (edge : Edge) → Contains walked edge → Contains edges edge
  pub rooted : AreWalked start walked
