-- How two insertions stand to each other in the tree in which each stands under the one that inserts its anchor.
use Rattle.std.specs.Prelude.{◌≡◌, ℕ, List, [], ◌∷◌, get_or, Option, Some, None}
use Rattle.ra_rga_precedence.specs.declared.relations.Relation.{Relation}
use Rattle.ra_rga_precedence.specs.declared.relations.Relation.TheVariants.{Under, Above, Apart}

-- holds if one comes from the first label to the second one, along the way, from each label to the one that inserts
-- what it needs
abbrev pub IsNeedWay : List (Option ℕ) → ℕ → List ℕ → ℕ → Type 0
IsNeedWay needed from [] to = from ≡ to
IsNeedWay needed from (m ∷ way) to = (get_or needed from None ≡ Some m) × IsNeedWay needed m way to

-- holds if there is such a way
abbrev pub LeadsTo : List (Option ℕ) → ℕ → ℕ → Type 0
LeadsTo needed from to = (way : List ℕ) × IsNeedWay needed from way to

-- holds if two labels are led to two others, which need the same and are not the same
pub record AreApart (needed : List (Option ℕ)) (first second left right : ℕ) : Type 0 where
  pub apart : ¬ (left ≡ right)
  pub together : get_or needed left None ≡ get_or needed right None
  pub under_left : LeadsTo needed first left
  pub under_right : LeadsTo needed second right

-- holds if the first label is led to the second one, or the second one to the first one, or both to two others
abbrev pub IsRelation : List (Option ℕ) → ℕ → ℕ → Relation → Type 0
IsRelation needed first second Under = LeadsTo needed first second
IsRelation needed first second Above = LeadsTo needed second first
IsRelation needed first second (Apart left right) = AreApart needed first second left right

-- the label that inserts what a label needs; none, which means the root, if there is no such one
abbrev pub next_up : List (Option ℕ) → Option ℕ → Option ℕ
next_up needed None = None
next_up needed (Some n) = get_or needed n None

-- the rank of a label; 0 for the root
abbrev pub rank_of : List ℕ → Option ℕ → ℕ
rank_of ranks None = 0
rank_of ranks (Some n) = get_or ranks n 0

-- the relation of two labels that lead to these ones, if any, before they meet
abbrev pub relation_between : Option ℕ → Option ℕ → Relation
relation_between left None = Under
relation_between None (Some right) = Above
relation_between (Some left) (Some right) = Apart left right
