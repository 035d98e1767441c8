-- An order decides the steps of insertions: their elements stand between their neighbours.
use Rattle.std.proofs.Common.{◌≡◌, ◌↔◌, ℕ, Bool, true, false, List, [], ◌∷◌, ◌++◌, Option, Some, None, refl, sym, ◌∙◌, subst, inl, inr}
use Rattle.std.specs.Prelude.{◌==◌, ◌&&◌, ◌||◌, if◌then◌else◌}
use Rattle.std.proofs.lemmas.Bool.{false≢true, cond-true, cond-false, and_parts, and_from, eq-eqb, eqb-true, or_cases, or_left, or_right}
use Rattle.std.proofs.lemmas.Option.{none-some}
use Rattle.ra_labels.specs.Lists.{is_among}
use Rattle.ra_labels.proofs.InLists.{among-exactly}
use Rattle.ra_labels.proofs.Members.{head_or_behind, at_head, behind_head}
use Rattle.ra_labels.specs.declared.edge.Edge.{Edge}
use Rattle.ra_labels.specs.Edges.{IsBefore, Extends}
use Rattle.ra_labels.specs.Reads.{edges_of_read}
use Rattle.ra_list_order.proofs.ReadLists.{edge_of}
use Rattle.ra_labels.specs.declared.insertion.Insertion.{Insertion}
use Rattle.ra_labels.specs.Neighborhood.{named}
use Rattle.ra_labels.specs.declared.list_operation.ListUpdate.{ListUpdate}
use Rattle.ra_labels.specs.declared.list_operation.ListUpdate.TheVariants.{Put, Hide}
use Rattle.ra_labels.specs.ListOperations.{edges_of_update}
use Rattle.ra_labels.specs.FreeList.{ListState, list_step}
use Rattle.ra_list_model.specs.Order.{is_before}
use Rattle.ra_list_model.specs.Ordered.{is_between, list_step_at}
use Rattle.ra_list_model.proofs.AnsweredQueries.{no_edges}

-- `is_before` decides what is before what
pub before_exactly : (order : List ℕ) (a b : ℕ) → (is_before order a b ≡ true) ↔ IsBefore order a b
before_exactly [] a b = ((λ is. false≢true is), (λ before. absurd before))
before_exactly (x ∷ xs) a b = (
  (λ is. elim (or_cases (x == a && is_among b xs) (is_before xs a b) is) [
    | inl here ↦
        let parts = and_parts (x == a) (is_among b xs) here in
        inl (eqb-true x a parts.0, (among-exactly b xs).0 parts.1)
    | inr further ↦ inr ((before_exactly xs a b).0 further)
  ]),
  (λ before. elim before [
    | inl here ↦ or_left (x == a && is_among b xs) (is_before xs a b)
        (and_from (x == a) (is_among b xs) (eq-eqb x a here.0) ((among-exactly b xs).1 here.1))
    | inr further ↦ or_right (x == a && is_among b xs) (is_before xs a b) ((before_exactly xs a b).1 further)
  ]),
)

-- one edge more
pub one_more : (order : List ℕ) (edge : Edge) (edges : List Edge)
    → Extends order (edge ∷ edges) ↔ (IsBefore order edge.before edge.after × Extends order edges)
one_more order edge edges = (
  (λ extends. (
    extends edge (at_head edge edges edge refl),
    (λ other there. extends other (behind_head edge edges other there)),
  )),
  (λ both other there. elim (head_or_behind edge edges other there) [
    | inl here ↦ subst (λ (e : Edge). IsBefore order e.before e.after) here both.0
    | inr further ↦ both.1 other further
  ]),
)

-- the edges of an insertion, by which neighbours are named
named_none : (x : ℕ) → (x == 0) ≡ true → named x ≡ []
named_none x is = cond-true (x == 0) [] (x ∷ []) is

named_one : (x : ℕ) → (x == 0) ≡ false → named x ≡ x ∷ []
named_one x is = cond-false (x == 0) [] (x ∷ []) is

-- holds if the element is behind its left neighbour, unless that is not named, and before its right one
abbrev Between : List ℕ → ℕ → ℕ → ℕ → Bool → Bool → Type 0
Between order left x right no_left no_right =
    (no_left ≡ false → IsBefore order left x) × (no_right ≡ false → IsBefore order x right)

side_exactly : (order : List ℕ) (none : Bool) (a b : ℕ) → (none || is_before order a b ≡ true) ↔ (none ≡ false → IsBefore order a b)
side_exactly order true a b = ((λ is some. absurd (false≢true (sym some))), (λ before. refl))
side_exactly order false a b =
    ((λ is some. (before_exactly order a b).0 is), (λ before. (before_exactly order a b).1 (before refl)))

between_exactly : (order : List ℕ) (insertion : Insertion) → (is_between order insertion ≡ true)
    ↔ Between order insertion.left insertion.element insertion.right (insertion.left == 0) (insertion.right == 0)
between_exactly order insertion =
    let left = side_exactly order (insertion.left == 0) insertion.left insertion.element in
    let right = side_exactly order (insertion.right == 0) insertion.element insertion.right in (
      (λ is.
          let parts = and_parts (insertion.left == 0 || is_before order insertion.left insertion.element)
          (insertion.right == 0 || is_before order insertion.element insertion.right) is in
          (left.0 parts.0, right.0 parts.1)),
      (λ between. and_from (insertion.left == 0 || is_before order insertion.left insertion.element)
          (insertion.right == 0 || is_before order insertion.element insertion.right) (left.1 between.0) (right.1 between.1)),
    )

abbrev Extended : List ℕ → ℕ → List ℕ → ℕ → List ℕ → Type 0
Extended order label before x behind = Extends order (edges_of_read label (before ++ (x ∷ behind)))

none_named : (none : Bool) → none ≡ true → none ≡ false → ⊥
none_named none is some = false≢true (sym some ∙ is)

edges_at : (order : List ℕ) (label left x right : ℕ) (no_left no_right : Bool) → (left == 0) ≡ no_left
    → (right == 0) ≡ no_right
    → Extended order label (named left) x (named right) ↔ Between order left x right no_left no_right
edges_at order label left x right true true l r =
    subst (λ before. Extended order label before x (named right) ↔ Between order left x right true true)
    (sym (named_none left l))
    (subst (λ behind. Extended order label [] x behind ↔ Between order left x right true true)
    (sym (named_none right r)) (
      (λ extends. ((λ some. absurd (false≢true (sym some))), (λ some. absurd (false≢true (sym some))))),
      (λ between. no_edges order),
    ))
edges_at order label left x right false true l r =
    let edge = edge_of label left x in
    subst (λ before. Extended order label before x (named right) ↔ Between order left x right false true)
    (sym (named_one left l))
    (subst (λ behind. Extended order label (left ∷ []) x behind ↔ Between order left x right false true)
    (sym (named_none right r)) (
      (λ extends. ((λ some. ((one_more order edge []).0 extends).0), (λ some. absurd (false≢true (sym some))))),
      (λ between. (one_more order edge []).1 (between.0 refl, no_edges order)),
    ))
edges_at order label left x right true false l r =
    let edge = edge_of label x right in
    subst (λ before. Extended order label before x (named right) ↔ Between order left x right true false)
    (sym (named_none left l))
    (subst (λ behind. Extended order label [] x behind ↔ Between order left x right true false)
    (sym (named_one right r)) (
      (λ extends. ((λ some. absurd (false≢true (sym some))), (λ some. ((one_more order edge []).0 extends).0))),
      (λ between. (one_more order edge []).1 (between.1 refl, no_edges order)),
    ))
edges_at order label left x right false false l r =
    let near = edge_of label left x in
    let far = edge_of label x right in
    subst (λ before. Extended order label before x (named right) ↔ Between order left x right false false)
    (sym (named_one left l))
    (subst (λ behind. Extended order label (left ∷ []) x behind ↔ Between order left x right false false)
    (sym (named_one right r)) (
      (λ extends.
          let both = (one_more order near (far ∷ [])).0 extends in
          ((λ some. both.0), (λ some. ((one_more order far []).0 both.1).0))),
      (λ between. (one_more order near (far ∷ [])).1
          (between.0 refl, (one_more order far []).1 (between.1 refl, no_edges order))),
    ))

-- an element is between its neighbours exactly if the order extends the edges of the insertion
pub between_decided : (order : List ℕ) (label : ℕ) (insertion : Insertion)
    → (is_between order insertion ≡ true) ↔ Extends order (edges_of_update label (Put insertion))
between_decided order label insertion =
    let edges = edges_at order label insertion.left insertion.element insertion.right (insertion.left == 0)
    (insertion.right == 0) refl refl in
    let between = between_exactly order insertion in
    ((λ is. edges.1 (between.0 is)), (λ extends. between.1 (edges.0 extends)))

-- a choice with no value on one side
pub chosen : {A : Type 0} (b : Bool) (o : Option A) (x : A) → (if b then o else None) ≡ Some x → (b ≡ true) × (o ≡ Some x)
chosen true o x is = (refl, is)
chosen false o x is = absurd (none-some x is)

pub update_decided : (order : List ℕ) (state next : ListState) (update : ListUpdate) (label : ℕ)
    → (list_step_at order state update ≡ Some next)
    ↔ ((list_step state update ≡ Some next) × Extends order (edges_of_update label update))
update_decided order state next (Put insertion) label = (
  (λ led.
      let (between, step) = chosen (is_between order insertion) (list_step state (Put insertion)) next led in
      (step, (between_decided order label insertion).0 between)),
  (λ both. cond-true (is_between order insertion) (list_step state (Put insertion)) None
      ((between_decided order label insertion).1 both.1) ∙ both.0),
)
update_decided order state next (Hide x) label = ((λ led. (led, no_edges order)), (λ both. both.0))
