-- An order extends the edges of a list exactly if the list has its elements in that order.
use Rattle.std.proofs.Common.{◌≡◌, ◌↔◌, ℕ, Bool, true, false, List, [], ◌∷◌, filter, refl, sym, ap, ◌∙◌, subst, inl, inr}
use Rattle.std.specs.Prelude.{◌==◌, ◌||◌, Contains}
use Rattle.std.specs.List.{list_any}
use Rattle.std.proofs.lemmas.Bool.{false≢true, cases_Bool, cond-true, cond-false, eq-eqb, eqb-true, ne_eqb}
use Rattle.ra_labels.specs.declared.edge.Edge.{Edge}
use Rattle.ra_labels.specs.Edges.{EachOnce, IsBefore, Extends}
use Rattle.ra_labels.specs.Reads.{edges_of_read, in_order}
use Rattle.ra_list_order.proofs.Members.{head_or_behind, at_head, behind_head, none_there, there-kept, any_there}
use Rattle.ra_list_order.proofs.Befores.{second_there}
use Rattle.ra_list_order.proofs.Cycles.{AreNew, transitive, new_from_once}

abbrev pub edge_of : ℕ → ℕ → ℕ → Edge
edge_of label x y = record { before = x; after = y; label = label }

-- without the first edge it is extended, too
rest_extended : (order : List ℕ) (label x : ℕ) (list : List ℕ) → Extends order (edges_of_read label (x ∷ list))
    → Extends order (edges_of_read label list)
rest_extended order label x [] extends = λ edge there. absurd (none_there edge there)
rest_extended order label x (y ∷ list) extends =
    λ edge there. extends edge (behind_head (edge_of label x y) (edges_of_read label (y ∷ list)) edge there)

-- the head of the list is before all others
head_first : (order : List ℕ) (label x : ℕ) (list : List ℕ) → AreNew order
    → Extends order (edges_of_read label (x ∷ list)) → (y : ℕ) → Contains list y → IsBefore order x y
head_first order label x [] new extends y there = absurd (none_there y there)
head_first order label x (z ∷ list) new extends y there =
    let step = extends (edge_of label x z) (at_head (edge_of label x z) (edges_of_read label (z ∷ list)) (edge_of label x z) refl) in
    elim (head_or_behind z list y there) [
      | inl here ↦ subst (λ k. IsBefore order x k) here step
      | inr further ↦ transitive order x z y new step
          (head_first order label z list new (rest_extended order label x (z ∷ list) extends) y further)
    ]

-- the ends of the edges are listed
ends_listed : (label : ℕ) (list : List ℕ) (edge : Edge) → Contains (edges_of_read label list) edge
    → Contains list edge.before × Contains list edge.after
ends_listed label [] edge there = absurd (none_there edge there)
ends_listed label (x ∷ []) edge there = absurd (none_there edge there)
ends_listed label (x ∷ y ∷ list) edge there =
    elim (head_or_behind (edge_of label x y) (edges_of_read label (y ∷ list)) edge there) [
      | inl here ↦ (
        at_head x (y ∷ list) edge.before (ap (λ (e : Edge). e.before) here),
        behind_head x (y ∷ list) edge.after (at_head y list edge.after (ap (λ (e : Edge). e.after) here)),
      )
      | inr further ↦
          let rest = ends_listed label (y ∷ list) edge further in
          (behind_head x (y ∷ list) edge.before rest.0, behind_head x (y ∷ list) edge.after rest.1)
    ]

-- where an element is not listed, the order without it extends the same edges
extended_without : (z : ℕ) (order : List ℕ) (label : ℕ) (list : List ℕ) → ¬ Contains list z
    → Extends (z ∷ order) (edges_of_read label list) → Extends order (edges_of_read label list)
extended_without z order label list apart extends = λ edge there. elim (extends edge there) [
  | inl here ↦ absurd (apart (subst (Contains list) (sym here.0) (ends_listed label list edge there).0))
  | inr further ↦ further
]

-- `true` if the element is listed
abbrev pub is_listed : List ℕ → ℕ → Bool
is_listed list x = list_any (λ y. y == x) list

listed_there : (list : List ℕ) (x : ℕ) → is_listed list x ≡ true → Contains list x
listed_there [] x is = absurd (false≢true is)
listed_there (y ∷ list) x is = elim (cases_Bool (y == x)) [
  | inl same ↦ at_head y list x (eqb-true y x same)
  | inr other ↦ behind_head y list x (listed_there list x (sym (ap (λ b. b || is_listed list x) other) ∙ is))
]

is_there : (list : List ℕ) (x : ℕ) → Contains list x → is_listed list x ≡ true
is_there list x there = any_there (λ y. y == x) list x there (eq-eqb x x refl)

-- a head that is not in the order makes no difference
head_apart : (order : List ℕ) (z : ℕ) (list : List ℕ) → ¬ Contains order z
    → in_order order (z ∷ list) ≡ in_order order list
head_apart [] z list apart = refl
head_apart (x ∷ order) z list apart =
    let test : (z == x) ≡ false = ne_eqb z x (λ same. apart (at_head x order z (sym same))) in
    let same : is_listed (z ∷ list) x ≡ is_listed list x = ap (λ b. b || is_listed list x) test in
    let rest = head_apart order z list (λ there. apart (behind_head x order z there)) in
    elim (cases_Bool (is_listed list x)) [
      | inl listed ↦
          cond-true (is_listed (z ∷ list) x) (x ∷ in_order order (z ∷ list)) (in_order order (z ∷ list)) (same ∙ listed)
          ∙ ap (λ xs. x ∷ xs) rest
          ∙ sym (cond-true (is_listed list x) (x ∷ in_order order list) (in_order order list) listed)
      | inr left ↦
          cond-false (is_listed (z ∷ list) x) (x ∷ in_order order (z ∷ list)) (in_order order (z ∷ list)) (same ∙ left)
          ∙ rest
          ∙ sym (cond-false (is_listed list x) (x ∷ in_order order list) (in_order order list) left)
    ]

-- where the order begins with a listed element, so does the list
same_head : (z : ℕ) (order : List ℕ) (label h : ℕ) (list : List ℕ) → AreNew (z ∷ order)
    → Extends (z ∷ order) (edges_of_read label (h ∷ list)) → Contains (h ∷ list) z → h ≡ z
same_head z order label h list new extends there = elim (head_or_behind h list z there) [
  | inl here ↦ here
  | inr further ↦ elim (head_first (z ∷ order) label h list new extends z further) [
    | inl now ↦ sym now.0
    | inr behind ↦ absurd (new.0 (second_there order h z behind))
  ]
]

-- an element of both is one of the rest where it is not the head
in_rest : (z : ℕ) (order : List ℕ) (x : ℕ) → ¬ (z ≡ x) → Contains (z ∷ order) x → Contains order x
in_rest z order x other there = elim (head_or_behind z order x there) [
  | inl here ↦ absurd (other here)
  | inr further ↦ further
]

follows : (order list : List ℕ) (label : ℕ) → AreNew order → AreNew list
    → ((x : ℕ) → Contains list x → Contains order x) → Extends order (edges_of_read label list)
    → list ≡ in_order order list
follows [] [] label new once among extends = refl
follows [] (h ∷ list) label new once among extends = absurd (none_there h (among h (at_head h list h refl)))
follows (z ∷ order) [] label new once among extends =
    follows order [] label new.1 once (λ x there. absurd (none_there x there))
    (λ edge there. absurd (none_there edge there))
follows (z ∷ order) (h ∷ list) label new once among extends = elim (cases_Bool (is_listed (h ∷ list) z)) [
  | inl listed ↦
      let head = same_head z order label h list new extends (listed_there (h ∷ list) z listed) in
      let apart : ¬ Contains list z = subst (λ k. ¬ Contains list k) head once.0 in
      let rest = follows order list label new.1 once.1
      (λ x there. in_rest z order x (λ same. apart (subst (Contains list) (sym same) there))
      (among x (behind_head h list x there)))
      (extended_without z order label list apart (rest_extended (z ∷ order) label h list extends)) in
      ap (λ k. k ∷ list) head ∙ ap (λ xs. z ∷ xs) rest
      ∙ ap (λ xs. z ∷ xs) (sym (head_apart order z list new.0))
      ∙ ap (λ k. z ∷ in_order order (k ∷ list)) (sym head)
      ∙ sym (cond-true (is_listed (h ∷ list) z) (z ∷ in_order order (h ∷ list)) (in_order order (h ∷ list)) listed)
  | inr left ↦
      let apart = λ (there : Contains (h ∷ list) z). false≢true (sym left ∙ is_there (h ∷ list) z there) in
      follows order (h ∷ list) label new.1 once
      (λ x there. in_rest z order x (λ same. apart (subst (Contains (h ∷ list)) (sym same) there)) (among x there))
      (extended_without z order label (h ∷ list) apart extends)
      ∙ sym (cond-false (is_listed (h ∷ list) z) (z ∷ in_order order (h ∷ list)) (in_order order (h ∷ list)) left)
]

headed : (z : ℕ) (order : List ℕ) (label : ℕ) (list : List ℕ) → ((x : ℕ) → Contains list x → Contains order x)
    → Extends order (edges_of_read label list) → Extends (z ∷ order) (edges_of_read label (z ∷ list))
headed z order label [] among extends = λ edge there. absurd (none_there edge there)
headed z order label (y ∷ list) among extends =
    λ edge there. elim (head_or_behind (edge_of label z y) (edges_of_read label (y ∷ list)) edge there) [
      | inl here ↦ inl (
        ap (λ (e : Edge). e.before) here,
        subst (Contains order) (ap (λ (e : Edge). e.after) here) (among y (at_head y list y refl)),
      )
      | inr further ↦ inr (extends edge further)
    ]

-- conversely, what a test keeps of an order has its elements in that order
kept_extended : (p : ℕ → Bool) (order : List ℕ) (label : ℕ) → Extends order (edges_of_read label (filter p order))
kept_extended p [] label = λ edge there. absurd (none_there edge there)
kept_extended p (z ∷ order) label = elim (cases_Bool (p z)) [
  | inl keeps ↦
      subst (λ list. Extends (z ∷ order) (edges_of_read label list))
      (sym (cond-true (p z) (z ∷ filter p order) (filter p order) keeps))
      (headed z order label (filter p order) (λ x there. (there-kept p order x there).0) (kept_extended p order label))
  | inr drops ↦
      subst (λ list. Extends (z ∷ order) (edges_of_read label list))
      (sym (cond-false (p z) (z ∷ filter p order) (filter p order) drops))
      (λ edge there. inr (kept_extended p order label edge there))
]

pub extends_read_iff : (order list : List ℕ) (label : ℕ) → EachOnce order → EachOnce list
    → ((x : ℕ) → Contains list x → Contains order x)
    → Extends order (edges_of_read label list) ↔ (list ≡ in_order order list)
extends_read_iff order list label once listed_once among = (
  (λ extends. follows order list label (new_from_once order once) (new_from_once list listed_once) among extends),
  (λ is. subst (λ ys. Extends order (edges_of_read label ys)) (sym is) (kept_extended (is_listed list) order label)),
)
