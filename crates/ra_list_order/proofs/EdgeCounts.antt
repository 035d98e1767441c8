-- The counts of an edge pool: with one more edge, with one edge less, and what a count says.
use Rattle.std.proofs.Common.{◌≡◌, ℕ, ◌+◌, ◌-◌, ◌<◌, ◌≤◌, true, false, cond, List, [], ◌∷◌, ◌++◌, length, take, Option, Some, None, Result, Ok, Err, BTreeMap, refl, sym, ap, ◌∙◌, subst, inl, inr, arith, unwrap_or}
use Rattle.std.specs.Prelude.{◌⊎◌, ◌==◌, ◌&&◌, nat_lt, count_by, IsTrue, ◌↔◌, OnOk, OnErr}
use Rattle.std.specs.BTreeMap.{get, Updates}
use Rattle.std.specs.Cmp.{Equal-is}
use Rattle.std.specs.Ordering.{nat_cmp, is_eq}
use Rattle.std.proofs.lemmas.Bool.{cases_Bool, cases_eq, cond-true, cond-false, eqb-true, eq-eqb, and_parts, ltb-true, lt-ltb}
use Rattle.std.proofs.lemmas.List.{take-append-drop, drop_more, drop_all}
use Rattle.std.proofs.lemmas.List.Sums.{sum_by-cons, sum_by-append, count_by-le-length}
use Rattle.std.proofs.lemmas.Map.Lookups.{exact_unsigned, exact_pairs}
use Rattle.ra_labels.specs.declared.edge.Edge.{Edge}
use Rattle.ra_labels.specs.Edges.{HasEdge}
use Rattle.ra_list_order.specs.EdgePool.{no_edge, edge_at, is_from_to, pair_cmp, AreCounted}
use Rattle.ra_list_order.proofs.Members.{head_or_behind, at_head, behind_head, none_there}

-- an edge passes the test exactly if it is between the elements
ends_meet : (a b : ℕ) (edge : Edge) → edge.before ≡ a → edge.after ≡ b → is_from_to a b edge ≡ true
ends_meet a b edge begins ends =
    ap (λ test. test && (edge.after == b)) (eq-eqb edge.before a begins) ∙ eq-eqb edge.after b ends

ends_are : (a b : ℕ) (edge : Edge) → is_from_to a b edge ≡ true → (edge.before ≡ a) × (edge.after ≡ b)
ends_are a b edge passes =
    let both = and_parts (edge.before == a) (edge.after == b) passes in
    (eqb-true edge.before a both.0, eqb-true edge.after b both.1)

-- a count is positive exactly if there is such an edge
pub some_counted : (edges : List Edge) (a b : ℕ) → HasEdge edges a b → 0 < count_by (is_from_to a b) edges
some_counted [] a b has = absurd (none_there has.0 has.1)
some_counted (edge ∷ edges) a b has =
    let one : Edge → ℕ = λ e. cond (is_from_to a b e) 1 0 in
    let split = sum_by-cons one edge edges in
    elim (head_or_behind edge edges has.0 has.1) [
      | inl here ↦
          let passes = ends_meet a b edge (ap (λ (e : Edge). e.before) here ∙ has.2) (ap (λ (e : Edge). e.after) here
          ∙ has.3) in
          let counts : one edge ≡ 1 = cond-true (is_from_to a b edge) 1 0 passes in
          omega (arith, split, counts)
      | inr further ↦
          let rest = some_counted edges a b (has.0, further, has.2, has.3) in
          omega (arith, split, rest)
    ]

pub counted_some : (edges : List Edge) (a b : ℕ) → 0 < count_by (is_from_to a b) edges → HasEdge edges a b
counted_some [] a b some = absurd (omega arith)
counted_some (edge ∷ edges) a b some =
    let one : Edge → ℕ = λ e. cond (is_from_to a b e) 1 0 in
    let split = sum_by-cons one edge edges in
    elim (cases_Bool (is_from_to a b edge)) [
      | inl passes ↦ let ends = ends_are a b edge passes in (edge, at_head edge edges edge refl, ends.0, ends.1)
      | inr fails ↦
          let counts : one edge ≡ 0 = cond-false (is_from_to a b edge) 1 0 fails in
          let rest = counted_some edges a b (omega (arith, split, counts, some)) in
          (rest.0, behind_head edge edges rest.0 rest.1, rest.2, rest.3)
    ]

pub contains_read : (count : ℕ × ℕ → Option ℕ) (edges now : List Edge) (a b n : ℕ) → AreCounted count edges
    → edges ≡ now → n ≡ unwrap_or (count (a, b)) 0 → IsTrue (nat_lt 0 n) ↔ HasEdge now a b
contains_read count edges now a b n counted same is = subst (λ es. IsTrue (nat_lt 0 n) ↔ HasEdge es a b) same (
  λ yes.
      let some = ltb-true 0 n yes in
      let number = counted a b in
      counted_some edges a b (omega (arith, some, number, is)),
  λ has.
      let some = some_counted edges a b has in
      let number = counted a b in
      lt-ltb 0 n (omega (arith, some, number, is)),
)

-- holds if the new function has n at the pair, and is the old one elsewhere
pub record IsPaired (old new : ℕ × ℕ → Option ℕ) (a b n : ℕ) : Type 0 where
  pub here : new (a, b) ≡ Some n
  pub apart : (x y : ℕ) → ¬ ((x ≡ a) × (y ≡ b)) → new (x, y) ≡ old (x, y)

pair_test : (a b x y : ℕ) → ¬ ((x ≡ a) × (y ≡ b)) → is_eq (pair_cmp (a, b) (x, y)) ≡ false
pair_test a b x y other = elim (cases_Bool (is_eq (pair_cmp (a, b) (x, y)))) [
  | inl same ↦
      let exact : (a, b) ≡ (x, y) = exact_pairs nat_cmp nat_cmp exact_unsigned exact_unsigned (a, b) (x, y)
      ((Equal-is (pair_cmp (a, b) (x, y))).0 same) in
      absurd (other (sym (ap (λ (p : ℕ × ℕ). p.0) exact), sym (ap (λ (p : ℕ × ℕ). p.1) exact)))
  | inr test ↦ test
]

pub paired : (m n : BTreeMap (ℕ × ℕ) ℕ) (a b v : ℕ) → Updates pair_cmp m n (a, b) (Some v)
    → IsPaired (get pair_cmp m) (get pair_cmp n) a b v
paired m n a b v updates = record {
  here = updates.1;
  apart = λ x y other. updates.2 (x, y) (pair_test a b x y other);
}

-- either both are equal, or not
both_or_not : (a b x y : ℕ) → ((x ≡ a) × (y ≡ b)) ⊎ ¬ ((x ≡ a) × (y ≡ b))
both_or_not a b x y = elim (cases_eq x a) [
  | inl one ↦ elim (cases_eq y b) [
    | inl two ↦ inl (one, two)
    | inr other ↦ inr (λ both. other both.1)
  ]
  | inr other ↦ inr (λ both. other both.0)
]

-- counts that are set to what they should be
pub counts_set : (old new : ℕ × ℕ → Option ℕ) (before after : List Edge) (a b n : ℕ) → AreCounted old before
    → IsPaired old new a b n → n ≡ count_by (is_from_to a b) after
    → ((x y : ℕ) → ¬ ((x ≡ a) × (y ≡ b)) → count_by (is_from_to x y) after ≡ count_by (is_from_to x y) before)
    → AreCounted new after
counts_set old new before after a b n counted set is others x y = elim (both_or_not a b x y) [
  | inl both ↦
      ap (λ p. unwrap_or (new (p, y)) 0) both.0 ∙ ap (λ p. unwrap_or (new (a, p)) 0) both.1
      ∙ ap (λ v. unwrap_or v 0) set.here ∙ is
      ∙ ap (λ p. count_by (is_from_to p b) after) (sym both.0) ∙ ap (λ p. count_by (is_from_to x p) after) (sym both.1)
  | inr other ↦ ap (λ v. unwrap_or v 0) (set.apart x y other) ∙ counted x y ∙ sym (others x y other)
]

-- one more edge
more_counted : (edges : List Edge) (edge : Edge) (a b : ℕ)
    → count_by (is_from_to a b) (edges ++ edge ∷ []) ≡ count_by (is_from_to a b) edges + cond (is_from_to a b edge) 1 0
more_counted edges edge a b =
    let one : Edge → ℕ = λ e. cond (is_from_to a b e) 1 0 in
    let sum = sum_by-append one edges (edge ∷ []) in
    let split = sum_by-cons one edge [] in
    omega (arith, sum, split)

mine_counted : (edges : List Edge) (edge : Edge)
    → count_by (is_from_to edge.before edge.after) (edges ++ edge ∷ [])
    ≡ count_by (is_from_to edge.before edge.after) edges + 1
mine_counted edges edge =
    more_counted edges edge edge.before edge.after
    ∙ ap (λ n. count_by (is_from_to edge.before edge.after) edges + n)
    (cond-true (is_from_to edge.before edge.after edge) 1 0 (ends_meet edge.before edge.after edge refl refl))

others_counted : (edges : List Edge) (edge : Edge) (x y : ℕ) → ¬ ((x ≡ edge.before) × (y ≡ edge.after))
    → count_by (is_from_to x y) (edges ++ edge ∷ []) ≡ count_by (is_from_to x y) edges
others_counted edges edge x y other =
    let one : Edge → ℕ = λ e. cond (is_from_to x y e) 1 0 in
    let more = more_counted edges edge x y in
    elim (cases_Bool (is_from_to x y edge)) [
      | inl passes ↦ let ends = ends_are x y edge passes in absurd (other (sym ends.0, sym ends.1))
      | inr fails ↦
          let none : one edge ≡ 0 = cond-false (is_from_to x y edge) 1 0 fails in
          omega (arith, more, none)
    ]

-- a key that the map has gets its value
pub set_again : {E : Type 0} (m n : BTreeMap (ℕ × ℕ) ℕ) (a b v : ℕ) (r : Result (Option ℕ) E)
    → ¬ (get pair_cmp m (a, b) ≡ None) → OnOk r (Updates pair_cmp m n (a, b) (Some v))
    → OnErr r (get pair_cmp m (a, b) ≡ None) → IsPaired (get pair_cmp m) (get pair_cmp n) a b v
set_again m n a b v (Ok was) known updates absent = paired m n a b v updates
set_again m n a b v (Err failed) known updates absent = absurd (known absent)

pub counts_pushed : (m n : BTreeMap (ℕ × ℕ) ℕ) (edges new : List Edge) (edge : Edge) (k : ℕ)
    → AreCounted (get pair_cmp m) edges → k ≡ unwrap_or (get pair_cmp m (edge.before, edge.after)) 0
    → Updates pair_cmp m n (edge.before, edge.after) (Some (k + 1)) → new ≡ edges ++ edge ∷ []
    → AreCounted (get pair_cmp n) new
counts_pushed m n edges new edge k counted is updates made =
    let a = edge.before in
    let b = edge.after in
    let number : k ≡ count_by (is_from_to a b) edges = is ∙ counted a b in
    let mine = mine_counted edges edge in
    subst (λ es. AreCounted (get pair_cmp n) es) (sym made)
    (counts_set (get pair_cmp m) (get pair_cmp n) edges (edges ++ edge ∷ []) a b (k + 1) counted
    (paired m n a b (k + 1) updates)
    (ap (λ i. i + 1) number ∙ sym mine) (λ x y other. others_counted edges edge x y other))

pub counts_fit : (count : ℕ × ℕ → Option ℕ) (edges : List Edge) (a b k : ℕ) → AreCounted count edges
    → k ≡ unwrap_or (count (a, b)) 0 → k ≤ length edges
counts_fit count edges a b k counted is =
    let number = counted a b in
    let most = count_by-le-length (is_from_to a b) edges in
    omega (arith, number, most, is)

-- the edges as those before the last one, and that one
last_apart : (edges : List Edge) → 0 < length edges
    → edges ≡ take (length edges - 1) edges ++ edge_at edges (length edges - 1) ∷ []
last_apart edges some =
    let n : ℕ = length edges - 1 in
    sym (take-append-drop n edges)
    ∙ ap (λ es. take n edges ++ es) (drop_more edges n no_edge (omega (arith, some))
    ∙ ap (λ es. edge_at edges n ∷ es) (drop_all (n + 1) edges (omega (arith, some))))

pub last_counted : (count : ℕ × ℕ → Option ℕ) (edges : List Edge) (edge : Edge) (k : ℕ) → AreCounted count edges
    → 0 < length edges → edge ≡ edge_at edges (length edges - 1)
    → k ≡ unwrap_or (count (edge.before, edge.after)) 0 → 0 < k
last_counted count edges edge k counted some edge_is is =
    let fewer : List Edge = take (length edges - 1) edges in
    let number = counted edge.before edge.after in
    let mine = mine_counted fewer edge in
    let whole : count_by (is_from_to edge.before edge.after) edges
    ≡ count_by (is_from_to edge.before edge.after) (fewer ++ edge ∷ []) =
    ap (count_by (is_from_to edge.before edge.after)) (last_apart edges some
    ∙ ap (λ e. fewer ++ e ∷ []) (sym edge_is)) in
    omega (arith, number, mine, whole, is)

positive : (v : Option ℕ) → 0 < unwrap_or v 0 → ¬ (v ≡ None)
positive None some none = omega (arith, some)
positive (Some n) some none = cc

pub counts_popped : {E : Type 0} (m n : BTreeMap (ℕ × ℕ) ℕ) (edges new : List Edge) (edge : Edge) (k : ℕ)
    (r : Result (Option ℕ) E) → AreCounted (get pair_cmp m) edges → 0 < length edges
    → edge ≡ edge_at edges (length edges - 1) → k ≡ unwrap_or (get pair_cmp m (edge.before, edge.after)) 0
    → OnOk r (Updates pair_cmp m n (edge.before, edge.after) (Some (k - 1)))
    → OnErr r (get pair_cmp m (edge.before, edge.after) ≡ None)
    → new ≡ take (length edges - 1) edges → AreCounted (get pair_cmp n) new
counts_popped m n edges new edge k r counted some edge_is is updates absent made =
    let a = edge.before in
    let b = edge.after in
    let fewer : List Edge = take (length edges - 1) edges in
    let split : edges ≡ fewer ++ edge ∷ [] = last_apart edges some ∙ ap (λ e. fewer ++ e ∷ []) (sym edge_is) in
    let here = last_counted (get pair_cmp m) edges edge k counted some edge_is is in
    let set = set_again m n a b (k - 1) r (positive (get pair_cmp m (a, b)) (omega (arith, here, is))) updates absent in
    let number : k ≡ count_by (is_from_to a b) edges = is ∙ counted a b in
    let whole = ap (count_by (is_from_to a b)) split in
    let mine = mine_counted fewer edge in
    subst (λ es. AreCounted (get pair_cmp n) es) (sym made)
    (counts_set (get pair_cmp m) (get pair_cmp n) edges fewer a b (k - 1) counted set
    (omega (arith, number, whole, mine))
    (λ x y other. sym (ap (count_by (is_from_to x y)) split ∙ others_counted fewer edge x y other)))
