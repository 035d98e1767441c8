-- No order extends the edges of a cycle.
use Rattle.std.proofs.Common.{◌≡◌, ℕ, ◌<◌, ◌≤◌, List, [], ◌∷◌, length, cond, refl, sym, subst, inl, inr, arith}
use Rattle.std.specs.Prelude.{◌==◌, Contains, count_by}
use Rattle.std.proofs.lemmas.Bool.{eq-eqb, cond-true}
use Rattle.std.proofs.lemmas.List.Sums.{sum_by-cons}
use Rattle.ra_labels.specs.declared.edge.Edge.{Edge}
use Rattle.ra_labels.specs.Edges.{EachOnce, IsBefore, Extends, IsChain, IsCycle}
use Rattle.ra_list_order.proofs.Members.{head_or_behind, at_head, behind_head, none_there}
use Rattle.ra_list_order.proofs.Befores.{second_there}

-- the order as its elements, each not among those behind it
abbrev pub AreNew : List ℕ → Type 0
AreNew [] = Unit {0}
AreNew (x ∷ xs) = (¬ Contains xs x) × AreNew xs

irreflexive : (xs : List ℕ) (a : ℕ) → AreNew xs → ¬ IsBefore xs a a
irreflexive [] a new before = before
irreflexive (x ∷ xs) a new before = elim before [
  | inl here ↦ new.0 (subst (λ y. Contains xs y) (sym here.0) here.1)
  | inr further ↦ irreflexive xs a new.1 further
]

pub transitive : (xs : List ℕ) (a b c : ℕ) → AreNew xs → IsBefore xs a b → IsBefore xs b c → IsBefore xs a c
transitive [] a b c new first second = first
transitive (x ∷ xs) a b c new first second = elim first [
  | inl here ↦ elim second [
    | inl now ↦ absurd (new.0 (subst (λ y. Contains xs y) (sym now.0) here.1))
    | inr further ↦ inl (here.0, second_there xs b c further)
  ]
  | inr behind ↦ elim second [
    | inl now ↦ absurd (new.0 (subst (λ y. Contains xs y) (sym now.0) (second_there xs a b behind)))
    | inr further ↦ inr (transitive xs a b c new.1 behind further)
  ]
]

-- a chain of at least one edge leads further back
chain_leads : (order : List ℕ) (edges : List Edge) → AreNew order → Extends order edges
    → (cycle : List Edge) (from : ℕ) (edge : Edge) (to : ℕ)
    → ((e : Edge) → Contains (edge ∷ cycle) e → Contains edges e)
    → IsChain from (edge ∷ cycle) to → IsBefore order from to
chain_leads order edges new extends [] from edge to among chain =
    let step = extends edge (among edge (at_head edge [] edge refl)) in
    subst (λ a. IsBefore order a to) chain.0 (subst (λ b. IsBefore order edge.before b) chain.1 step)
chain_leads order edges new extends (next ∷ cycle) from edge to among chain =
    let step = extends edge (among edge (at_head edge (next ∷ cycle) edge refl)) in
    let rest = chain_leads order edges new extends cycle edge.after next to
    (λ e there. among e (behind_head edge (next ∷ cycle) e there)) chain.1 in
    subst (λ a. IsBefore order a to) chain.0 (transitive order edge.before edge.after to new step rest)

pub counted : (xs : List ℕ) (x : ℕ) → Contains xs x → 1 ≤ count_by (λ y. y == x) xs
counted [] x there = absurd (none_there x there)
counted (y ∷ ys) x there =
    let p : ℕ → ℕ = λ z. cond (z == x) 1 0 in
    let split = sum_by-cons p y ys in
    elim (head_or_behind y ys x there) [
      | inl here ↦
          let one : p y ≡ 1 = cond-true (y == x) 1 0 (eq-eqb y x here) in
          omega (arith, split, one)
      | inr further ↦
          let rest = counted ys x further in
          omega (arith, split, rest)
    ]

pub new_from_once : (order : List ℕ) → EachOnce order → AreNew order
new_from_once [] once = tt
new_from_once (x ∷ xs) once = (
  λ there.
      let p : ℕ → ℕ = λ z. cond (z == x) 1 0 in
      let split = sum_by-cons p x xs in
      let one : p x ≡ 1 = cond-true (x == x) 1 0 (eq-eqb x x refl) in
      let low = once x in
      let more = counted xs x there in
      omega (arith, split, one, low, more),
  new_from_once xs (λ z.
      let p : ℕ → ℕ = λ y. cond (y == z) 1 0 in
      let split = sum_by-cons p x xs in
      let low = once z in
      omega (arith, split, low)),
)

no_cycle : (order : List ℕ) (edges cycle : List Edge) (start : ℕ) → AreNew order → Extends order edges
    → IsChain start cycle start → 0 < length cycle → ((e : Edge) → Contains cycle e → Contains edges e) → ⊥
no_cycle order edges [] start new extends chain some among = absurd (omega arith)
no_cycle order edges (edge ∷ cycle) start new extends chain some among =
    irreflexive order start new (chain_leads order edges new extends cycle start edge start among chain)

pub no_order_extends_cycle : (order : List ℕ) (edges cycle : List Edge) → EachOnce order → Extends order edges
    → IsCycle edges cycle → ⊥
no_order_extends_cycle order edges cycle once extends is =
    no_cycle order edges cycle is.start (new_from_once order once) extends is.chain is.some is.among
