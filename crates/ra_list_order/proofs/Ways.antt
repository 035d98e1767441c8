-- Marks, and the way back along edges that were walked.
use Rattle.std.proofs.Common.{◌≡◌, ℕ, ◌+◌, ◌<◌, Bool, true, false, List, [], ◌∷◌, ◌++◌, length, get_or, take, reverse, refl, sym, ap, ◌∙◌, subst, inl, inr, arith, append_assoc}
use Rattle.std.specs.Prelude.{◌==◌, Contains}
use Rattle.std.specs.List.{list_any}
use Rattle.std.specs.Prelude.{All}
use Rattle.std.proofs.Math.ListN.{get_or-append}
use Rattle.std.proofs.Math.Seq.{get_or-append_seam, take-append_seam}
use Rattle.std.proofs.lemmas.List.{take-append-le, append-nil, length_push, reverse-append}
use Rattle.std.proofs.lemmas.List.Elements.{All-same, All-cons}
use Rattle.std.proofs.lemmas.Bool.{false≢true, or_cases, or_left, or_right, eq-eqb, eqb-true, cases_lt}
use Rattle.std.proofs.lemmas.List.Folds.{list_any-append, list_any_more}
use Rattle.ra_labels.specs.declared.edge.Edge.{Edge}
use Rattle.ra_labels.specs.Edges.{IsChain}
use Rattle.ra_list_order.specs.Marks.{is_marked, AreWalked}
use Rattle.ra_list_order.proofs.Members.{any_there, at_head, behind_head}

abbrev pub ends : ℕ → Edge → Bool
ends x edge = edge.after == x

pub start_marked : (start : ℕ) (walked : List Edge) → is_marked start walked start ≡ true
start_marked start walked = or_left (start == start) (list_any (ends start) walked) (eq-eqb start start refl)

pub still_marked : (start : ℕ) (walked more : List Edge) (x : ℕ) → is_marked start walked x ≡ true
    → is_marked start (walked ++ more) x ≡ true
still_marked start walked more x marked = elim (or_cases (x == start) (list_any (ends x) walked) marked) [
  | inl first ↦ or_left (x == start) (list_any (ends x) (walked ++ more)) first
  | inr there ↦ or_right (x == start) (list_any (ends x) (walked ++ more))
      (list_any-append (ends x) walked more ∙ or_left (list_any (ends x) walked) (list_any (ends x) more) there)
]

pub end_marked : (start : ℕ) (walked : List Edge) (edge : Edge) → Contains walked edge
    → is_marked start walked edge.after ≡ true
end_marked start walked edge there =
    or_right (edge.after == start) (list_any (ends edge.after) walked)
    (any_there (ends edge.after) walked edge there (eq-eqb edge.after edge.after refl))

-- nothing but the start is marked where no edge was walked
pub first_marked : (start x : ℕ) → is_marked start [] x ≡ true → x ≡ start
first_marked start x marked = elim (or_cases (x == start) false marked) [
  | inl first ↦ eqb-true x start first
  | inr there ↦ absurd (false≢true there)
]

-- a mark that an edge less gives as well
pub marked_before : (start : ℕ) (walked : List Edge) (k : ℕ) (edge : Edge) (x : ℕ) → k < length walked
    → edge ≡ get_or walked k edge → (edge.after == x) ≡ false → is_marked start (take (k + 1) walked) x ≡ true
    → is_marked start (take k walked) x ≡ true
marked_before start walked k edge x within read other marked =
    elim (or_cases (x == start) (list_any (ends x) (take (k + 1) walked)) marked) [
      | inl first ↦ or_left (x == start) (list_any (ends x) (take k walked)) first
      | inr there ↦ elim (or_cases (list_any (ends x) (take k walked)) (ends x (get_or walked k edge))
          (sym (list_any_more (ends x) walked k edge within) ∙ there)) [
            | inl earlier ↦ or_right (x == start) (list_any (ends x) (take k walked)) earlier
            | inr now ↦ absurd (false≢true (sym other ∙ ap (ends x) read ∙ now))
          ]
    ]

pub walked_none : (start : ℕ) → AreWalked start []
walked_none start k d within = absurd (omega arith)

pub walked_push : (start : ℕ) (walked : List Edge) (edge : Edge) → AreWalked start walked
    → is_marked start walked edge.before ≡ true → AreWalked start (walked ++ edge ∷ [])
walked_push start walked edge are marked k d within = elim (cases_lt k (length walked)) [
  | inl low ↦
      let front = take-append-le k walked (edge ∷ []) (omega arith) in
      let there = get_or-append walked (edge ∷ []) d k low in
      subst (λ es. is_marked start es (get_or (walked ++ edge ∷ []) k d).before ≡ true) (sym front)
      (subst (λ (e : Edge). is_marked start (take k walked) e.before ≡ true) (sym there) (are k d low))
  | inr high ↦
      let long = length_push walked edge in
      let last : length walked ≡ k = omega (arith, long) in
      subst (λ n. is_marked start (take n (walked ++ edge ∷ [])) (get_or (walked ++ edge ∷ []) n d).before ≡ true) last
      (subst (λ es. is_marked start es (get_or (walked ++ edge ∷ []) (length walked) d).before ≡ true)
      (sym (take-append_seam walked (edge ∷ [])))
      (subst (λ (e : Edge). is_marked start walked e.before ≡ true) (sym (get_or-append_seam walked edge [] d)) marked))
]

pub walked_more : (start : ℕ) (walked more : List Edge) (x : ℕ) → AreWalked start walked
    → is_marked start walked x ≡ true → ((edge : Edge) → Contains more edge → edge.before ≡ x)
    → AreWalked start (walked ++ more)
walked_more start walked [] x are marked begin = subst (λ es. AreWalked start es) (sym (append-nil walked)) are
walked_more start walked (edge ∷ more) x are marked begin =
    let one = walked_push start walked edge are
    (subst (λ y. is_marked start walked y ≡ true) (sym (begin edge (at_head edge more edge refl))) marked) in
    subst (λ es. AreWalked start es) (append_assoc walked (edge ∷ []) more)
    (walked_more start (walked ++ edge ∷ []) more x one (still_marked start walked (edge ∷ []) x marked)
    (λ e there. begin e (behind_head edge more e there)))

-- one more edge of the way, which is kept backwards
reversed_push : (way new : List Edge) (edge : Edge) → new ≡ way ++ edge ∷ [] → reverse new ≡ edge ∷ reverse way
reversed_push way new edge made = ap reverse made ∙ reverse-append way (edge ∷ [])

pub chain_grows : (way new : List Edge) (edge : Edge) (at goal : ℕ) → new ≡ way ++ edge ∷ [] → edge.after ≡ at
    → IsChain at (reverse way) goal → IsChain edge.before (reverse new) goal
chain_grows way new edge at goal made is chain =
    subst (λ es. IsChain edge.before es goal) (sym (reversed_push way new edge made))
    (refl, subst (λ a. IsChain a (reverse way) goal) (sym is) chain)

pub among_grows : (walked way new : List Edge) (edge : Edge) → new ≡ way ++ edge ∷ [] → Contains walked edge
    → All (Contains walked) (reverse way) → All (Contains walked) (reverse new)
among_grows walked way new edge made there all =
    All-same (Contains walked) (reverse new) (edge ∷ reverse way) (reversed_push way new edge made)
    (All-cons (Contains walked) edge (reverse way) there all)

-- a mark as the code reads it
pub mark_read : (start : ℕ) (walked read : List Edge) (x : ℕ) (answer b : Bool) → read ≡ walked
    → answer ≡ is_marked start read x → answer ≡ b → is_marked start walked x ≡ b
mark_read start walked read x answer b reads says is =
    sym (ap (λ es. is_marked start es x) reads) ∙ sym says ∙ is
