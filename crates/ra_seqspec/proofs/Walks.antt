-- Lemmas on what a walk along the links shows.
use Rattle.std.proofs.Common.{◌≡◌, ℕ, suc, ◌+◌, ◌-◌, ◌<◌, ◌≤◌, Bool, true, false, List, [], ◌∷◌, ◌++◌, length, map, filter, refl, sym, ap, ◌∙◌, subst, arith}
use Rattle.std.specs.Prelude.{◌↔◌, ◌==◌, IsTrue}
use Rattle.std.proofs.lemmas.List.{append_assoc, append-nil}
use Rattle.std.proofs.lemmas.Bool.{cond-true, cond-false, or_left, or_right, eq-eqb, eqb-true}
use Rattle.ra_labels.specs.Lists.{is_among, shown}
use Rattle.ra_seqspec.specs.declared.rga.Node.{Node}
use Rattle.ra_seqspec.specs.Rga.{node_at, along, slots_of, entry_at}

-- n slots from this one on
abbrev pub walk : List Node → ℕ → ℕ → List ℕ
walk nodes n slot = along (λ k. (node_at nodes k).next) n slot

-- what a read shows of them
abbrev pub shown_along : List Node → ℕ → ℕ → List ℕ
shown_along nodes n slot = shown (map (entry_at nodes) (walk nodes n slot))

-- the progress of a walk: the elements equal those shown exactly if the remaining ones of both are equal
pub record Walked (nodes : List Node) (first : ℕ) (elements left : List ℕ) (n slot : ℕ) : Type 0 where
  pub same : (elements ≡ shown_along nodes (length nodes) first) ↔ (left ≡ shown_along nodes n slot)
  pub there : (k : ℕ) → is_among k (walk nodes n slot) ≡ true → k < length nodes

pub walked_start : (nodes : List Node) (first : ℕ) (elements : List ℕ)
    → ((k : ℕ) → is_among k (slots_of first nodes) ≡ true → k < length nodes)
    → Walked nodes first elements elements (length nodes) first
walked_start nodes first elements there = record { same = ((λ is. is), (λ is. is)); there = there }

pub walked_below : (nodes : List Node) (first : ℕ) (elements left : List ℕ) (n slot : ℕ)
    → Walked nodes first elements left (suc n) slot → slot < length nodes
walked_below nodes first elements left n slot walked =
    walked.there slot (or_left (slot == slot) _ (eq-eqb slot slot refl))

later : (nodes : List Node) (first : ℕ) (elements left : List ℕ) (n slot : ℕ)
    → Walked nodes first elements left (suc n) slot → (k : ℕ)
    → is_among k (walk nodes n (node_at nodes slot).next) ≡ true → k < length nodes
later nodes first elements left n slot walked k among = walked.there k (or_right (k == slot) _ among)

shows_node : (nodes : List Node) (n slot : ℕ) → (node_at nodes slot).is_shown ≡ true
    → shown_along nodes (suc n) slot ≡ (node_at nodes slot).element ∷ shown_along nodes n (node_at nodes slot).next
shows_node nodes n slot is =
    let rest = map (entry_at nodes) (walk nodes n (node_at nodes slot).next) in
    ap (λ es. map (λ (e : ℕ × Bool). e.0) es)
    (cond-true (node_at nodes slot).is_shown (entry_at nodes slot ∷ filter (λ (e : ℕ × Bool). e.1) rest)
    (filter (λ (e : ℕ × Bool). e.1) rest) is)

hides_node : (nodes : List Node) (n slot : ℕ) → (node_at nodes slot).is_shown ≡ false
    → shown_along nodes (suc n) slot ≡ shown_along nodes n (node_at nodes slot).next
hides_node nodes n slot is =
    let rest = map (entry_at nodes) (walk nodes n (node_at nodes slot).next) in
    ap (λ es. map (λ (e : ℕ × Bool). e.0) es)
    (cond-false (node_at nodes slot).is_shown (entry_at nodes slot ∷ filter (λ (e : ℕ × Bool). e.1) rest)
    (filter (λ (e : ℕ × Bool). e.1) rest) is)

-- past a hidden node
pub walked_hidden : (nodes : List Node) (first : ℕ) (elements left : List ℕ) (n slot : ℕ)
    → Walked nodes first elements left (suc n) slot → (node_at nodes slot).is_shown ≡ false
    → Walked nodes first elements left n (node_at nodes slot).next
walked_hidden nodes first elements left n slot walked is = record {
  same = (
    (λ all. walked.same.0 all
        ∙ hides_node nodes n slot is),
    (λ rest. walked.same.1 (rest ∙ sym (hides_node nodes n slot is))),
  );
  there = later nodes first elements left n slot walked;
}

-- past a shown node whose element is the next one
pub walked_shown : (nodes : List Node) (first : ℕ) (elements left rest : List ℕ) (n slot : ℕ)
    → Walked nodes first elements left (suc n) slot → (node_at nodes slot).is_shown ≡ true
    → left ≡ (node_at nodes slot).element ∷ rest
    → Walked nodes first elements rest n (node_at nodes slot).next
walked_shown nodes first elements left rest n slot walked is begins = record {
  same = (
    (λ all. let both = sym begins ∙ walked.same.0 all ∙ shows_node nodes n slot is in cc both),
    (λ same. walked.same.1
        (begins ∙ ap (λ xs. (node_at nodes slot).element ∷ xs) same ∙ sym (shows_node nodes n slot is))),
  );
  there = later nodes first elements left n slot walked;
}

-- and if it is not, the elements differ
pub walked_none_left : (nodes : List Node) (first : ℕ) (elements left : List ℕ) (n slot : ℕ)
    → Walked nodes first elements left (suc n) slot → (node_at nodes slot).is_shown ≡ true → left ≡ []
    → elements ≡ shown_along nodes (length nodes) first → ⊥
walked_none_left nodes first elements left n slot walked is empty all = let both = sym empty ∙ walked.same.0 all
    ∙ shows_node nodes n slot is in cc both

pub walked_other : (nodes : List Node) (first : ℕ) (elements left rest : List ℕ) (x n slot : ℕ)
    → Walked nodes first elements left (suc n) slot → (node_at nodes slot).is_shown ≡ true → left ≡ x ∷ rest
    → (x ≡ (node_at nodes slot).element → ⊥) → elements ≡ shown_along nodes (length nodes) first → ⊥
walked_other nodes first elements left rest x n slot walked is begins differs all =
    let both : x ∷ rest ≡ (node_at nodes slot).element ∷ shown_along nodes n (node_at nodes slot).next = sym begins
    ∙ walked.same.0 all ∙ shows_node nodes n slot is in
    let same : x ≡ (node_at nodes slot).element = cc both in differs same

-- before the last step, there is a next slot
pub still : (nodes : List Node) (first : ℕ) (elements left : List ℕ) (step slot : ℕ) → step < length nodes
    → Walked nodes first elements left (length nodes - step) slot
    → Walked nodes first elements left (suc (length nodes - (step + 1))) slot
still nodes first elements left step slot below walked =
    let more : length nodes - step ≡ suc (length nodes - (step + 1)) = omega arith in
    subst (λ n. Walked nodes first elements left n slot) more walked

none_left : (left : List ℕ) → (length left == 0) ≡ true → left ≡ []
none_left [] is = refl
none_left (x ∷ xs) is = let none : suc (length xs) ≡ 0 = eqb-true (suc (length xs)) 0 is in absurd (omega (arith, none))

-- at the end, the elements are those shown exactly if none remains
pub walked_end : (nodes : List Node) (first : ℕ) (elements left : List ℕ) (step slot : ℕ) (r : Bool)
    → length nodes ≤ step → Walked nodes first elements left (length nodes - step) slot → r ≡ (length left == 0)
    → IsTrue r ↔ (elements ≡ shown_along nodes (length nodes) first)
walked_end nodes first elements left step slot r past walked is =
    let over : length nodes - step ≡ 0 = omega arith in
    let done = subst (λ n. Walked nodes first elements left n slot) over walked in (
      (λ holds. done.same.1 (none_left left (sym is ∙ holds))),
      (λ all. is
          ∙ ap (λ xs. length xs == 0) (done.same.0 all)),
    )

pub nothing_left : (left : List ℕ) → length left ≡ 0 → left ≡ []
nothing_left [] is = refl
nothing_left (x ∷ xs) is = absurd (omega arith)

-- ---- collecting the elements one by one

-- a shown element is collected
pub taken_shown : (nodes : List Node) (first : ℕ) (taken left : List ℕ) (n slot : ℕ)
    → ((rest : List ℕ) → Walked nodes first (taken ++ rest) rest (suc n) slot)
    → (node_at nodes slot).is_shown ≡ true
    → Walked nodes first ((taken ++ (node_at nodes slot).element ∷ []) ++ left) left n (node_at nodes slot).next
taken_shown nodes first taken left n slot walked is =
    let x = (node_at nodes slot).element in
    subst (λ elements. Walked nodes first elements left n (node_at nodes slot).next)
    (sym (append_assoc taken (x ∷ []) left))
    (walked_shown nodes first (taken ++ x ∷ left) (x ∷ left) left n slot (walked (x ∷ left)) is refl)

-- at the end, all shown elements are collected
pub taken_end : (nodes : List Node) (first : ℕ) (taken : List ℕ) (step slot : ℕ) → length nodes ≤ step
    → ((rest : List ℕ) → Walked nodes first (taken ++ rest) rest (length nodes - step) slot)
    → taken ≡ shown_along nodes (length nodes) first
taken_end nodes first taken step slot past walked =
    sym (append-nil taken) ∙ (walked_end nodes first (taken ++ []) [] step slot true past (walked []) refl).0 refl
