-- Lemmas on ranges in an order, and on lists that a test keeps or finds something in.
use Rattle.std.proofs.Common.{◌≡◌, ℕ, zero, suc, ◌+◌, ◌<◌, Bool, true, false, List, [], ◌∷◌, filter, cond, Some, refl, sym, ap, ◌∙◌, inl, inr, arith}
use Rattle.std.specs.Prelude.{not, Contains}
use Rattle.std.specs.List.{list_all, find, range_with_len}
use Rattle.std.proofs.lemmas.Bool.{false≢true, cases_Bool, cond-true, cond-false, and_from, not_from_false}
use Rattle.ra_labels.specs.Linearization.{extends}
use Rattle.ra_labels.proofs.InLists.{list_all-from_contains}
use Rattle.ra_labels.proofs.Members.{head_or_behind, at_head, behind_head, none_there}
use Rattle.ra_labels.proofs.Ranges.{range_within}

-- a range extends an order in which no number precedes a smaller one
pub range_extends : (precedes : ℕ → ℕ → Bool) → ((p q : ℕ) → p < q → precedes q p ≡ false) → (a n : ℕ)
    → extends precedes (range_with_len a n) ≡ true
range_extends precedes apart a zero = refl
range_extends precedes apart a (suc n) =
    and_from (list_all (λ q. not (precedes q a)) (range_with_len (a + 1) n))
    (extends precedes (range_with_len (a + 1) n))
    (list_all-from_contains (λ q. not (precedes q a)) (range_with_len (a + 1) n) (λ q there.
    not_from_false (precedes q a) (apart a q (omega (arith, (range_within (a + 1) n q there).0)))))
    (range_extends precedes apart (a + 1) n)

-- tests that agree keep the same elements
pub filter_same : (p q : ℕ → Bool) (xs : List ℕ) → ((x : ℕ) → p x ≡ q x) → filter p xs ≡ filter q xs
filter_same p q [] same = refl
filter_same p q (x ∷ xs) same =
    ap (λ b. cond b (x ∷ filter p xs) (filter p xs)) (same x)
    ∙ ap (λ ys. cond (q x) (x ∷ ys) ys) (filter_same p q xs same)

-- if an element passes, `find` returns one that passes
pub found : {A : Type 0} (p : A → Bool) (xs : List A) (y : A) → Contains xs y → p y ≡ true
    → (x : A) × (find p xs ≡ Some x) × Contains xs x × (p x ≡ true)
found p [] y there passes = absurd (none_there y there)
found p (x ∷ xs) y there passes = elim (cases_Bool (p x)) [
  | inl here ↦ (x, cond-true (p x) (Some x) (find p xs) here, at_head x xs x refl, here)
  | inr drops ↦ elim (head_or_behind x xs y there) [
    | inl is ↦ absurd (false≢true (sym drops ∙ ap p is ∙ passes))
    | inr further ↦
        let (z, is, has, good) = found p xs y further passes in
        (z, cond-false (p x) (Some x) (find p xs) drops ∙ is, behind_head x xs z has, good)
  ]
]
