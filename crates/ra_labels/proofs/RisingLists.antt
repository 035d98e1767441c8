-- Lemmas on strictly rising lists.
use Rattle.std.proofs.Common.{◌≡◌, ℕ, zero, suc, ◌+◌, ◌<◌, Bool, true, false, List, [], ◌∷◌, length, get_or, refl, sym, ◌∙◌, subst, arith, add-one}
use Rattle.std.specs.Prelude.{nat_lt}
use Rattle.std.specs.List.{list_all, IsAllAdjacentAnswer}
use Rattle.std.proofs.lemmas.Bool.{false≢true, lt-ltb, ltb-true, and_parts, and_from, false_from_ne_true}
use Rattle.ra_labels.specs.Lists.{rises}

-- in a rising list each element is less than those behind it
above : (x : ℕ) (xs : List ℕ) → list_all (λ y. nat_lt x y) xs ≡ true → (k : ℕ) → k < length xs → x < get_or xs k 0
above x [] all k below = absurd (omega arith)
above x (y ∷ ys) all zero below = ltb-true x y (and_parts (nat_lt x y) (list_all (λ z. nat_lt x z) ys) all).0
above x (y ∷ ys) all (suc k) below = above x ys (and_parts (nat_lt x y) (list_all (λ z. nat_lt x z) ys) all).1 k (omega arith)

pub rises-index : (xs : List ℕ) → rises xs ≡ true → (i j : ℕ) → i < j → j < length xs → get_or xs i 0 < get_or xs j 0
rises-index [] up i j less below = absurd (omega arith)
rises-index (x ∷ xs) up zero zero less below = absurd (omega arith)
rises-index (x ∷ xs) up zero (suc j) less below = above x xs (and_parts (list_all (λ y. nat_lt x y) xs) (rises xs) up).0 j (omega arith)
rises-index (x ∷ xs) up (suc i) zero less below = absurd (omega arith)
rises-index (x ∷ xs) up (suc i) (suc j) less below = rises-index xs (and_parts (list_all (λ y. nat_lt x y) xs) (rises xs) up).1 i j (omega arith) (omega arith)

-- the order is transitive along a list: what is less than `y` is less than all that `y` is less than
pub all_lower : (x y : ℕ) (ys : List ℕ) → x < y → list_all (λ z. nat_lt y z) ys ≡ true → list_all (λ z. nat_lt x z) ys ≡ true
all_lower x y [] less all = refl
all_lower x y (z ∷ zs) less all =
    let parts = and_parts (nat_lt y z) (list_all (λ w. nat_lt y w) zs) all in
    and_from (nat_lt x z) (list_all (λ w. nat_lt x w) zs) (lt-ltb x z (omega (arith, less, ltb-true y z parts.0))) (all_lower x y zs less parts.1)

-- a list rises if each element is less than the next
pub rises-steps : (xs : List ℕ) → ((k : ℕ) → suc k < length xs → get_or xs k 0 < get_or xs (suc k) 0) → rises xs ≡ true
rises-steps [] steps = refl
rises-steps (x ∷ []) steps = refl
rises-steps (x ∷ y ∷ ys) steps =
    let first : x < y = steps 0 (omega arith) in
    let rest = rises-steps (y ∷ ys) (λ k below. steps (suc k) (omega arith)) in
    let lower = and_parts (list_all (λ z. nat_lt y z) ys) (rises ys) rest in
    and_from (list_all (λ z. nat_lt x z) (y ∷ ys)) (rises (y ∷ ys))
    (and_from (nat_lt x y) (list_all (λ z. nat_lt x z) ys) (lt-ltb x y first) (all_lower x y ys first lower.0)) rest

-- the answer of `is_sorted_by` is that of `rises`
pub rises_answered : (xs : List ℕ) (r : Bool) → IsAllAdjacentAnswer (λ x y b. b ≡ nat_lt x y) xs r → r ≡ rises xs
rises_answered xs true answer = sym (rises-steps xs (λ k below.
    let next = answer k 0 (omega arith) in
    ltb-true (get_or xs k 0) (get_or xs (suc k) 0) (sym (subst (λ j. true ≡ nat_lt (get_or xs k 0) (get_or xs j 0)) (add-one k) next))))
rises_answered xs false answer = sym (false_from_ne_true (rises xs) (λ up.
    let less = rises-index xs up answer.0 (answer.0 + 1) (omega arith) answer.1 in
    false≢true (answer.2 0 ∙ lt-ltb (get_or xs answer.0 0) (get_or xs (answer.0 + 1) 0) less)))
