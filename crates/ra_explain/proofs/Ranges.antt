-- Lemmas on consecutive numbers.
use Rattle.std.proofs.Common.{◌≡◌, ℕ, zero, suc, ◌+◌, Bool, true, false, List, [], ◌∷◌, ◌++◌, filter, map, ap, sym, ◌∙◌, arith}
use Rattle.std.proofs.lemmas.Bool.{cond-true, cond-false}
use Rattle.std.specs.List.{range_with_len}
use Rattle.std.proofs.lemmas.List.{append-nil, map-append}
use Rattle.std.proofs.lemmas.List.Elements.{filter-append}

pub range_more : (a n j : ℕ) → a + n ≡ j → range_with_len a (suc n) ≡ range_with_len a n ++ j ∷ []
range_more a zero j is = ap (λ (k : ℕ). k ∷ []) (omega (arith, is))
range_more a (suc n) j is = ap (λ (ks : List ℕ). a ∷ ks) (range_more (a + 1) n j (omega (arith, is)))

-- one more number is tested
chosen_more : (test : ℕ → Bool) (n : ℕ)
    → filter test (range_with_len 0 (n + 1)) ≡ filter test (range_with_len 0 n) ++ filter test (n ∷ [])
chosen_more test n =
    let next : n + 1 ≡ suc n = omega arith in
    ap (λ (k : ℕ). filter test (range_with_len 0 k)) next ∙ ap (filter test) (range_more 0 n n (omega arith))
    ∙ filter-append test (range_with_len 0 n) (n ∷ [])

-- and passes the test
pub chosen_one : (test : ℕ → Bool) (n : ℕ) (found : List ℕ) → test n ≡ true → found ≡ filter test (range_with_len 0 n)
    → found ++ n ∷ [] ≡ filter test (range_with_len 0 (n + 1))
chosen_one test n found is so_far = ap (λ (ns : List ℕ). ns ++ n ∷ []) so_far
    ∙ ap (λ (ns : List ℕ). filter test (range_with_len 0 n) ++ ns) (sym (cond-true (test n) (n ∷ []) [] is))
    ∙ sym (chosen_more test n)

-- or does not pass it
pub chosen_none : (test : ℕ → Bool) (n : ℕ) (found : List ℕ) → test n ≡ false → found ≡ filter test (range_with_len 0 n)
    → found ≡ filter test (range_with_len 0 (n + 1))
chosen_none test n found is so_far = so_far ∙ sym (append-nil (filter test (range_with_len 0 n)))
    ∙ ap (λ (ns : List ℕ). filter test (range_with_len 0 n) ++ ns) (sym (cond-false (test n) (n ∷ []) [] is))
    ∙ sym (chosen_more test n)

-- one more number is mapped
pub map_next : {A : Type 0} (f : ℕ → A) (n : ℕ) (found : List A) (x : A) → x ≡ f n
    → found ≡ map f (range_with_len 0 n) → found ++ x ∷ [] ≡ map f (range_with_len 0 (n + 1))
map_next f n found x is so_far =
    let next : n + 1 ≡ suc n = omega arith in
    ap (λ ys. ys ++ x ∷ []) so_far ∙ ap (λ y. map f (range_with_len 0 n) ++ y ∷ []) is
    ∙ sym (map-append f (range_with_len 0 n) (n ∷ []))
    ∙ sym (ap (λ (k : ℕ). map f (range_with_len 0 k)) next ∙ ap (map f) (range_more 0 n n (omega arith)))
