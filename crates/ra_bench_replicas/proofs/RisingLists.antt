-- Lemmas on rising lists with one more element.
use Rattle.std.proofs.Common.{◌≡◌, ℕ, suc, ◌<◌, true, List, [], ◌∷◌, ◌++◌, length, get_or, refl, ap}
use Rattle.std.specs.Prelude.{nat_lt}
use Rattle.std.specs.List.{list_all}
use Rattle.std.proofs.lemmas.Bool.{lt-ltb, ltb-true, and_parts, and_from}
use Rattle.ra_labels.specs.Lists.{rises}
use Rattle.ra_labels.proofs.RisingLists.{all_lower}

-- a rising list still rises after an element greater than its last one is appended
pub rises-last : (xs : List ℕ) (x : ℕ) → rises xs ≡ true → ((k : ℕ) → suc k ≡ length xs → get_or xs k 0 < x)
    → rises (xs ++ x ∷ []) ≡ true
rises-last [] x up above = refl
rises-last (w ∷ []) x up above =
    let less : w < x = above 0 refl in
    and_from (list_all (λ z. nat_lt w z) (x ∷ [])) (rises (x ∷ []))
    (and_from (nat_lt w x) true (lt-ltb w x less) refl) refl
rises-last (w ∷ y ∷ ys) x up above =
    let parts = and_parts (list_all (λ z. nat_lt w z) (y ∷ ys)) (rises (y ∷ ys)) up in
    let less : w < y = ltb-true w y (and_parts (nat_lt w y) (list_all (λ z. nat_lt w z) ys) parts.0).0 in
    let rest = rises-last (y ∷ ys) x parts.1 (λ k last. above (suc k) (ap suc last)) in
    let higher = and_parts (list_all (λ z. nat_lt y z) (ys ++ x ∷ [])) (rises (ys ++ x ∷ [])) rest in
    and_from (list_all (λ z. nat_lt w z) (y ∷ ys ++ x ∷ [])) (rises (y ∷ ys ++ x ∷ []))
    (and_from (nat_lt w y) (list_all (λ z. nat_lt w z) (ys ++ x ∷ [])) (lt-ltb w y less)
    (all_lower w y (ys ++ x ∷ []) less higher.0)) rest
