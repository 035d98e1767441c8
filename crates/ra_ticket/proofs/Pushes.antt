-- Lemmas on lists with one more element at the end.
use Rattle.std.proofs.Common.{◌≡◌, ℕ, ◌+◌, List, [], ◌∷◌, ◌++◌, map, sym, ap, ◌∙◌, arith}
use mathlib.Core.List.{map-append}
use Rattle.std.specs.List.{range_with_len}
use Rattle.std.proofs.lemmas.List.{map-id}
use Rattle.std.proofs.lemmas.List.FromFn.{map-range_with_len_more}

-- one more number
more : (n : ℕ) → range_with_len 0 n ++ n ∷ [] ≡ range_with_len 0 (n + 1)
more n = ap (λ (ns : List ℕ). ns ++ n ∷ []) (sym (map-id (range_with_len 0 n)))
    ∙ (sym (map-range_with_len_more (λ (k : ℕ). k) 0 n n (omega arith)) ∙ map-id (range_with_len 0 (n + 1)))

-- one more element of a list that is numbered from 0
pub numbered_push : {X : Type 0} (number : X → ℕ) (xs : List X) (x : X) (n : ℕ) → map number xs ≡ range_with_len 0 n
    → number x ≡ n → map number (xs ++ x ∷ []) ≡ range_with_len 0 (n + 1)
numbered_push number xs x n before here = map-append number xs (x ∷ [])
    ∙ (ap (λ (ns : List ℕ). ns ++ number x ∷ []) before ∙ (ap (λ (k : ℕ). range_with_len 0 n ++ k ∷ []) here ∙ more n))
