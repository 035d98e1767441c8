-- A list of `false` as long as the conditions: none of them is met.
use Rattle.std.proofs.Common.{◌≡◌, ℕ, ◌-◌, Bool, false, List, [], ◌++◌, get_or, take, replicate, ap, ◌∙◌, inl, inr, arith}
use Rattle.std.proofs.lemmas.Bool.{cases_lt}
use Rattle.std.proofs.lemmas.List.{length-replicate, get_or-replicate, get_or_past, take_all}

-- an empty list that was made longer
pub made_long : (n m : ℕ) (old items : List Bool) → old ≡ [] → m ≡ 0 → items ≡ take n old ++ replicate (n - m) false
    → items ≡ replicate n false
made_long n m old items none zero is =
    is ∙ ap (λ xs. take n xs ++ replicate (n - m) false) none
    ∙ ap (λ xs. xs ++ replicate (n - m) false) (take_all n [] (omega arith))
    ∙ ap (λ k. replicate k false) (omega (arith, zero))

pub all_unmet : (n i : ℕ) → get_or (replicate n false) i false ≡ false
all_unmet n i = elim (cases_lt i n) [
  | inl low ↦ get_or-replicate n i false false low
  | inr high ↦ get_or_past (replicate n false) i false (omega (arith, high, length-replicate n false))
]
