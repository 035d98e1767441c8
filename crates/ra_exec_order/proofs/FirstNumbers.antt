-- Lemmas on the positions of consecutive numbers from 0.
use Rattle.std.proofs.Common.{◌≡◌, ℕ, zero, suc, ◌<◌, ◌≤◌, ◌++◌, ◌∷◌, [], length, get_or, Some, None, ap, ◌∙◌, inl, inr, arith, length-append}
use Rattle.std.specs.List.{slice_get}
use Rattle.std.proofs.Math.ListN.{get_or-append}
use Rattle.std.proofs.Math.Seq.{get_or-append_seam}
use Rattle.std.proofs.lemmas.Bool.{cases_lt}
use Rattle.std.proofs.lemmas.Option.{slice_get-get_or, slice_get_past}
use Rattle.ra_exec_order.specs.NamedOrderTheorems.{first_numbers}

pub length-first_numbers : (n : ℕ) → length (first_numbers n) ≡ n
length-first_numbers zero = omega arith
length-first_numbers (suc n) = omega (arith, length-append (first_numbers n) (n ∷ []), length-first_numbers n)

get_or-first_numbers : (n i : ℕ) → i < n → get_or (first_numbers n) i 0 ≡ i
get_or-first_numbers zero i below = absurd (omega arith)
get_or-first_numbers (suc n) i below = elim (cases_lt i n) [
  | inl before ↦ get_or-append (first_numbers n) (n ∷ []) 0 i (omega (arith, length-first_numbers n)) ∙ get_or-first_numbers n i before
  | inr last ↦
      let at : i ≡ length (first_numbers n) = omega (arith, length-first_numbers n) in
      let is : n ≡ i = omega arith in
      ap (λ k. get_or (first_numbers n ++ n ∷ []) k 0) at ∙ get_or-append_seam (first_numbers n) n [] 0 ∙ is
]

pub number_there : (n i : ℕ) → i < n → slice_get (first_numbers n) i ≡ Some i
number_there n i below = slice_get-get_or (first_numbers n) i 0 (omega (arith, length-first_numbers n)) ∙ ap Some (get_or-first_numbers n i below)

pub no_number_there : (n i : ℕ) → n ≤ i → slice_get (first_numbers n) i ≡ None
no_number_there n i past = slice_get_past (first_numbers n) i (omega (arith, length-first_numbers n))
