-- Lemmas on the numbers of elements after one more element is known.
use Rattle.std.proofs.Common.{◌≡◌, ℕ, ◌+◌, cond, Option, Some, None, ap, ◌∙◌}
use Rattle.std.specs.Prelude.{◌==◌, is_some}
use Rattle.ra_witness.specs.ElementNumbers.{number_with, count_with}

-- the new numbers, given the earlier ones
pub numbers_kept : (before old now : ℕ → Option ℕ) (e : Option ℕ) (n m : ℕ)
    → ((x : ℕ) → now x ≡ number_with before e n x) → ((x : ℕ) → before x ≡ old x) → n ≡ m
    → (x : ℕ) → now x ≡ number_with old e m x
numbers_kept before old now None n m says same is x = says x ∙ same x
numbers_kept before old now (Some y) n m says same is x =
    says x
    ∙ ap (λ p. cond (y == x) (Some n) p) (same x)
    ∙ ap (λ i. cond (y == x) (Some i) (old x)) is

-- and their count
pub count_kept : (before old : ℕ → Option ℕ) (e : Option ℕ) (now count all : ℕ) → now ≡ count_with before count e
    → ((x : ℕ) → before x ≡ old x) → count ≡ all → now ≡ count_with old all e
count_kept before old None now count all says same is = says ∙ is
count_kept before old (Some y) now count all says same is =
    says
    ∙ ap (λ p. cond (is_some p) count (count + 1)) (same y)
    ∙ ap (λ c. cond (is_some (old y)) c (c + 1)) is
