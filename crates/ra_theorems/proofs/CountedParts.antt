-- Lemmas on the number of increments and decrements among parts, which does not depend on their order.
use Rattle.std.proofs.Common.{◌≡◌, ℕ, ◌+◌, Bool, true, false, cond, List, [], ◌∷◌, filter, Option, Some, None, refl, sym, ap, ◌∙◌, arith}
use Rattle.std.specs.Prelude.{sum_by, IsPermutation}
use Rattle.std.specs.List.{cons_option}
use Rattle.std.proofs.lemmas.List.Sums.{sum_by-cons}
use Rattle.std.proofs.lemmas.List.Sorted.{sum_by-IsPermutation}
use Rattle.ra_labels.specs.declared.operation.Update.{Update}
use Rattle.ra_labels.specs.declared.operation.Update.TheVariants.{Inc, Dec}
use Rattle.ra_labels.specs.Rewriting.{Part, update_of, updates_of}
use Rattle.ra_theorems.specs.Counters.{increments_in, decrements_in}

abbrev pub ups : Option Update → ℕ
ups (Some Inc) = 1
ups _ = 0

abbrev pub downs : Option Update → ℕ
downs (Some Dec) = 1
downs _ = 0

ups_one : (o : Option Update) (us : List Update) → increments_in (cons_option o us) ≡ ups o + increments_in us
ups_one None us = omega arith
ups_one (Some Inc) us =
    let more : increments_in (Inc ∷ us) ≡ increments_in us + 1 = refl in
    omega (arith, more)
ups_one (Some _) us = omega arith

downs_one : (o : Option Update) (us : List Update) → decrements_in (cons_option o us) ≡ downs o + decrements_in us
downs_one None us = omega arith
downs_one (Some Dec) us =
    let more : decrements_in (Dec ∷ us) ≡ decrements_in us + 1 = refl in
    omega (arith, more)
downs_one (Some _) us = omega arith

abbrev pub ups_of : Part → ℕ
ups_of p = ups (update_of p.act)

abbrev pub downs_of : Part → ℕ
downs_of p = downs (update_of p.act)

pub ups_sum : (ps : List Part) → increments_in (updates_of ps) ≡ sum_by ups_of ps
ups_sum [] = refl
ups_sum (p ∷ ps) = ups_one (update_of p.act) (updates_of ps) ∙ ap (λ n. ups_of p + n) (ups_sum ps)
    ∙ sym (sum_by-cons ups_of p ps)

pub downs_sum : (ps : List Part) → decrements_in (updates_of ps) ≡ sum_by downs_of ps
downs_sum [] = refl
downs_sum (p ∷ ps) = downs_one (update_of p.act) (updates_of ps) ∙ ap (λ n. downs_of p + n) (downs_sum ps)
    ∙ sym (sum_by-cons downs_of p ps)

-- a sum over the parts that pass a test
sum_one : (f : Part → ℕ) (b : Bool) (p : Part) (ps : List Part)
    → sum_by f (cond b (p ∷ ps) ps) ≡ cond b (f p) 0 + sum_by f ps
sum_one f true p ps = sum_by-cons f p ps
sum_one f false p ps = omega arith

sum_filter : (f : Part → ℕ) (test : Part → Bool) (ps : List Part)
    → sum_by f (filter test ps) ≡ sum_by (λ p. cond (test p) (f p) 0) ps
sum_filter f test [] = refl
sum_filter f test (p ∷ ps) =
    sum_one f (test p) p (filter test ps) ∙ ap (λ n. cond (test p) (f p) 0 + n) (sum_filter f test ps)
    ∙ sym (sum_by-cons (λ q. cond (test q) (f q) 0) p ps)

pub sum_same : (f : Part → ℕ) (test : Part → Bool) (ps qs : List Part) → IsPermutation ps qs
    → sum_by f (filter test ps) ≡ sum_by f (filter test qs)
sum_same f test ps qs same =
    sum_filter f test ps ∙ sym (sum_by-IsPermutation (λ p. cond (test p) (f p) 0) ps qs same)
    ∙ sym (sum_filter f test qs)
