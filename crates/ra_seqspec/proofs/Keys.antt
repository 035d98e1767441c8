-- Lemmas on removing a key from sorted keys, for any order.
use Rattle.std.proofs.Common.{◌≡◌, ℕ, Bool, true, List, filter, refl, sym, ap, ◌∙◌, [], ◌∷◌, inl, inr, Ordering}
use Rattle.std.specs.Prelude.{◌==◌, not}
use Rattle.std.specs.List.Sorted.{IsStrictlySortedBy}
use Rattle.std.specs.Ordering.{is_eq, nat_cmp}
use Rattle.std.specs.BTreeMap.{is_at}
use Rattle.std.specs.Set.{remove_key}
use Rattle.std.specs.Cmp.{IsTotalOrder, Equal-is}
use Rattle.std.specs.List.{AllByRecursion}
use Rattle.std.specs.declared.cmp.Ordering.TheVariants.{Less, Equal}
use Rattle.std.proofs.lemmas.Cmp.{nat_cmp_total}
use Rattle.std.proofs.lemmas.List.Elements.{filter_agree}
use Rattle.std.proofs.lemmas.Bool.{cases_Bool, cond-true, cond-false, not_from_true, not_from_false}
use Rattle.ra_labels.proofs.Comparisons.{is_at-eqb}

pub filter_none_left : {K : Type 0} (p : K → Bool) (ks : List K) → AllByRecursion (λ k. p k ≡ true) ks
    → filter p ks ≡ ks
filter_none_left p [] all = refl
filter_none_left p (k ∷ ks) all = cond-true (p k) (k ∷ filter p ks) (filter p ks) all.0
    ∙ ap (λ zs. k ∷ zs) (filter_none_left p ks all.1)

-- keys greater than an equal key are different from it
above_stay : {K : Type 0} {cmp : K → K → Ordering} → IsTotalOrder cmp → (k head : K) (ks : List K) → cmp k head ≡ Equal
    → AllByRecursion (λ y. cmp head y ≡ Less) ks → AllByRecursion (λ y. not (is_at (cmp k) y) ≡ true) ks
above_stay order k head [] same all = all
above_stay order k head (y ∷ ys) same all =
    (ap (λ o. not (is_eq o)) (order.congr k head y same ∙ all.0), above_stay order k head ys same all.1)

-- removing a key from sorted keys filters it out
pub removed : {K : Type 0} {cmp : K → K → Ordering} → IsTotalOrder cmp → (k : K) (ks : List K)
    → IsStrictlySortedBy cmp ks → remove_key (is_at (cmp k)) ks ≡ filter (λ y. not (is_at (cmp k) y)) ks
unfolding IsStrictlySortedBy
removed order k [] ordered = refl
removed {K} {cmp} order k (y ∷ ys) ordered = elim (cases_Bool (is_at (cmp k) y)) [
  | inl here ↦
      cond-true (is_at (cmp k) y) ys (y ∷ remove_key (is_at (cmp k)) ys) here
      ∙ sym (filter_none_left (λ z. not (is_at (cmp k) z)) ys
      (above_stay order k y ys ((Equal-is (cmp k y)).0 here) ordered.0))
      ∙ sym (cond-false (not (is_at (cmp k) y)) (y ∷ filter (λ z. not (is_at (cmp k) z)) ys)
      (filter (λ z. not (is_at (cmp k) z)) ys) (not_from_true (is_at (cmp k) y) here))
  | inr other ↦
      cond-false (is_at (cmp k) y) ys (y ∷ remove_key (is_at (cmp k)) ys) other
      ∙ ap (λ zs. y ∷ zs) (removed order k ys ordered.1)
      ∙ sym (cond-true (not (is_at (cmp k) y)) (y ∷ filter (λ z. not (is_at (cmp k) z)) ys)
      (filter (λ z. not (is_at (cmp k) z)) ys) (not_from_false (is_at (cmp k) y) other))
]

-- the same for numbers
pub taken_out : (x : ℕ) (ys : List ℕ) → IsStrictlySortedBy nat_cmp ys
    → remove_key (is_at (nat_cmp x)) ys ≡ filter (λ y. not (x == y)) ys
taken_out x ys ordered = removed nat_cmp_total x ys ordered
    ∙ filter_agree (λ y. not (is_at (nat_cmp x) y)) (λ y. not (x == y)) (λ y. ap not (is_at-eqb x y)) ys
