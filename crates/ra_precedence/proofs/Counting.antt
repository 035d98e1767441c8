-- Counting the labels of all conditions.
use Rattle.std.proofs.Common.{◌≡◌, ℕ, ◌+◌, ◌<◌, List, [], ◌∷◌, ◌++◌, length, get_or, set, take, refl, sym, ap, ◌∙◌, subst, inl, inr, arith}
use Rattle.std.proofs.lemmas.Bool.{cases_eq}
use Rattle.std.proofs.lemmas.List.{get_or-set_same, get_or-set_other, take_more}
use Rattle.ra_precedence.specs.Conditions.{Condition, no_condition, condition_at}
use Rattle.ra_precedence.specs.Placing.{times, open_count}
use Rattle.ra_precedence.proofs.Times.{one_if-is, one_if-not, times_more}

pub counted_more : (labels numbers now : List ℕ) (i more : ℕ) → i < length labels → get_or labels i 0 < length now
    → ((b : ℕ) → get_or now b 0 ≡ get_or numbers b 0 + times b (take i labels)) → more ≡ get_or now (get_or labels i 0) 0 + 1
    → (b : ℕ) → get_or (set now (get_or labels i 0) more) b 0 ≡ get_or numbers b 0 + times b (take (i + 1) labels)
counted_more labels numbers now i more within low each is b =
    let label = get_or labels i 0 in
    elim (cases_eq b label) [
      | inl here ↦
          subst (λ b. get_or (set now label more) b 0 ≡ get_or numbers b 0 + times b (take (i + 1) labels)) (sym here)
          (let was = each label in
          omega (arith, is, was, get_or-set_same now label more 0 low, times_more label labels i within, one_if-is label label refl))
      | inr other ↦
          let was = each b in
          omega (
            arith,
            was,
            get_or-set_other now label b more 0 other,
            times_more b labels i within,
            one_if-not b label (λ same. other (sym same)),
          )
    ]

pub open_push : (conditions : List Condition) (condition : Condition) (b : ℕ)
    → open_count (conditions ++ condition ∷ []) [] b ≡ open_count conditions [] b + times b condition.before
open_push [] condition b = omega arith
open_push (first ∷ conditions) condition b = let rest = open_push conditions condition b in omega (arith, rest)

pub open_more : (conditions : List Condition) (k b : ℕ) → k < length conditions
    → open_count (take (k + 1) conditions) [] b
    ≡ open_count (take k conditions) [] b + times b (condition_at conditions k).before
open_more conditions k b within =
    ap (λ xs. open_count xs [] b) (take_more conditions k no_condition within)
    ∙ open_push (take k conditions) (condition_at conditions k) b
