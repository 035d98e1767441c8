-- Lemmas on lists that grow: their labels are below a bound, and insert elements.
use Rattle.std.proofs.Common.{◌≡◌, ℕ, ◌+◌, ◌<◌, List, ◌∷◌, [], ◌++◌, Some, length, get_or, sym, ap, subst, ◌∙◌, inl, inr, arith}
use Rattle.std.specs.Prelude.{Contains}
use Rattle.std.proofs.lemmas.Bool.{cases_eq}
use Rattle.std.proofs.lemmas.List.{get_or_append_left, get_or_push, length-append}
use Rattle.std.proofs.lemmas.List.Elements.{Contains-push_cases}
use Rattle.ra_labels.specs.declared.operation.Op.{Op}
use Rattle.ra_rga_precedence.specs.Operations.{inserted_at}

-- one more label below a bound
pub low_more : (labels : List ℕ) (n bound : ℕ) → ((m : ℕ) → Contains labels m → m < bound) → n < bound
    → (m : ℕ) → Contains (labels ++ n ∷ []) m → m < bound
low_more labels n bound low new m there = elim (Contains-push_cases labels n m there) [
  | inl older ↦ low m older
  | inr is ↦ subst (λ k. k < bound) is new
]

-- holds if these are the elements that the first labels insert
pub record AreFirstElements (operations : List Op) (labels : List ℕ) (count : ℕ) (elements : List ℕ) : Type 0 where
  pub len : length elements ≡ count
  pub each : (i : ℕ) → i < count → inserted_at operations (get_or labels i 0) ≡ Some (get_or elements i 0)

pub one_more_element : (operations : List Op) (labels : List ℕ) (count : ℕ) (elements : List ℕ) (x : ℕ)
    → AreFirstElements operations labels count elements → inserted_at operations (get_or labels count 0) ≡ Some x
    → AreFirstElements operations labels (count + 1) (elements ++ x ∷ [])
one_more_element operations labels count elements x are is = record {
  len = length-append elements (x ∷ []) ∙ ap (λ k. k + 1) are.len;
  each =
      λ i below. elim (cases_eq i count) [
        | inl same ↦
            subst (λ k. inserted_at operations (get_or labels k 0) ≡ Some (get_or (elements ++ x ∷ []) k 0)) (sym same)
            (is ∙ ap Some (sym (get_or_push elements x 0 count are.len)))
        | inr other ↦
            let len = are.len in
            are.each i (omega (arith, below, other))
            ∙ ap Some (sym (get_or_append_left elements (x ∷ []) 0 i (omega (arith, below, other, len))))
      ];
}
