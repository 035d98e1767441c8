-- Lemmas on which label inserts each element, label by label.
use Rattle.std.proofs.Common.{◌≡◌, ℕ, ◌+◌, cond, List, Option, Some, None, refl, sym, ap, ◌∙◌, subst, inl, inr, arith}
use Rattle.std.specs.Prelude.{◌==◌}
use Rattle.std.proofs.lemmas.Bool.{cases_eq, eq-eqb, ne_eqb, cond-true, cond-false}
use Rattle.std.proofs.lemmas.Option.{none-some, same_Some}
use Rattle.ra_labels.specs.declared.operation.Op.{Op}
use Rattle.ra_rga_precedence.specs.Operations.{inserted_at}
use Rattle.ra_rga_precedence.specs.Inserting.{AreInserters}

-- a label that inserts an element that none before it does
pub one_more : (operations : List Op) (n x : ℕ) (old new : ℕ → Option ℕ) → AreInserters operations n old
    → inserted_at operations n ≡ Some x → ¬ (x ≡ 0) → old x ≡ None
    → ((q : ℕ) → new q ≡ cond (x == q) (Some n) (old q)) → AreInserters operations (n + 1) new
one_more operations n x old new are inserts apart none updates =
    let here : new x ≡ Some n = updates x ∙ cond-true (x == x) (Some n) (old x) (eq-eqb x x refl) in
    let others = λ (q : ℕ) (differs : ¬ (x ≡ q)).
    updates q ∙ cond-false (x == q) (Some n) (old q) (ne_eqb x q differs) in
    record {
      found =
          λ q m is. elim (cases_eq x q) [
            | inl same ↦
                let this : n ≡ m = same_Some n m (sym here ∙ ap new same ∙ is) in (
                  omega (arith, this),
                  subst (λ k. inserted_at operations k ≡ Some q) this (inserts ∙ ap Some same),
                )
            | inr differs ↦
                let (below, its) = are.found q m (sym (others q differs) ∙ is) in
                (omega (arith, below), its)
          ];
      each =
          λ m q below its. elim (cases_eq m n) [
            | inl same ↦
                let this : x ≡ q = same_Some x q (sym inserts ∙ ap (inserted_at operations) (sym same) ∙ its) in (
                  ap new (sym this) ∙ here ∙ ap Some (sym same),
                  subst (λ y. ¬ (y ≡ 0)) this apart,
                )
            | inr older ↦
                let (is, not_root) = are.each m q (omega (arith, below, older)) its in (
                  others q (λ same. none-some m (sym none ∙ ap old same ∙ is)) ∙ is,
                  not_root,
                )
          ];
    }

-- a label that inserts nothing
pub no_more : (operations : List Op) (n : ℕ) (inserter : ℕ → Option ℕ) → AreInserters operations n inserter
    → inserted_at operations n ≡ None → AreInserters operations (n + 1) inserter
no_more operations n inserter are nothing = record {
  found = λ x m is. let (below, its) = are.found x m is in (omega (arith, below), its);
  each =
      λ m x below its. elim (cases_eq m n) [
        | inl same ↦ absurd (none-some x (sym nothing ∙ ap (inserted_at operations) (sym same) ∙ its))
        | inr older ↦ are.each m x (omega (arith, below, older)) its
      ];
}
