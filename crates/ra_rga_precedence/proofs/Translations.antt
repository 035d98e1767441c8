-- Lemmas on what the list of operations says of the labels of the records.
use Rattle.std.proofs.Common.{◌≡◌, ℕ, ◌<◌, List, Option, Some, None, refl, sym, ap, subst, ◌∙◌, inl, inr}
use Rattle.std.specs.Prelude.{◌⊎◌, ◌==◌, slice_get, option_map, option_and_then}
use Rattle.std.proofs.lemmas.Bool.{cases_eq, eq-eqb, eqb-true, ne_eqb, cond-true, cond-false}
use Rattle.std.proofs.lemmas.Option.{none-some, same_Some}
use Rattle.ra_labels.specs.declared.operation.Op.{Op}
use Rattle.ra_labels.specs.declared.operation.Op.TheVariants as op
use Rattle.ra_labels.specs.declared.label.Label.{Label}
use Rattle.ra_labels.specs.Records.{Records, label_count, labels_of, label_at}
use Rattle.ra_theorems.proofs.TheoremIndex.{label_at_each_number-found}
use Rattle.ra_some_order.proofs.LabelSequences.{label_below}
use Rattle.ra_some_order.proofs.UpdateOrders.{found_there}
use Rattle.ra_rga_conditions.specs.Precedence.{HasOperationAt, Inserts, Needs}
use Rattle.ra_rga_precedence.specs.Operations.{element_inserted, element_needed, inserted_at, needed_at}
use Rattle.ra_rga_precedence.proofs.ConditionLists.{AreListed}

-- ---- operations that insert or need an element
insertion : (o : Option Op) (x : ℕ) → option_and_then element_inserted o ≡ Some x
    → (a : ℕ) × (o ≡ Some (op.After a x))
insertion None x is = absurd (none-some x is)
insertion (Some operation) x is = one operation is
  where
    one : (operation : Op) → element_inserted operation ≡ Some x
        → (a : ℕ) × (◌≡◌ {A = Option Op} (Some operation) (Some (op.After a x)))
    one (op.After a y) is = (a, ap (λ z. Some (op.After a z)) (same_Some y x is))
    one _ is = absurd (none-some x is)

-- an operation that inserts behind an element other than the root, or that removes one
abbrev NeedsIt : Option Op → ℕ → Type 0
NeedsIt o x = ((y : ℕ) × (o ≡ Some (op.After x y)) × ¬ (x ≡ 0)) ⊎ (o ≡ Some (op.RgaRemove x))

needing : (o : Option Op) (x : ℕ) → option_and_then element_needed o ≡ Some x → NeedsIt o x
needing None x is = absurd (none-some x is)
needing (Some operation) x is = one operation is
  where
    one : (operation : Op) → element_needed operation ≡ Some x → NeedsIt (Some operation) x
    one (op.After a y) is = elim (cases_eq a 0) [
      | inl root ↦ absurd (none-some x (sym (cond-true (a == 0) None (Some a) (eq-eqb a 0 root)) ∙ is))
      | inr apart ↦
          let same : a ≡ x = same_Some a x (sym (cond-false (a == 0) None (Some a) (ne_eqb a 0 apart)) ∙ is) in
          inl (y, ap (λ z. Some (op.After z y)) same, subst (λ z. ¬ (z ≡ 0)) same apart)
    ]
    one (op.RgaRemove y) is = inr (ap (λ z. Some (op.RgaRemove z)) (same_Some y x is))
    one _ is = absurd (none-some x is)

module _ (records : Records) (operations : List Op) (listed : AreListed records operations) where
  pub listed_at : (n : ℕ) (operation : Op) → HasOperationAt records n operation
      → slice_get operations n ≡ Some operation
  listed_at n operation (label, there, numbered, is) =
      listed n ∙ ap (λ k. option_map (λ (l : Label). l.op) (label_at records k)) (sym numbered)
      ∙ ap (option_map (λ (l : Label). l.op)) (label_at_each_number-found records label there) ∙ ap Some is

  pub exists_at : (n : ℕ) (operation : Op) → HasOperationAt records n operation → n < label_count records
  exists_at n operation (label, there, numbered, is) =
      subst (λ k. k < label_count records) numbered (label_below records label there)

  pub at_listed : (n : ℕ) (operation : Op) → slice_get operations n ≡ Some operation
      → HasOperationAt records n operation
  at_listed n operation is = from_label (label_at records n) refl (sym (listed n) ∙ is)
    where
      from_label : (o : Option Label) → label_at records n ≡ o
          → option_map (λ (l : Label). l.op) o ≡ Some operation → HasOperationAt records n operation
      from_label None at none = absurd (none-some operation none)
      from_label (Some label) at its =
          let (there, numbered) = found_there (λ (l : Label). l.number == n) (labels_of records) label at in
          (label, there, eqb-true label.number n numbered, same_Some label.op operation its)

  pub inserts_listed : (n x : ℕ) → Inserts records n x → inserted_at operations n ≡ Some x
  inserts_listed n x (a, has) = ap (option_and_then element_inserted) (listed_at n (op.After a x) has)

  pub inserts_below : (n x : ℕ) → Inserts records n x → n < label_count records
  inserts_below n x (a, has) = exists_at n (op.After a x) has

  pub listed_inserts : (n x : ℕ) → inserted_at operations n ≡ Some x → Inserts records n x
  listed_inserts n x is =
      let (a, at) = insertion (slice_get operations n) x is in (a, at_listed n (op.After a x) at)

  pub removes_listed : (n x : ℕ) → HasOperationAt records n (op.RgaRemove x) → needed_at operations n ≡ Some x
  removes_listed n x has = ap (option_and_then element_needed) (listed_at n (op.RgaRemove x) has)

  pub needs_listed : (n x : ℕ) → Needs records n x → ¬ (x ≡ 0) → needed_at operations n ≡ Some x
  needs_listed n x (inl (y, has)) apart =
      ap (option_and_then element_needed) (listed_at n (op.After x y) has)
      ∙ cond-false (x == 0) None (Some x) (ne_eqb x 0 apart)
  needs_listed n x (inr has) apart = removes_listed n x has

  pub needs_below : (n x : ℕ) → Needs records n x → n < label_count records
  needs_below n x (inl (y, has)) = exists_at n (op.After x y) has
  needs_below n x (inr has) = exists_at n (op.RgaRemove x) has

  -- what is needed is no root, or is removed
  pub listed_needs : (n x : ℕ) → needed_at operations n ≡ Some x
      → Needs records n x × ((¬ (x ≡ 0)) ⊎ HasOperationAt records n (op.RgaRemove x))
  listed_needs n x is = elim (needing (slice_get operations n) x is) [
    | inl behind ↦ (inl (behind.0, at_listed n (op.After x behind.0) behind.1), inl behind.2)
    | inr removes ↦ let has = at_listed n (op.RgaRemove x) removes in (inr has, inr has)
  ]
