-- Lemmas on the operations at places of a log, listed one after another.
use Rattle.std.proofs.Common.{◌≡◌, ℕ, zero, suc, ◌<◌, ◌≤◌, ◌+◌, true, List, [], ◌∷◌, ◌++◌, Some, None, length, get_or, refl, sym, ap, subst, ◌∙◌, inl, inr, arith}
use Rattle.std.specs.Prelude.{is_some, option_and_then}
use Rattle.std.specs.List.{slice_get}
use Rattle.std.specs.Borrow.{Bor}
use Rattle.std.proofs.lemmas.Bool.{cases_eq, cases_lt, false≢true}
use Rattle.std.proofs.lemmas.Option.{slice_get-get_or, slice_get_past}
use Rattle.ra_labels.specs.declared.operation.Op.{Op}
use Rattle.ra_monitor.specs.Monitor.{MonitorEntry}
use Rattle.ra_reported.specs.Reported.{operation_at}
use Rattle.ra_any_order.specs.Situation.{operations_in}
use Rattle.ra_another_order.specs.Operations.{operation_there}

pub count_listed : (operations : List (Bor Op)) → length (operations_in operations) ≡ length operations
count_listed [] = refl
count_listed (op ∷ rest) = ap suc (count_listed rest)

pub listed_last : (operations : List (Bor Op)) (op : Bor Op)
    → slice_get (operations_in (operations ++ op ∷ [])) (length operations) ≡ Some op.now
listed_last [] op = refl
listed_last (first ∷ rest) op = listed_last rest op

pub listed_first : (operations : List (Bor Op)) (op : Bor Op) (n : ℕ) → n < length operations
    → slice_get (operations_in (operations ++ op ∷ [])) n ≡ slice_get (operations_in operations) n
listed_first [] op n within = absurd (omega (arith, within))
listed_first (first ∷ rest) op zero within = refl
listed_first (first ∷ rest) op (suc n) within = listed_first rest op n (omega (arith, within))

module _ (log : List MonitorEntry) (places : List ℕ) where
  pub operation_at_place : (i : ℕ) → i < length places
      → operation_at log places i ≡ operation_there log (get_or places i 0)
  operation_at_place i within = ap (option_and_then (operation_there log)) (slice_get-get_or places i 0 within)

  pub no_operation : (i : ℕ) → i < length places → is_some (operation_at log places i) ≡ true
      → operation_there log (get_or places i 0) ≡ None → ⊥
  no_operation i within is none =
      false≢true (sym (ap is_some (operation_at_place i within ∙ none)) ∙ is)

  -- holds if the first operations are those at the places
  abbrev pub AreFirst : List (Bor Op) → ℕ → Type 0
  AreFirst operations count =
      (n : ℕ) → n < count → slice_get (operations_in operations) n ≡ operation_at log places n

  pub first_more : (operations : List (Bor Op)) (op : Bor Op) (count : ℕ) → length operations ≡ count
      → count < length places → operation_there log (get_or places count 0) ≡ Some op.now
      → AreFirst operations count → AreFirst (operations ++ op ∷ []) (count + 1)
  first_more operations op count length_is within there are n below = elim (cases_eq n count) [
    | inl is ↦
        ap (slice_get (operations_in (operations ++ op ∷ []))) (is ∙ sym length_is)
        ∙ listed_last operations op
        ∙ sym (ap (operation_at log places) is ∙ operation_at_place count within ∙ there)
    | inr other ↦
        listed_first operations op n (omega (arith, below, other, length_is))
        ∙ are n (omega (arith, below, other))
  ]

  pub first_all : (operations : List (Bor Op)) (count : ℕ) → length operations ≡ count → length places ≤ count
      → AreFirst operations count → (n : ℕ) → slice_get (operations_in operations) n ≡ operation_at log places n
  first_all operations count length_is end are n = elim (cases_lt n count) [
    | inl below ↦ are n below
    | inr past ↦
        slice_get_past (operations_in operations) n
        (subst (λ k. k ≤ n) (sym (count_listed operations ∙ length_is)) past)
        ∙ sym (ap (option_and_then (operation_there log)) (slice_get_past places n (omega (arith, past, end))))
  ]
