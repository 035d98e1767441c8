-- Lemmas on what the conditions of all labels lead to: an order that explains the records, or that no sequence does.
use Rattle.std.proofs.Common.{◌≡◌, ℕ, ◌+◌, ◌<◌, true, List, [], ◌∷◌, ◌++◌, Option, Some, None, refl, sym, ap, ◌∙◌, subst, inl, inr, arith}
use Rattle.std.specs.Prelude.{◌==◌, slice_get, option_map, Contains}
use Rattle.std.proofs.lemmas.Bool.{eqb-true}
use Rattle.ra_labels.specs.declared.kind.Kind.{Kind}
use Rattle.ra_labels.specs.declared.operation.Op.{Op}
use Rattle.ra_labels.specs.declared.operation.Op.TheVariants as op
use Rattle.ra_labels.specs.declared.label.Label.{Label}
use Rattle.ra_labels.specs.Records.{Records, label_count, labels_of, label_at}
use Rattle.ra_labels.specs.Places.{issuer_of}
use Rattle.ra_labels.proofs.Members.{none_there, at_head, reached}
use Rattle.ra_theorems.specs.AnyOrder.{NoneLinearizes}
use Rattle.ra_theorems.proofs.TheoremIndex.{linearization_by_visibility, label_at_each_number-there, label_at_each_number-found, delivered_are_updates-there}
use Rattle.ra_precedence.specs.Conditions.{Condition, MeetsAll, IsStuck, HasEachBelow}
use Rattle.ra_precedence.proofs.TheoremIndex.{no_order_meets_stuck}
use Rattle.ra_some_order.specs.VisibleUpdates.{visible_labels, elements_in}
use Rattle.ra_some_order.specs.UpdateConditions.{value_condition, element_condition, read_conditions, conditions_of}
use Rattle.ra_some_order.specs.PlainConditions.{IsPossibleRead, MeetsPlainConditions}
use Rattle.ra_some_order.specs.SomeOrder.{SomeOrderExplains, EachLabelIsOfKind, is_decided_by_conditions}
use Rattle.ra_some_order.specs.LabelOrders.{IsOrderOfLabels, OrderExplains, Narrows}
use Rattle.ra_some_order.proofs.TheoremIndex.{conditions_iff, label_order_explains, label_order_iff, linearization_orders_labels, narrow_condition_requires_as_much, stuck_set_is_final-plain}
use Rattle.ra_some_order.proofs.LabelSequences.{label_below}
use Rattle.ra_some_order.proofs.UpdateOrders.{found_there}
use Rattle.ra_visibility.specs.Newest.{AreNewest}
use Rattle.ra_any_order.specs.Previous.{IsLastBelow}
use Rattle.ra_any_order.specs.Reading.{order_condition}
use Rattle.ra_any_order.specs.Requirements.{IsInTurn, IsOverwritten, IsRefused, IsImpossible, AreConditionsBelow, AreReadConditions}
use Rattle.ra_any_order.proofs.NarrowSides.{AreListed}
use Rattle.ra_any_order.proofs.LabelConditions.{full_there, required_met, one_more}
use Rattle.ra_any_order.proofs.ElementReads.{named_changed}
use Rattle.ra_any_order.proofs.TurnOrders.{turn_order}

-- ---- label by label
pub none_yet : (records : Records) → AreConditionsBelow records 0 []
none_yet records = record {
  in_turn = λ n less order meets. absurd (omega (arith, less));
  possible = λ n less label at. absurd (omega (arith, less));
  required = λ condition among. absurd (none_there condition among);
}

module _ (records : Records) (operations : List Op) (listed : AreListed records operations) where
  pub label_with : (n : ℕ) → n < label_count records
      → (label : Label) × (label_at records n ≡ Some label) × Contains (labels_of records) label × (label.number ≡ n)
      × (slice_get operations n ≡ Some label.op)
  label_with n below =
      let (label, at, numbered) = label_at_each_number-there records n below in (
        label,
        at,
        (found_there (λ (l : Label). l.number == n) (labels_of records) label at).0,
        numbered,
        listed n ∙ ap (option_map (λ (l : Label). l.op)) at,
      )

  abbrev Step : ℕ → Type 0
  Step n = (newest : List ℕ) → AreNewest records n newest → (previous : Option ℕ)
      → IsLastBelow records n (issuer_of records n) previous → (conditions reads : List Condition)
      → AreConditionsBelow records n conditions
      → ((operation : Op) → slice_get operations n ≡ Some operation
      → AreReadConditions records n operation conditions reads)
      → AreConditionsBelow records (n + 1) (conditions ++ (reads ++ order_condition newest previous n ∷ []))

  pub step : (n : ℕ) → n < label_count records → Step n
  step n below =
      let (label, at, here, numbered, is) = label_with n below in
      subst Step numbered (λ newest are previous last conditions reads kept are_reads.
      one_more records label here (label_below records label here) newest are previous last conditions kept reads
      (are_reads label.op (ap (slice_get operations) numbered ∙ is)))

  pub refused : (n : ℕ) → n < label_count records → (element : Option ℕ)
      → ((operation : Op) → slice_get operations n ≡ Some operation
      → IsRefused records (visible_labels records n) operation element) → IsImpossible records n element
  refused n below element refuses =
      let (label, at, here, numbered, is) = label_with n below in (label, at, refuses label.op is)

-- ---- an order that meets the conditions
module _ (records : Records) (conditions : List Condition)
    (are : AreConditionsBelow records (label_count records) conditions) where
  module _ (order : List ℕ) (each : HasEachBelow (label_count records) order) (meets : MeetsAll order conditions) where
    turn : (n : ℕ) → n < label_count records → IsInTurn records order n
    turn n below = are.in_turn n below order meets

    pub order_of_labels : IsOrderOfLabels records order
    order_of_labels = turn_order records order each (λ n below.
        let its = turn n below in record { seen = its.seen; previous = its.previous })

    pub order_meets : MeetsAll order (conditions_of records)
    order_meets = (conditions_iff records order).1 (
      (λ n m updates sees_it. order_of_labels.seen n m (delivered_are_updates-there records n updates) sees_it),
      (λ label here reads full asked.
          let at = label_at_each_number-found records label here in
          let (condition, narrows, met) = (turn label.number (label_below records label here)).read label at full
          asked in
          (narrow_condition_requires_as_much records order order_of_labels label.number label.op full condition asked
          narrows).1 met),
    )

  plain : MeetsPlainConditions records
  plain label here = are.possible label.number (label_below records label here) label
      (label_at_each_number-found records label here)

  module _ (kind : Kind) (decided : is_decided_by_conditions kind ≡ true) (of_kind : EachLabelIsOfKind kind records) where
    pub order_explains : (order : List ℕ) → HasEachBelow (label_count records) order → MeetsAll order conditions
        → OrderExplains kind records order
    order_explains order each meets =
        let is = order_of_labels order each meets in
        (each, label_order_explains kind records order decided of_kind plain is (order_meets order each meets))

    -- and an order that explains the records meets the conditions
    pub explaining_meets : (order : List ℕ) → OrderExplains kind records order → MeetsAll order conditions
    explaining_meets order explains =
        let (possible, is, meets) = (label_order_iff kind records order decided of_kind).0 explains in
        λ condition among. required_met records condition (are.required condition among) order is meets

    pub stuck_refutes : (set : List ℕ) → IsStuck conditions set
        → ((b : ℕ) → Contains set b → b < label_count records) → NoneLinearizes kind records
    stuck_refutes set stuck below sequence linearizes =
        let (order, is, meets) = linearization_orders_labels kind records sequence decided of_kind linearizes in
        no_order_meets_stuck conditions set order stuck is.each.once (λ b there. (is.each.all b).0 (below b there))
        (λ condition among. required_met records condition (are.required condition among) order is meets)

-- ---- an impossible read
module _ (kind : Kind) (decided : is_decided_by_conditions kind ≡ true) (records : Records)
    (of_kind : EachLabelIsOfKind kind records) where
  -- if a condition of a read fails in each order, no sequence linearizes the records
  overwritten_refutes : (label : Label) → Contains (labels_of records) label → (full : Condition)
      → Contains (read_conditions (visible_labels records label.number) label.op) full → IsOverwritten records full
      → NoneLinearizes kind records
  overwritten_refutes label here full asked overwritten sequence linearizes =
      let (order, is, meets) = linearization_orders_labels kind records sequence decided of_kind linearizes in
      let cut : Condition = record { before = full.before; after = [] } in
      let narrows : Narrows records full cut =
      record {
        before = λ b there. there;
        after = λ c there. absurd (none_there c there);
        kept =
            λ k side. elim side [
              | inl first ↦ (k, inl first, omega arith, refl)
              | inr second ↦
                  let (m, there, later, same) = overwritten.followed k second in (m, inl there, later, same)
            ];
      } in
      let met = (narrow_condition_requires_as_much records order is label.number label.op full cut asked narrows).0
      (meets full (full_there records label here full asked)) in
      let (b, first) = overwritten.some in
      let (c, nothing, before) = met b first in
      none_there c nothing

  impossible_label : (label : Label) → Contains (labels_of records) label
      → ¬ IsPossibleRead (visible_labels records label.number) label.op → NoneLinearizes kind records
  impossible_label label here not_possible =
      stuck_set_is_final-plain kind records decided (λ met. not_possible (met label here))

  at_label : (label : Label) → Contains (labels_of records) label → (operation : Op) → label.op ≡ operation
      → (element : Option ℕ) → IsRefused records (visible_labels records label.number) operation element
      → NoneLinearizes kind records
  at_label label here (op.Last value) is None (inl not_possible) =
      impossible_label label here (subst (λ o. ¬ IsPossibleRead (visible_labels records label.number) o) (sym is)
      not_possible)
  at_label label here (op.Last value) is None (inr overwritten) =
      let full = value_condition (visible_labels records label.number) value in
      overwritten_refutes label here full
      (subst (λ o. Contains (read_conditions (visible_labels records label.number) o) full) (sym is)
      (at_head full [] full refl)) overwritten
  at_label label here (op.LwwRead list) is (Some x) (inl not_possible) =
      impossible_label label here (subst (λ o. ¬ IsPossibleRead (visible_labels records label.number) o) (sym is)
      (λ possible. not_possible (possible.0 x, possible.1 x)))
  at_label label here (op.LwwRead list) is (Some x) (inr overwritten) =
      let visible = visible_labels records label.number in
      let full = element_condition visible list x in
      let (b, first) = overwritten.some in
      overwritten_refutes label here full
      (subst (λ o. Contains (read_conditions visible o) full) (sym is)
      (reached (element_condition visible list) (elements_in visible) x
      (named_changed records label.number list x b (inl first)))) overwritten
  at_label label here _ is _ refused = absurd refused

  pub impossible_refutes : (n : ℕ) (element : Option ℕ) → IsImpossible records n element → NoneLinearizes kind records
  impossible_refutes n element (label, at, reason) =
      let (here, numbered) = found_there (λ (l : Label). l.number == n) (labels_of records) label at in
      at_label label here label.op refl element
      (subst (λ k. IsRefused records (visible_labels records k) label.op element)
      (sym (eqb-true label.number n numbered)) reason)

  pub not_explained : (n : ℕ) (element : Option ℕ) → IsImpossible records n element → ¬ SomeOrderExplains kind records
  not_explained n element impossible (sequence, linearizes) =
      impossible_refutes n element impossible sequence (linearization_by_visibility kind records sequence linearizes)
