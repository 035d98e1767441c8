-- Lemmas on the values that a register's next read can return in some order: those of the writes that can be the last
-- one of the newest visible ones.
use Rattle.std.proofs.Common.{◌≡◌, ◌↔◌, ℕ, ◌+◌, ◌<◌, Bool, true, false, List, [], ◌∷◌, ◌++◌, Option, Some, None, length, refl, sym, ap, ◌∙◌, subst, inl, inr, arith}
use Rattle.std.specs.Prelude.{◌==◌, ◌&&◌, not, is_none, slice_get, option_map, option_and_then, Contains}
use Rattle.std.specs.Option.{option_map_or}
use Rattle.std.proofs.lemmas.Bool.{cases_Bool, false≢true, not_from_false, or_left, ne_eqb, eqb-true, eq-eqb}
use Rattle.std.proofs.lemmas.Option.{none-some, same_Some}
use Rattle.ra_labels.specs.declared.kind.Kind.TheVariants.{Register}
use Rattle.ra_labels.specs.declared.operation.Op.{Op}
use Rattle.ra_labels.specs.declared.operation.Op.TheVariants as op
use Rattle.ra_labels.specs.declared.label.Label.{Label}
use Rattle.ra_labels.specs.Answer.{kind_of}
use Rattle.ra_labels.specs.HistorySoFar.{next_operation, label_of}
use Rattle.ra_labels.specs.Places.{issuer_of}
use Rattle.ra_labels.specs.Records.{Records, label_count, labels_of, label_at}
use Rattle.ra_labels.specs.Visibility.{is_update, sees}
use Rattle.ra_labels.proofs.Members.{head_or_behind, at_head, none_there, kept-there, there-kept}
use Rattle.ra_theorems.proofs.LabelNumbers.{label_at-operation}
use Rattle.ra_theorems.proofs.TheoremIndex.{linearization_by_visibility, label_at_each_number-found}
use Rattle.ra_precedence.specs.Conditions.{Condition, Meets, MeetsAll, HasEachBelow}
use Rattle.ra_precedence.specs.Lasts.{IsOrderFor, IsLastOf}
use Rattle.ra_some_order.specs.VisibleUpdates.{writes, writes_other, visible_labels}
use Rattle.ra_some_order.specs.SomeOrder.{SomeOrderExplains, EachLabelIsOfKind}
use Rattle.ra_some_order.proofs.StuckSets.{none_or_last, HasLastMember}
use Rattle.ra_visibility.specs.Newest.{AreNewest}
use Rattle.ra_any_order.specs.Previous.{IsLastBelow}
use Rattle.ra_any_order.specs.NextRead.{with_read}
use Rattle.ra_any_order.specs.PossibleValues.{IsPossibleValue, IsValueAmong, value_written}
use Rattle.ra_any_order.specs.Reading.{passes_at, narrow_value, is_possible_value, order_condition}
use Rattle.ra_any_order.specs.Requirements.{AreConditionsBelow, AreReadConditions}
use Rattle.ra_any_order.proofs.Conclusions.{impossible_refutes}
use Rattle.ra_any_order.proofs.LabelConditions.{value_reads, value_refused}
use Rattle.ra_any_order.proofs.LastMembers.{is_last, none_behind}
use Rattle.ra_any_order.proofs.NarrowSides.{AreListed, seen_label}
use Rattle.ra_any_order.proofs.NextReads.{below_read, listed_now, same_operation, same_test, label_here, of_kind_now, explained, explaining}
use Rattle.ra_any_order.proofs.RegisterReads.{is_register}

-- an update of a register is a write
register_update : (operation : Op) → is_register (kind_of operation) ≡ true → is_update operation ≡ true
    → (x : ℕ) × (operation ≡ op.Write x)
register_update (op.Write x) of_kind updates = (x, refl)
register_update (op.Last value) of_kind updates = absurd (false≢true updates)
register_update _ of_kind updates = absurd (false≢true of_kind)

-- it writes the value or another one
value_of_write : (v : Option ℕ) (x : ℕ) → writes_other v (op.Write x) ≡ false → v ≡ Some x
value_of_write None x is = absurd (false≢true (sym is))
value_of_write (Some y) x is = elim (cases_Bool (writes (Some y) (op.Write x))) [
  | inl same ↦ ap Some (eqb-true y x same)
  | inr other ↦ absurd (false≢true (sym is ∙ not_from_false (writes (Some y) (op.Write x)) other))
]

writes_same : (x : ℕ) → writes (Some x) (op.Write x) ≡ true
writes_same x = eq-eqb x x refl

pub no_length : (xs : List ℕ) → length xs ≡ 0 → xs ≡ []
no_length [] none = refl
no_length (x ∷ xs) none = absurd (omega (arith, none))

pub no_members : (xs : List ℕ) → ((x : ℕ) → ¬ Contains xs x) → xs ≡ []
no_members [] none = refl
no_members (x ∷ xs) none = absurd (none x (at_head x xs x refl))

-- a write is the operation that writes its value
written_is : (o : Option Op) (x : ℕ) → option_and_then value_written o ≡ Some x → o ≡ Some (op.Write x)
written_is None x is = absurd (none-some x is)
written_is (Some (op.Write y)) x is = ap (λ z. Some (op.Write z)) (same_Some y x is)
written_is (Some _) x is = absurd (none-some x is)

module _ (before : Records) (operations : List Op) (listed : AreListed before operations)
    (of_kind : EachLabelIsOfKind Register before) (by : ℕ) (newest : List ℕ) (previous : Option ℕ)
    (conditions : List Condition) (kept : AreConditionsBelow before (label_count before) conditions)
    (are : (read : Op) → is_update read ≡ false → AreNewest (with_read before by read) (label_count before) newest)
    (last : (read : Op) → is_update read ≡ false → IsLastBelow (with_read before by read) (label_count before)
    (issuer_of (with_read before by read) (label_count before)) previous) where
  abbrev n : ℕ
  n = label_count before

  abbrev now : Option ℕ → Records
  now v = with_read before by (op.Last v)

  abbrev operations_now : Option ℕ → List Op
  operations_now v = operations ++ op.Last v ∷ []

  abbrev asked : List Condition
  asked = conditions ++ order_condition newest previous n ∷ []

  low : (m : ℕ) → Contains newest m → m < n
  low = below_read before operations listed Register refl of_kind by newest previous conditions kept are last

  listed_with : (v : Option ℕ) → AreListed (now v) (operations_now v)
  listed_with v = listed_now before operations listed by (op.Last v)

  test_before : (v : Option ℕ) (passes : Op → Bool) (k : ℕ) → k < n
      → passes_at (operations_now v) passes k ≡ passes_at operations passes k
  test_before v = same_test before operations listed by (op.Last v)

  module _ (v : Option ℕ) where
    abbrev narrow : Condition
    narrow = narrow_value (operations_now v) newest v

    label_read : Contains (labels_of (now v)) (label_of before (next_operation by (op.Last v) None))
    label_read = label_here before operations listed Register refl of_kind by newest previous conditions kept are last
        (op.Last v) refl refl

    kind_with : EachLabelIsOfKind Register (now v)
    kind_with = of_kind_now before operations listed Register refl of_kind by newest previous conditions kept are last
        (op.Last v) refl refl

    are_reads : is_possible_value narrow v ≡ true
        → AreReadConditions (now v) n (op.Last v) conditions (narrow ∷ [])
    are_reads possible = value_reads (now v) (label_of before (next_operation by (op.Last v) None)) label_read v refl
        (operations_now v) (listed_with v) kind_with newest (are (op.Last v) refl) conditions possible

    -- an order that meets the conditions and in which the last of the newest writes is one of the value explains it
    explained_by : is_possible_value narrow v ≡ true → (order : List ℕ) → HasEachBelow (n + 1) order
        → MeetsAll order asked → Meets order narrow → SomeOrderExplains Register (now v)
    explained_by possible order each meets met =
        explained before operations listed Register refl of_kind by newest previous conditions kept are last
        (op.Last v) refl refl (narrow ∷ []) (are_reads possible) order each meets
        (λ condition among. elim (head_or_behind narrow [] condition among) [
          | inl here ↦ subst (Meets order) here met
          | inr further ↦ absurd (none_there condition further)
        ])

  -- ---- from a write that can be the last one
  module _ (w x : ℕ) (is_write : slice_get operations w ≡ Some (op.Write x)) (order : List ℕ)
      (is : IsLastOf order newest w) where
    abbrev value : Option ℕ
    value = Some x

    test_of : (passes : Op → Bool) → passes_at (operations_now value) passes w ≡ passes (op.Write x)
    test_of passes =
        test_before value passes w (low w is.member) ∙ ap (λ o. option_map_or passes o false) is_write

    after_last : Contains (narrow value).after w
    after_last = kept-there (passes_at (operations_now value) (writes value)) newest w is.member
        (test_of (writes value) ∙ writes_same x)

    met_last : Meets order (narrow value)
    met_last b first =
        let (among, other) = there-kept (passes_at (operations_now value) (writes_other value)) newest b first in (
          w,
          after_last,
          is.last b among (λ same. false≢true
              (sym (ap (λ it. other_than it) (writes_same x)) ∙ sym (test_of (writes_other value))
              ∙ ap (passes_at (operations_now value) (writes_other value)) (sym same) ∙ other)),
        )
      where
        other_than : Bool → Bool
        other_than true = false
        other_than false = true

    possible_last : is_possible_value (narrow value) value ≡ true
    possible_last = some_after (narrow value).after after_last
      where
        some_after : (xs : List ℕ) → Contains xs w
            → is_possible_value (record { before = (narrow value).before; after = xs }) value ≡ true
        some_after [] there = absurd (none_there w there)
        some_after (y ∷ ys) there =
            or_left (not (length (y ∷ ys) == 0)) (is_none value && length (narrow value).before == 0)
            (ap not (ne_eqb (length (y ∷ ys)) 0 (λ is. omega (arith, is))))

  -- ---- some order explains the earlier labels
  module _ (lasts : List ℕ) (are_lasts : (w : ℕ) → Contains lasts w
      ↔ ((order : List ℕ) × IsOrderFor (n + 1) asked order × IsLastOf order newest w))
      (some : (order : List ℕ) × IsOrderFor (n + 1) asked order) where
    abbrev IsValue : Option ℕ → Type 0
    IsValue = IsValueAmong operations newest lasts

    from_value : (v : Option ℕ) → IsValue v → SomeOrderExplains Register (now v)
    from_value v (inl (w, there, (x, wrote, same))) =
        let is_write = written_is (slice_get operations w) x wrote in
        let (order, (each, meets), is) = (are_lasts w).0 there in
        subst (λ o. SomeOrderExplains Register (now o)) (sym same)
        (explained_by (Some x) (possible_last w x is_write order is) order each meets (met_last w x is_write order is))
    from_value v (inr (empty, same)) =
        subst (λ o. SomeOrderExplains Register (now o)) (sym same)
        (explained_by None (subst (λ xs. is_possible_value (narrow_value (operations_now None) xs None) None ≡ true)
        (sym empty) refl) some.0 some.1.0 some.1.1
        (λ b first. absurd (none_there b (subst (λ xs. Contains xs b) empty
        (there-kept (passes_at (operations_now None) (writes_other None)) newest b first).0))))

    in_order : (order : List ℕ) → HasEachBelow (n + 1) order → (m : ℕ) → Contains newest m → Contains order m
    in_order order each m among = (each.all m).0 (let less = low m among in omega (arith, less))

    -- an order that explains the read with the value has a last write of it
    last_write : (v : Option ℕ) (order : List ℕ) → HasEachBelow (n + 1) order → MeetsAll order asked
        → Meets order (narrow v) → HasLastMember newest order → IsValue v
    last_write v order each meets met found =
        let w = found.last in
        let (label_w, seen, numbered, updates) = seen_label (now v) (operations_now v) (listed_with v) n newest
        (are (op.Last v) refl).seen w ((are (op.Last v) refl).seen w found.is) in
        let (x, is_write) = register_update label_w.op
        (ap is_register (kind_with v label_w (there_seen label_w seen))) updates in
        let here = written v w label_w numbered (there_seen label_w seen) x is_write found.is in
        let its = is_last order newest each.once (in_order order each) found in
        inl (w, (are_lasts w).1 (order, (each, meets), its), (x, ap (option_and_then value_written) here, value_of_write v x (not_other x here)))
      where
        there_seen : (l : Label) → Contains (visible_labels (now v) n) l → Contains (labels_of (now v)) l
        there_seen l seen = (there-kept (λ (it : Label). sees (now v) n it.number) (labels_of (now v)) l seen).0

        written : (u : Option ℕ) (w : ℕ) (l : Label) → l.number ≡ w → Contains (labels_of (now u)) l → (x : ℕ)
            → l.op ≡ op.Write x → Contains newest w → slice_get operations w ≡ Some (op.Write x)
        written u w l numbered there x is among =
            sym (same_operation before operations listed by (op.Last u) w (low w among)) ∙ listed_with u w
            ∙ ap (λ k. option_map (λ (it : Label). it.op) (label_at (now u) k)) (sym numbered)
            ∙ ap (option_map (λ (it : Label). it.op)) (label_at_each_number-found (now u) l there) ∙ ap Some is

        not_other : (x : ℕ) → slice_get operations found.last ≡ Some (op.Write x)
            → writes_other v (op.Write x) ≡ false
        not_other x here = elim (cases_Bool (writes_other v (op.Write x))) [
          | inl is ↦
              let test = test_before v (writes_other v) found.last (low found.last found.is)
              ∙ ap (λ o. option_map_or (writes_other v) o false) here ∙ is in
              let (c, after, stands) = met found.last
              (kept-there (passes_at (operations_now v) (writes_other v)) newest found.last found.is test) in
              let among = (there-kept (passes_at (operations_now v) (writes v)) newest c after).0 in
              absurd (none_behind order newest each.once (in_order order each) found c among stands)
          | inr not_it ↦ not_it
        ]

    to_value : (v : Option ℕ) → SomeOrderExplains Register (now v) → IsValue v
    to_value v (sequence, linearizes) = elim (cases_Bool (is_possible_value (narrow v) v)) [
      | inl possible ↦
          let (order, (each, meets), met) =
          explaining before operations listed Register refl of_kind by newest previous conditions kept are last
          (op.Last v) refl refl (narrow v ∷ []) (are_reads v possible) (sequence, linearizes) in
          elim (none_or_last newest order) [
            | inr found ↦
                last_write v order each meets (met (narrow v) (at_head (narrow v) [] (narrow v) refl)) found
            | inl none ↦
                let empty = no_members newest (λ m among. none m (in_order order each m among) among) in
                inr (
                  empty,
                  nothing v (subst (λ xs. is_possible_value (narrow_value (operations_now v) xs v) v ≡ true)
                      empty possible),
                )
          ]
      | inr impossible ↦
          absurd (impossible_refutes Register refl (now v) (kind_with v) n None (
            label_of before (next_operation by (op.Last v) None),
            label_at-operation [] before (next_operation by (op.Last v) None),
            value_refused (now v) (label_of before (next_operation by (op.Last v) None)) (label_read v) v refl
                (operations_now v) (listed_with v) (kind_with v) newest (are (op.Last v) refl) impossible,
          ) sequence (linearization_by_visibility Register (now v) sequence linearizes))
    ]
      where
        nothing : (u : Option ℕ) → is_possible_value (narrow_value (operations_now v) [] u) u ≡ true → u ≡ None
        nothing None is = refl
        nothing (Some x) is = absurd (false≢true is)

    pub values_exactly : (v : Option ℕ) → IsValueAmong operations newest lasts v ↔ IsPossibleValue before by v
    values_exactly v = (from_value v, to_value v)
