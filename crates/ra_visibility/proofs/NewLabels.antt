-- Lemmas on the named sequence with a new label, and on whether it still extends visibility.
use Rattle.std.proofs.Common.{◌≡◌, ℕ, ◌<◌, Bool, true, false, List, [], ◌∷◌, ◌++◌, refl, sym, ap, ◌∙◌, subst, inl, inr, arith}
use Rattle.std.specs.Prelude.{◌&&◌, not, take, drop, flat_map, Contains}
use Rattle.std.proofs.lemmas.Bool.{true≢false, and_parts, and_from, not-true, not_from_false, false_from_ne_true}
use Rattle.std.proofs.lemmas.List.{take-append-drop}
use Rattle.std.proofs.lemmas.List.Elements.{All-contains, Contains-append_left, Contains-append_right, Contains-append_cases}
use Rattle.std.proofs.lemmas.List.Sorted.{Contains-permutation, IsPermutation-sym}
use Rattle.std.proofs.lemmas.Grind.{flat_map-append}
use Rattle.ra_labels.specs.declared.kind.Kind.{Kind}
use Rattle.ra_labels.specs.declared.label.Label.{Label}
use Rattle.ra_labels.specs.declared.command.Command.TheVariants.{Operate, Deliver, Join, Verdict}
use Rattle.ra_labels.specs.Records.{Records, label_count, labels_of}
use Rattle.ra_labels.specs.Rewriting.{Part, parts_of}
use Rattle.ra_labels.specs.Linearization.{must_precede, extends, extends_visibility}
use Rattle.ra_labels.specs.NamedOrder.{named_labels, named_sequence}
use Rattle.ra_labels.proofs.InLists.{bool_same, list_all-contains, list_all-from_contains}
use Rattle.ra_labels.proofs.Members.{behind_head, piece_of, in_piece}
use Rattle.ra_labels.proofs.Parts.{part_is_of, some_part}
use Rattle.ra_labels.specs.HistorySoFar.{NextOperation, next_operation, operate, label_of}
use Rattle.ra_theorems.proofs.TheoremIndex.{delivery_extends_delivered-order, named_labels_sorted-same, join_copies_delivered-order}
use Rattle.ra_visibility.specs.declared.order.Place.{Place}
use Rattle.ra_visibility.specs.Order.{must_stand_before, IsPlaceOf, EachFitted}
use Rattle.ra_visibility.proofs.Insertions.{named_below_count, order_after_verdict, at_its_place}
use Rattle.ra_visibility.proofs.Extensions.{Apart, extends_pieces, extends_joined, extends_same}
use Rattle.ra_visibility.proofs.Precedences.{parts_extend, precedes_later, not_backwards, labels_too, parts_too}

-- the labels belong to the records, so each label or part is numbered below their count
abbrev AreOf : Records → List Label → Type 0
AreOf records labels = (l : Label) → Contains labels l → Contains (labels_of records) l × (l.number < label_count records)

part_below : (records : Records) (labels : List Label) (p : Part) → AreOf records labels → Contains (flat_map parts_of labels) p → p.label.number < label_count records
part_below records labels p are found =
    let from = piece_of parts_of labels p found in
    omega (arith, (are from.0 from.1).1, ap (λ (l : Label). l.number) (part_is_of from.0 p from.2))

-- no label must precede the new one
abbrev NoneMust : Records → List Label → Label → Type 0
NoneMust records labels x = (m : Label) → Contains labels m → must_stand_before records m x ≡ false

module _ (before : Records) (next : NextOperation) where
  abbrev now : Records
  now = operate next ∷ before

  abbrev x : Label
  x = label_of before next

  x_there : Contains (labels_of now) x
  x_there = (0, omega arith, refl)

  module _ (xs ys : List Label) (of_xs : AreOf before xs) (of_ys : AreOf before ys) where
    old_below : (p : Part) → Contains (flat_map parts_of xs ++ flat_map parts_of ys) p → p.label.number < label_count before
    old_below p found = elim (Contains-append_cases (flat_map parts_of xs) (flat_map parts_of ys) p found) [
      | inl first ↦ part_below before xs p of_xs first
      | inr then ↦ part_below before ys p of_ys then
    ]

    -- the new record changes nothing among the earlier labels
    same_before : extends (must_precede now) (flat_map parts_of xs ++ flat_map parts_of ys) ≡ extends (must_precede before) (flat_map parts_of xs ++ flat_map parts_of ys)
    same_before = extends_same (must_precede now) (must_precede before) (flat_map parts_of xs ++ flat_map parts_of ys) (λ p q found there. precedes_later before next q p (old_below p found))

    extended_to : extends (must_precede now) (flat_map parts_of xs ++ (parts_of x ++ flat_map parts_of ys)) ≡ true
        → (extends (must_precede before) (flat_map parts_of xs ++ flat_map parts_of ys) ≡ true) × NoneMust now ys x
    extended_to extended =
        let first = extends_pieces (must_precede now) (flat_map parts_of xs) (parts_of x ++ flat_map parts_of ys) extended in
        let second = extends_pieces (must_precede now) (parts_of x) (flat_map parts_of ys) first.1 in
        let apart : Apart (must_precede now) (flat_map parts_of xs) (flat_map parts_of ys) =
        record { none = λ p q found there. first.2.none p q found (Contains-append_right (parts_of x) (flat_map parts_of ys) q there) } in (
          sym same_before ∙ extends_joined (must_precede now) (flat_map parts_of xs) (flat_map parts_of ys) first.0 second.1 apart,
          (λ m found. false_from_ne_true (must_stand_before now m x) (λ must.
              let q = some_part x in
              let p = parts_too now m x (behind_head x (labels_of before) m (of_ys m found).0) must q.0 (part_is_of x q.0 q.1) in
              true≢false (sym p.2 ∙ second.2.none q.0 p.0 q.1 (in_piece parts_of ys m p.0 found p.1)))),
        )

    extended_from : extends (must_precede before) (flat_map parts_of xs ++ flat_map parts_of ys) ≡ true → NoneMust now ys x
        → extends (must_precede now) (flat_map parts_of xs ++ (parts_of x ++ flat_map parts_of ys)) ≡ true
    extended_from extended none =
        let pieces = extends_pieces (must_precede now) (flat_map parts_of xs) (flat_map parts_of ys) (same_before ∙ extended) in
        let number : (p : Part) → Contains (parts_of x) p → p.label.number ≡ label_count before = λ p found. ap (λ (l : Label). l.number) (part_is_of x p found) in
        let behind_x : Apart (must_precede now) (parts_of x) (flat_map parts_of ys) =
        record {
          none = λ p q found there.
              let from = piece_of parts_of ys q there in
              false_from_ne_true (must_precede now q p) (λ must.
              true≢false (sym (labels_too now q p from.0 x (part_is_of from.0 q from.2) (part_is_of x p found) (of_ys from.0 from.1).1 must) ∙ none from.0 from.1));
        } in
        let second = extends_joined (must_precede now) (parts_of x) (flat_map parts_of ys) (parts_extend now x next.op) pieces.1 behind_x in
        extends_joined (must_precede now) (flat_map parts_of xs) (parts_of x ++ flat_map parts_of ys) pieces.0 second
        (record {
          none = λ p q found there. elim (Contains-append_cases (parts_of x) (flat_map parts_of ys) q there) [
            | inl here ↦ not_backwards now q p (omega (arith, number q here, part_below before xs p of_xs found))
            | inr further ↦ pieces.2.none p q found further
          ];
        })

-- the labels of a piece of the named order belong to the records
are_of : (kind : Kind) (records : Records) (labels : List Label) → ((l : Label) → Contains labels l → Contains (named_labels kind records) l) → AreOf records labels
are_of kind records labels within l found =
    let named = within l found in (
      Contains-permutation (named_labels kind records) (labels_of records) l (IsPermutation-sym (labels_of records) (named_labels kind records) (named_labels_sorted-same kind records)) named,
      All-contains (λ label. label.number < label_count records) (named_labels kind records) l (named_below_count kind records) named,
    )

-- with a new label, the named sequence extends visibility exactly if it did before and the label fits
pub extends_where_it_fits : (kind : Kind) (records : Records) (next : NextOperation) (place : Place) → IsPlaceOf kind records next place
    → extends_visibility (operate next ∷ records) (named_sequence kind (operate next ∷ records))
    ≡ (extends_visibility records (named_sequence kind records) && place.fits)
extends_where_it_fits kind records next place is =
    let now = operate next ∷ records in
    let label = label_of records next in
    let named = named_labels kind records in
    let xs = take place.at named in
    let ys = drop place.at named in
    let whole : xs ++ ys ≡ named = take-append-drop place.at named in
    let of_xs : AreOf records xs = are_of kind records xs (λ l found. subst (λ ls. Contains ls l) whole (Contains-append_left xs ys l found)) in
    let of_ys : AreOf records ys = are_of kind records ys (λ l found. subst (λ ls. Contains ls l) whole (Contains-append_right xs ys l found)) in
    let before : named_sequence kind records ≡ flat_map parts_of xs ++ flat_map parts_of ys = ap (flat_map parts_of) (sym whole) ∙ flat_map-append parts_of xs ys in
    let after : named_sequence kind now ≡ flat_map parts_of xs ++ (parts_of label ++ flat_map parts_of ys) =
    ap (flat_map parts_of) (at_its_place kind records next place is).1 ∙ flat_map-append parts_of xs (label ∷ ys) in
    let must : Label → Bool = λ m. not (must_stand_before now m label) in
    bool_same (extends_visibility now (named_sequence kind now)) (extends_visibility records (named_sequence kind records) && place.fits)
    (λ extended.
    let both = extended_to records next xs ys of_xs of_ys (ap (extends (must_precede now)) (sym after) ∙ extended) in
    and_from (extends_visibility records (named_sequence kind records)) place.fits
    (ap (extends (must_precede records)) before ∙ both.0)
    (is.fits ∙ list_all-from_contains must ys (λ m found. not_from_false (must_stand_before now m label) (both.1 m found))))
    (λ both.
    let parts = and_parts (extends_visibility records (named_sequence kind records)) place.fits both in
    ap (extends (must_precede now)) after
    ∙ extended_from records next xs ys of_xs of_ys (ap (extends (must_precede records)) (sym before) ∙ parts.0) (λ m found. not-true (must_stand_before now m label) (list_all-contains must ys m (sym is.fits ∙ parts.1) found)))

-- a delivery does not change whether it does
pub delivery_extends : (kind : Kind) (records : Records) (to label : ℕ)
    → extends_visibility (Deliver to label ∷ records) (named_sequence kind (Deliver to label ∷ records)) ≡ extends_visibility records (named_sequence kind records)
delivery_extends kind records to label = ap (λ labels. extends (must_precede records) (flat_map parts_of labels)) (delivery_extends_delivered-order kind records to label)

-- nor does a join
pub join_extends : (kind : Kind) (records : Records) (joined from : ℕ)
    → extends_visibility (Join joined from ∷ records) (named_sequence kind (Join joined from ∷ records)) ≡ extends_visibility records (named_sequence kind records)
join_extends kind records joined from =
    ap (λ labels. extends (must_precede records) (flat_map parts_of labels)) (join_copies_delivered-order kind records joined from)

-- if each label fitted, the named sequence extends visibility
pub extends_where_each_fitted : (kind : Kind) (records : Records) → EachFitted kind records → extends_visibility records (named_sequence kind records) ≡ true
extends_where_each_fitted kind [] each = refl
extends_where_each_fitted kind (Operate by op clock ∷ before) each =
    let place = each.0 in
    extends_where_it_fits kind before (next_operation by op clock) place.0 place.1
    ∙ and_from (extends_visibility before (named_sequence kind before)) place.0.fits (extends_where_each_fitted kind before each.1) place.2
extends_where_each_fitted kind (Deliver to label ∷ before) each =
    delivery_extends kind before to label ∙ extends_where_each_fitted kind before each
extends_where_each_fitted kind (Join joined from ∷ before) each =
    join_extends kind before joined from ∙ extends_where_each_fitted kind before each
extends_where_each_fitted kind (Verdict ∷ before) each =
    ap (λ labels. extends (must_precede before) (flat_map parts_of labels)) (order_after_verdict kind before) ∙ extends_where_each_fitted kind before each
