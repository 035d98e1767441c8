-- Lemmas on a sequence whose updates are in an order that meets the conditions: it is an RA-linearization.
use Rattle.std.proofs.Common.{◌≡◌, ◌↔◌, ℕ, true, List, [], filter, refl, sym, ap, ◌∙◌, subst, inl, inr}
use Rattle.std.specs.Prelude.{Contains, IsPermutation}
use Rattle.std.proofs.lemmas.Bool.{cases_Bool, cond-false, false≢true}
use Rattle.std.proofs.lemmas.List.Sorted.{IsPermutation-sym, Contains-permutation}
use Rattle.ra_labels.specs.declared.kind.Kind.{Kind}
use Rattle.ra_labels.specs.declared.operation.Op.{Op}
use Rattle.ra_labels.specs.declared.operation.Op.TheVariants as op
use Rattle.ra_labels.specs.declared.operation.Query.{Query}
use Rattle.ra_labels.specs.declared.label.Label.{Label}
use Rattle.ra_labels.specs.Records.{Records, labels_of}
use Rattle.ra_labels.specs.Visibility.{is_update, sees}
use Rattle.ra_labels.specs.Rewriting.{Part, Asks, query_of}
use Rattle.ra_labels.specs.Linearization.{extends_visibility, parts_in, visible_updates, IsRaLinearization}
use Rattle.ra_labels.specs.Specification.{is_admitted}
use Rattle.ra_labels.specs.Answer.{kind_of}
use Rattle.ra_labels.specs.TheoremTerms.{IsAnsweredAfter}
use Rattle.ra_labels.proofs.Members.{none_there, in_piece, there-kept}
use Rattle.ra_theorems.proofs.TheoremIndex.{queries_admitted_iff_answered, linearization_by_visibility}
use Rattle.ra_precedence.specs.Conditions.{Condition, Meets, MeetsAll}
use Rattle.ra_some_order.specs.VisibleUpdates.{visible_labels}
use Rattle.ra_some_order.specs.UpdateConditions.{visibility_conditions, read_conditions, conditions_of, conditions_of_label, IsOrderOfUpdates}
use Rattle.ra_some_order.specs.PlainConditions.{MeetsPlainConditions}
use Rattle.ra_some_order.specs.SomeOrder.{SomeOrderExplains, EachLabelIsOfKind, is_decided_by_conditions, update_order}
use Rattle.ra_some_order.proofs.RightReads.{IsRightRead, right_if_meets}
use Rattle.ra_some_order.proofs.Linearizations.{plain_met, updates_ordered, conditions_met}
use Rattle.ra_some_order.proofs.PartKinds.{part_of_kind, parts_admitted, nothing_else, answered_if_right}
use Rattle.ra_some_order.proofs.SequencedQueries.{sequenced}
use Rattle.ra_some_order.proofs.FewerConditions.{conditions_extend}

-- the conditions of a read are among those of its label
pub of_read : (records : Records) (label : Label) (condition : Condition)
    → Contains (read_conditions (visible_labels records label.number) label.op) condition
    → Contains (conditions_of_label records label) condition
of_read records label condition among =
    let visible = visible_labels records label.number in
    let by_read = read_conditions visible label.op in
    elim (cases_Bool (is_update label.op)) [
      | inl updates_it ↦ absurd (none_there condition
          (subst (λ cs. Contains cs condition) (none_if_update label.op visible updates_it) among))
      | inr reads ↦ subst (λ cs. Contains cs condition)
          (sym (cond-false (is_update label.op) (visibility_conditions visible label.number) by_read reads)) among
    ]
  where
    none_if_update : (operation : Op) (visible : List Label) → is_update operation ≡ true
        → read_conditions visible operation ≡ []
    none_if_update (op.Last value) visible is = absurd (false≢true is)
    none_if_update (op.LwwRead list) visible is = absurd (false≢true is)
    none_if_update _ visible is = refl

module _ (kind : Kind) (decided : is_decided_by_conditions kind ≡ true) (records : Records)
    (of_kind : (label : Label) → Contains (labels_of records) label → kind_of label.op ≡ kind) (order : List ℕ)
    (is : IsOrderOfUpdates records order) (meets : MeetsAll order (conditions_of records))
    (plain : MeetsPlainConditions records) (sequence : List Part)
    (same : IsPermutation (parts_in records) sequence) (extended : extends_visibility records sequence ≡ true)
    (is_order : update_order sequence ≡ order) where
  from_sequence : (p : Part) → Contains sequence p → Contains (parts_in records) p
  from_sequence p there =
      Contains-permutation sequence (parts_in records) p (IsPermutation-sym (parts_in records) sequence same) there

  visible_admitted : (n : ℕ) → is_admitted kind (visible_updates records sequence n) ≡ true
  visible_admitted n =
      parts_admitted kind decided records of_kind (filter (λ p. sees records n p.label.number) sequence)
      (λ p there. from_sequence p (there-kept (λ (q : Part). sees records n q.label.number) sequence p there).0)

  read_right : (label : Label) → Contains (labels_of records) label
      → IsRightRead records sequence label.number label.op
  read_right label there =
      right_if_meets records sequence same label.number label.op (plain label there)
      (λ condition among. subst (λ ns. Meets ns condition) (sym is_order)
      (meets condition (in_piece (conditions_of_label records) (labels_of records) label condition there
      (of_read records label condition among))))

  query_answered : (p : Part) (query : Query) → Contains sequence p → p.act ≡ Asks query
      → IsAnsweredAfter kind (visible_updates records sequence p.label.number) query
  query_answered p query there asks =
      let seen = visible_updates records sequence p.label.number in
      let its = part_of_kind kind decided records of_kind p (from_sequence p there) in
      let its_kind = of_kind p.label its.there in
      subst (λ k. IsAnsweredAfter k seen query) its_kind
      (answered_if_right p.label.op seen query (sym its.query ∙ ap query_of asks)
      (ap (λ k. is_admitted k seen) its_kind ∙ visible_admitted p.label.number) (read_right p.label its.there))

  pub linearizes : IsRaLinearization kind records sequence
  linearizes = record {
    each_part_once = same;
    visibility = extended;
    updates = parts_admitted kind decided records of_kind sequence from_sequence;
    queries =
        (queries_admitted_iff_answered kind records sequence).1
        (λ p query there asks. query_answered p query there asks);
    explained = nothing_else kind records decided;
  }

-- ---- the theorems
pub explaining_sequence : (kind : Kind) (records : Records) (order : List ℕ) → is_decided_by_conditions kind ≡ true
    → EachLabelIsOfKind kind records → MeetsPlainConditions records → IsOrderOfUpdates records order
    → MeetsAll order (conditions_of records)
    → (sequence : List Part) × IsRaLinearization kind records sequence × (update_order sequence ≡ order)
explaining_sequence kind records order decided of_kind plain is meets =
    let (sequence, same, extended, is_order) =
    sequenced records order is (conditions_extend records order meets) in (
      sequence,
      linearizes kind decided records of_kind order is meets plain sequence same extended is_order,
      is_order,
    )

pub some_order_exactly : (kind : Kind) (records : Records) → is_decided_by_conditions kind ≡ true
    → EachLabelIsOfKind kind records → SomeOrderExplains kind records
    ↔ (MeetsPlainConditions records
    × ((order : List ℕ) × IsOrderOfUpdates records order × MeetsAll order (conditions_of records)))
some_order_exactly kind records decided of_kind = (
  (λ (sequence, linearizes).
      let by_sight = linearization_by_visibility kind records sequence linearizes in (
        plain_met kind records sequence decided by_sight,
        (
          update_order sequence,
          updates_ordered kind records sequence by_sight,
          conditions_met kind records sequence decided by_sight,
        ),
      )),
  (λ (plain, (order, is, meets)).
      let (sequence, linearizes, order_is) = explaining_sequence kind records order decided of_kind plain is meets in
      (sequence, linearizes)),
)
