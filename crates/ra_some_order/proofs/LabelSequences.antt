-- Lemmas on orders of all labels of a kind whose labels are single parts: the sequence of their parts, and the order
-- that a linearization leads to.
use Rattle.std.proofs.Common.{◌≡◌, ◌↔◌, ℕ, ◌<◌, Bool, true, false, cond, List, [], ◌∷◌, ◌++◌, filter, refl, sym, ap, ◌∙◌, subst, inl, inr, arith}
use Rattle.std.specs.Prelude.{◌==◌, is_some, map, flat_map, Contains, IsPermutation}
use Rattle.std.specs.List.{AllByRecursion}
use Rattle.std.specs.Option.{option_map_or}
use Rattle.std.proofs.lemmas.Bool.{false≢true, cases_Bool, cond_both}
use Rattle.std.proofs.lemmas.List.{map-append}
use Rattle.std.proofs.lemmas.List.Elements.{Contains-append_right, All-contains}
use Rattle.std.proofs.lemmas.List.Sorted.{IsPermutation-sym, IsPermutation-map, Contains-permutation}
use Rattle.ra_labels.specs.declared.kind.Kind.{Kind}
use Rattle.ra_labels.specs.declared.kind.Kind.TheVariants.{Register, LwwSet}
use Rattle.ra_labels.specs.declared.operation.Op.{Op}
use Rattle.ra_labels.specs.declared.operation.Op.TheVariants as op
use Rattle.ra_labels.specs.declared.label.Label.{Label}
use Rattle.ra_labels.specs.declared.command.Command.TheVariants.{Operate, Deliver, Join, Verdict}
use Rattle.ra_labels.specs.Edges.{EachOnce, IsBefore}
use Rattle.ra_labels.specs.Records.{Records, label_count, labels_of}
use Rattle.ra_labels.specs.Visibility.{is_update, is_update_at, sees}
use Rattle.ra_labels.specs.Places.{issuer_of}
use Rattle.ra_labels.specs.Rewriting.{Half, Part, Act, acts_of, part_of, parts_of, update_of}
use Rattle.ra_labels.specs.Linearization.{parts_in, extends_visibility, is_visible_to, are_halves, must_precede, IsRaLinearizationBy, IsRaLinearization}
use Rattle.ra_labels.specs.Answer.{kind_of}
use Rattle.ra_labels.specs.TheoremTerms.{StandsBefore}
use Rattle.ra_labels.proofs.Counted.{numbers_below_count}
use Rattle.ra_labels.proofs.Members.{everyone, at_head, behind_head, there-kept, piece_of, reached, from_where}
use Rattle.ra_list_order.proofs.Adds.{once_moved}
use Rattle.ra_list_order.proofs.Befores.{before_across}
use Rattle.ra_list_order.proofs.Cycles.{AreNew}
use Rattle.ra_list_model.proofs.OnceListed.{once_from_new}
use Rattle.ra_theorems.proofs.TheoremIndex.{label_at_each_number-there, label_at_each_number-found, extends_iff_stands_before-stands, must_precede_irreflexive, sees_earlier_updates-updates, delivered_are_updates-there, linearization_by_visibility}
use Rattle.ra_precedence.specs.Conditions.{MeetsAll, HasEachBelow}
use Rattle.ra_some_order.specs.UpdateConditions.{conditions_of}
use Rattle.ra_some_order.specs.PlainConditions.{MeetsPlainConditions}
use Rattle.ra_some_order.specs.SomeOrder.{EachLabelIsOfKind, is_decided_by_conditions, has_whole_labels, update_order}
use Rattle.ra_some_order.specs.LabelOrders.{IsOrderOfLabels, OrderExplains, label_order}
use Rattle.ra_some_order.proofs.UpdateOrders.{is_update_part, found_there, mapped_cond, order_of_updates}
use Rattle.ra_some_order.proofs.Selections.{AreOrdered, in_order_of_keys}
use Rattle.ra_some_order.proofs.PartKinds.{fitting_part}
use Rattle.ra_some_order.proofs.PrecedingParts.{Seen, Earlier, Halves, must_cases, seen_must, earlier_must}
use Rattle.ra_some_order.proofs.SequencedQueries.{extends_if_respected, sequenced}
use Rattle.ra_some_order.proofs.Linearizations.{plain_met, updates_ordered, updates_extended, conditions_met}
use Rattle.ra_some_order.proofs.LabelOrders.{met_in}
use Rattle.ra_some_order.proofs.Explanations.{linearizes}

abbrev number_of : Part → ℕ
number_of p = p.label.number

-- ---- the numbers of labels
pub label_below : (records : Records) (label : Label) → Contains (labels_of records) label
    → label.number < label_count records
label_below records label there =
    All-contains (λ (l : Label). l.number < label_count records) (labels_of records) label
    (numbers_below_count records) there

pub label_here : (records : Records) (n : ℕ) → n < label_count records
    → (label : Label) × Contains (labels_of records) label × (label.number ≡ n)
label_here records n below =
    let (label, at, numbered) = label_at_each_number-there records n below in
    (label, (found_there (λ (l : Label). l.number == n) (labels_of records) label at).0, numbered)

pub issuer_at : (records : Records) (label : Label) → Contains (labels_of records) label
    → issuer_of records label.number ≡ label.replica
issuer_at records label there =
    ap (λ o. option_map_or (λ (l : Label). l.replica) o 0) (label_at_each_number-found records label there)

pub updates_at : (records : Records) (label : Label) → Contains (labels_of records) label
    → is_update_at records label.number ≡ is_update label.op
updates_at records label there =
    ap (λ o. option_map_or (λ (l : Label). is_update l.op) o false) (label_at_each_number-found records label there)

numbers_new : (records : Records) → AreNew (map (λ label. label.number) (labels_of records))
numbers_new [] = tt
numbers_new (Operate by operation clock ∷ before) = (
  (λ there.
      let (label, found, is) = from_where (λ (l : Label). l.number) (labels_of before) (label_count before) there in
      let below = label_below before label found in
      omega (arith, below, is)),
  numbers_new before,
)
numbers_new (Deliver to n ∷ before) = numbers_new before
numbers_new (Join joined from ∷ before) = numbers_new before
numbers_new (Verdict ∷ before) = numbers_new before

-- ---- each label has one part
one_part : (label : Label) (operation : Op) → has_whole_labels (kind_of operation) ≡ true
    → map number_of (map (part_of label) (acts_of operation)) ≡ label.number ∷ []
one_part label (op.OrAdd x id) whole = absurd (false≢true whole)
one_part label (op.OrRemove x ids) whole = absurd (false≢true whole)
one_part label (op.OrRead list) whole = absurd (false≢true whole)
one_part label (op.List operation) whole = absurd (false≢true whole)
one_part label _ whole = refl

-- which is an update exactly if the operation is one
abbrev UpdatesIt : Op → Half × Act → Type 0
UpdatesIt operation act = is_some (update_of act.1) ≡ is_update operation

all_update : (operation : Op) → has_whole_labels (kind_of operation) ≡ true
    → AllByRecursion (UpdatesIt operation) (acts_of operation)
all_update (op.OrAdd x id) whole = absurd (false≢true whole)
all_update (op.OrRemove x ids) whole = absurd (false≢true whole)
all_update (op.OrRead list) whole = absurd (false≢true whole)
all_update (op.List operation) whole = absurd (false≢true whole)
all_update _ whole = (refl, tt)

numbers_of_parts : (labels : List Label)
    → ((label : Label) → Contains labels label → has_whole_labels (kind_of label.op) ≡ true)
    → map number_of (flat_map parts_of labels) ≡ map (λ label. label.number) labels
numbers_of_parts [] whole = refl
numbers_of_parts (l ∷ ls) whole =
    map-append number_of (parts_of l) (flat_map parts_of ls)
    ∙ ap (λ ns. ns ++ map number_of (flat_map parts_of ls)) (one_part l l.op (whole l (at_head l ls l refl)))
    ∙ ap (λ ns. l.number ∷ ns) (numbers_of_parts ls (λ label there. whole label (behind_head l ls label there)))

decided_whole : (kind : Kind) → is_decided_by_conditions kind ≡ true → has_whole_labels kind ≡ true
decided_whole Register decided = refl
decided_whole LwwSet decided = refl
decided_whole _ decided = absurd (false≢true decided)

-- ---- orders of numbers
kept_numbers : (test : ℕ → Bool) (ps : List Part)
    → ((p : Part) → Contains ps p → is_update_part p ≡ test p.label.number)
    → update_order ps ≡ filter test (map number_of ps)
kept_numbers test [] agrees = refl
kept_numbers test (p ∷ ps) agrees =
    mapped_cond (is_update_part p) p (filter is_update_part ps)
    ∙ ap (λ b. cond b (p.label.number ∷ update_order ps) (update_order ps)) (agrees p (at_head p ps p refl))
    ∙ ap (λ ns. cond (test p.label.number) (p.label.number ∷ ns) ns)
    (kept_numbers test ps (λ q there. agrees q (behind_head p ps q there)))

pub before_unfiltered : (test : ℕ → Bool) (xs : List ℕ) (a b : ℕ) → IsBefore (filter test xs) a b → IsBefore xs a b
before_unfiltered test [] a b before = before
before_unfiltered test (x ∷ xs) a b before =
    cond_both (test x) (x ∷ filter test xs) (filter test xs) (λ ys. IsBefore ys a b → IsBefore (x ∷ xs) a b)
    (λ keeps before. elim before [
      | inl here ↦ inl (here.0, (there-kept test xs b here.1).0)
      | inr further ↦ inr (before_unfiltered test xs a b further)
    ])
    (λ drops before. inr (before_unfiltered test xs a b before)) before

stands_in_labels : (sequence : List Part) (p q : Part) → StandsBefore p q sequence
    → IsBefore (label_order sequence) p.label.number q.label.number
stands_in_labels sequence p q (before, between, after, split) =
    let front = before ++ p ∷ between in
    subst (λ order. IsBefore order p.label.number q.label.number)
    (sym (ap label_order split ∙ map-append number_of front (q ∷ after)))
    (before_across (label_order front) (label_order (q ∷ after)) p.label.number q.label.number
    (reached number_of front p (Contains-append_right before (p ∷ between) p (at_head p between p refl)))
    (reached number_of (q ∷ after) q (at_head q after q refl)))

module _ (kind : Kind) (whole : has_whole_labels kind ≡ true) (records : Records)
    (of_kind : (label : Label) → Contains (labels_of records) label → kind_of label.op ≡ kind) where
  abbrev parts : List Part
  parts = parts_in records

  its_whole : (label : Label) → Contains (labels_of records) label → has_whole_labels (kind_of label.op) ≡ true
  its_whole label there = ap has_whole_labels (of_kind label there) ∙ whole

  numbers_are : map number_of parts ≡ map (λ label. label.number) (labels_of records)
  numbers_are = numbers_of_parts (labels_of records) its_whole

  numbers_once : EachOnce (map number_of parts)
  numbers_once = subst EachOnce (sym numbers_are) (once_from_new (map (λ label. label.number) (labels_of records))
      (numbers_new records))

  numbers_exactly : (n : ℕ) → (n < label_count records) ↔ Contains (map number_of parts) n
  numbers_exactly n = (
    (λ below.
        let (label, there, numbered) = label_here records n below in
        subst (λ ns. Contains ns n) (sym numbers_are)
        (subst (Contains (map (λ (l : Label). l.number) (labels_of records))) numbered
        (reached (λ (l : Label). l.number) (labels_of records) label there))),
    (λ there.
        let (label, found, numbered) = from_where (λ (l : Label). l.number) (labels_of records) n
        (subst (λ ns. Contains ns n) numbers_are there) in
        subst (λ m. m < label_count records) numbered (label_below records label found)),
  )

  label_there : (p : Part) → Contains parts p → Contains (labels_of records) p.label
  label_there p there = (fitting_part records p there).there

  updates_part : (p : Part) → Contains parts p → is_update_part p ≡ is_update_at records p.label.number
  updates_part p there =
      let (label, found, of_label) = piece_of parts_of (labels_of records) p there in
      let (act, among, is) = from_where (part_of label) (acts_of label.op) p of_label in
      subst (λ (q : Part). is_update_part q ≡ is_update_at records q.label.number) is
      (everyone (UpdatesIt label.op) (acts_of label.op) act (all_update label.op (its_whole label found)) among
      ∙ sym (updates_at records label found))

  module _ (sequence : List Part) (same : IsPermutation parts sequence) where
    from_sequence : (p : Part) → Contains sequence p → Contains parts p
    from_sequence p there = Contains-permutation sequence parts p (IsPermutation-sym parts sequence same) there

    updates_are : update_order sequence ≡ filter (is_update_at records) (label_order sequence)
    updates_are = kept_numbers (is_update_at records) sequence (λ p there. updates_part p (from_sequence p there))

    same_numbers : IsPermutation (map number_of parts) (label_order sequence)
    same_numbers = IsPermutation-map number_of parts sequence same

    each_below : HasEachBelow (label_count records) (label_order sequence)
    each_below = record {
      once = once_moved (map number_of parts) (label_order sequence) same_numbers numbers_once;
      all =
          λ n. (
            (λ below. Contains-permutation (map number_of parts) (label_order sequence) n same_numbers
                ((numbers_exactly n).0 below)),
            (λ there. (numbers_exactly n).1 (Contains-permutation (label_order sequence) (map number_of parts) n
                (IsPermutation-sym (map number_of parts) (label_order sequence) same_numbers) there)),
          );
    }

    part_of_number : (n : ℕ) → n < label_count records → (p : Part) × Contains sequence p × (p.label.number ≡ n)
    part_of_number n below = from_where number_of sequence n ((each_below.all n).0 below)

    module _ (extended : extends_visibility records sequence ≡ true) where
      precedes : (p q : Part) → Contains sequence p → Contains sequence q → must_precede records p q ≡ true
          → IsBefore (label_order sequence) p.label.number q.label.number
      precedes p q p_there q_there must =
          stands_in_labels sequence p q
          (extends_iff_stands_before-stands (must_precede records) (must_precede_irreflexive records) sequence extended
          p q p_there q_there must)

      order_of_labels : IsOrderOfLabels records (label_order sequence)
      order_of_labels = record {
        each = each_below;
        seen =
            λ n m below sees_it.
            let updates = sees_earlier_updates-updates records n m sees_it in
            let (p, p_there, p_numbered) = part_of_number m (delivered_are_updates-there records m updates) in
            let (q, q_there, q_numbered) = part_of_number n below in
            subst (λ k. IsBefore (label_order sequence) k n) p_numbered
            (subst (IsBefore (label_order sequence) p.label.number) q_numbered
            (precedes p q p_there q_there (seen_must records p q
            (updates_part p (from_sequence p p_there) ∙ ap (is_update_at records) p_numbered ∙ updates)
            ((λ i. sees records (q_numbered i) (p_numbered i)) ∙ sees_it))));
        replicas =
            λ m n less below issuer.
            let (p, p_there, p_numbered) = part_of_number m (omega (arith, less, below)) in
            let (q, q_there, q_numbered) = part_of_number n below in
            let p_issuer = issuer_at records p.label (label_there p (from_sequence p p_there)) in
            let q_issuer = issuer_at records q.label (label_there q (from_sequence q q_there)) in
            subst (λ k. IsBefore (label_order sequence) k n) p_numbered
            (subst (IsBefore (label_order sequence) p.label.number) q_numbered
            (precedes p q p_there q_there (earlier_must records p q
            (sym p_issuer ∙ ap (issuer_of records) p_numbered ∙ issuer ∙ sym (ap (issuer_of records) q_numbered)
            ∙ q_issuer)
            (omega (arith, less, p_numbered, q_numbered)))));
      }

  module _ (order : List ℕ) (is : IsOrderOfLabels records order) where
    in_turn : AreOrdered number_of parts order
    in_turn = in_order_of_keys number_of order parts numbers_once is.each.once
        (λ n. (
          (λ there. (is.each.all n).0 ((numbers_exactly n).1 there)),
          (λ there. (numbers_exactly n).0 ((is.each.all n).1 there)),
        ))

    in_turn_extends : extends_visibility records in_turn.ordered ≡ true
    in_turn_extends =
        extends_if_respected number_of (must_precede records) in_turn.ordered
        (subst EachOnce (sym in_turn.keys_are) is.each.once) (λ p q p_there q_there must.
        let p_part = from_sequence in_turn.ordered in_turn.same p p_there in
        let q_part = from_sequence in_turn.ordered in_turn.same q q_there in
        let q_below = label_below records q.label (label_there q q_part) in
        subst (λ ns. IsBefore ns p.label.number q.label.number) (sym in_turn.keys_are)
        (elim (must_cases records p q must) [
          | Seen updates sees_it ↦ is.seen q.label.number p.label.number q_below sees_it
          | Earlier replica less ↦ is.replicas p.label.number q.label.number less q_below
              (issuer_at records p.label (label_there p p_part) ∙ replica
              ∙ sym (issuer_at records q.label (label_there q q_part)))
          | Halves number halves ↦ absurd (no_halves p q p_part q_part number halves)
        ]))
      where
        no_halves : (p q : Part) → Contains parts p → Contains parts q → p.label.number ≡ q.label.number
            → ¬ (are_halves p.half q.half ≡ true)
        no_halves p q p_part q_part number halves = elim (cases_Bool (is_update_part p)) [
          | inl updates ↦ false≢true (sym ((fitting_part records p p_part).update updates q.half) ∙ halves)
          | inr asks ↦
              let q_asks = updates_part q q_part ∙ ap (is_update_at records) (sym number) ∙ sym (updates_part p p_part)
              ∙ asks in
              false≢true (sym ((fitting_part records q q_part).query q_asks p.half) ∙ halves)
        ]

    order_in_turn : label_order in_turn.ordered ≡ order
    order_in_turn = in_turn.keys_are

    in_turn_updates : update_order in_turn.ordered ≡ filter (is_update_at records) order
    in_turn_updates = updates_are in_turn.ordered in_turn.same ∙ ap (filter (is_update_at records)) order_in_turn

    pub explaining_order : is_decided_by_conditions kind ≡ true → MeetsPlainConditions records
        → MeetsAll order (conditions_of records)
        → (sequence : List Part) × IsRaLinearization kind records sequence × (label_order sequence ≡ order)
    explaining_order decided plain meets = (
      in_turn.ordered,
      linearizes kind decided records of_kind (update_order in_turn.ordered)
          (order_of_updates records in_turn.ordered in_turn.same)
          (subst (λ ns. MeetsAll ns (conditions_of records)) (sym in_turn_updates) (met_in records order meets))
          plain in_turn.ordered in_turn.same in_turn_extends refl,
      order_in_turn,
    )

pub label_order_explaining : (kind : Kind) (records : Records) (order : List ℕ) → is_decided_by_conditions kind ≡ true
    → EachLabelIsOfKind kind records → MeetsPlainConditions records → IsOrderOfLabels records order
    → MeetsAll order (conditions_of records)
    → (sequence : List Part) × IsRaLinearization kind records sequence × (label_order sequence ≡ order)
label_order_explaining kind records order decided of_kind plain is meets =
    explaining_order kind (decided_whole kind decided) records of_kind order is decided plain meets

-- of any kind whose labels are single parts, an order of the labels is that of a sequence
pub label_order_sequenced : (kind : Kind) (records : Records) (order : List ℕ) → has_whole_labels kind ≡ true
    → EachLabelIsOfKind kind records → IsOrderOfLabels records order
    → (sequence : List Part) × IsPermutation (parts_in records) sequence
    × (extends_visibility records sequence ≡ true) × (label_order sequence ≡ order)
    × (update_order sequence ≡ filter (is_update_at records) order)
label_order_sequenced kind records order whole of_kind is =
    let turn = in_turn kind whole records of_kind order is in (
      turn.ordered,
      turn.same,
      in_turn_extends kind whole records of_kind order is,
      order_in_turn kind whole records of_kind order is,
      in_turn_updates kind whole records of_kind order is,
    )

pub order_of_linearization : (kind : Kind) (records : Records) (sequence : List Part)
    → is_decided_by_conditions kind ≡ true → EachLabelIsOfKind kind records
    → IsRaLinearizationBy (is_visible_to records) kind records sequence
    → (order : List ℕ) × IsOrderOfLabels records order × MeetsAll order (conditions_of records)
order_of_linearization kind records sequence decided of_kind by_sight =
    let order = update_order sequence in
    let whole = decided_whole kind decided in
    let (queried, same, extended, order_is) = sequenced records order
    (updates_ordered kind records sequence by_sight) (updates_extended kind records sequence by_sight) in (
      label_order queried,
      order_of_labels kind whole records of_kind queried same extended,
      λ condition among b first.
          let (c, second, before) = conditions_met kind records sequence decided by_sight condition among b first in (
            c,
            second,
            before_unfiltered (is_update_at records) (label_order queried) b c
                (subst (λ ns. IsBefore ns b c)
                (sym order_is ∙ updates_are kind whole records of_kind queried same) before),
          ),
    )

-- the labels of a linearization are in such an order, and its updates are in the same one
pub linearized_labels : (kind : Kind) (records : Records) (sequence : List Part) → has_whole_labels kind ≡ true
    → EachLabelIsOfKind kind records → IsRaLinearization kind records sequence
    → IsOrderOfLabels records (label_order sequence)
linearized_labels kind records sequence whole of_kind linearizes =
    order_of_labels kind whole records of_kind sequence linearizes.each_part_once linearizes.visibility

pub linearized_updates : (kind : Kind) (records : Records) (sequence : List Part) → has_whole_labels kind ≡ true
    → EachLabelIsOfKind kind records → IsRaLinearization kind records sequence
    → (a b : ℕ) → IsBefore (update_order sequence) a b → IsBefore (label_order sequence) a b
linearized_updates kind records sequence whole of_kind linearizes a b before =
    before_unfiltered (is_update_at records) (label_order sequence) a b
    (subst (λ ns. IsBefore ns a b) (updates_are kind whole records of_kind sequence linearizes.each_part_once) before)

-- so an order explains the records exactly if it is one of the labels that meets the conditions
pub label_order_exactly : (kind : Kind) (records : Records) (order : List ℕ) → is_decided_by_conditions kind ≡ true
    → EachLabelIsOfKind kind records → OrderExplains kind records order
    ↔ (MeetsPlainConditions records × IsOrderOfLabels records order × MeetsAll order (conditions_of records))
label_order_exactly kind records order decided of_kind = (
  (λ (each, (sequence, linearizes, order_is)).
      let whole = decided_whole kind decided in
      let by_sight = linearization_by_visibility kind records sequence linearizes in (
        plain_met kind records sequence decided by_sight,
        subst (IsOrderOfLabels records) order_is (linearized_labels kind records sequence whole of_kind linearizes),
        λ condition among b first.
            let (c, second, before) = conditions_met kind records sequence decided by_sight condition among b first in (
              c,
              second,
              subst (λ ns. IsBefore ns b c) order_is
                  (linearized_updates kind records sequence whole of_kind linearizes b c before),
            ),
      )),
  (λ (plain, is, meets). (is.each, label_order_explaining kind records order decided of_kind plain is meets)),
)
