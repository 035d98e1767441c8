-- Lemmas on the verdicts of lists: where the records hold some order explains them, and where they do not none does.
use Rattle.std.proofs.Common.{◌≡◌, ℕ, ◌<◌, Bool, true, List, [], filter, Some, None, refl, sym, ap, ◌∙◌, subst}
use Rattle.std.specs.Prelude.{◌↔◌, Contains}
use Rattle.std.proofs.lemmas.Option.{none-some, same_Some}
use Rattle.std.proofs.lemmas.List.Elements.{filter_agree}
use Rattle.ra_labels.specs.declared.kind.Kind.TheVariants as kinds
use Rattle.ra_labels.specs.declared.label.Label.{Label}
use Rattle.ra_labels.specs.declared.operation.Op.{Op}
use Rattle.ra_labels.specs.declared.operation.Op.TheVariants as op
use Rattle.ra_labels.specs.declared.operation.Query.TheVariants as queries
use Rattle.ra_labels.specs.declared.list_operation.ListOp.TheVariants as list
use Rattle.ra_labels.specs.declared.list_operation.ListQuery.TheVariants.{Read}
use Rattle.ra_labels.specs.declared.reply.Fault.{Fault}
use Rattle.ra_labels.specs.Edges.{Extends}
use Rattle.ra_labels.specs.ListHistory.{inserted_elements, required_edges}
use Rattle.ra_labels.specs.Listing.{list_order_of}
use Rattle.ra_labels.specs.Records.{Records, label_count, labels_of, records_to}
use Rattle.ra_labels.specs.Rewriting.{Part, Half, Act, Whole, Asks, acts_of, part_of, parts_of, updates_of}
use Rattle.ra_labels.specs.Specification.{State}
use Rattle.ra_labels.specs.Visibility.{sees}
use Rattle.ra_labels.specs.Linearization.{parts_in, must_precede, is_visible_to, visible_updates, IsRaLinearizationBy}
use Rattle.ra_labels.specs.NamedOrder.{named_sequence}
use Rattle.ra_labels.specs.Fault.{Holds, fault_of}
use Rattle.ra_labels.proofs.InLists.{list_all-contains}
use Rattle.ra_labels.proofs.Members.{at_head, reached, in_piece}
use Rattle.ra_list_model.proofs.AnsweredQueries.{one_read}
use Rattle.ra_theorems.specs.AnyOrder.{IsFinal}
use Rattle.ra_theorems.specs.OrderedLists.{state_after_at, answers_at, is_query_admitted_at, IsOrderOfElements, IsListLinearization, NoOrderLinearizes}
use Rattle.ra_theorems.proofs.Meanings.{some-exactly, answered}
use Rattle.ra_theorems.proofs.Faults.{fault_is_least, no_cause_from_holds, each_label_holds, no_fault_from_labels, holds_from_no_fault}
use Rattle.ra_theorems.proofs.AmongParts.{shuffled_among, seen_by}
use Rattle.ra_theorems.proofs.ListUpdates.{changes_lead}
use Rattle.ra_theorems.proofs.ListsInAnyOrder.{named_list_linearizes}
use Rattle.ra_theorems.proofs.AnyOrder.{by_visibility, labels_to}
use Rattle.ra_theorems.proofs.ListedOrders.{kept_order}
use Rattle.ra_theorems.proofs.PartEdges.{required_by_label, label_requires, inserted_by_label, label_inserts}
use Rattle.ra_theorems.proofs.OrderedParts.{updates_decided}
use Rattle.ra_theorems.proofs.OrderedLists.{linearization_decided}
use Rattle.ra_theorems.proofs.ListedElements.{ends_inserted}

-- an RA-linearization is one for some order, which extends the required edges
some_order : (precedes : Part → Part → Bool) (records : Records) (sequence : List Part)
    → IsRaLinearizationBy precedes kinds.List records sequence
    → (order : List ℕ) × IsOrderOfElements order records × Extends order (required_edges records)
some_order precedes records sequence linearizes =
    let edges = required_edges records in
    let (order, is) = (some-exactly (list_order_of (inserted_elements records) edges)).0 linearizes.explained in
    let (once, all, extends) = kept_order (inserted_elements records) edges order is in (
      order,
      record { once = once; all = all },
      λ edge there.
          let ends = ends_inserted records sequence precedes linearizes edge there in
          extends edge there ends.0 ends.1,
    )

pub linearizes_iff_some : (precedes : Part → Part → Bool) (records : Records) (sequence : List Part)
    → IsRaLinearizationBy precedes kinds.List records sequence
    ↔ ((order : List ℕ) × IsListLinearization order precedes records sequence)
linearizes_iff_some precedes records sequence = (
  (λ linearizes.
      let (order, elements, extends) = some_order precedes records sequence linearizes in
      (order, (linearization_decided order precedes records sequence elements).1 (linearizes, extends))),
  (λ some. ((linearization_decided some.0 precedes records sequence some.1.elements).0 some.1).0),
)

pub holds_iff_some : (records : Records) → Holds kinds.List records
    ↔ ((order : List ℕ)
    × IsListLinearization order (must_precede records) records (named_sequence kinds.List records))
holds_iff_some records = linearizes_iff_some (must_precede records) records (named_sequence kinds.List records)

pub holds_iff_any : (records : Records) → Holds kinds.List records
    ↔ ((order : List ℕ) × (sequence : List Part)
    × IsListLinearization order (is_visible_to records) records sequence)
holds_iff_any records = (
  (λ holds.
      let named = named_sequence kinds.List records in
      let (order, linearizes) = (linearizes_iff_some (is_visible_to records) records named).0
      (by_visibility kinds.List records named holds) in
      (order, named, linearizes)),
  (λ (order, sequence, linearizes). named_list_linearizes records sequence
      ((linearizes_iff_some (is_visible_to records) records sequence).1 (order, linearizes))),
)

-- ---- one order at each label

required_to : (records : Records) (n : ℕ) (order : List ℕ) → Extends order (required_edges records)
    → Extends order (required_edges (records_to records n))
required_to records n order extends edge there =
    let (label, found, requires) = required_by_label (records_to records n) edge there in
    extends edge (label_requires records label edge (labels_to records n label found) requires)

elements_to : (records : Records) (n : ℕ) (order : List ℕ) → IsOrderOfElements order records
    → IsOrderOfElements order (records_to records n)
elements_to records n order is = record {
  once = is.once;
  all = λ x there.
      let (label, found, inserts) = inserted_by_label (records_to records n) x there in
      is.all x (label_inserts records label x (labels_to records n label found) inserts);
}

pub no_fault_iff_one : (records : Records) → (fault_of kinds.List records ≡ None)
    ↔ ((order : List ℕ) × ((n : ℕ) → n < label_count records
    → IsListLinearization order (must_precede (records_to records n)) (records_to records n)
    (named_sequence kinds.List (records_to records n))))
no_fault_iff_one records = (
  (λ none.
      let (order, elements, extends) = some_order (must_precede records) records (named_sequence kinds.List records)
      (holds_from_no_fault kinds.List records none) in (
        order,
        λ n few.
            let upto = records_to records n in
            (linearization_decided order (must_precede upto) upto (named_sequence kinds.List upto)
            (elements_to records n order elements)).1
            (each_label_holds kinds.List records none n few, required_to records n order extends),
      )),
  (λ (order, each). no_fault_from_labels kinds.List records
      (λ n few. (holds_iff_some (records_to records n)).1 (order, each n few))),
)

-- ---- violations

pub final_iff_no_order : (records : Records) (n : ℕ) → IsFinal kinds.List records n
    ↔ NoOrderLinearizes (records_to records n)
final_iff_no_order records n =
    let upto = records_to records n in (
      (λ final order sequence linearizes. final sequence
          ((linearizes_iff_some (is_visible_to upto) upto sequence).1 (order, linearizes))),
      (λ none sequence linearizes.
          let (order, for_order) = (linearizes_iff_some (is_visible_to upto) upto sequence).0 linearizes in
          none order sequence for_order),
    )

pub violation_excludes : (records : Records) (fault : Fault) → fault_of kinds.List records ≡ Some fault
    → NoOrderLinearizes (records_to records fault.label)
violation_excludes records fault is order sequence linearizes =
    let upto = records_to records fault.label in
    let least = fault_is_least kinds.List records fault is in
    let holds = (holds_iff_any upto).1 (order, sequence, linearizes) in
    none-some fault.cause (sym (no_cause_from_holds kinds.List upto holds) ∙ least.fails)

-- ---- convergence

-- the read of a label, which is right for the order after the updates that the label sees
read_right : (order : List ℕ) (records : Records) (label : Label) (elements : List ℕ)
    → IsListLinearization order (must_precede records) records (named_sequence kinds.List records)
    → Contains (labels_of records) label → label.op ≡ op.List (list.Read elements)
    → (state : State)
    × (state_after_at order (visible_updates records (named_sequence kinds.List records) label.number) ≡ Some state)
    × (answers_at order state (queries.List (Read elements)) ≡ true)
read_right order records label elements linearizes found is =
    let named = named_sequence kinds.List records in
    let act : Half × Act = (Whole, Asks (queries.List (Read elements))) in
    let part = part_of label act in
    let own = reached (part_of label) (acts_of label.op) act
    (subst (λ (o : Op). Contains (acts_of o) act) (sym is) (at_head act [] act refl)) in
    let there = shuffled_among (parts_in records) named linearizes.each_part_once part
    (in_piece parts_of (labels_of records) label part found own) in
    (answered (λ s. answers_at order s (queries.List (Read elements)))
    (state_after_at order (visible_updates records named label.number))).0
    (list_all-contains (is_query_admitted_at order records named) named part linearizes.queries there)

pub same_read : (records : Records) (read other : Label) (first second : List ℕ) → Holds kinds.List records
    → Contains (labels_of records) read → Contains (labels_of records) other
    → read.op ≡ op.List (list.Read first) → other.op ≡ op.List (list.Read second)
    → ((n : ℕ) → sees records read.number n ≡ sees records other.number n) → first ≡ second
same_read records read other first second holds read_there other_there is other_is same =
    let named = named_sequence kinds.List records in
    let (order, linearizes) = (holds_iff_some records).0 holds in
    let (state, led, right) = read_right order records read first linearizes read_there is in
    let (state_too, led_too, right_too) = read_right order records other second linearizes other_there other_is in
    let alike : visible_updates records named read.number ≡ visible_updates records named other.number =
    ap updates_of (filter_agree (seen_by records read.number) (seen_by records other.number)
    (λ part. same part.label.number) named) in
    let one : state ≡ state_too =
    same_Some state state_too (sym led ∙ ap (state_after_at order) alike ∙ led_too) in
    let seen = filter (seen_by records read.number) named in
    let (s, listing, after) = changes_lead (updates_of seen) state ((updates_decided order seen state).0 led).0 in
    one_read order s first second
    (subst (λ t. answers_at order t (queries.List (Read first)) ≡ true) listing right)
    (subst (λ t. answers_at order t (queries.List (Read second)) ≡ true) (sym one ∙ listing) right_too)
