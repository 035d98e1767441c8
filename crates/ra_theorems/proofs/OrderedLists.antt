-- Lemmas on RA-linearizations by the specification of a list for an order: those by the free specification, if the order
-- extends the required edges.
use Rattle.std.proofs.Common.{◌≡◌, ℕ, Bool, true, List, filter, Some, refl, sym, ap, ◌∙◌, subst, inl, inr}
use Rattle.std.specs.Prelude.{◌↔◌, is_some, Contains, IsPermutation}
use Rattle.std.proofs.lemmas.List.Sorted.{Contains-permutation, IsPermutation-sym}
use Rattle.ra_labels.specs.declared.kind.Kind.TheVariants as kinds
use Rattle.ra_labels.specs.Edges.{Extends}
use Rattle.ra_labels.specs.FreeList.{ListState, empty_list, list_state_after}
use Rattle.ra_labels.specs.ListHistory.{inserted_elements, required_edges}
use Rattle.ra_labels.specs.Records.{Records}
use Rattle.ra_labels.specs.Rewriting.{Part, Act, Does, Asks, update_of, query_of, updates_of}
use Rattle.ra_labels.specs.Specification.{Listing, state_after}
use Rattle.ra_labels.specs.Linearization.{parts_in, is_query_admitted, queries_admitted, IsRaLinearizationBy}
use Rattle.ra_labels.proofs.InLists.{list_all-contains, list_all-from_contains}
use Rattle.ra_labels.proofs.Members.{there-kept, none_there}
use Rattle.ra_list_order.proofs.Listings.{list_order_there}
use Rattle.ra_list_model.proofs.AdmittedUpdates.{inserted_from}
use Rattle.ra_theorems.specs.OrderedLists.{state_after_at, is_query_admitted_at, queries_admitted_at, IsOrderOfElements, IsListLinearization}
use Rattle.ra_theorems.proofs.Meanings.{some-exactly}
use Rattle.ra_theorems.proofs.AmongParts.{AreAmong, shuffled_among, seen_by}
use Rattle.ra_theorems.proofs.ListUpdates.{changes_lead, changes_in, changes-of_parts}
use Rattle.ra_theorems.proofs.ListsInAnyOrder.{inserting_part}
use Rattle.ra_theorems.proofs.PartEdges.{edges_of_part, ExtendsEach, each_from_required, required_from_each, inserted_by_part}
use Rattle.ra_theorems.proofs.OrderedParts.{ExtendsUpdates, IsOrderAfter, updates_decided, act_decided}

-- an element that admitted updates of parts insert is among those that the records insert
pub inserted_in_records : (records : Records) (parts : List Part) → AreAmong parts (parts_in records) → (s : ListState)
    → state_after kinds.List (updates_of parts) ≡ Some (Listing s) → (x : ℕ) → Contains s.inserted x
    → Contains (inserted_elements records) x
inserted_in_records records parts among s led x there =
    let (t, same, after) = changes_lead (updates_of parts) (Listing s) led in
    let lists = ap list_state_after (sym (changes-of_parts parts)) ∙ after in
    let inserted : Contains t.inserted x = subst (λ r. Contains r.inserted x) (listing_same s t same) there in
    elim ((inserted_from (changes_in parts) empty_list t x lists).0 inserted) [
      | inl none ↦ absurd (none_there x none)
      | inr puts ↦
          let (part, found, inserts) = inserting_part parts x puts in
          inserted_by_part records part x (among part found) inserts
    ]
  where
    listing_same : (r t : ListState) → Listing r ≡ Listing t → r ≡ t
    listing_same r t is = cc is

order_after : (order : List ℕ) (records : Records) (parts : List Part) → AreAmong parts (parts_in records)
    → IsOrderOfElements order records → IsOrderAfter order parts
order_after order records parts among elements s led = record {
  once = elements.once;
  all = λ x there. elements.all x (inserted_in_records records parts among s led x there);
}

module _ (order : List ℕ) (records : Records) (sequence : List Part)
    (each_part_once : IsPermutation (parts_in records) sequence) (elements : IsOrderOfElements order records) where
  in_records : AreAmong sequence (parts_in records)
  in_records part there = Contains-permutation sequence (parts_in records) part
      (IsPermutation-sym (parts_in records) sequence each_part_once) there

  -- the parts that a label sees are among those of the sequence
  seen_in : (n : ℕ) → AreAmong (filter (seen_by records n) sequence) sequence
  seen_in n part there = (there-kept (seen_by records n) sequence part there).0

  -- holds if the order extends the edges of each query of the sequence
  abbrev ExtendsQueries : Type 0
  ExtendsQueries = (part : Part) → Contains sequence part → is_some (query_of part.act) ≡ true
      → Extends order (edges_of_part part)

  query_decided_in : ExtendsUpdates order sequence → (part : Part)
      → (is_query_admitted_at order records sequence part ≡ true)
      ↔ ((is_query_admitted kinds.List records sequence part ≡ true)
      × (is_some (query_of part.act) ≡ true → Extends order (edges_of_part part)))
  query_decided_in extends part =
      let n = part.label.number in
      let seen = filter (seen_by records n) sequence in
      act_decided order n part.act seen (λ other there. extends other (seen_in n other there))
      (order_after order records seen (λ other there. in_records other (seen_in n other there)) elements)

  queries_decided : ExtendsUpdates order sequence → (queries_admitted_at order records sequence ≡ true)
      ↔ ((queries_admitted kinds.List records sequence ≡ true) × ExtendsQueries)
  queries_decided extends = (
    (λ pass.
        let each : (part : Part) → Contains sequence part → _ = λ part there. (query_decided_in extends part).0
        (list_all-contains (is_query_admitted_at order records sequence) sequence part pass there) in (
          list_all-from_contains (is_query_admitted kinds.List records sequence) sequence
              (λ part there. (each part there).0),
          λ part there. (each part there).1,
        )),
    (λ known. list_all-from_contains (is_query_admitted_at order records sequence) sequence
        (λ part there. (query_decided_in extends part).1 (
          list_all-contains (is_query_admitted kinds.List records sequence) sequence part known.0 there,
          known.1 part there,
        ))),
  )

  -- the edges of updates and of queries are those that the records require
  each_from_both : ExtendsUpdates order sequence → ExtendsQueries → Extends order (required_edges records)
  each_from_both extends_updates extends_queries = required_from_each order records (λ part there.
      let found = shuffled_among (parts_in records) sequence each_part_once part there in
      one_of part.act part refl (extends_updates part found) (extends_queries part found))
    where
      one_of : (act : Act) (part : Part) → part.act ≡ act
          → (is_some (update_of part.act) ≡ true → Extends order (edges_of_part part))
          → (is_some (query_of part.act) ≡ true → Extends order (edges_of_part part))
          → Extends order (edges_of_part part)
      one_of (Does update) part is from_update from_query = from_update (ap (λ a. is_some (update_of a)) is)
      one_of (Asks query) part is from_update from_query = from_query (ap (λ a. is_some (query_of a)) is)

  each_extends : Extends order (required_edges records) → ExtendsEach order sequence
  each_extends extends part there = each_from_required order records extends part (in_records part there)

-- a sequence is an RA-linearization for an order exactly if it is one by the free specification and the order extends
-- the required edges
pub linearization_decided : (order : List ℕ) (precedes : Part → Part → Bool) (records : Records) (sequence : List Part)
    → IsOrderOfElements order records
    → IsListLinearization order precedes records sequence
    ↔ (IsRaLinearizationBy precedes kinds.List records sequence × Extends order (required_edges records))
linearization_decided order precedes records sequence elements = (
  (λ linearizes.
      let once = linearizes.each_part_once in
      let (state, led) = (some-exactly (state_after_at order (updates_of sequence))).0 linearizes.updates in
      let (led_free, extends_updates) = (updates_decided order sequence state).0 led in
      let (asked, extends_queries) =
      (queries_decided order records sequence once elements extends_updates).0 linearizes.queries in
      let extends = each_from_both order records sequence once elements extends_updates extends_queries in
      let (kept, listed) = list_order_there order (inserted_elements records) (required_edges records) elements.once
      extends elements.all in (
        record {
          each_part_once = once;
          visibility = linearizes.visibility;
          updates = ap is_some led_free;
          queries = asked;
          explained = ap is_some listed;
        },
        extends,
      )),
  (λ both.
      let free = both.0 in
      let once = free.each_part_once in
      let each = each_extends order records sequence once elements both.1 in
      let (state, led) = (some-exactly (state_after kinds.List (updates_of sequence))).0 free.updates in
      let extends_updates : ExtendsUpdates order sequence = λ part there some. each part there in
      record {
        elements = elements;
        each_part_once = once;
        visibility = free.visibility;
        updates = ap is_some ((updates_decided order sequence state).1 (led, extends_updates));
        queries = (queries_decided order records sequence once elements extends_updates).1
            (free.queries, λ part there some. each part there);
      }),
)
