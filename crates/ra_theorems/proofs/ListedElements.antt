-- Lemmas on the elements that the parts of a list name: where the free specification admits and answers them, they were
-- inserted.
use Rattle.std.proofs.Common.{◌≡◌, ℕ, Bool, true, List, [], ◌∷◌, ◌++◌, filter, Some, refl, sym, ap, ◌∙◌, subst, inl, inr}
use Rattle.std.specs.Prelude.{◌==◌, not, Contains}
use Rattle.std.specs.List.{list_all}
use Rattle.std.proofs.lemmas.Bool.{cases_Bool, cond-true, cond-false, and_parts, eq-eqb, false≢true}
use Rattle.std.proofs.lemmas.List.Elements.{Contains-append_cases}
use Rattle.std.proofs.lemmas.List.Sorted.{Contains-permutation, IsPermutation-sym}
use Rattle.ra_labels.specs.declared.edge.Edge.{Edge}
use Rattle.ra_labels.specs.declared.insertion.Insertion.{Insertion}
use Rattle.ra_labels.specs.declared.kind.Kind.TheVariants as kinds
use Rattle.ra_labels.specs.declared.list_operation.ListQuery.{ListQuery}
use Rattle.ra_labels.specs.declared.list_operation.ListQuery.TheVariants.{Near, Has, Read}
use Rattle.ra_labels.specs.declared.list_operation.ListQuery.TheVariants as ask
use Rattle.ra_labels.specs.declared.list_operation.ListUpdate.TheVariants.{Put, Hide}
use Rattle.ra_labels.specs.declared.operation.Update.TheVariants as updates
use Rattle.ra_labels.specs.declared.operation.Query.TheVariants as queries
use Rattle.ra_labels.specs.FreeList.{ListState, shown_in, has_each_once, list_answers, list_state_after}
use Rattle.ra_labels.specs.ListHistory.{inserted_elements, required_edges}
use Rattle.ra_labels.specs.Lists.{is_among, have_same_elements}
use Rattle.ra_labels.specs.Neighborhood.{named}
use Rattle.ra_labels.specs.Reads.{edges_of_read}
use Rattle.ra_labels.specs.Records.{Records}
use Rattle.ra_labels.specs.Rewriting.{Part, Act, Does, Asks, updates_of}
use Rattle.ra_labels.specs.Specification.{answers, state_after}
use Rattle.ra_labels.specs.Linearization.{parts_in, IsRaLinearizationBy}
use Rattle.ra_labels.proofs.InLists.{list_all-contains, among-exactly, same-exactly}
use Rattle.ra_labels.proofs.Members.{head_or_behind, at_head, behind_head, none_there, there-kept}
use Rattle.ra_list_model.specs.Kept.{Needs}
use Rattle.ra_theorems.proofs.Meanings.{some-exactly, queries-exactly}
use Rattle.ra_theorems.proofs.AmongParts.{AreAmong, shuffled_among, seen_by}
use Rattle.ra_theorems.proofs.FilterMaps.{mapped_there}
use Rattle.ra_theorems.proofs.ListUpdates.{changes_lead, change_in, changes_in, changes-of_parts, does_change}
use Rattle.ra_theorems.proofs.ListsInAnyOrder.{inserting_part, needs_put}
use Rattle.ra_theorems.proofs.PartEdges.{edges_of_act, required_by_part, inserted_by_part}
use Rattle.ra_theorems.proofs.OrderedLists.{inserted_in_records}

-- both ends of an edge of a list are in the list
ends_listed : (n : ℕ) (xs : List ℕ) (edge : Edge) → Contains (edges_of_read n xs) edge
    → Contains xs edge.before × Contains xs edge.after
ends_listed n [] edge there = absurd (none_there edge there)
ends_listed n (x ∷ []) edge there = absurd (none_there edge there)
ends_listed n (x ∷ y ∷ xs) edge there =
    elim (head_or_behind (record { before = x; after = y; label = n }) (edges_of_read n (y ∷ xs)) edge there) [
      | inl here ↦ (
        at_head x (y ∷ xs) edge.before (ap (λ (e : Edge). e.before) here),
        behind_head x (y ∷ xs) edge.after (at_head y xs edge.after (ap (λ (e : Edge). e.after) here)),
      )
      | inr further ↦
          let rest = ends_listed n (y ∷ xs) edge further in
          (behind_head x (y ∷ xs) edge.before rest.0, behind_head x (y ∷ xs) edge.after rest.1)
    ]

-- a named neighbour is not 0
named_is : (y x : ℕ) → Contains (named y) x → (y ≡ x) × (¬ (x ≡ 0))
named_is y x there = elim (cases_Bool (y == 0)) [
  | inl none ↦ absurd (none_there x (subst (λ xs. Contains xs x) (cond-true (y == 0) [] (y ∷ []) none) there))
  | inr some ↦ elim (head_or_behind y [] x (subst (λ xs. Contains xs x) (cond-false (y == 0) [] (y ∷ []) some) there)) [
    | inl here ↦ (here, λ zero. false≢true (sym some ∙ eq-eqb y 0 (here ∙ zero)))
    | inr further ↦ absurd (none_there x further)
  ]
]

module _ (records : Records) (sequence : List Part) (precedes : Part → Part → Bool)
    (linearizes : IsRaLinearizationBy precedes kinds.List records sequence) where
  in_records : AreAmong sequence (parts_in records)
  in_records part there = Contains-permutation sequence (parts_in records) part
      (IsPermutation-sym (parts_in records) sequence linearizes.each_part_once) there

  -- an element that an update needs was inserted
  needed_inserted : (part : Part) (insertion : Insertion) (x : ℕ) → Contains sequence part
      → part.act ≡ Does (updates.List (Put insertion)) → Needs (Put insertion) x
      → Contains (inserted_elements records) x
  needed_inserted part insertion x there does needs =
      let (state, led) = (some-exactly (state_after kinds.List (updates_of sequence))).0 linearizes.updates in
      let (s, is, after) = changes_lead (updates_of sequence) state led in
      let lists = ap list_state_after (sym (changes-of_parts sequence)) ∙ after in
      let change_there = mapped_there change_in sequence part (Put insertion) there
      (does_change part (Put insertion) does) in
      let puts = needs_put (changes_in sequence) s (Put insertion) x lists change_there needs in
      let (other, found, inserts) = inserting_part sequence x puts in
      inserted_by_part records other x (in_records other found) inserts

  neighbor_inserted : (part : Part) (insertion : Insertion) (x : ℕ) → Contains sequence part
      → part.act ≡ Does (updates.List (Put insertion))
      → Contains (named insertion.left ++ insertion.element ∷ named insertion.right) x
      → Contains (inserted_elements records) x
  neighbor_inserted part insertion x there does among =
      let behind = insertion.element ∷ named insertion.right in
      elim (Contains-append_cases (named insertion.left) behind x among) [
        | inl first ↦
            let left = named_is insertion.left x first in
            needed_inserted part insertion x there does (left.1, inl left.0)
        | inr later ↦ elim (head_or_behind insertion.element (named insertion.right) x later) [
          | inl here ↦ inserted_by_part records part x (in_records part there) (insertion, does, here)
          | inr last ↦
              let right = named_is insertion.right x last in
              needed_inserted part insertion x there does (right.1, inr right.0)
        ]
      ]

  -- an element that a read shows was inserted
  shown_inserted : (part : Part) (question : ListQuery) (x : ℕ) → Contains sequence part
      → part.act ≡ Asks (queries.List question)
      → ((s : ListState) → list_answers s question ≡ true → Contains (shown_in s) x)
      → Contains (inserted_elements records) x
  shown_inserted part question x there asks shows =
      let (state, led, answered) = (queries-exactly kinds.List records sequence).0 linearizes.queries part
      (queries.List question) there asks in
      let seen = filter (seen_by records part.label.number) sequence in
      let (s, is, after) = changes_lead (updates_of seen) state led in
      let shown = shows s (subst (λ t. answers t (queries.List question) ≡ true) is answered) in
      let inserted = (there-kept (λ y. not (is_among y s.removed)) s.inserted x shown).0 in
      inserted_in_records records seen
      (λ other found. in_records other (there-kept (seen_by records part.label.number) sequence other found).0)
      s (led ∙ ap Some is) x inserted

  read_shows : (xs : List ℕ) (x : ℕ) → Contains xs x → (s : ListState) → list_answers s (Read xs) ≡ true
      → Contains (shown_in s) x
  read_shows xs x there s answered =
      let tests = and_parts (has_each_once xs) (have_same_elements xs (shown_in s)) answered in
      ((same-exactly xs (shown_in s)).0 tests.1 x).0 there

  part_shows : (xs : List ℕ) (x : ℕ) → Contains xs x → (s : ListState) → list_answers s (ask.Part xs) ≡ true
      → Contains (shown_in s) x
  part_shows xs x there s answered =
      let tests = and_parts (has_each_once xs) (list_all (λ y. is_among y (shown_in s)) xs) answered in
      (among-exactly x (shown_in s)).0 (list_all-contains (λ y. is_among y (shown_in s)) xs x tests.1 there)

  -- holds if both ends of the edge were inserted
  abbrev HasInsertedEnds : Edge → Type 0
  HasInsertedEnds edge =
      Contains (inserted_elements records) edge.before × Contains (inserted_elements records) edge.after

  listed_ends : (n : ℕ) (xs : List ℕ) (edge : Edge) → ((x : ℕ) → Contains xs x → Contains (inserted_elements records) x)
      → Contains (edges_of_read n xs) edge → HasInsertedEnds edge
  listed_ends n xs edge inserted there =
      let ends = ends_listed n xs edge there in
      (inserted edge.before ends.0, inserted edge.after ends.1)

  ends_of_act : (act : Act) (part : Part) (edge : Edge) → part.act ≡ act → Contains sequence part
      → Contains (edges_of_act part.label.number act) edge → HasInsertedEnds edge
  ends_of_act (Does (updates.List (Put insertion))) part edge is there edge_there =
      listed_ends part.label.number (named insertion.left ++ insertion.element ∷ named insertion.right) edge
      (λ x among. neighbor_inserted part insertion x there is among) edge_there
  ends_of_act (Does (updates.List (Hide x))) part edge is there edge_there = absurd (none_there edge edge_there)
  ends_of_act (Does _) part edge is there edge_there = absurd (none_there edge edge_there)
  ends_of_act (Asks (queries.List (Near insertion))) part edge is there edge_there =
      absurd (none_there edge edge_there)
  ends_of_act (Asks (queries.List (Has x))) part edge is there edge_there = absurd (none_there edge edge_there)
  ends_of_act (Asks (queries.List (Read xs))) part edge is there edge_there =
      listed_ends part.label.number xs edge
      (λ x among. shown_inserted part (Read xs) x there is (read_shows xs x among)) edge_there
  ends_of_act (Asks (queries.List (ask.Part xs))) part edge is there edge_there =
      listed_ends part.label.number xs edge
      (λ x among. shown_inserted part (ask.Part xs) x there is (part_shows xs x among)) edge_there
  ends_of_act (Asks _) part edge is there edge_there = absurd (none_there edge edge_there)

  -- both ends of each required edge were inserted
  pub ends_inserted : (edge : Edge) → Contains (required_edges records) edge → HasInsertedEnds edge
  ends_inserted edge there =
      let (part, found, edge_there) = required_by_part records edge there in
      ends_of_act part.act part edge refl
      (shuffled_among (parts_in records) sequence linearizes.each_part_once part found) edge_there
