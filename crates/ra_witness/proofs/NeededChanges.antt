-- What a delivered update of a list needs was delivered before.
use Rattle.std.proofs.Common.{◌≡◌, ℕ, true, List, ◌∷◌, Some, refl, sym, ap, ◌∙◌, subst, inl, inr, arith}
use Rattle.std.specs.Prelude.{◌==◌, Contains}
use Rattle.std.proofs.lemmas.Bool.{and_parts, or_cases, eqb-true}
use Rattle.std.proofs.lemmas.Option.{none-some, same_Some}
use Rattle.ra_labels.specs.declared.kind.Kind.TheVariants as kinds
use Rattle.ra_labels.specs.declared.insertion.Insertion.{Insertion}
use Rattle.ra_labels.specs.declared.list_operation.ListOp.TheVariants as list
use Rattle.ra_labels.specs.declared.list_operation.ListUpdate.{ListUpdate}
use Rattle.ra_labels.specs.declared.list_operation.ListUpdate.TheVariants.{Put, Hide}
use Rattle.ra_labels.specs.declared.list_operation.ListQuery.{ListQuery}
use Rattle.ra_labels.specs.declared.list_operation.ListQuery.TheVariants as ask
use Rattle.ra_labels.specs.declared.operation.Op.{Op}
use Rattle.ra_labels.specs.declared.operation.Op.TheVariants as ops
use Rattle.ra_labels.specs.declared.operation.Update.{Update}
use Rattle.ra_labels.specs.declared.operation.Update.TheVariants as updates
use Rattle.ra_labels.specs.declared.operation.Query.TheVariants as queries
use Rattle.ra_labels.specs.declared.label.Label.{Label}
use Rattle.ra_labels.specs.declared.command.Command.TheVariants.{Deliver}
use Rattle.ra_labels.specs.Records.{Records}
use Rattle.ra_labels.specs.Visibility.{has_delivered, sees, IsCausal}
use Rattle.ra_labels.specs.Rewriting.{QueryHalf, Asks, acts_of, part_of, parts_of, updates_of}
use Rattle.ra_labels.specs.FreeList.{ListState, is_neighbor, list_answers}
use Rattle.ra_labels.specs.Specification.{State, Listing, answers, state_after}
use Rattle.ra_labels.specs.Lists.{is_among}
use Rattle.ra_labels.specs.NamedOrder.{named_labels, named_sequence}
use Rattle.ra_labels.specs.Linearization.{visible_updates}
use Rattle.ra_labels.specs.Fault.{Holds}
use Rattle.ra_labels.specs.Insertion.{updates_among}
use Rattle.ra_labels.proofs.InLists.{among-exactly}
use Rattle.ra_labels.proofs.Members.{reached, from_where, there-kept, in_piece}
use Rattle.ra_theorems.proofs.ListUpdates.{change_of, changes_of, changes_lead}
use Rattle.ra_theorems.proofs.FilterMaps.{mapped_from}
use Rattle.ra_theorems.proofs.Deliveries.{op_of, update_from, part_makes, made_by}
use Rattle.ra_theorems.proofs.TheoremIndex.{queries_admitted_iff_answered, causal_delivery_transitive-delivered}
use Rattle.ra_list_model.specs.Kept.{Needs, KeepsWhatIsNeeded, kept_by}
use Rattle.ra_list_model.proofs.AdmittedUpdates.{inserted_exactly}
use Rattle.ra_witness.proofs.NumberedChanges.{numbered_changes, numbered_kept, of_label}

-- the operation whose update half this is
abbrev op_with : ListUpdate → Op
op_with (Put insertion) = ops.List (list.Insert insertion)
op_with (Hide x) = ops.List (list.Remove x)

-- its query half
abbrev query_with : ListUpdate → ListQuery
query_with (Put insertion) = ask.Near insertion
query_with (Hide x) = ask.Has x

change_is : (u : Update) (c : ListUpdate) → change_of u ≡ Some c → u ≡ updates.List c
change_is (updates.List d) c is = ap updates.List (same_Some d c is)
change_is _ c is = absurd (none-some c is)

op_is : (c : ListUpdate) → op_of (updates.List c) ≡ op_with c
op_is (Put insertion) = refl
op_is (Hide x) = refl

-- the label whose update this is has this operation
made_op : (label : Label) (c : ListUpdate) → Contains (changes_of (updates_of (parts_of label))) c → label.op ≡ op_with c
made_op label c there =
    let (u, found, is) = mapped_from change_of (updates_of (parts_of label)) c there in
    let (p, p_there, does) = update_from (parts_of label) u found in
    made_by label.op u (part_makes label p u p_there does) ∙ ap op_of (change_is u c is) ∙ op_is c

asks_first : (c : ListUpdate) → Contains (acts_of (op_with c)) (QueryHalf, Asks (queries.List (query_with c)))
asks_first (Put insertion) = (0, omega arith, refl)
asks_first (Hide x) = (0, omega arith, refl)

-- a right answer to the query half says that what the update needs was inserted
neighbor_there : (s : ListState) (x : ℕ) → ¬ (x ≡ 0) → is_neighbor s x ≡ true → Contains s.inserted x
neighbor_there s x some is = elim (or_cases (x == 0) (is_among x s.inserted) is) [
  | inl none ↦ absurd (some (eqb-true x 0 none))
  | inr among ↦ (among-exactly x s.inserted).0 among
]

needed_there : (s : ListState) (c : ListUpdate) (x : ℕ) → list_answers s (query_with c) ≡ true → Needs c x
    → Contains s.inserted x
needed_there s (Put insertion) x right (some, which) =
    let near = and_parts (is_neighbor s insertion.left) (is_neighbor s insertion.right) right in
    elim which [
      | inl left ↦ neighbor_there s x some (subst (λ y. is_neighbor s y ≡ true) left near.0)
      | inr other ↦ neighbor_there s x some (subst (λ y. is_neighbor s y ≡ true) other near.1)
    ]
needed_there s (Hide y) x right is = subst (Contains s.inserted) is ((among-exactly y s.inserted).0 right)

right_in : (state : State) (s : ListState) (query : ListQuery) → state ≡ Listing s
    → answers state (queries.List query) ≡ true → list_answers s query ≡ true
right_in state s query is right = ap (λ t. answers t (queries.List query)) (sym is) ∙ right

module _ (records : Records) (holds : Holds kinds.List records) where
  abbrev named : List Label
  named = named_labels kinds.List records

  abbrev numbered : List (ℕ × ListUpdate)
  numbered = numbered_changes named

  -- what an update needs was inserted by an update that its label sees
  record IsSeenInsertion (n x : ℕ) : Type 0 where
    m : ℕ
    insertion : Insertion
    there : Contains numbered (m, Put insertion)
    element : insertion.element ≡ x
    seen : sees records n m ≡ true

  inserted_among : (n x : ℕ) (s : ListState) → state_after kinds.List (updates_among (sees records n) named) ≡ Some (Listing s)
      → Contains s.inserted x → IsSeenInsertion n x
  inserted_among n x s led there =
      let (t, is, model) = changes_lead (updates_among (sees records n) named) (Listing s) led in
      let same : s ≡ t = cc is in
      let (insertion, found, element) = (inserted_exactly (changes_of (updates_among (sees records n) named)) t x model).0
      ((among-exactly x t.inserted).1 (subst (λ r. Contains r.inserted x) same there)) in
      let (entry, e_there, e_is) = from_where (λ (e : ℕ × ListUpdate). e.1) (kept_by (sees records n) numbered) (Put insertion)
      (subst (λ cs. Contains cs (Put insertion)) (sym (numbered_kept (sees records n) named)) found) in
      let kept = there-kept (λ (e : ℕ × ListUpdate). sees records n e.0) numbered entry e_there in
      record {
        m = entry.0;
        insertion = insertion;
        there = subst (λ c. Contains numbered (entry.0, c)) e_is kept.0;
        element = element;
        seen = kept.1;
      }

  needed_seen : (n : ℕ) (c : ListUpdate) (x : ℕ) → Contains numbered (n, c) → Needs c x → IsSeenInsertion n x
  needed_seen n c x there needs =
      let of = of_label named n c there in
      let label = of.label in
      let is = made_op label c of.makes in
      let part = part_of label (QueryHalf, Asks (queries.List (query_with c))) in
      let part_there : Contains (named_sequence kinds.List records) part =
      in_piece parts_of named label part of.there (reached (part_of label) (acts_of label.op)
      (QueryHalf, Asks (queries.List (query_with c)))
      (subst (λ o. Contains (acts_of o) (QueryHalf, Asks (queries.List (query_with c)))) (sym is) (asks_first c))) in
      let (state, led, right) = (queries_admitted_iff_answered kinds.List records (named_sequence kinds.List records)).0
      holds.queries part (queries.List (query_with c)) part_there refl in
      let (s, state_is, model) = changes_lead (visible_updates records (named_sequence kinds.List records) label.number) state led in
      subst (λ k. IsSeenInsertion k x) of.number
      (inserted_among label.number x s (led ∙ ap Some state_is)
      (needed_there s c x (right_in state s (query_with c) state_is right) needs))

  -- so what was delivered keeps what it needs
  pub keeps_needed : (to n : ℕ) → IsCausal (Deliver to n ∷ records)
      → KeepsWhatIsNeeded (has_delivered (Deliver to n ∷ records) to) numbered
  keeps_needed to n causal m c x there had needs =
      let found = needed_seen m c x there needs in (
        found.m,
        found.insertion,
        found.there,
        found.element,
        causal_delivery_transitive-delivered (Deliver to n ∷ records) causal to m found.m had found.seen,
      )
