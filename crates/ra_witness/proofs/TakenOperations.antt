-- The past of a list after one more label.
use Rattle.std.proofs.Common.{◌≡◌, ℕ, true, false, Bool, cond, List, [], ◌∷◌, ◌++◌, map, Option, Some, None, refl, sym, ap, ◌∙◌, subst, inl, inr, arith}
use Rattle.std.specs.Prelude.{◌↔◌, ◌⊎◌, ◌==◌, is_some, not, ◌&&◌, option_map, Contains, set}
use Rattle.std.specs.List.{list_all}
use Rattle.std.proofs.lemmas.Bool.{false≢true, cases_Bool, and_parts, and_from, cond-true, cond-false, not-true, not_from_false, false_from_ne_true, or_cases}
use Rattle.std.proofs.lemmas.Option.{none-some}
use Rattle.std.proofs.lemmas.List.{map-append, length-map}
use Rattle.std.proofs.lemmas.List.Elements.{Contains-append_cases, Contains-append_left, Contains-append_right}
use Rattle.ra_labels.specs.declared.kind.Kind.TheVariants as kinds
use Rattle.ra_labels.specs.declared.edge.Edge.{Edge}
use Rattle.ra_labels.specs.declared.list_operation.ListOp.{ListOp}
use Rattle.ra_labels.specs.declared.list_operation.ListOp.TheVariants as list
use Rattle.ra_labels.specs.declared.list_operation.ListUpdate.{ListUpdate}
use Rattle.ra_labels.specs.declared.list_operation.ListUpdate.TheVariants.{Put, Hide}
use Rattle.ra_labels.specs.declared.operation.Op.TheVariants as ops
use Rattle.ra_labels.specs.declared.operation.Update.TheVariants as updates
use Rattle.ra_labels.specs.declared.label.Label.{Label}
use Rattle.ra_labels.specs.declared.reply.Cause.TheVariants as cause
use Rattle.ra_labels.specs.Records.{Records, label_count}
use Rattle.ra_labels.specs.Explained.{is_explained}
use Rattle.ra_labels.specs.ListHistory.{inserted_by, edges_required_by, inserted_elements, required_edges}
use Rattle.ra_labels.specs.Edges.{EachOnce, Extends, IsCycle}
use Rattle.ra_labels.specs.Reads.{edges_of_read}
use Rattle.ra_labels.specs.Neighborhood.{named, neighborhood}
use Rattle.ra_labels.specs.Lists.{is_among, have_same_elements}
use Rattle.ra_labels.specs.FreeList.{ListState, shown_in, is_neighbor, are_neighbors, can_insert, list_step, has_each_once, list_answers}
use Rattle.ra_labels.specs.ListOperations as its
use Rattle.ra_labels.specs.Specification.{Listing, state_after}
use Rattle.ra_labels.specs.Insertion.{delivered_updates}
use Rattle.ra_labels.specs.Commuting.{then_step}
use Rattle.ra_labels.specs.HistorySoFar.{history_of, NextOperation, operate}
use Rattle.ra_labels.proofs.InLists.{among-exactly, list_all-contains}
use Rattle.ra_labels.proofs.Members.{head_or_behind, at_head, behind_head, none_there, there-kept}
use Rattle.ra_theorems.proofs.TheoremIndex.{operation_extends_delivered-query}
use Rattle.ra_list_order.proofs.Listings.{list_order_there, no_list_order}
use Rattle.ra_list_model.proofs.AdmittedUpdates.{step_inserted}
use Rattle.ra_list_effects.specs.Past.{Past, state_at, admits, cause_at, after_update, with_operation}
use Rattle.ra_witness.specs.Labels.{update_in}
use Rattle.ra_witness.specs.States as states
use Rattle.ra_witness.specs.Standing.{AreStatesOf}
use Rattle.ra_witness.specs.KeptList.{as_update, IsPastOf}
use Rattle.ra_witness.specs.Offered.{IsOffered}
use Rattle.ra_witness.proofs.Forms.{its_replica}
use Rattle.ra_witness.proofs.Newest.{own-step}
use Rattle.ra_witness.proofs.NumberedLabels.{makes_it, makes_none}
use Rattle.ra_witness.proofs.ReplicaStates.{kept-operation}
use Rattle.ra_witness.proofs.ListStates.{listing_at, listing_set, after_listing, step_made, update_is, then_changed, whole_with}
use Rattle.ra_witness.proofs.ListCauses.{replica_there, led_to}

-- ---- what an operation that passed its test changes

some_step : (s : ListState) (update : ListUpdate) (o : Option ListState) → list_step s update ≡ o → is_some o ≡ true
    → (t : ListState) × (list_step s update ≡ Some t)
some_step s update None is some = absurd (false≢true some)
some_step s update (Some t) is some = (t, is)

-- the state that admits the update, if there is one, with its change
pub changed_to : (s : ListState) (change : Option ListUpdate) → admits s change ≡ true
    → then_changed s change ≡ Some (Listing (after_update s change))
changed_to s None is = refl
changed_to s (Some update) is =
    let (t, led) = some_step s update (list_step s update) refl is in
    ap (option_map Listing) led ∙ ap (λ r. Some (Listing r)) (sym (step_made s t update led))

-- what is in the state after the change
abbrev pub PutsElement : Option ListUpdate → ℕ → Type 0
PutsElement (Some (Put insertion)) x = insertion.element ≡ x
PutsElement _ x = ⊥

inserted_with : (s : ListState) (change : Option ListUpdate) (x : ℕ) → admits s change ≡ true
    → Contains (after_update s change).inserted x ↔ (PutsElement change x ⊎ Contains s.inserted x)
inserted_with s None x is = (λ there. inr there, λ either. elim either [ inl none ↦ absurd none | inr there ↦ there ])
inserted_with s (Some (Put insertion)) x is =
    let (t, led) = some_step s (Put insertion) (list_step s (Put insertion)) refl is in
    subst (λ r. Contains r.inserted x ↔ ((insertion.element ≡ x) ⊎ Contains s.inserted x))
    (sym (step_made s t (Put insertion) led)) (step_inserted s t (Put insertion) x led)
inserted_with s (Some (Hide y)) x is =
    let (t, led) = some_step s (Hide y) (list_step s (Hide y)) refl is in
    subst (λ r. Contains r.inserted x ↔ (⊥ ⊎ Contains s.inserted x)) (sym (step_made s t (Hide y) led))
    (step_inserted s t (Hide y) x led)

-- ---- the elements that the labels insert

one_element : (y x : ℕ) → Contains (y ∷ []) x → y ≡ x
one_element y x there = elim (head_or_behind y [] x there) [
  | inl is ↦ is
  | inr none ↦ absurd (none_there x none)
]

inserts : (operation : ListOp) (x : ℕ) → Contains (inserted_by (ops.List operation)) x
    ↔ PutsElement (its.update_of operation) x
inserts (list.Insert insertion) x = (one_element insertion.element x, λ is. at_head insertion.element [] x is)
inserts (list.Remove y) x = (λ there. absurd (none_there x there), λ none. absurd none)
inserts (list.Read elements) x = (λ there. absurd (none_there x there), λ none. absurd none)
inserts (list.Part elements) x = (λ there. absurd (none_there x there), λ none. absurd none)

more_inserted : (older : List ℕ) (s : ListState) (operation : ListOp) (x : ℕ)
    → admits s (its.update_of operation) ≡ true → Contains s.inserted x ↔ Contains older x
    → Contains (after_update s (its.update_of operation)).inserted x
    ↔ Contains (older ++ inserted_by (ops.List operation)) x
more_inserted older s operation x is was =
    let now = inserted_with s (its.update_of operation) x is in
    let new = inserted_by (ops.List operation) in (
      (λ there. elim (now.0 there) [
        | inl puts ↦ Contains-append_right older new x ((inserts operation x).1 puts)
        | inr before ↦ Contains-append_left older new x (was.0 before)
      ]),
      (λ there. now.1 (elim (Contains-append_cases older new x there) [
        | inl before ↦ inr (was.1 before)
        | inr puts ↦ inl ((inserts operation x).0 puts)
      ])),
    )

-- ---- the edges begin at elements that were inserted

begins_in : (label : ℕ) (elements : List ℕ) (edge : Edge) → Contains (edges_of_read label elements) edge
    → Contains elements edge.before
begins_in label [] edge there = absurd (none_there edge there)
begins_in label (x ∷ []) edge there = absurd (none_there edge there)
begins_in label (x ∷ y ∷ elements) edge there = elim (head_or_behind _ (edges_of_read label (y ∷ elements)) edge there) [
  | inl here ↦ at_head x (y ∷ elements) edge.before (ap (λ (e : Edge). e.before) here)
  | inr further ↦ behind_head x (y ∷ elements) edge.before (begins_in label (y ∷ elements) edge further)
]

named_is : (x y : ℕ) → Contains (named x) y → ((x == 0) ≡ false) × (x ≡ y)
named_is x y there = elim (cases_Bool (x == 0)) [
  | inl none ↦ absurd (none_there y (subst (λ xs. Contains xs y) (cond-true (x == 0) [] (x ∷ []) none) there))
  | inr some ↦ (some, one_element x y (subst (λ xs. Contains xs y) (cond-false (x == 0) [] (x ∷ []) some) there))
]

neighbor_in : (s : ListState) (x y : ℕ) → is_neighbor s x ≡ true → Contains (named x) y → Contains s.inserted y
neighbor_in s x y is there =
    let (some, same) = named_is x y there in
    elim (or_cases (x == 0) (is_among x s.inserted) is) [
      | inl none ↦ absurd (false≢true (sym some ∙ none))
      | inr among ↦ subst (Contains s.inserted) same ((among-exactly x s.inserted).0 among)
    ]

shown_is_in : (s : ListState) (x : ℕ) → Contains (shown_in s) x → Contains s.inserted x
shown_is_in s x there = (there-kept (λ y. not (is_among y s.removed)) s.inserted x there).0

-- the elements that a read lists were inserted
read_in : (s : ListState) (elements : List ℕ) (x : ℕ) → list_all (λ y. is_among y (shown_in s)) elements ≡ true
    → Contains elements x → Contains s.inserted x
read_in s elements x all there =
    shown_is_in s x ((among-exactly x (shown_in s)).0 (list_all-contains (λ y. is_among y (shown_in s)) elements x all there))

begins_new : (whole s : ListState) (operation : ListOp) (label : ℕ) (edge : Edge)
    → ((x : ℕ) → Contains s.inserted x → Contains whole.inserted x) → admits whole (its.update_of operation) ≡ true
    → list_answers s (its.query_of operation) ≡ true → Contains (its.edges_of label operation) edge
    → Contains (after_update whole (its.update_of operation)).inserted edge.before
begins_new whole s (list.Insert insertion) label edge within is right there =
    let now = inserted_with whole (Some (Put insertion)) edge.before is in
    let near = and_parts (is_neighbor s insertion.left) (is_neighbor s insertion.right) right in
    now.1 (elim (Contains-append_cases (named insertion.left) (insertion.element ∷ named insertion.right) edge.before
    (begins_in label (neighborhood insertion) edge there)) [
      | inl left ↦ inr (within edge.before (neighbor_in s insertion.left edge.before near.0 left))
      | inr later ↦ elim (head_or_behind insertion.element (named insertion.right) edge.before later) [
        | inl element ↦ inl element
        | inr right ↦ inr (within edge.before (neighbor_in s insertion.right edge.before near.1 right))
      ]
    ])
begins_new whole s (list.Remove x) label edge within is right there = absurd (none_there edge there)
begins_new whole s (list.Read elements) label edge within is right there =
    let same = (and_parts (has_each_once elements) (have_same_elements elements (shown_in s)) right).1 in
    let all = (and_parts (list_all (λ y. is_among y (shown_in s)) elements)
    (list_all (λ y. is_among y elements) (shown_in s)) same).0 in
    within edge.before (read_in s elements edge.before all (begins_in label elements edge there))
begins_new whole s (list.Part elements) label edge within is right there =
    let all = (and_parts (has_each_once elements) (list_all (λ y. is_among y (shown_in s)) elements) right).1 in
    within edge.before (read_in s elements edge.before all (begins_in label elements edge there))

-- ---- the replica's own state

some_if : {A : Type 0} (b : Bool) (x : A) → is_some (cond b (Some x) None) ≡ b
some_if true x = refl
some_if false x = refl

three : (a b c : Bool) → (a && b && c) ≡ true → (a ≡ true) × (b ≡ true) × (c ≡ true)
three a b c is =
    let parts = and_parts (a && b) c is in
    let first = and_parts a b parts.0 in
    (first.0, first.1, parts.1)

-- the replica's state admits an update that the state after all updates admits, if its query is answered right
own_admits : (whole s : ListState) (operation : ListOp) → ((x : ℕ) → Contains s.inserted x → Contains whole.inserted x)
    → admits whole (its.update_of operation) ≡ true → list_answers s (its.query_of operation) ≡ true
    → admits s (its.update_of operation) ≡ true
own_admits whole s (list.Insert insertion) within is right =
    let x = insertion.element in
    let (named, new, near) = three (not (x == 0)) (not (is_among x whole.inserted)) (are_neighbors whole insertion)
    (sym (some_if (can_insert whole insertion) _) ∙ is) in
    let new_here : not (is_among x s.inserted) ≡ true =
    not_from_false (is_among x s.inserted) (false_from_ne_true (is_among x s.inserted) (λ among.
    false≢true (sym (not-true (is_among x whole.inserted) new)
    ∙ (among-exactly x whole.inserted).1 (within x ((among-exactly x s.inserted).0 among))))) in
    some_if (can_insert s insertion) _
    ∙ and_from (not (x == 0) && not (is_among x s.inserted)) (are_neighbors s insertion)
    (and_from (not (x == 0)) (not (is_among x s.inserted)) named new_here) right
own_admits whole s (list.Remove x) within is right = some_if (is_among x s.inserted) _ ∙ right
own_admits whole s (list.Read elements) within is right = refl
own_admits whole s (list.Part elements) within is right = refl

passed : (a b : Bool) → cond (not a) (Some cause.Update) (cond (not b) (Some cause.Query) None) ≡ None
    → (a ≡ true) × (b ≡ true)
passed true true none = (refl, refl)
passed true false none = absurd (none-some cause.Query (sym none))
passed false b none = absurd (none-some cause.Update (sym none))

module _ (past : Past) (initial_replicas : ℕ) (records : Records) (next : NextOperation) (label : Label)
    (operation : ListOp) (is : IsPastOf past initial_replicas records)
    (offered : IsOffered (history_of kinds.List initial_replicas records) next label)
    (same : next.op ≡ ops.List operation) (none : cause_at past label.replica operation ≡ None)
    (within : (replica x : ℕ) → Contains (state_at past.replicas replica).inserted x → Contains past.whole.inserted x)
  where
    abbrev now : Records
    now = operate next ∷ records

    abbrev change : Option ListUpdate
    change = its.update_of operation

    abbrev own : ListState
    own = state_at past.replicas next.by

    its_own : label.replica ≡ next.by
    its_own = its_replica (history_of kinds.List initial_replicas records) next label offered

    tests : (admits past.whole change ≡ true) × (list_answers own (its.query_of operation) ≡ true)
    tests = passed (admits past.whole change) (list_answers own (its.query_of operation))
        (ap (λ r. cause_at past r operation) (sym its_own) ∙ none)

    own_led : (o : Option ListUpdate) → change ≡ o → admits own o ≡ true
        → state_after kinds.List (delivered_updates kinds.List now next.by) ≡ Some (Listing (after_update own o))
    own_led None is_none admitted =
        ap (state_after kinds.List) (operation_extends_delivered-query kinds.List records next
        (makes_none next.op (ap update_in same ∙ update_is operation ∙ ap as_update is_none)))
        ∙ led_to past initial_replicas records next label is offered
    own_led (Some c) is_some admitted =
        own-step kinds.List records next (updates.List c)
        (makes_it next.op (updates.List c) (ap update_in same ∙ update_is operation ∙ ap as_update is_some)) offered.fits
        ∙ ap (λ o. then_step o (updates.List c)) (led_to past initial_replicas records next label is offered)
        ∙ changed_to own (Some c) admitted

    states_now : AreStatesOf (map as_update (past.updates ++ change ∷ []))
        (map Listing (set past.replicas label.replica (after_update (state_at past.replicas label.replica) change)))
        (history_of kinds.List initial_replicas now)
    states_now =
        let there = replica_there past initial_replicas records next label is offered in
        let made : update_in next.op ≡ as_update change = ap update_in same ∙ update_is operation in
        let stepped : states.after_step (states.state_at (map Listing past.replicas) next.by) (update_in next.op)
        ≡ Listing (after_update own change) =
        ap (states.after_step (states.state_at (map Listing past.replicas) next.by)) made
        ∙ ap (λ s. states.after_step s (as_update change)) (listing_at past.replicas next.by there)
        ∙ after_listing own change in
        let kept = kept-operation (map as_update past.updates) (map Listing past.replicas)
        (history_of kinds.List initial_replicas records) is.states next
        (omega (arith, there, length-map past.replicas Listing))
        (own_led change refl (own_admits past.whole own operation (within next.by) tests.0 tests.1) ∙ ap Some (sym stepped)) in
        subst (λ r. AreStatesOf (map as_update (past.updates ++ change ∷ []))
        (map Listing (set past.replicas r (after_update (state_at past.replicas r) change)))
        (history_of kinds.List initial_replicas now)) (sym its_own)
        (subst (λ us. AreStatesOf us (map Listing (set past.replicas next.by (after_update own change)))
        (history_of kinds.List initial_replicas now))
        (ap (λ u. map as_update past.updates ++ u ∷ []) made ∙ sym (map-append as_update past.updates (change ∷ [])))
        (subst (λ ss. AreStatesOf (map as_update past.updates ++ update_in next.op ∷ []) ss
        (history_of kinds.List initial_replicas now))
        (ap (set (map Listing past.replicas) next.by) stepped
        ∙ sym (listing_set past.replicas next.by (after_update own change))) kept))

    pub inserted_now : (x : ℕ) → Contains (after_update past.whole change).inserted x ↔ Contains (inserted_elements now) x
    inserted_now x =
        subst (λ o. Contains (after_update past.whole change).inserted x
        ↔ Contains (inserted_elements records ++ inserted_by o) x) (sym same)
        (more_inserted (inserted_elements records) past.whole operation x tests.0 (is.inserted x))

    pub edges_now : past.edges ++ its.edges_of label.number operation ≡ required_edges now
    edges_now =
        ap (λ es. es ++ its.edges_of label.number operation) is.edges
        ∙ ap (λ (l : Label). required_edges records ++ its.edges_of l.number operation) offered.becomes
        ∙ ap (λ o. required_edges records ++ edges_required_by (label_count records) o) (sym same)

    pub begins_now : (edge : Edge) → Contains (past.edges ++ its.edges_of label.number operation) edge
        → Contains (after_update past.whole change).inserted edge.before
    begins_now edge there =
        elim (Contains-append_cases past.edges (its.edges_of label.number operation) edge there) [
          | inl old ↦ (inserted_with past.whole change edge.before tests.0).1
              (inr (is.begins edge (subst (λ es. Contains es edge) is.edges old)))
          | inr new ↦ begins_new past.whole own operation label.number edge (within next.by) tests.0 tests.1 new
        ]

    pub past_now : IsPastOf (with_operation past label.replica operation label.number) initial_replicas now
    past_now = record {
      whole = whole_with records next operation past.whole same is.whole ∙ changed_to past.whole change tests.0;
      states = states_now;
      inserted = inserted_now;
      edges = edges_now;
      begins = λ edge there. begins_now edge (subst (λ es. Contains es edge) (sym edges_now) there);
    }

    -- an order that extends the edges and has the elements explains them
    pub explained : (order : List ℕ) → EachOnce order → Extends order (past.edges ++ its.edges_of label.number operation)
        → ((x : ℕ) → Contains (after_update past.whole change).inserted x → Contains order x)
        → is_explained kinds.List now ≡ true
    explained order once extends all =
        ap is_some (list_order_there order (inserted_elements now) (required_edges now) once
        (subst (Extends order) edges_now extends) (λ x there. all x ((inserted_now x).1 there))).1

    -- a cycle of the edges is one of those that the labels require
    pub cycle_now : (cycle : List Edge) → IsCycle (past.edges ++ its.edges_of label.number operation) cycle
        → IsCycle (required_edges now) cycle
    cycle_now cycle closed = subst (λ es. IsCycle es cycle) edges_now closed

    -- a cycle of the edges leaves no order
    pub unexplained : (cycle : List Edge) → IsCycle (past.edges ++ its.edges_of label.number operation) cycle
        → is_explained kinds.List now ≡ false
    unexplained cycle closed =
        ap is_some (no_list_order (required_edges now) cycle (cycle_now cycle closed) (inserted_elements now)
        (λ edge there. (inserted_now edge.before).0 (begins_now edge (closed.among edge there))))
