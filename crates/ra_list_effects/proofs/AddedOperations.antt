-- The effects after an operation, a delivery or a join.
use Rattle.std.proofs.Common.{◌≡◌, ◌↔◌, ℕ, ◌<◌, ◌+◌, Bool, true, false, List, [], ◌∷◌, ◌++◌, length, get_or, set, take, Option, Some, None, Result, Ok, Err, refl, sym, ap, ◌∙◌, subst, inl, inr, arith}
use Rattle.std.specs.Prelude.{◌==◌, Contains, unwrap_or, IfOk, IfSome, OnErr, MatchOption, if◌then◌else◌}
use Rattle.std.specs.List.{slice_get}
use Rattle.std.specs.Ordering.{nat_cmp}
use Rattle.std.specs.BTreeSet.{insert_key}
use Rattle.std.proofs.lemmas.Bool.{cases_lt, cases_order, cond-true}
use Rattle.std.proofs.lemmas.Option.{slice_get_within, get_or_from_slice_get}
use Rattle.std.proofs.lemmas.List.{get_or_default, take_at, length-set, length_push, set-get_or, get_or_append_left, get_or_push, get_or_past, append-nil}
use Rattle.ra_labels.proofs.Members.{none_there}
use Rattle.std.proofs.lemmas.List.Elements.{Contains-append_left, Contains-append_right, Contains-append_cases, Contains-push_cases, Contains-push}
use Rattle.ra_labels.specs.Lists.{is_among}
use Rattle.ra_labels.specs.declared.edge.Edge.{Edge}
use Rattle.ra_labels.specs.Edges.{HasEdge, IsCycle}
use Rattle.ra_labels.specs.Reads.{edges_of_read}
use Rattle.ra_labels.specs.declared.insertion.Insertion.{Insertion}
use Rattle.ra_labels.specs.Neighborhood.{neighborhood}
use Rattle.ra_list_edges.specs.Pairs.{AddsSome, AddsPairs, with_pairs}
use Rattle.ra_list_replica.specs.declared.mark.Mark.{Mark}
use Rattle.ra_list_replica.specs.declared.mark.Mark.TheVariants.{Shown, Removed}
use Rattle.ra_list_replica.specs.Numbers.{HasOneNumberEach}
use Rattle.ra_list_replica.specs.View.{View, mark_at}
use Rattle.ra_list_witness.specs.ListWitness.{ListWitness, no_view, view_at, mark_of, AreSameMarks, IsMarked}
use Rattle.ra_list_edges.proofs.PairEdges.{has_after}
use Rattle.ra_labels.specs.declared.list_operation.ListOp.TheVariants as op
use Rattle.ra_labels.specs.declared.list_operation.ListUpdate.{ListUpdate}
use Rattle.ra_labels.specs.declared.list_operation.ListUpdate.TheVariants.{Put, Hide}
use Rattle.ra_labels.specs.FreeList.{ListState, empty_list, can_insert, list_step}
use Rattle.ra_list_model.proofs.AdmittedUpdates.{in_set}
use Rattle.ra_list_effects.specs.declared.list_effects.Change.{Change}
use Rattle.ra_list_effects.specs.declared.list_effects.Change.TheVariants as change
use Rattle.ra_list_effects.specs.Past.{Past, state_at, after_update, with_operation, with_join}
use Rattle.ra_list_effects.specs.Views.{IsViewOf}
use Rattle.ra_list_effects.specs.Effects.{Effects, IsChangeOf, AreChangesOf, AreEffectsOf}
use Rattle.ra_list_effects.proofs.StateViews.{with_element, with_removal, view_kept, view_shown, view_removed, view_wider, views_set, once_push, pushed_before, pushed_last}

abbrev pub effects_of : ListWitness → List (Option Change) → Effects
effects_of witness changes = record { witness = witness; changes = changes }

-- the edges after those of an operation are added
required_more : (past old new : List Edge) (label : ℕ) (list : List ℕ)
    → ((edge : Edge) → Contains old edge → Contains past edge) → AddsSome label list old new → (edge : Edge)
    → Contains new edge → Contains (past ++ edges_of_read label list) edge
required_more past old new label list required (added, is, among) edge there =
    elim (Contains-append_cases old added edge (subst (λ es. Contains es edge) is there)) [
      | inl before ↦ Contains-append_left past (edges_of_read label list) edge (required edge before)
      | inr now ↦ Contains-append_right past (edges_of_read label list) edge (among edge now)
    ]

has_all : (past old new : List Edge) (label : ℕ) (list : List ℕ)
    → ((edge : Edge) → Contains past edge → HasEdge old edge.before edge.after) → AddsPairs label list old new
    → (edge : Edge) → Contains (past ++ edges_of_read label list) edge → HasEdge new edge.before edge.after
has_all past old new label list has adds edge there =
    elim (Contains-append_cases past (edges_of_read label list) edge there) [
      | inl before ↦ has_after label list old new edge.before edge.after adds.some (has edge before)
      | inr now ↦ adds.all edge now
    ]

pub cycle_of_past : (past old : List Edge) (label : ℕ) (list : List ℕ) (cycle : List Edge)
    → ((edge : Edge) → Contains old edge → Contains past edge) → IsCycle (with_pairs label list old) cycle
    → IsCycle (past ++ edges_of_read label list) cycle
cycle_of_past past old label list cycle required found = record {
  start = found.start;
  chain = found.chain;
  some = found.some;
  among = λ edge one. elim (Contains-append_cases old (edges_of_read label list) edge (found.among edge one)) [
    | inl before ↦ Contains-append_left past (edges_of_read label list) edge (required edge before)
    | inr now ↦ Contains-append_right past (edges_of_read label list) edge now
  ];
}

-- one more change
changes_push : (elements : List ℕ) (changes : List (Option Change)) (updates : List (Option ListUpdate))
    (one : Option Change) (update : Option ListUpdate) → AreChangesOf elements changes updates
    → IsChangeOf elements one update → AreChangesOf elements (changes ++ one ∷ []) (updates ++ update ∷ [])
changes_push elements changes updates one update are is = record {
  as_many = length_push changes one ∙ ap (λ n. n + 1) are.as_many ∙ sym (length_push updates update);
  each = λ n within. elim (cases_lt n (length updates)) [
    | inl before ↦
        subst (λ o. IsChangeOf elements o (get_or (updates ++ update ∷ []) n None))
        (sym (get_or_append_left changes (one ∷ []) None n (omega (arith, before, are.as_many))))
        (subst (IsChangeOf elements (get_or changes n None)) (sym (get_or_append_left updates (update ∷ []) None n before))
        (are.each n before))
    | inr past ↦
        let last : length updates ≡ n = omega (arith, within, past, length_push updates update) in
        subst (λ o. IsChangeOf elements o (get_or (updates ++ update ∷ []) n None))
        (sym (get_or_push changes one None n (are.as_many ∙ last)))
        (subst (IsChangeOf elements one) (sym (get_or_push updates update None n last)) is)
  ];
}

change_wider : (elements : List ℕ) (x : ℕ) (one : Option Change) (update : Option ListUpdate)
    → IsChangeOf elements one update → IsChangeOf (elements ++ x ∷ []) one update
change_wider elements x None None is = is
change_wider elements x None (Some update) is = absurd is
change_wider elements x (Some (change.Show n)) None is = absurd is
change_wider elements x (Some (change.Hide n)) None is = absurd is
change_wider elements x (Some (change.Show n)) (Some (Put insertion)) is = pushed_before elements x n insertion.element is
change_wider elements x (Some (change.Show n)) (Some (Hide y)) is = absurd is
change_wider elements x (Some (change.Hide n)) (Some (Put insertion)) is = absurd is
change_wider elements x (Some (change.Hide n)) (Some (Hide y)) is = pushed_before elements x n y is

changes_wider : (elements : List ℕ) (x : ℕ) (changes : List (Option Change)) (updates : List (Option ListUpdate))
    → AreChangesOf elements changes updates → AreChangesOf (elements ++ x ∷ []) changes updates
changes_wider elements x changes updates are = record {
  as_many = are.as_many;
  each = λ n within. change_wider elements x (get_or changes n None) (get_or updates n None) (are.each n within);
}

-- where nothing is changed but the kept order
pub same_past : (old new : ListWitness) (changes : List (Option Change)) (past : Past)
    → AreEffectsOf (effects_of old changes) past → new.elements ≡ old.elements → AreSameMarks old.views new.views
    → new.edges ≡ old.edges → AreEffectsOf (effects_of new changes) past
same_past old new changes past stands elements marks edges = record {
  once = subst HasOneNumberEach (sym elements) stands.once;
  elements = λ x. subst (λ xs. Contains xs x ↔ Contains past.whole.inserted x) (sym elements) (stands.elements x);
  replicas = marks.as_many ∙ stands.replicas;
  views = λ r. subst (λ xs. IsViewOf xs (view_at new.views r).marks (state_at past.replicas r)) (sym elements)
      (view_kept old.elements (view_at old.views r).marks (view_at new.views r).marks (state_at past.replicas r)
      (marks.each r) (stands.views r));
  changes = subst (λ xs. AreChangesOf xs changes past.updates) (sym elements) stands.changes;
  required = λ edge there. stands.required edge (subst (λ es. Contains es edge) edges there);
  has = λ edge there. subst (λ es. HasEdge es edge.before edge.after) (sym edges) (stands.has edge there);
}

-- after a read of the list or of a part of it
abbrev pub with_read : Past → ℕ → List Edge → Past
with_read past replica edges = record {
  whole = past.whole;
  replicas = set past.replicas replica (state_at past.replicas replica);
  updates = past.updates ++ None ∷ [];
  edges = past.edges ++ edges;
}

pub after_read : (old new : ListWitness) (changes : List (Option Change)) (past : Past) (replica label : ℕ) (list : List ℕ)
    → AreEffectsOf (effects_of old changes) past → new.elements ≡ old.elements → AreSameMarks old.views new.views
    → AddsPairs label list old.edges new.edges
    → AreEffectsOf (effects_of new (changes ++ None ∷ [])) (with_read past replica (edges_of_read label list))
after_read old new changes past replica label list stands elements marks adds = record {
  once = subst HasOneNumberEach (sym elements) stands.once;
  elements = λ x. subst (λ xs. Contains xs x ↔ Contains past.whole.inserted x) (sym elements) (stands.elements x);
  replicas = marks.as_many ∙ stands.replicas ∙ sym (length-set past.replicas replica (state_at past.replicas replica));
  views = λ r. subst (λ states. IsViewOf new.elements (view_at new.views r).marks (state_at states r))
      (sym (set-get_or past.replicas replica empty_list))
      (subst (λ xs. IsViewOf xs (view_at new.views r).marks (state_at past.replicas r)) (sym elements)
      (view_kept old.elements (view_at old.views r).marks (view_at new.views r).marks (state_at past.replicas r)
      (marks.each r) (stands.views r)));
  changes = subst (λ xs. AreChangesOf xs (changes ++ None ∷ []) (past.updates ++ None ∷ [])) (sym elements)
      (changes_push old.elements changes past.updates None None stands.changes tt);
  required = required_more past.edges old.edges new.edges label list stands.required adds.some;
  has = has_all past.edges old.edges new.edges label list stands.has adds;
}

-- after an insertion
abbrev pub with_insertion : Past → ℕ → Insertion → List Edge → Past
with_insertion past replica insertion edges = record {
  whole = with_element past.whole insertion.element;
  replicas = set past.replicas replica (with_element (state_at past.replicas replica) insertion.element);
  updates = past.updates ++ Some (Put insertion) ∷ [];
  edges = past.edges ++ edges;
}

pub after_insertion : (old new : ListWitness) (changes : List (Option Change)) (past : Past) (replica label : ℕ)
    (insertion : Insertion) → AreEffectsOf (effects_of old changes) past → replica < length past.replicas
    → ¬ Contains old.elements insertion.element → new.elements ≡ old.elements ++ insertion.element ∷ []
    → IsMarked old.views replica (length old.elements) Shown new.views
    → AddsPairs label (neighborhood insertion) old.edges new.edges
    → AreEffectsOf (effects_of new (changes ++ Some (change.Show (length old.elements)) ∷ []))
    (with_insertion past replica insertion (edges_of_read label (neighborhood insertion)))
after_insertion old new changes past replica label insertion stands there apart elements marked adds =
    let x = insertion.element in
    let longer = old.elements ++ x ∷ [] in
    let once : HasOneNumberEach longer = once_push old.elements x stands.once apart in
    let state = state_at past.replicas replica in
    let states = set past.replicas replica (with_element state x) in
    let views : (r : ℕ) → IsViewOf longer (view_at new.views r).marks (state_at states r) =
    views_set longer old.views new.views past.replicas replica (length old.elements) Shown (with_element state x) there marked
    (λ r. view_wider old.elements (view_at old.views r).marks (state_at past.replicas r) x apart (stands.views r))
    (λ marks is. view_shown longer (view_at old.views replica).marks marks state (length old.elements) x once
    (pushed_last old.elements x) (λ among. apart ((stands.views replica).among x among)) is
    (view_wider old.elements (view_at old.views replica).marks state x apart (stands.views replica))) in
    record {
      once = subst HasOneNumberEach (sym elements) once;
      elements = λ y. subst (λ xs. Contains xs y ↔ Contains (insert_key nat_cmp past.whole.inserted x) y) (sym elements) (
        (λ found. (in_set y x past.whole.inserted).1 (elim (Contains-push_cases old.elements x y found) [
          | inl before ↦ inr ((stands.elements y).0 before)
          | inr last ↦ inl (sym last)
        ])),
        (λ found. elim ((in_set y x past.whole.inserted).0 found) [
          | inl last ↦ subst (Contains longer) (sym last) (Contains-push old.elements x)
          | inr before ↦ Contains-append_left old.elements (x ∷ []) y ((stands.elements y).1 before)
        ]),
      );
      replicas = marked.as_many ∙ stands.replicas ∙ sym (length-set past.replicas replica (with_element state x));
      views = λ r. subst (λ xs. IsViewOf xs (view_at new.views r).marks (state_at states r)) (sym elements) (views r);
      changes = subst (λ xs. AreChangesOf xs (changes ++ Some (change.Show (length old.elements)) ∷ [])
          (past.updates ++ Some (Put insertion) ∷ [])) (sym elements)
          (changes_push longer changes past.updates (Some (change.Show (length old.elements))) (Some (Put insertion))
          (changes_wider old.elements x changes past.updates stands.changes) (pushed_last old.elements x));
      required = required_more past.edges old.edges new.edges label (neighborhood insertion) stands.required adds.some;
      has = has_all past.edges old.edges new.edges label (neighborhood insertion) stands.has adds;
    }

-- after a removal, which has no edges
abbrev pub with_removal_at : Past → ℕ → ℕ → Past
with_removal_at past replica x = record {
  whole = with_removal past.whole x;
  replicas = set past.replicas replica (with_removal (state_at past.replicas replica) x);
  updates = past.updates ++ Some (Hide x) ∷ [];
  edges = past.edges ++ [];
}

pub after_removal : (old new : ListWitness) (changes : List (Option Change)) (past : Past) (replica number x : ℕ)
    → AreEffectsOf (effects_of old changes) past → replica < length past.replicas
    → slice_get old.elements number ≡ Some x → Contains (state_at past.replicas replica).inserted x
    → new.elements ≡ old.elements → new.edges ≡ old.edges → IsMarked old.views replica number Removed new.views
    → AreEffectsOf (effects_of new (changes ++ Some (change.Hide number) ∷ [])) (with_removal_at past replica x)
after_removal old new changes past replica number x stands there at had elements edges marked =
    let state = state_at past.replicas replica in
    let states = set past.replicas replica (with_removal state x) in
    let views : (r : ℕ) → IsViewOf old.elements (view_at new.views r).marks (state_at states r) =
    views_set old.elements old.views new.views past.replicas replica number Removed (with_removal state x) there marked
    stands.views
    (λ marks is. view_removed old.elements (view_at old.views replica).marks marks state number x stands.once at had is
    (stands.views replica)) in
    record {
      once = subst HasOneNumberEach (sym elements) stands.once;
      elements = λ y. subst (λ xs. Contains xs y ↔ Contains past.whole.inserted y) (sym elements) (stands.elements y);
      replicas = marked.as_many ∙ stands.replicas ∙ sym (length-set past.replicas replica (with_removal state x));
      views = λ r. subst (λ xs. IsViewOf xs (view_at new.views r).marks (state_at states r)) (sym elements) (views r);
      changes = subst (λ xs. AreChangesOf xs (changes ++ Some (change.Hide number) ∷ [])
          (past.updates ++ Some (Hide x) ∷ [])) (sym elements)
          (changes_push old.elements changes past.updates (Some (change.Hide number)) (Some (Hide x)) stands.changes at);
      required = λ edge found. Contains-append_left past.edges [] edge
          (stands.required edge (subst (λ es. Contains es edge) edges found));
      has = λ edge found. subst (λ es. HasEdge es edge.before edge.after) (sym edges)
          (stands.has edge (subst (λ es. Contains es edge) (append-nil past.edges) found));
    }

-- after a delivery, by which the replica gets a new state
pub after_delivery : (old new : ListWitness) (changes : List (Option Change)) (past : Past) (replica number : ℕ) (mark : Mark)
    (next : ListState) → AreEffectsOf (effects_of old changes) past → replica < length past.replicas
    → new.elements ≡ old.elements → new.edges ≡ old.edges → IsMarked old.views replica number mark new.views
    → ((marks : List Mark) → ((n : ℕ) → mark_at marks n ≡ (if n == number then mark else mark_of old.views replica n))
    → IsViewOf old.elements marks next)
    → AreEffectsOf (effects_of new changes) (record {
      whole = past.whole;
      replicas = set past.replicas replica next;
      updates = past.updates;
      edges = past.edges;
    })
after_delivery old new changes past replica number mark next stands there elements edges marked own =
    let states = set past.replicas replica next in
    let views : (r : ℕ) → IsViewOf old.elements (view_at new.views r).marks (state_at states r) =
    views_set old.elements old.views new.views past.replicas replica number mark next there marked stands.views own in
    record {
      once = subst HasOneNumberEach (sym elements) stands.once;
      elements = λ y. subst (λ xs. Contains xs y ↔ Contains past.whole.inserted y) (sym elements) (stands.elements y);
      replicas = marked.as_many ∙ stands.replicas ∙ sym (length-set past.replicas replica next);
      views = λ r. subst (λ xs. IsViewOf xs (view_at new.views r).marks (state_at states r)) (sym elements) (views r);
      changes = subst (λ xs. AreChangesOf xs changes past.updates) (sym elements) stands.changes;
      required = λ edge found. stands.required edge (subst (λ es. Contains es edge) edges found);
      has = λ edge found. subst (λ es. HasEdge es edge.before edge.after) (sym edges) (stands.has edge found);
    }

-- after the next replica joined
pub after_join : (old new : ListWitness) (changes : List (Option Change)) (past : Past) (from : ℕ)
    → AreEffectsOf (effects_of old changes) past → new.elements ≡ old.elements → new.edges ≡ old.edges
    → new.views ≡ old.views ++ view_at old.views from ∷ [] → AreEffectsOf (effects_of new changes) (with_join past from)
after_join old new changes past from stands elements edges joined = record {
  once = subst HasOneNumberEach (sym elements) stands.once;
  elements = λ y. subst (λ xs. Contains xs y ↔ Contains past.whole.inserted y) (sym elements) (stands.elements y);
  replicas = ap length joined ∙ length_push old.views (view_at old.views from) ∙ ap (λ n. n + 1) stands.replicas
      ∙ sym (length_push past.replicas (state_at past.replicas from));
  views = λ r. subst (λ xs. IsViewOf xs (view_at new.views r).marks (state_at (past.replicas ++ state_at past.replicas from ∷ []) r))
      (sym elements)
      (subst (λ vs. IsViewOf old.elements (view_at vs r).marks (state_at (past.replicas ++ state_at past.replicas from ∷ []) r))
      (sym joined) (joined_view r));
  changes = subst (λ xs. AreChangesOf xs changes past.updates) (sym elements) stands.changes;
  required = λ edge found. stands.required edge (subst (λ es. Contains es edge) edges found);
  has = λ edge found. subst (λ es. HasEdge es edge.before edge.after) (sym edges) (stands.has edge found);
}
  where
    none : IsViewOf old.elements [] empty_list
    none = record {
      marked = λ n x is. refl;
      among = λ x there. absurd (none_there x there);
      only = λ x there. absurd (none_there x there);
      beyond = λ n past. refl;
    }

    joined_view : (r : ℕ) → IsViewOf old.elements (view_at (old.views ++ view_at old.views from ∷ []) r).marks
        (state_at (past.replicas ++ state_at past.replicas from ∷ []) r)
    joined_view r = elim (cases_order r (length past.replicas)) [
      | inl same ↦
          subst (λ v. IsViewOf old.elements v.marks (state_at (past.replicas ++ state_at past.replicas from ∷ []) r))
          (sym (get_or_push old.views (view_at old.views from) no_view r (stands.replicas ∙ sym same)))
          (subst (IsViewOf old.elements (view_at old.views from).marks)
          (sym (get_or_push past.replicas (state_at past.replicas from) empty_list r (sym same))) (stands.views from))
      | inr (inl below) ↦
          subst (λ v. IsViewOf old.elements v.marks (state_at (past.replicas ++ state_at past.replicas from ∷ []) r))
          (sym (get_or_append_left old.views (view_at old.views from ∷ []) no_view r (omega (arith, below, stands.replicas))))
          (subst (IsViewOf old.elements (view_at old.views r).marks)
          (sym (get_or_append_left past.replicas (state_at past.replicas from ∷ []) empty_list r below)) (stands.views r))
      | inr (inr above) ↦
          subst (λ v. IsViewOf old.elements v.marks (state_at (past.replicas ++ state_at past.replicas from ∷ []) r))
          (sym (get_or_past (old.views ++ view_at old.views from ∷ []) r no_view
          (omega (arith, above, stands.replicas, length_push old.views (view_at old.views from)))))
          (subst (IsViewOf old.elements [])
          (sym (get_or_past (past.replicas ++ state_at past.replicas from ∷ []) r empty_list
          (omega (arith, above, length_push past.replicas (state_at past.replicas from))))) none)
    ]

-- the changes without the last one
pub without_last : (changes more : List (Option Change)) (one : Option Change) (count : ℕ) → count ≡ length changes
    → more ≡ changes ++ one ∷ [] → take count more ≡ changes
without_last changes more one count is pushed = ap (take count) pushed ∙ take_at changes (one ∷ []) count (sym is)

-- an insertion that fits makes a step in the state after all updates, and in that of its replica
pub inserted_step : (state : ListState) (insertion : Insertion) → can_insert state insertion ≡ true
    → after_update state (Some (Put insertion)) ≡ with_element state insertion.element
inserted_step state insertion can =
    ap (λ o. unwrap_or o state) (cond-true (can_insert state insertion) (Some (with_element state insertion.element)) None can)

pub removed_step : (state : ListState) (x : ℕ) → is_among x state.inserted ≡ true
    → after_update state (Some (Hide x)) ≡ with_removal state x
removed_step state x there =
    ap (λ o. unwrap_or o state) (cond-true (is_among x state.inserted) (Some (with_removal state x)) None there)

pub insertion_is : (past : Past) (replica label : ℕ) (insertion : Insertion)
    → can_insert past.whole insertion ≡ true → can_insert (state_at past.replicas replica) insertion ≡ true
    → with_insertion past replica insertion (edges_of_read label (neighborhood insertion))
    ≡ with_operation past replica (op.Insert insertion) label
insertion_is past replica label insertion whole own =
    ap (λ s. record {
      whole = s;
      replicas = set past.replicas replica (with_element (state_at past.replicas replica) insertion.element);
      updates = past.updates ++ Some (Put insertion) ∷ [];
      edges = past.edges ++ edges_of_read label (neighborhood insertion);
    })
    (sym (inserted_step past.whole insertion whole))
    ∙ ap (λ s. record {
      whole = after_update past.whole (Some (Put insertion));
      replicas = set past.replicas replica s;
      updates = past.updates ++ Some (Put insertion) ∷ [];
      edges = past.edges ++ edges_of_read label (neighborhood insertion);
    })
    (sym (inserted_step (state_at past.replicas replica) insertion own))

pub removal_is : (past : Past) (replica label x : ℕ) → is_among x past.whole.inserted ≡ true
    → is_among x (state_at past.replicas replica).inserted ≡ true
    → with_removal_at past replica x ≡ with_operation past replica (op.Remove x) label
removal_is past replica label x whole own =
    ap (λ s. record {
      whole = s;
      replicas = set past.replicas replica (with_removal (state_at past.replicas replica) x);
      updates = past.updates ++ Some (Hide x) ∷ [];
      edges = past.edges ++ [];
    })
    (sym (removed_step past.whole x whole))
    ∙ ap (λ s. record {
      whole = after_update past.whole (Some (Hide x));
      replicas = set past.replicas replica s;
      updates = past.updates ++ Some (Hide x) ∷ [];
      edges = past.edges ++ [];
    })
    (sym (removed_step (state_at past.replicas replica) x own))

pub same_views : (old new : List View) → new ≡ old → AreSameMarks old new
same_views old new same = record { as_many = ap length same; each = λ r n. ap (λ vs. mark_of vs r n) same }

-- the change that was kept of an update
pub change_at : (elements : List ℕ) (changes : List (Option Change)) (updates : List (Option ListUpdate)) (n : ℕ)
    (one : Option Change) (update : Option ListUpdate) → AreChangesOf elements changes updates
    → slice_get updates n ≡ Some update → one ≡ get_or changes n one → IsChangeOf elements one update
change_at elements changes updates n one update are found is =
    let within = slice_get_within updates n update found in
    let here : get_or changes n None ≡ one =
    get_or_default changes n None one (omega (arith, within, are.as_many)) ∙ sym is in
    subst (λ o. IsChangeOf elements o update) here
    (subst (IsChangeOf elements (get_or changes n None)) (get_or_from_slice_get updates n update None found)
    (are.each n within))

-- an insertion that is admitted was missing, and leads to one more element
some_step : {A : Type 0} (b : Bool) (x : A) → ¬ ((if b then Some x else None) ≡ None) → b ≡ true
some_step true x some = refl
some_step false x some = absurd (some refl)

pub admitted_insertion : (state : ListState) (insertion : Insertion) → ¬ (list_step state (Put insertion) ≡ None)
    → can_insert state insertion ≡ true
admitted_insertion state insertion some = some_step (can_insert state insertion) _ some

pub admitted_removal : (state : ListState) (x : ℕ) → ¬ (list_step state (Hide x) ≡ None) → is_among x state.inserted ≡ true
admitted_removal state x some = some_step (is_among x state.inserted) _ some

-- the effects have these parts
made_of : (now : Effects) (witness : ListWitness) (changes : List (Option Change)) → now.witness ≡ witness
    → now.changes ≡ changes → now ≡ effects_of witness changes
made_of now witness changes same are = λ i. record { witness = same i; changes = are i }

-- after an operation whose change is kept only if it was added
module _ (old new : ListWitness) (changes more : List (Option Change)) (one : Option Change) (count : ℕ) (now : Effects)
    (past : Past) (stands : AreEffectsOf (effects_of old changes) past) (is : count ≡ length changes)
    (pushed : more ≡ changes ++ one ∷ []) (witness : now.witness ≡ new) where
  rejected : now.changes ≡ take count more → new.elements ≡ old.elements → AreSameMarks old.views new.views
      → new.edges ≡ old.edges → AreEffectsOf now past
  rejected back elements marks edges =
      subst (λ e. AreEffectsOf e past)
      (sym (made_of now new changes witness (back ∙ without_last changes more one count is pushed)))
      (same_past old new changes past stands elements marks edges)

  accepted : (next : Past) → now.changes ≡ more → AreEffectsOf (effects_of new (changes ++ one ∷ [])) next
      → AreEffectsOf now next
  accepted next kept done =
      subst (λ e. AreEffectsOf e next) (sym (made_of now new (changes ++ one ∷ []) witness (kept ∙ pushed))) done

  pub failed_past : {T E : Type 0} (r : Result T E) → OnErr r (now.changes ≡ take count more)
      → OnErr r ((new.elements ≡ old.elements) × (new.edges ≡ old.edges)) → OnErr r (AreSameMarks old.views new.views)
      → OnErr r (AreEffectsOf now past)
  failed_past (Ok x) back same marks = tt
  failed_past (Err e) back same marks = rejected back same.0 marks same.1

  pub after_pairs : {T E : Type 0} (items : T → List Edge) (r : Result (Option T) E) (next : Past) (label : ℕ)
      (list : List ℕ) → IfOk r (λ found. MatchOption found (now.changes ≡ more) (λ cycle. now.changes ≡ take count more))
      → IfOk r (λ found. MatchOption found (Unit {0}) (λ cycle. (new.elements ≡ old.elements) × AreSameMarks old.views new.views))
      → IfOk r (λ found. MatchOption found (AddsPairs label list old.edges new.edges)
      (λ cycle. (new.edges ≡ old.edges) × IsCycle (with_pairs label list old.edges) (items cycle)))
      → (r ≡ Ok None → AddsPairs label list old.edges new.edges → AreEffectsOf (effects_of new (changes ++ one ∷ [])) next)
      → IfOk r (λ found. MatchOption found (AreEffectsOf now next)
      (λ cycle. AreEffectsOf now past × IsCycle (past.edges ++ edges_of_read label list) (items cycle)))
  after_pairs items (Ok None) next label list kept same answer done = accepted next kept (done refl answer)
  after_pairs items (Ok (Some cycle)) next label list back same answer done = (
    rejected back same.0 same.1 answer.0,
    cycle_of_past past.edges old.edges label list (items cycle) stands.required answer.1,
  )
  after_pairs items (Err e) next label list kept same answer done = tt

  pub unchanged_past : {T E : Type 0} (r : Result (Option T) E) (A : Type 0) (C : T → Type 0)
      → IfOk r (λ found. MatchOption found (now.changes ≡ more) (λ cycle. now.changes ≡ take count more))
      → IfOk r (λ found. MatchOption found (Unit {0}) (λ cycle. (new.elements ≡ old.elements) × AreSameMarks old.views new.views))
      → IfOk r (λ found. MatchOption found A (λ cycle. (new.edges ≡ old.edges) × C cycle))
      → IfOk r (λ found. IfSome found (λ cycle. AreEffectsOf now past))
  unchanged_past (Ok None) A C kept same answer = tt
  unchanged_past (Ok (Some cycle)) A C back same answer = rejected back same.0 same.1 answer.0
  unchanged_past (Err e) A C kept same answer = tt
