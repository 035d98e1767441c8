-- What the views and the elements say of an insertion or a removal is what the states say.
use Rattle.std.proofs.Common.{◌≡◌, ◌↔◌, ℕ, Bool, true, false, List, Option, Some, None, refl, sym, ap, ◌∙◌, subst, inl, inr}
use Rattle.std.specs.Prelude.{◌==◌, not, Contains, is_some, if◌then◌else◌}
use Rattle.std.specs.List.{slice_get}
use Rattle.std.proofs.lemmas.Bool.{false≢true, cases_Bool, cond-true, cond-false, and_parts, and_from, eqb-true, eqb-false, eq-eqb, ne_eqb, or_cases, or_left, or_right, not-true, not_from_false, not_from_true, false_from_ne_true}
use Rattle.std.proofs.lemmas.Option.{slice_get-get_or}
use Rattle.ra_labels.specs.Lists.{is_among}
use Rattle.ra_labels.specs.declared.reply.Cause.{Cause}
use Rattle.ra_labels.specs.declared.reply.Cause.TheVariants.{Order, Update, Query}
use Rattle.ra_labels.proofs.InLists.{among-exactly}
use Rattle.ra_labels.specs.declared.insertion.Insertion.{Insertion}
use Rattle.ra_labels.specs.Neighborhood.{IsKnown}
use Rattle.ra_list_replica.specs.declared.mark.Mark.{Mark}
use Rattle.ra_list_replica.specs.declared.mark.Mark.TheVariants.{Missing, Shown, Removed}
use Rattle.ra_list_witness.specs.Causes.{HasElement, HasNeighbor, HasNeighbors, CanInsert, IsCauseOfInsertion}
use Rattle.ra_labels.specs.declared.list_operation.ListOp.TheVariants as op
use Rattle.ra_labels.specs.declared.list_operation.ListUpdate.TheVariants.{Put}
use Rattle.ra_labels.specs.FreeList.{ListState, is_neighbor, are_neighbors, can_insert}
use Rattle.ra_list_model.proofs.KeptUpdates.{three, all_three}
use Rattle.ra_list_effects.specs.Past.{Past, state_at, cause_at, admits}
use Rattle.ra_list_effects.specs.Views.{mark_in, IsViewOf}

-- a mark in a state
pub mark_missing : (state : ListState) (x : ℕ) → is_among x state.inserted ≡ false → mark_in state x ≡ Missing
mark_missing state x none = cond-true (not (is_among x state.inserted)) Missing _ (not_from_false (is_among x state.inserted) none)

pub mark_there : (state : ListState) (x : ℕ) → is_among x state.inserted ≡ true
    → mark_in state x ≡ (if is_among x state.removed then Removed else Shown)
mark_there state x is = cond-false (not (is_among x state.inserted)) Missing _ (not_from_true (is_among x state.inserted) is)

there_not_missing : (b : Bool) → ¬ ((if b then Removed else Shown) ≡ Missing)
there_not_missing true is = cc is
there_not_missing false is = cc is

pub not_missing : (state : ListState) (x : ℕ) → is_among x state.inserted ≡ true → ¬ (mark_in state x ≡ Missing)
not_missing state x is missing = there_not_missing (is_among x state.removed) (sym (mark_there state x is) ∙ missing)

module _ (elements : List ℕ) (marks : List Mark) (state : ListState) (view : IsViewOf elements marks state) where
  -- a replica has the elements that are inserted in its state
  pub has_exactly : (x : ℕ) → (is_among x state.inserted ≡ true) ↔ HasElement elements marks x
  has_exactly x = (
    (λ is.
        let (n, within, at) = view.among x ((among-exactly x state.inserted).0 is) in
        let found : slice_get elements n ≡ Some x = slice_get-get_or elements n x within ∙ ap Some at in
        (n, (found, λ missing. not_missing state x is (sym (view.marked n x found) ∙ missing)))),
    (λ has. elim (cases_Bool (is_among x state.inserted)) [
      | inl is ↦ is
      | inr none ↦ absurd (has.1.1 (view.marked has.0 x has.1.0 ∙ mark_missing state x none))
    ]),
  )

  neighbor_exactly : (x : ℕ) → (is_neighbor state x ≡ true) ↔ HasNeighbor elements marks x
  neighbor_exactly x = (
    (λ is. elim (or_cases (x == 0) (is_among x state.inserted) is) [
      | inl none ↦ inl (eqb-true x 0 none)
      | inr there ↦ inr ((has_exactly x).0 there)
    ]),
    (λ has. elim has [
      | inl none ↦ or_left (x == 0) (is_among x state.inserted) (eq-eqb x 0 none)
      | inr had ↦ or_right (x == 0) (is_among x state.inserted) ((has_exactly x).1 had)
    ]),
  )

  pub neighbors_exactly : (insertion : Insertion)
      → (are_neighbors state insertion ≡ true) ↔ HasNeighbors elements marks insertion
  neighbors_exactly insertion = (
    (λ is.
        let parts = and_parts (is_neighbor state insertion.left) (is_neighbor state insertion.right) is in
        ((neighbor_exactly insertion.left).0 parts.0, (neighbor_exactly insertion.right).0 parts.1)),
    (λ has. and_from (is_neighbor state insertion.left) (is_neighbor state insertion.right)
        ((neighbor_exactly insertion.left).1 has.0) ((neighbor_exactly insertion.right).1 has.1)),
  )

module _ (elements : List ℕ) (whole : ListState) (same : (x : ℕ) → Contains elements x ↔ Contains whole.inserted x) where
  known_exactly : (x : ℕ) → (is_neighbor whole x ≡ true) ↔ IsKnown elements x
  known_exactly x = (
    (λ is. elim (or_cases (x == 0) (is_among x whole.inserted) is) [
      | inl none ↦ inl (eqb-true x 0 none)
      | inr there ↦ inr ((same x).1 ((among-exactly x whole.inserted).0 there))
    ]),
    (λ known. elim known [
      | inl none ↦ or_left (x == 0) (is_among x whole.inserted) (eq-eqb x 0 none)
      | inr there ↦ or_right (x == 0) (is_among x whole.inserted) ((among-exactly x whole.inserted).1 ((same x).0 there))
    ]),
  )

  -- an insertion can be made exactly if the state after all updates admits it
  pub can_exactly : (insertion : Insertion) → (can_insert whole insertion ≡ true) ↔ CanInsert elements insertion
  can_exactly insertion =
      let x = insertion.element in (
        (λ is.
            let parts = three (not (x == 0)) (not (is_among x whole.inserted)) (are_neighbors whole insertion) is in
            let near = and_parts (is_neighbor whole insertion.left) (is_neighbor whole insertion.right) parts.2 in
            record {
              some = eqb-false x 0 (not-true (x == 0) parts.0);
              new = λ there. false≢true (sym (not-true (is_among x whole.inserted) parts.1)
                  ∙ (among-exactly x whole.inserted).1 ((same x).0 there));
              left = (known_exactly insertion.left).0 near.0;
              right = (known_exactly insertion.right).0 near.1;
            }),
        (λ can. all_three (not (x == 0)) (not (is_among x whole.inserted)) (are_neighbors whole insertion)
            (not_from_false (x == 0) (ne_eqb x 0 can.some))
            (not_from_false (is_among x whole.inserted) (false_from_ne_true (is_among x whole.inserted)
            (λ is. can.new ((same x).1 ((among-exactly x whole.inserted).0 is)))))
            (and_from (is_neighbor whole insertion.left) (is_neighbor whole insertion.right)
            ((known_exactly insertion.left).1 can.left) ((known_exactly insertion.right).1 can.right))),
      )

pub is_some_if : {A : Type 0} (b : Bool) (x : A) → is_some (if b then Some x else None) ≡ b
is_some_if true x = refl
is_some_if false x = refl

choose : (a b : Bool) (cause : Option Cause) → (cause ≡ None → (a ≡ true) × (b ≡ true))
    → (cause ≡ Some Update → a ≡ false) → (cause ≡ Some Query → (a ≡ true) × (b ≡ false)) → ¬ (cause ≡ Some Order)
    → cause ≡ (if not a then Some Update else if not b then Some Query else None)
choose a b None none update query order =
    let (first, second) = none refl in
    sym (cond-false (not a) (Some Update) _ (not_from_true a first)
    ∙ cond-false (not b) (Some Query) None (not_from_true b second))
choose a b (Some Update) none update query order = sym (cond-true (not a) (Some Update) _ (not_from_false a (update refl)))
choose a b (Some Query) none update query order =
    let (first, second) = query refl in
    sym (cond-false (not a) (Some Update) _ (not_from_true a first)
    ∙ cond-true (not b) (Some Query) None (not_from_false b second))
choose a b (Some Order) none update query order = absurd (order refl)

pub insertion_judged : (elements : List ℕ) (marks : List Mark) (past : Past) (replica : ℕ) (insertion : Insertion)
    (cause : Option Cause) → ((x : ℕ) → Contains elements x ↔ Contains past.whole.inserted x)
    → IsViewOf elements marks (state_at past.replicas replica) → IsCauseOfInsertion elements marks insertion cause
    → cause ≡ cause_at past replica (op.Insert insertion)
insertion_judged elements marks past replica insertion cause same view is =
    let state = state_at past.replicas replica in
    let can = can_exactly elements past.whole same insertion in
    let near = neighbors_exactly elements marks state view insertion in
    let admitted = is_some_if (can_insert past.whole insertion) _ in
    choose (admits past.whole (Some (Put insertion))) (are_neighbors state insertion) cause
    (λ none. let (may, has) = subst (IsCauseOfInsertion elements marks insertion) none is in
    (admitted ∙ can.1 may, near.1 has))
    (λ update. let cannot = subst (IsCauseOfInsertion elements marks insertion) update is in
    admitted ∙ false_from_ne_true (can_insert past.whole insertion) (λ may. cannot (can.0 may)))
    (λ query. let (may, lacks) = subst (IsCauseOfInsertion elements marks insertion) query is in
    (admitted ∙ can.1 may, false_from_ne_true (are_neighbors state insertion) (λ has. lacks (near.0 has))))
    (λ order. subst (IsCauseOfInsertion elements marks insertion) order is)

-- an insertion that does not fail is admitted by both states
only_none : (a b : Bool) → (if not a then Some Update else if not b then Some Query else None) ≡ None
    → (a ≡ true) × (b ≡ true)
only_none false b is = absurd (cc is)
only_none true false is = absurd (cc is)
only_none true true is = (refl, refl)

pub admitted_by_both : (elements : List ℕ) (marks : List Mark) (past : Past) (replica : ℕ) (insertion : Insertion)
    → ((x : ℕ) → Contains elements x ↔ Contains past.whole.inserted x)
    → IsViewOf elements marks (state_at past.replicas replica)
    → cause_at past replica (op.Insert insertion) ≡ None
    → (can_insert past.whole insertion ≡ true) × (can_insert (state_at past.replicas replica) insertion ≡ true)
admitted_by_both elements marks past replica insertion same view none =
    let state = state_at past.replicas replica in
    let x = insertion.element in
    let tests = only_none (admits past.whole (Some (Put insertion))) (are_neighbors state insertion) none in
    let whole : can_insert past.whole insertion ≡ true = sym (is_some_if (can_insert past.whole insertion) _) ∙ tests.0 in
    let parts = three (not (x == 0)) (not (is_among x past.whole.inserted)) (are_neighbors past.whole insertion) whole in (
      whole,
      all_three (not (x == 0)) (not (is_among x state.inserted)) (are_neighbors state insertion) parts.0
          (not_from_false (is_among x state.inserted) (false_from_ne_true (is_among x state.inserted) (λ is.
          false≢true (sym (not-true (is_among x past.whole.inserted) parts.1)
          ∙ (among-exactly x past.whole.inserted).1 ((same x).0 (view.among x ((among-exactly x state.inserted).0 is))))))) tests.1,
    )
