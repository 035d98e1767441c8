-- The delivery of an update that the replica's state admits.
use Rattle.std.proofs.Common.{◌≡◌, ℕ, ◌<◌, Bool, true, false, List, length, set, Option, Some, None, refl, sym, ◌∙◌, subst}
use Rattle.std.specs.Prelude.{◌==◌, ◌&&◌, not, Contains}
use Rattle.std.specs.List.{slice_get}
use Rattle.std.proofs.lemmas.Bool.{false≢true}
use Rattle.ra_labels.specs.Lists.{is_among}
use Rattle.ra_labels.proofs.InLists.{among-exactly}
use Rattle.ra_list_replica.specs.declared.mark.Mark.TheVariants.{Missing, Shown, Removed}
use Rattle.ra_list_witness.specs.ListWitness.{ListWitness, view_at, mark_of, IsMarked}
use Rattle.ra_labels.specs.declared.insertion.Insertion.{Insertion}
use Rattle.ra_labels.specs.declared.list_operation.ListUpdate.{ListUpdate}
use Rattle.ra_labels.specs.declared.list_operation.ListUpdate.TheVariants.{Put, Hide}
use Rattle.ra_labels.specs.FreeList.{ListState, can_insert, list_step, are_neighbors}
use Rattle.ra_list_effects.specs.declared.list_effects.Change.{Change}
use Rattle.ra_list_effects.specs.declared.list_effects.Change.TheVariants as change
use Rattle.ra_list_effects.specs.Past.{Past, state_at, with_delivery}
use Rattle.ra_list_effects.specs.Effects.{IsChangeOf, AreEffectsOf}
use Rattle.ra_list_effects.proofs.JudgedOperations.{mark_missing, not_missing}
use Rattle.ra_list_effects.proofs.StateViews.{with_element, with_removal, view_shown, view_removed}
use Rattle.ra_list_effects.proofs.AddedOperations.{effects_of, after_delivery, admitted_insertion, admitted_removal, inserted_step, removed_step}

-- a new element is not in the state
new_element : (state : ListState) (insertion : Insertion) → can_insert state insertion ≡ true
    → is_among insertion.element state.inserted ≡ false
new_element state insertion can = middle (not (insertion.element == 0)) (is_among insertion.element state.inserted)
    (are_neighbors state insertion) can
  where
    middle : (a b c : Bool) → (a && not b && c) ≡ true → b ≡ false
    middle true false c is = refl
    middle true true c is = absurd (false≢true is)
    middle false b c is = absurd (false≢true is)

-- the change of an update is known, and the update by it
pub shows : (elements : List ℕ) (number : ℕ) (update : ListUpdate) → IsChangeOf elements (Some (change.Show number)) (Some update)
    → (insertion : Insertion) × (update ≡ Put insertion) × (slice_get elements number ≡ Some insertion.element)
shows elements number (Put insertion) is = (insertion, refl, is)
shows elements number (Hide x) is = absurd is

pub hides : (elements : List ℕ) (number : ℕ) (update : ListUpdate) → IsChangeOf elements (Some (change.Hide number)) (Some update)
    → (x : ℕ) × (update ≡ Hide x) × (slice_get elements number ≡ Some x)
hides elements number (Put insertion) is = absurd is
hides elements number (Hide x) is = (x, refl, is)

pub show_missing : (witness : ListWitness) (changes : List (Option Change)) (past : Past) (replica number : ℕ)
    (update : ListUpdate) → AreEffectsOf (effects_of witness changes) past
    → IsChangeOf witness.elements (Some (change.Show number)) (Some update)
    → ¬ (list_step (state_at past.replicas replica) update ≡ None) → mark_of witness.views replica number ≡ Missing
show_missing witness changes past replica number update stands is admitted =
    let (insertion, same, at) = shows witness.elements number update is in
    let state = state_at past.replicas replica in
    let can = admitted_insertion state insertion (subst (λ u. ¬ (list_step state u ≡ None)) same admitted) in
    (stands.views replica).marked number insertion.element at ∙ mark_missing state insertion.element (new_element state insertion can)

pub hide_had : (witness : ListWitness) (changes : List (Option Change)) (past : Past) (replica number : ℕ)
    (update : ListUpdate) → AreEffectsOf (effects_of witness changes) past
    → IsChangeOf witness.elements (Some (change.Hide number)) (Some update)
    → ¬ (list_step (state_at past.replicas replica) update ≡ None) → ¬ (mark_of witness.views replica number ≡ Missing)
hide_had witness changes past replica number update stands is admitted missing =
    let (x, same, at) = hides witness.elements number update is in
    let state = state_at past.replicas replica in
    let there = admitted_removal state x (subst (λ u. ¬ (list_step state u ≡ None)) same admitted) in
    not_missing state x there (sym ((stands.views replica).marked number x at) ∙ missing)

pub delivered_show : (old new : ListWitness) (changes : List (Option Change)) (past : Past) (replica number : ℕ)
    (update : ListUpdate) → AreEffectsOf (effects_of old changes) past → replica < length past.replicas
    → IsChangeOf old.elements (Some (change.Show number)) (Some update)
    → ¬ (list_step (state_at past.replicas replica) update ≡ None) → new.elements ≡ old.elements → new.edges ≡ old.edges
    → IsMarked old.views replica number Shown new.views
    → AreEffectsOf (effects_of new changes) (with_delivery past replica update)
delivered_show old new changes past replica number update stands there is admitted elements edges marked =
    let (insertion, same, at) = shows old.elements number update is in
    let state = state_at past.replicas replica in
    let can = admitted_insertion state insertion (subst (λ u. ¬ (list_step state u ≡ None)) same admitted) in
    let apart : ¬ Contains state.inserted insertion.element = λ among.
    false≢true (sym (new_element state insertion can) ∙ (among-exactly insertion.element state.inserted).1 among) in
    subst (λ u. AreEffectsOf (effects_of new changes) (with_delivery past replica u)) (sym same)
    (subst (λ s. AreEffectsOf (effects_of new changes) (record {
      whole = past.whole;
      replicas = set past.replicas replica s;
      updates = past.updates;
      edges = past.edges;
    })) (sym (inserted_step state insertion can))
    (after_delivery old new changes past replica number Shown (with_element state insertion.element) stands there elements edges
    marked (λ marks read. view_shown old.elements (view_at old.views replica).marks marks state number insertion.element
    stands.once at apart read (stands.views replica))))

pub delivered_hide : (old new : ListWitness) (changes : List (Option Change)) (past : Past) (replica number : ℕ)
    (update : ListUpdate) → AreEffectsOf (effects_of old changes) past → replica < length past.replicas
    → IsChangeOf old.elements (Some (change.Hide number)) (Some update)
    → ¬ (list_step (state_at past.replicas replica) update ≡ None) → new.elements ≡ old.elements → new.edges ≡ old.edges
    → IsMarked old.views replica number Removed new.views
    → AreEffectsOf (effects_of new changes) (with_delivery past replica update)
delivered_hide old new changes past replica number update stands there is admitted elements edges marked =
    let (x, same, at) = hides old.elements number update is in
    let state = state_at past.replicas replica in
    let among = admitted_removal state x (subst (λ u. ¬ (list_step state u ≡ None)) same admitted) in
    subst (λ u. AreEffectsOf (effects_of new changes) (with_delivery past replica u)) (sym same)
    (subst (λ s. AreEffectsOf (effects_of new changes) (record {
      whole = past.whole;
      replicas = set past.replicas replica s;
      updates = past.updates;
      edges = past.edges;
    })) (sym (removed_step state x among))
    (after_delivery old new changes past replica number Removed (with_removal state x) stands there elements edges
    marked (λ marks read. view_removed old.elements (view_at old.views replica).marks marks state number x
    stands.once at ((among-exactly x state.inserted).0 among) read (stands.views replica))))
