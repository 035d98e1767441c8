-- Lemmas on the maintained state after one more label or delivery: for a counter and an OR-Set, and those for all
-- kinds.
use Rattle.std.proofs.Common.{◌≡◌, ℕ, ◌<◌, ◌≤◌, true, List, [], ◌∷◌, ◌++◌, length, Option, Some, None, sym, ap, ◌∙◌, subst, inl, inr, arith}
use Rattle.std.specs.Prelude.{◌⊎◌, Result, OnOk, Ok, Err, IfSome}
use Rattle.std.proofs.lemmas.Option.{none-some}
use Rattle.ra_labels.specs.declared.kind.Kind.{Kind}
use Rattle.ra_labels.specs.declared.kind.Kind.TheVariants as variant
use Rattle.ra_labels.specs.declared.operation.Update.{Update}
use Rattle.ra_labels.specs.declared.label.Label.{Label}
use Rattle.ra_labels.specs.declared.command.Command.TheVariants.{Deliver}
use Rattle.ra_labels.specs.Explained.{is_explained}
use Rattle.ra_labels.specs.Records.{Records, label_count, stamp_at}
use Rattle.ra_labels.specs.Rewriting.{Half, Act, acts_of}
use Rattle.ra_labels.specs.Specification.{State}
use Rattle.ra_labels.specs.Fault.{Holds, sequence_cause}
use Rattle.ra_labels.specs.TheoremTerms.{admits_all}
use Rattle.ra_labels.specs.HistorySoFar.{History, history_of, history_with, NextOperation, operate}
use Rattle.ra_theorems.proofs.TheoremIndex.{delivered_are_updates-there}
use Rattle.ra_witness.specs.declared.commuting.Commuting as commuting
use Rattle.ra_witness.specs.declared.overriding.Overriding as overriding
use Rattle.ra_witness.specs.declared.rga.Rga as rga
use Rattle.ra_witness.specs.declared.kept_list.KeptList as kept_list
use Rattle.ra_unordered.specs.declared.unordered.Unordered as unordered
use Rattle.ra_unordered.specs.Unordered.{IsKeptOf}
use Rattle.ra_witness.specs.declared.effects.Effects.{Effects}
use Rattle.ra_witness.specs.declared.effects.Effects.TheVariants.{Commuting, Overriding, Rga}
use Rattle.ra_witness.specs.declared.effects.Effects.TheVariants as form
use Rattle.ra_witness.specs.Labels.{update_in, cause_in}
use Rattle.ra_witness.specs.States.{state_at, update_at, states_after, CanStep}
use Rattle.ra_witness.specs.Standing.{AreStatesOf}
use Rattle.ra_witness.specs.Rga.{IsRgaOf}
use Rattle.ra_witness.specs.KeptList.{IsListOf}
use Rattle.ra_witness.specs.Offered.{IsOffered, IsDelivered}
use Rattle.ra_witness.specs.Effects.{IsCommutingOf, IsOverridingOf, AreEffectsOfForm, AreEffectsOf}
use Rattle.ra_witness.proofs.NumberedLabels.{updates_counted}
use Rattle.ra_witness.proofs.Causes.{cause_where_it_fits, still_admitted}
use Rattle.ra_witness.proofs.ReplicaStates.{kept-label, kept-counter, kept-or_set}
use Rattle.ra_witness.proofs.Range.{can_step}
use Rattle.ra_witness.proofs.Forms.{of_its_kind, is_of_kind, its_replica, has_stamp, writes_are_stamped}

pub on_ok_two : {T E : Type 0} {P Q R : Type 0} (r : Result T E) → OnOk r P → OnOk r Q → (P → Q → R) → OnOk r R
on_ok_two (Ok x) p q f = f p q
on_ok_two (Err e) p q f = tt

pub if_some_use : {A : Type 0} (o : Option A) (x : A) (P : A → Type 0) → o ≡ Some x → IfSome o P → P x
if_some_use o x P is p = subst (λ a. IfSome a P) is p

module _ (k : Effects) (past : History) (stands : AreEffectsOf k past) where
  pub is_commuting : (kept : commuting.Commuting) → k ≡ Commuting kept → IsCommutingOf kept past
  is_commuting kept is = subst (λ x. AreEffectsOfForm x past) is stands.form

  pub is_overriding : (kept : overriding.Overriding) → k ≡ Overriding kept → IsOverridingOf kept past
  is_overriding kept is = subst (λ x. AreEffectsOfForm x past) is stands.form

  pub is_list : (kept : kept_list.KeptList) → k ≡ form.List kept → (past.kind ≡ variant.List) × IsListOf kept past.initial_replicas past.records
  is_list kept is = subst (λ x. AreEffectsOfForm x past) is stands.form

  pub is_unordered : (kept : unordered.Unordered) → k ≡ form.Unordered kept → IsKeptOf kept past
  is_unordered kept is = subst (λ x. AreEffectsOfForm x past) is stands.form

  pub is_rga : (kept : rga.Rga) → k ≡ Rga kept → (past.kind ≡ variant.Rga) × IsRgaOf kept past.initial_replicas past.records
  is_rga kept is = subst (λ x. AreEffectsOfForm x past) is stands.form

pub not_rga-commuting : (kind : Kind) → (kind ≡ variant.Counter) ⊎ (kind ≡ variant.OrSet) → ¬ (kind ≡ variant.Rga)
not_rga-commuting kind (inl is) rga = let e : variant.Counter ≡ variant.Rga = sym is ∙ rga in cc (e)
not_rga-commuting kind (inr is) rga = let e : variant.OrSet ≡ variant.Rga = sym is ∙ rga in cc (e)

pub not_rga-overriding : (kind : Kind) → (kind ≡ variant.Register) ⊎ (kind ≡ variant.LwwSet) → ¬ (kind ≡ variant.Rga)
not_rga-overriding kind (inl is) rga = let e : variant.Register ≡ variant.Rga = sym is ∙ rga in cc (e)
not_rga-overriding kind (inr is) rga = let e : variant.LwwSet ≡ variant.Rga = sym is ∙ rga in cc (e)

-- these kinds have no condition on the records as a whole
pub explained-commuting : (kind : Kind) (records : Records) → (kind ≡ variant.Counter) ⊎ (kind ≡ variant.OrSet)
    → is_explained kind records ≡ true
explained-commuting kind records (inl is) = ap (λ k. is_explained k records) is
explained-commuting kind records (inr is) = ap (λ k. is_explained k records) is

pub explained-overriding : (kind : Kind) (records : Records) → (kind ≡ variant.Register) ⊎ (kind ≡ variant.LwwSet)
    → is_explained kind records ≡ true
explained-overriding kind records (inl is) = ap (λ k. is_explained k records) is
explained-overriding kind records (inr is) = ap (λ k. is_explained k records) is

pub not_list-overriding : (kind : Kind) → (kind ≡ variant.Register) ⊎ (kind ≡ variant.LwwSet) → ¬ (kind ≡ variant.List)
not_list-overriding kind (inl is) other = let e : variant.Register ≡ variant.List = sym is ∙ other in cc (e)
not_list-overriding kind (inr is) other = let e : variant.LwwSet ≡ variant.List = sym is ∙ other in cc (e)

pub admits-commuting : (kind : Kind) → (kind ≡ variant.Counter) ⊎ (kind ≡ variant.OrSet) → admits_all kind ≡ true
admits-commuting kind (inl is) = ap admits_all is
admits-commuting kind (inr is) = ap admits_all is

pub admits-overriding : (kind : Kind) → (kind ≡ variant.Register) ⊎ (kind ≡ variant.LwwSet) → admits_all kind ≡ true
admits-overriding kind (inl is) = ap admits_all is
admits-overriding kind (inr is) = ap admits_all is

pub not_or_set-overriding : (kind : Kind) → (kind ≡ variant.Register) ⊎ (kind ≡ variant.LwwSet) → ¬ (kind ≡ variant.OrSet)
not_or_set-overriding kind (inl is) other = let e : variant.Register ≡ variant.OrSet = sym is ∙ other in cc (e)
not_or_set-overriding kind (inr is) other = let e : variant.LwwSet ≡ variant.OrSet = sym is ∙ other in cc (e)

module _ (updates : List (Option Update)) (states : List State) (past : History) (kept : AreStatesOf updates states past) where
  -- the cause at the label is that of its queries on the state of its replica
  pub cause_known : (next : NextOperation) (label : Label) (acts : List (Half × Act)) → admits_all past.kind ≡ true → IsOffered past next label
      → acts ≡ acts_of next.op → cause_in (Some (state_at states label.replica)) acts ≡ sequence_cause past.kind (operate next ∷ past.records)
  cause_known next label acts admits offered same =
      let there : next.by < length states = omega (arith, kept.replicas, offered.replica) in
      let of_kind = is_of_kind past next label offered in
      let admitted = still_admitted past.kind past.records next admits offered.holds of_kind in
      ap (λ r. cause_in (Some (state_at states r)) acts) (its_replica past next label offered)
      ∙ ap (cause_in (Some (state_at states next.by))) same
      ∙ ap (λ o. cause_in o (acts_of next.op)) (sym (kept.folded next.by there))
      ∙ sym (cause_where_it_fits past.kind past.records next true offered.holds offered.fits admitted)

  -- the states after the label
  pub states_taken : (next : NextOperation) (label : Label) → admits_all past.kind ≡ true → IsOffered past next label
      → AreStatesOf (updates ++ update_in next.op ∷ []) (states_after states next.by (update_in next.op)) (history_with past (operate next))
  states_taken next label admits offered =
      kept-label updates states past kept next admits (omega (arith, kept.replicas, offered.replica))
      (is_of_kind past next label offered) offered.fits

  pub can_take : (next : NextOperation) (label : Label) (update : Option Update) → admits_all past.kind ≡ true → IsOffered past next label
      → update ≡ update_in next.op → CanStep (state_at states label.replica) update
  can_take next label update admits offered same =
      let can = can_step (updates ++ update_in next.op ∷ []) states (history_with past (operate next)) next.by (update_in next.op)
      (states_taken next label admits offered) (omega (arith, kept.replicas, offered.replica)) (omega (arith, offered.few)) in
      subst (λ r. CanStep (state_at states r) update) (sym (its_replica past next label offered))
      (subst (λ o. CanStep (state_at states next.by) o) (sym same) can)

  -- a delivered label exists
  pub told_there : (to n : ℕ) → IsDelivered past to n → n < length updates
  told_there to n told = omega (arith, delivered_are_updates-there past.records n told.update, ap length kept.labels, updates_counted past.records)

  -- the states of a counter or an OR-Set after the delivery
  pub states_told : (to n : ℕ) → (past.kind ≡ variant.Counter) ⊎ (past.kind ≡ variant.OrSet) → IsDelivered past to n
      → AreStatesOf updates (states_after states to (update_at updates n)) (history_with past (Deliver to n))
  states_told to n (inl is) told =
      subst (λ k. AreStatesOf updates (states_after states to (update_at updates n)) (history_of k past.initial_replicas (Deliver to n ∷ past.records))) (sym is)
      (kept-counter updates states past.initial_replicas past.records to n (subst (λ k. AreStatesOf updates states (history_of k past.initial_replicas past.records)) is kept) (omega (arith, kept.replicas, told.replica))
      told.update told.causal.0 (subst (λ k. Holds k past.records) is told.holds))
  states_told to n (inr is) told =
      subst (λ k. AreStatesOf updates (states_after states to (update_at updates n)) (history_of k past.initial_replicas (Deliver to n ∷ past.records))) (sym is)
      (kept-or_set updates states past.initial_replicas past.records to n (subst (λ k. AreStatesOf updates states (history_of k past.initial_replicas past.records)) is kept) (omega (arith, kept.replicas, told.replica))
      told.update (subst (λ k. Holds k past.records) is told.holds) told.identifiers told.causal)

-- a counter or an OR-Set after the label
pub commuting_taken : (old new : commuting.Commuting) (past : History) (next : NextOperation) (label : Label) (update : Option Update)
    → IsCommutingOf old past → IsOffered past next label → update ≡ update_in next.op
    → new.updates.items ≡ old.updates.items ++ update ∷ [] → new.states.items ≡ states_after old.states.items label.replica update
    → AreEffectsOf (Commuting new) (history_with past (operate next))
commuting_taken old new past next label update kept offered same updates states =
    let now = operate next ∷ past.records in
    let later = states_taken old.updates.items old.states.items past kept.states next label (admits-commuting past.kind kept.one) offered in
    let its_updates : new.updates.items ≡ old.updates.items ++ update_in next.op ∷ [] = updates ∙ ap (λ o. old.updates.items ++ o ∷ []) same in
    let its_states : new.states.items ≡ states_after old.states.items next.by (update_in next.op) =
    states
    ∙ ap (λ r. states_after old.states.items r update) (its_replica past next label offered)
    ∙ ap (states_after old.states.items next.by) same in
    record {
      few = omega (arith, offered.few);
      form = record {
        one = kept.one;
        states =
            subst (λ us. AreStatesOf us new.states.items (history_of past.kind past.initial_replicas now)) (sym its_updates)
            (subst (λ ss. AreStatesOf (old.updates.items ++ update_in next.op ∷ []) ss (history_of past.kind past.initial_replicas now)) (sym its_states) later);
      };
    }

-- and after the delivery
pub commuting_told : (old new : commuting.Commuting) (past : History) (to n : ℕ) → label_count past.records ≤ 1048576
    → IsCommutingOf old past → IsDelivered past to n → new.updates ≡ old.updates
    → new.states.items ≡ states_after old.states.items to (update_at old.updates.items n) → AreEffectsOf (Commuting new) (history_with past (Deliver to n))
commuting_told old new past to n few kept told updates states =
    let now = Deliver to n ∷ past.records in
    let later = states_told old.updates.items old.states.items past kept.states to n kept.one told in
    record {
      few = few;
      form = record {
        one = kept.one;
        states =
            subst (λ us. AreStatesOf us new.states.items (history_of past.kind past.initial_replicas now)) (sym (ap (λ us. us.items) updates))
            (subst (λ ss. AreStatesOf old.updates.items ss (history_of past.kind past.initial_replicas now)) (sym states) later);
      };
    }

pub can_tell : (kept : commuting.Commuting) (past : History) (to n : ℕ) → label_count past.records ≤ 1048576
    → IsCommutingOf kept past → IsDelivered past to n → CanStep (state_at kept.states.items to) (update_at kept.updates.items n)
can_tell kept past to n few stands told =
    can_step kept.updates.items kept.states.items (history_with past (Deliver to n)) to (update_at kept.updates.items n)
    (states_told kept.updates.items kept.states.items past stands.states to n stands.one told) (omega (arith, stands.states.replicas, told.replica)) few

written_kind : {kind other : Kind} → (kind ≡ variant.Register) ⊎ (kind ≡ variant.LwwSet) → other ≡ kind
    → (other ≡ variant.Register) ⊎ (other ≡ variant.LwwSet)
written_kind (inl is) of = inl (of ∙ is)
written_kind (inr is) of = inr (of ∙ is)

-- a label of a register or an LWW set that is an update has a stamp
pub stamp_missing : (past : History) (next : NextOperation) (label : Label) (u : Update)
    → (past.kind ≡ variant.Register) ⊎ (past.kind ≡ variant.LwwSet) → IsOffered past next label → update_in next.op ≡ Some u → label.stamp ≡ None → ⊥
stamp_missing past next label u one offered does none =
    let of = of_its_kind past next label offered in
    let carries = writes_are_stamped next.op u (written_kind one of) does in
    let (at, is, least, stamped) = has_stamp past next label offered carries in
    none-some (stamp_at next.by at) (sym none ∙ stamped)
