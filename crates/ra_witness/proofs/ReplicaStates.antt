-- Lemmas on the maintained state after one more label or delivery.
use Rattle.std.proofs.Common.{◌≡◌, ℕ, ◌<◌, true, false, List, [], ◌∷◌, ◌++◌, length, Option, Some, None, refl, sym, ap, ◌∙◌, subst, inl, inr, arith}
use Rattle.std.specs.Prelude.{pos, Contains, map}
use Rattle.std.proofs.lemmas.Bool.{cases_eq, false≢true, and_parts}
use Rattle.std.proofs.lemmas.Option.{none-some, same_Some}
use Rattle.std.proofs.lemmas.List.{append-nil, length-set, get_or-set_same, get_or-set_other}
use Rattle.std.proofs.lemmas.List.Elements.{All-contains}
use Rattle.std.proofs.lemmas.List.Sums.{AllPass-from_list_all}
use Rattle.ra_labels.specs.declared.kind.Kind.{Kind}
use Rattle.ra_labels.specs.declared.kind.Kind.TheVariants.{Counter, OrSet}
use Rattle.ra_labels.specs.declared.operation.Op.{Op}
use Rattle.ra_labels.specs.declared.operation.Update.{Update}
use Rattle.ra_labels.specs.declared.operation.Update.TheVariants.{Inc, Dec, Write, LwwAdd, LwwRemove, OrAdd, TakeOut, AnyUpdate, MvWrite}
use Rattle.ra_labels.specs.declared.label.Label.{Label}
use Rattle.ra_labels.specs.declared.command.Command.TheVariants.{Deliver}
use Rattle.ra_labels.specs.Records.{Records, labels_of}
use Rattle.ra_labels.specs.Visibility.{is_update_at, has_delivered, IsCausal}
use Rattle.ra_labels.specs.Rewriting.{Half, Act, Does, Asks, acts_of, part_of, parts_of, update_of, updates_of}
use Rattle.ra_labels.specs.Specification.{State, Number, Written, Members, Pairs, Listed, Listing, OfAny, OfMvRegister, step_of, state_after}
use Rattle.ra_labels.specs.Linearization.{extends_visibility}
use Rattle.ra_labels.specs.NamedOrder.{named_labels, named_sequence}
use Rattle.ra_labels.specs.Fault.{Holds}
use Rattle.ra_labels.specs.Answer.{kind_of, is_kind}
use Rattle.ra_labels.specs.TheoremTerms.{kind_of_state, kind_of_update, kind_of_act, admits_all, IdentifiersAreUnique}
use Rattle.ra_labels.specs.Insertion.{delivered_updates, HasUpdate}
use Rattle.ra_labels.specs.Commuting.{then_step}
use Rattle.ra_labels.proofs.Members.{head_or_behind}
use Rattle.ra_labels.proofs.SameKind.{one_kind}
use Rattle.ra_labels.specs.HistorySoFar.{History, history_of, history_with, NextOperation, operate}
use Rattle.ra_theorems.proofs.TheoremIndex.{state_kind, part_kind, operation_extends_delivered-query, operation_extends_delivered-others, delivery_extends_delivered-own, delivery_extends_delivered-others, kind_updates_admitted-only, delivery_is_one_step-counter, delivery_is_one_step-or_set}
use Rattle.ra_witness.specs.Labels.{update_in}
use Rattle.ra_witness.specs.States.{state_at, update_at, after_step, states_after}
use Rattle.ra_witness.specs.Standing.{AreStatesOf}
use Rattle.ra_witness.proofs.Newest.{own-step}
use Rattle.ra_witness.proofs.Causes.{are_of, are_of-both, updates_by}
use Rattle.ra_witness.proofs.NumberedLabels.{makes_it, makes_none, updates_more, IsUpdateAt, update_found}

-- for a kind of `admits_all`, a state admits each update of its kind
steps_on : (s : State) (u : Update) → is_kind (kind_of_state s) (kind_of_update u) ≡ true → admits_all (kind_of_state s) ≡ true → step_of s u ≡ Some (after_step s (Some u))
steps_on (Number n) Inc is admits = refl
steps_on (Number n) Dec is admits = refl
steps_on (Written last) (Write value) is admits = refl
steps_on (Members xs) (LwwAdd x) is admits = refl
steps_on (Members xs) (LwwRemove x) is admits = refl
steps_on (Pairs pairs) (OrAdd x id) is admits = refl
steps_on (Pairs pairs) (TakeOut x ids) is admits = refl
steps_on OfAny AnyUpdate is admits = refl
steps_on OfMvRegister (MvWrite value) is admits = refl
steps_on (Listed list) u is admits = absurd (false≢true admits)
steps_on (Listing list) u is admits = absurd (false≢true admits)
steps_on s u is admits = absurd (false≢true is)

-- an operation of the kind makes an update of the kind
made_of_kind : (kind : Kind) (op : Op) (u : Update) → is_kind kind (kind_of op) ≡ true → HasUpdate op u → is_kind kind (kind_of_update u) ≡ true
made_of_kind kind op u of_kind (half, there) =
    let each = AllPass-from_list_all (λ (act : Half × Act). is_kind (kind_of op) (kind_of_act act.1)) (acts_of op) (part_kind op) in
    one_kind kind (kind_of op) (kind_of_update u) of_kind (All-contains (λ (act : Half × Act). is_kind (kind_of op) (kind_of_act act.1) ≡ true) (acts_of op) (half, Does u) each there)

-- the step from a state that the updates led to
pub stepped : (kind : Kind) (o : Option State) (s : State) (u : Update) → o ≡ Some s → kind_of_state s ≡ kind → is_kind kind (kind_of_update u) ≡ true → admits_all kind ≡ true
    → then_step o u ≡ Some (after_step s (Some u))
stepped kind o s u led state_of_kind of_kind admits =
    ap (λ p. then_step p u) led
    ∙ steps_on s u (subst (λ k. is_kind k (kind_of_update u) ≡ true) (sym state_of_kind) of_kind) (ap admits_all state_of_kind ∙ admits)

-- the states of the replicas, if one of them makes a step
pub same_replica : (states : List State) (by : ℕ) (o : Option Update) → by < length states → state_at (states_after states by o) by ≡ after_step (state_at states by) o
same_replica states by o there = get_or-set_same states by (after_step (state_at states by) o) (Number (pos 0)) there

pub other_replica : (states : List State) (by q : ℕ) (o : Option Update) → ¬ (q ≡ by) → state_at (states_after states by o) q ≡ state_at states q
other_replica states by q o other = get_or-set_other states by q (after_step (state_at states by) o) (Number (pos 0)) other

module _ (updates : List (Option Update)) (states : List State) (past : History)
    (kept : AreStatesOf updates states past) where
  -- the state that the delivered updates lead to, after a label of the replica itself
  pub own_state : (next : NextOperation) → admits_all past.kind ≡ true → next.by < length states → is_kind past.kind (kind_of next.op) ≡ true
      → let now = operate next ∷ past.records in extends_visibility now (named_sequence past.kind now) ≡ true → (o : Option Update) → update_in next.op ≡ o
      → state_after past.kind (delivered_updates past.kind now next.by) ≡ Some (after_step (state_at states next.by) o)
  own_state next admits there of_kind extended None is =
      ap (state_after past.kind) (operation_extends_delivered-query past.kind past.records next (makes_none next.op is)) ∙ kept.folded next.by there
  own_state next admits there of_kind extended (Some u) is =
      let makes = makes_it next.op u is in
      let led = kept.folded next.by there in
      own-step past.kind past.records next u makes extended
      ∙ stepped past.kind (state_after past.kind (delivered_updates past.kind past.records next.by)) (state_at states next.by) u led
      (state_kind past.kind (delivered_updates past.kind past.records next.by) (state_at states next.by) led) (made_of_kind past.kind next.op u of_kind makes) admits

  -- the states after a label of the replica, if it makes its step
  pub kept-operation : (next : NextOperation) → next.by < length states
      → let now = operate next ∷ past.records in
      state_after past.kind (delivered_updates past.kind now next.by) ≡ Some (after_step (state_at states next.by) (update_in next.op))
      → AreStatesOf (updates ++ update_in next.op ∷ []) (states_after states next.by (update_in next.op)) (history_of past.kind past.initial_replicas now)
  kept-operation next there led =
      let now = operate next ∷ past.records in
      let o = update_in next.op in
      record {
        labels = ap (λ us. us ++ update_in next.op ∷ []) kept.labels ∙ sym (updates_more past.records next);
        replicas = length-set states next.by (after_step (state_at states next.by) o) ∙ kept.replicas;
        folded = λ q there_q. elim (cases_eq q next.by) [
          | inl same ↦ subst (λ r. state_after past.kind (delivered_updates past.kind now r) ≡ Some (state_at (states_after states next.by o) r)) (sym same)
              (led ∙ ap Some (sym (same_replica states next.by o there)))
          | inr other ↦
              ap (state_after past.kind) (operation_extends_delivered-others past.kind past.records next q (λ is. other (sym is)))
              ∙ kept.folded q (omega (arith, length-set states next.by (after_step (state_at states next.by) o), there_q))
              ∙ ap Some (sym (other_replica states next.by q o other))
        ];
      }

  pub kept-label : (next : NextOperation) → admits_all past.kind ≡ true → next.by < length states → is_kind past.kind (kind_of next.op) ≡ true
      → let now = operate next ∷ past.records in extends_visibility now (named_sequence past.kind now) ≡ true
      → AreStatesOf (updates ++ update_in next.op ∷ []) (states_after states next.by (update_in next.op)) (history_of past.kind past.initial_replicas now)
  kept-label next admits there of_kind extended =
      kept-operation next there (own_state next admits there of_kind extended (update_in next.op) refl)

  -- the states after a delivery, if one delivery is one step
  pub kept-delivery : (to n : ℕ) (o : Option Update) → to < length states
      → state_after past.kind (delivered_updates past.kind (Deliver to n ∷ past.records) to) ≡ Some (after_step (state_at states to) o)
      → AreStatesOf updates (states_after states to o) (history_with past (Deliver to n))
  kept-delivery to n o there led =
      let now = Deliver to n ∷ past.records in
      record {
        labels = kept.labels;
        replicas = length-set states to (after_step (state_at states to) o) ∙ kept.replicas;
        folded = λ q there_q. elim (cases_eq q to) [
          | inl same ↦ subst (λ r. state_after past.kind (delivered_updates past.kind now r) ≡ Some (state_at (states_after states to o) r)) (sym same)
              (led ∙ ap Some (sym (same_replica states to o there)))
          | inr other ↦
              ap (state_after past.kind) (delivery_extends_delivered-others past.kind past.records to n q (λ is. other (sym is)))
              ∙ kept.folded q (omega (arith, length-set states to (after_step (state_at states to) o), there_q))
              ∙ ap Some (sym (other_replica states to q o other))
        ];
      }

  -- the step that the delivered label makes
  its_step : (to n : ℕ) (label : Label) → admits_all past.kind ≡ true → to < length states → IsUpdateAt past.records n label
      → ((u : Update) → HasUpdate label.op u → is_kind past.kind (kind_of_update u) ≡ true) → (o : Option Update) → update_in label.op ≡ o
      → ((u : Update) → HasUpdate label.op u → state_after past.kind (delivered_updates past.kind (Deliver to label.number ∷ past.records) to) ≡ then_step (state_after past.kind (delivered_updates past.kind past.records to)) u)
      → state_after past.kind (delivered_updates past.kind (Deliver to n ∷ past.records) to) ≡ Some (after_step (state_at states to) (update_at updates n))
  its_step to n label admits there at of_kind None is step = absurd (false≢true (sym (makes_none label.op is) ∙ at.update))
  its_step to n label admits there at of_kind (Some u) is step =
      let makes = makes_it label.op u is in
      let led = kept.folded to there in
      let found : update_at updates n ≡ Some u = ap (λ us. update_at us n) kept.labels ∙ at.found ∙ is in
      ap (λ m. state_after past.kind (delivered_updates past.kind (Deliver to m ∷ past.records) to)) (sym at.number)
      ∙ step u makes
      ∙ stepped past.kind (state_after past.kind (delivered_updates past.kind past.records to)) (state_at states to) u led
      (state_kind past.kind (delivered_updates past.kind past.records to) (state_at states to) led) (of_kind u makes) admits
      ∙ ap (λ o. Some (after_step (state_at states to) o)) (sym found)

  pub kept-stepped : (to n : ℕ) (label : Label) → admits_all past.kind ≡ true → to < length states → IsUpdateAt past.records n label
      → ((u : Update) → HasUpdate label.op u → is_kind past.kind (kind_of_update u) ≡ true)
      → ((u : Update) → HasUpdate label.op u → state_after past.kind (delivered_updates past.kind (Deliver to label.number ∷ past.records) to) ≡ then_step (state_after past.kind (delivered_updates past.kind past.records to)) u)
      → AreStatesOf updates (states_after states to (update_at updates n)) (history_with past (Deliver to n))
  kept-stepped to n label admits there at of_kind step =
      kept-delivery to n (update_at updates n) there (its_step to n label admits there at of_kind (update_in label.op) refl step)

-- an update of labels of a kind is of that kind
pub made_among : (kind : Kind) (label : Label) (acts : List (Half × Act)) (half : Half) (u : Update) → are_of kind (updates_of (map (part_of label) acts)) ≡ true
    → Contains acts (half, Does u) → is_kind kind (kind_of_update u) ≡ true
made_among kind label [] half u pass there = absurd (omega (arith, there.1))
made_among kind label ((other, Asks query) ∷ acts) half u pass there = elim (head_or_behind (other, Asks query) acts (half, Does u) there) [
  | inl here ↦ absurd (none-some u (ap (λ (a : Half × Act). update_of a.1) here))
  | inr further ↦ made_among kind label acts half u pass further
]
made_among kind label ((other, Does v) ∷ acts) half u pass there =
    let parts = and_parts (is_kind kind (kind_of_update v)) (are_of kind (updates_of (map (part_of label) acts))) pass in
    elim (head_or_behind (other, Does v) acts (half, Does u) there) [
      | inl here ↦ subst (λ w. is_kind kind (kind_of_update w) ≡ true) (same_Some v u (ap (λ (a : Half × Act). update_of a.1) here)) parts.0
      | inr further ↦ made_among kind label acts half u parts.1 further
    ]

pub delivered_of_kind : (kind : Kind) (records : Records) (to : ℕ) (label : Label) → Holds kind records → Contains (labels_of records) label → has_delivered records to label.number ≡ false
    → (u : Update) → HasUpdate label.op u → is_kind kind (kind_of_update u) ≡ true
delivered_of_kind kind records to label holds there new u makes =
    let (before, behind, is, had_was, had_is) = delivery_extends_delivered-own kind records to label u there makes new in
    let all = kind_updates_admitted-only kind (updates_by (named_labels kind records)) holds.updates in
    let two = and_parts (are_of kind (updates_by before)) (are_of kind (updates_by (label ∷ behind))) (sym (ap (λ ls. are_of kind (updates_by ls)) is ∙ are_of-both kind before (label ∷ behind)) ∙ all) in
    let one = and_parts (are_of kind (updates_by (label ∷ []))) (are_of kind (updates_by behind)) (sym (are_of-both kind (label ∷ []) behind) ∙ two.1) in
    let own = sym (ap (λ ps. are_of kind (updates_of ps)) (append-nil (parts_of label))) ∙ one.0 in
    made_among kind label (acts_of label.op) makes.0 u own makes.1

new_there : (records : Records) (to n : ℕ) (label : Label) → IsUpdateAt records n label → has_delivered records to n ≡ false → has_delivered records to label.number ≡ false
new_there records to n label at new = ap (has_delivered records to) at.number ∙ new

pub kept-counter : (updates : List (Option Update)) (states : List State) (initial_replicas : ℕ) (records : Records) (to n : ℕ) → AreStatesOf updates states (history_of Counter initial_replicas records) → to < length states
    → is_update_at records n ≡ true → has_delivered records to n ≡ false → Holds Counter records
    → AreStatesOf updates (states_after states to (update_at updates n)) (history_of Counter initial_replicas (Deliver to n ∷ records))
kept-counter updates states initial_replicas records to n kept there is new holds =
    let (label, at) = update_found records n is in
    let new_label = new_there records to n label at new in
    kept-stepped updates states (history_of Counter initial_replicas records) kept to n label refl there at
    (delivered_of_kind Counter records to label holds at.there new_label)
    (λ u makes. delivery_is_one_step-counter records to label u at.there makes new_label)

pub kept-or_set : (updates : List (Option Update)) (states : List State) (initial_replicas : ℕ) (records : Records) (to n : ℕ) → AreStatesOf updates states (history_of OrSet initial_replicas records) → to < length states
    → is_update_at records n ≡ true → Holds OrSet records → IdentifiersAreUnique records → IsCausal (Deliver to n ∷ records)
    → AreStatesOf updates (states_after states to (update_at updates n)) (history_of OrSet initial_replicas (Deliver to n ∷ records))
kept-or_set updates states initial_replicas records to n kept there is holds once causal =
    let (label, at) = update_found records n is in
    let new_label = new_there records to n label at causal.0 in
    let causal_label = subst (λ m. IsCausal (Deliver to m ∷ records)) (sym at.number) causal in
    kept-stepped updates states (history_of OrSet initial_replicas records) kept to n label refl there at
    (delivered_of_kind OrSet records to label holds at.there new_label)
    (λ u makes. delivery_is_one_step-or_set records to label u at.there makes holds once causal_label)
