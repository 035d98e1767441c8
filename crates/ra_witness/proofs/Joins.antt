-- Lemmas on the maintained state after a replica joins, for the kinds other than RGA.
use Rattle.std.proofs.Common.{◌≡◌, ℕ, ◌<◌, ◌≤◌, get_or, List, [], ◌∷◌, ◌++◌, length, length-append, Option, Some, sym, ap, ◌∙◌, subst, inl, inr, arith}
use Rattle.std.specs.Prelude.{pos, nat_eq, ◌&&◌, ◌||◌}
use Rattle.std.specs.HashMap.{get, hash_map_len}
use Rattle.std.proofs.lemmas.Bool.{cases_eq, ne_eqb}
use Rattle.std.proofs.lemmas.List.{length-map, get_or_append_left, get_or_at}
use Rattle.ra_labels.specs.declared.operation.Update.{Update}
use Rattle.ra_labels.specs.declared.command.Command.TheVariants.{Join}
use Rattle.ra_labels.specs.Records.{Records, replica_count, label_count}
use Rattle.ra_labels.specs.Visibility.{has_delivered}
use Rattle.ra_labels.specs.Specification.{State, Number, state_after}
use Rattle.ra_labels.specs.TheoremTerms.{NoneDeliveredBeyond}
use Rattle.ra_labels.specs.Insertion.{delivered_updates}
use Rattle.ra_labels.specs.HistorySoFar.{History, history_of, replicas_of, history_with}
use Rattle.ra_theorems.proofs.TheoremIndex.{join_copies_delivered-labels, join_copies_delivered-own, join_copies_delivered-others}
use Rattle.ra_witness.specs.declared.commuting.Commuting.{Commuting}
use Rattle.ra_witness.specs.declared.overriding.Overriding.{Overriding}
use Rattle.ra_witness.specs.declared.overriding.written.Written.{Written}
use Rattle.ra_witness.specs.States.{state_at}
use Rattle.ra_witness.specs.Standing.{AreStatesOf}
use Rattle.ra_witness.specs.Overriding.{label_on, updates_written, labels_in, last_label}
use Rattle.ra_witness.specs.Overridden.{AreWritesOf, IsLastOn, NoneIsOn, AreLastOf, AreBelow}
use Rattle.ra_witness.specs.Offered.{IsJoinedFrom}
use Rattle.ra_witness.specs.Effects.{IsCommutingOf, IsOverridingOf}
use Rattle.ra_witness.proofs.OverridingKinds.{lasts_counted}

-- each replica keeps its state, and the new one has a copy
pub states_joined : (updates : List (Option Update)) (states : List State) (past : History) (from : ℕ) → AreStatesOf updates states past → from < replicas_of past → NoneDeliveredBeyond past.initial_replicas past.records
    → AreStatesOf updates (states ++ state_at states from ∷ []) (history_with past (Join (replicas_of past) from))
states_joined updates states past from kept there beyond =
    let joined = replicas_of past in
    let now = Join joined from ∷ past.records in
    let state = state_at states from in
    record {
      labels = kept.labels;
      replicas = omega (arith, length-append states (state ∷ []), kept.replicas);
      folded = λ q there_q. elim (cases_eq q joined) [
        | inl same ↦ subst (λ r. state_after past.kind (delivered_updates past.kind now r) ≡ Some (state_at (states ++ state ∷ []) r)) (sym same)
            (ap (state_after past.kind) (join_copies_delivered-own past.kind past.initial_replicas past.records from beyond)
            ∙ kept.folded from (omega (arith, kept.replicas, there))
            ∙ ap Some (sym (get_or_at states state [] (Number (pos 0)) joined kept.replicas)))
        | inr other ↦
            let before : q < length states = omega (arith, there_q, length-append states (state ∷ []), kept.replicas, other) in
            ap (state_after past.kind) (join_copies_delivered-others past.kind past.records joined from q (λ is. other (sym is)))
            ∙ kept.folded q before
            ∙ ap Some (sym (get_or_append_left states (state ∷ []) (Number (pos 0)) q before))
      ];
    }

-- for a counter or an OR-Set
pub commuting_joined : (old new : Commuting) (past : History) (from : ℕ) → IsCommutingOf old past → IsJoinedFrom past from → new.updates ≡ old.updates
    → new.states.items ≡ old.states.items ++ state_at old.states.items from ∷ [] → IsCommutingOf new (history_with past (Join (replicas_of past) from))
commuting_joined old new past from stands joins updates states =
    let now = history_with past (Join (replicas_of past) from) in
    record {
      one = stands.one;
      states =
          subst (λ us. AreStatesOf us new.states.items now) (sym (ap (λ us. us.items) updates))
          (subst (λ ss. AreStatesOf old.updates.items ss now) (sym states) (states_joined old.updates.items old.states.items past from stands.states joins.there joins.beyond));
    }

-- the last labels of a replica to which the labels are delivered that were delivered to another one before
module _ (writes : List (Option Written)) (records : Records) (joined from q r : ℕ) (same : (n : ℕ) → has_delivered (Join joined from ∷ records) q n ≡ has_delivered records r n) where
  last_alike : (element n : ℕ) → IsLastOn writes records r element n → IsLastOn writes (Join joined from ∷ records) q element n
  last_alike element n on_it = record {
    label = on_it.label;
    write = on_it.write;
    there = on_it.there;
    number = on_it.number;
    had_it = same n ∙ on_it.had_it;
    found = on_it.found;
    on = on_it.on;
    above = λ other lesser there h at on. on_it.above other lesser there (sym (same other.number) ∙ h) at on;
  }

  none_alike : (element : ℕ) → NoneIsOn writes records r element → NoneIsOn writes (Join joined from ∷ records) q element
  none_alike element none label write there h at on = none label write there (sym (same label.number) ∙ h) at on

module _ (writes : List (Option Written)) (lasts : List (List (Option ℕ))) (initial_replicas : ℕ) (records : Records) (from : ℕ)
    (last : AreLastOf writes lasts records) (counted : length lasts ≡ replica_count initial_replicas records) (there : from < length lasts) (beyond : NoneDeliveredBeyond initial_replicas records) where
  abbrev joined : ℕ
  joined = replica_count initial_replicas records

  abbrev now : Records
  now = Join joined from ∷ records

  abbrev next : List (List (Option ℕ))
  next = lasts ++ get_or lasts from [] ∷ []

  its_own : (q n : ℕ) → q ≡ joined → has_delivered now q n ≡ has_delivered records from n
  its_own q n is = ap (λ r. has_delivered now r n) is ∙ join_copies_delivered-labels initial_replicas records from n beyond

  of_others : (q n : ℕ) → ¬ (q ≡ joined) → has_delivered now q n ≡ has_delivered records q n
  of_others q n other = ap (λ b. (b && has_delivered records from n) || has_delivered records q n) (ne_eqb joined q (λ is. other (sym is)))

  copied : (q element : ℕ) → q ≡ joined → last_label next q element ≡ last_label lasts from element
  copied q element is = ap (λ ls. label_on ls element) (get_or_at lasts (get_or lasts from []) [] [] q (counted ∙ sym is))

  kept_before : (q element : ℕ) → q < length lasts → last_label next q element ≡ last_label lasts q element
  kept_before q element before = ap (λ ls. label_on ls element) (get_or_append_left lasts (get_or lasts from [] ∷ []) [] q before)

  before_it : (q : ℕ) → q < length next → ¬ (q ≡ joined) → q < length lasts
  before_it q within other = omega (arith, within, length-append lasts (get_or lasts from [] ∷ []), counted, other)

  pub lasts_joined : AreLastOf writes next now
  lasts_joined = record {
    some = λ q element n within is. elim (cases_eq q joined) [
      | inl own ↦ last_alike writes records joined from q from (λ m. its_own q m own) element n (last.some from element n there (sym (copied q element own) ∙ is))
      | inr other ↦ last_alike writes records joined from q q (λ m. of_others q m other) element n (last.some q element n (before_it q within other) (sym (kept_before q element (before_it q within other)) ∙ is))
    ];
    none = λ q element within is. elim (cases_eq q joined) [
      | inl own ↦ none_alike writes records joined from q from (λ m. its_own q m own) element (last.none from element there (sym (copied q element own) ∙ is))
      | inr other ↦ none_alike writes records joined from q q (λ m. of_others q m other) element (last.none q element (before_it q within other) (sym (kept_before q element (before_it q within other)) ∙ is))
    ];
  }

-- for a register or an LWW set
pub overriding_joined : (old new : Overriding) (past : History) (from : ℕ) → IsOverridingOf old past → IsJoinedFrom past from → new.writes ≡ old.writes → new.numbers ≡ old.numbers
    → new.states.items ≡ old.states.items ++ state_at old.states.items from ∷ []
    → labels_in new.lasts.items ≡ labels_in old.lasts.items ++ get_or (labels_in old.lasts.items) from [] ∷ []
    → IsOverridingOf new (history_with past (Join (replicas_of past) from))
overriding_joined old new past from stands joins writes numbers states says =
    let now = Join (replicas_of past) from ∷ past.records in
    let lasts = labels_in old.lasts.items in
    let counted = lasts_counted old past stands in
    let its_writes : old.writes.items ≡ new.writes.items = sym (ap (λ ws. ws.items) writes) in
    let its_numbers : get nat_eq old.numbers.numbers ≡ get nat_eq new.numbers.numbers = sym (ap (λ ns. get nat_eq ns.numbers) numbers) in
    record {
      one = stands.one;
      states =
          subst (λ ws. AreStatesOf (updates_written ws) new.states.items (history_of past.kind past.initial_replicas now)) its_writes
          (subst (λ ss. AreStatesOf (updates_written old.writes.items) ss (history_of past.kind past.initial_replicas now)) (sym states)
          (states_joined (updates_written old.writes.items) old.states.items past from stands.states joins.there joins.beyond));
      writes =
          subst (λ ws. AreWritesOf ws (get nat_eq new.numbers.numbers) now) its_writes
          (subst (λ ns. AreWritesOf old.writes.items ns now) its_numbers
          (record { stamps = stands.writes.stamps; numbers = stands.writes.numbers; one = stands.writes.one }));
      lasts =
          subst (λ ws. AreLastOf ws (labels_in new.lasts.items) now) its_writes
          (subst (λ ls. AreLastOf old.writes.items ls now) (sym says)
          (lasts_joined old.writes.items lasts past.initial_replicas past.records from stands.lasts counted (omega (arith, counted, joins.there)) joins.beyond));
      replicas = omega (arith, length-map new.lasts.items (λ last. last.labels.items), ap length says, length-append lasts (get_or lasts from [] ∷ []), counted);
      numbers = subst (λ ns. AreBelow (get nat_eq ns.numbers) (hash_map_len ns.numbers)) (sym numbers) stands.numbers;
      few = subst (λ ns. hash_map_len ns.numbers ≤ label_count past.records) (sym numbers) stands.few;
    }
