-- Lemmas on the past that a history represents after one more record.
use Rattle.std.proofs.Common.{◌≡◌, ℕ, ◌+◌, ◌∷◌, Option, Some, None, refl, sym, ap, ◌∙◌, subst, arith}
use Rattle.std.specs.Prelude.{◌≤◌, option_map, cond, is_none, vec_len}
use Rattle.std.specs.Option.{option_or, option_map_or}
use Rattle.std.specs.Global as global
use Rattle.ra_labels.specs.declared.edge.Edge.{Edge}
use Rattle.ra_labels.specs.declared.reply.Fault.{Fault}
use Rattle.ra_labels.specs.declared.kind.Kind.{Kind}
use Rattle.ra_labels.specs.declared.label.Label.{Label}
use Rattle.ra_labels.specs.declared.label.Stamp.{Stamp}
use Rattle.ra_labels.specs.declared.command.Command.TheVariants.{Deliver, Join}
use Rattle.ra_labels.specs.declared.reply.Cause.{Cause}
use Rattle.ra_labels.specs.declared.reply.Reply.TheVariants as reply
use Rattle.ra_labels.specs.Records.{Records, label_count}
use Rattle.ra_labels.specs.Visibility.{IsCausal}
use Rattle.ra_labels.specs.Fault.{fault_of, fault_at, cause_of, records_before_fault}
use Rattle.ra_labels.specs.Answer.{no_reply, answer_to_accepted}
use Rattle.ra_labels.specs.HistorySoFar.{History, history_with, IsAccepted, NextOperation, operate, label_of}
use Rattle.ra_theorems.proofs.TheoremIndex.{records_before_fault_have_none-all}
use Rattle.ra_visibility.specs.Seen.{Seen, count_in}
use Rattle.ra_visibility.specs.Kept.{issued_count}
use Rattle.ra_visibility.specs.Tracked.{IsVisibilityOf, seen_in}
use Rattle.ra_visibility.proofs.TheoremIndex.{issued_matches_records, seen_matches_records}
use Rattle.ra_witness.specs.Failure.{ShowsCycle}
use Rattle.ra_witness.specs.Witness.{IsWitnessOf}
use Rattle.ra_monitor.specs.declared.history.TrackedHistory.{TrackedHistory}
use Rattle.ra_monitor.specs.declared.used_keys.unique_key.UniqueKey.{UniqueKey}
use Rattle.ra_monitor.specs.declared.used_keys.UsedKeys.{UsedKeys}
use Rattle.ra_monitor.specs.Order.{IsOrderOf}
use Rattle.ra_monitor.specs.UsedKeys.{key_of, is_stamp_in, is_identifier_in, AreUsedKeysOf}
use Rattle.ra_monitor.specs.History.{KeepsCycle, Represents, HasNewest, before_fault}
use Rattle.ra_visibility.specs.Order.{ComesNext}

-- the newest label is the next one for the witness
pub comes_next : (history : TrackedHistory) (past : History) (next : NextOperation) (label : Label) (brought : UniqueKey) (seen : Seen)
    → HasNewest history past next label brought → seen ≡ seen_in history.tracker.now label.number
    → ((of : ℕ) → count_in seen of ≤ issued_count history.tracker.now of)
    → ComesNext past next label seen
comes_next history past next label brought seen newest sees few =
    let is : label.number ≡ label_count past.records = ap (λ (l : Label). l.number) newest.becomes in
    record {
      causal = newest.causal;
      accepted = newest.accepted;
      becomes = newest.becomes;
      sees = rw (sees, is) (seen_matches_records history.tracker.now (history_with past (operate next)) (label_count past.records) newest.tracker (omega (arith, newest.tracker.labels)));
      issued = λ of. omega (
        arith,
        few of,
        issued_matches_records history.tracker.now (history_with past (operate next)) of newest.tracker,
      );
    }

-- the fault with the newest label
pub fault_with : (kind : Kind) (records : Records) (next : NextOperation) (why : Option Cause)
    → fault_of kind records ≡ None → why ≡ cause_of kind (operate next ∷ records)
    → fault_of kind (operate next ∷ records) ≡ option_map (fault_at (label_count records)) why
fault_with kind records next why none because =
    ap (λ o. option_or o (option_map (fault_at (label_count records)) (cause_of kind (operate next ∷ records)))) none
    ∙ ap (option_map (fault_at (label_count records))) (sym because)

-- if the newest label fails, the records before the fault are those before the label
before_failed : (kind : Kind) (records : Records) (next : NextOperation) (why : Cause)
    → fault_of kind records ≡ None → Some why ≡ cause_of kind (operate next ∷ records)
    → records_before_fault kind (operate next ∷ records) ≡ records
before_failed kind records next why none because =
    ap (λ o. cond (is_none o) (operate next ∷ records) (records_before_fault kind records)) (fault_with kind records next (Some why) none because)
    ∙ records_before_fault_have_none-all kind records none

-- without a fault there is no cycle
cycle_known : (history : TrackedHistory) (past : History) → Represents history past
    → fault_of past.kind past.records ≡ None → history.cycle ≡ None
cycle_known history past stands none =
    subst (λ f. KeepsCycle past.kind past.records f history.cycle) (stands.fault ∙ none) stands.cycle

no_cycle : (kind : Kind) (records : Records) (fault : Option Fault) (cycle : Option (global.Vec Edge)) → fault ≡ None
    → cycle ≡ None → KeepsCycle kind records fault cycle
no_cycle kind records fault cycle faultless none = subst (λ f. KeepsCycle kind records f cycle) (sym faultless) none

-- the history after a newest label that does not fail
pub stands_taken : (old new : TrackedHistory) (past : History) (next : NextOperation) (label : Label) (brought : UniqueKey)
    → HasNewest old past next label brought → None ≡ cause_of past.kind (operate next ∷ past.records)
    → IsWitnessOf IsOrderOf new.witness (history_with past (operate next))
    → AreUsedKeysOf (operate next ∷ past.records) new.taken
    → vec_len new.taken.clocks ≡ vec_len old.taken.clocks
    → new.labels ≡ label.number + 1 → new.tracker ≡ old.tracker → new.fault ≡ old.fault → new.cycle ≡ old.cycle
    → new.replicas ≡ old.replicas → Represents new (history_with past (operate next))
stands_taken old new past next label brought newest because witness taken places labels tracker fault cycle replicas =
    let now = operate next ∷ past.records in
    let none : fault_of past.kind now ≡ None = fault_with past.kind past.records next None newest.none because in
    record {
      tracker = rw tracker newest.tracker;
      causal = newest.causal;
      labels = omega (arith, labels, ap (λ (l : Label). l.number) newest.becomes);
      replicas = replicas ∙ newest.replicas;
      witness = rw (records_before_fault_have_none-all past.kind now none) witness;
      taken = rw (records_before_fault_have_none-all past.kind now none) taken;
      places = places ∙ newest.places;
      fault = fault ∙ newest.fault ∙ sym none;
      cycle = no_cycle past.kind now new.fault new.cycle (fault ∙ newest.fault) (cycle ∙ newest.cycle);
    }

-- the history after a newest label that fails
pub stands_failed : (old new : TrackedHistory) (past : History) (next : NextOperation) (label : Label) (brought : UniqueKey) (why : Cause)
    → HasNewest old past next label brought → Some why ≡ cause_of past.kind (operate next ∷ past.records)
    → ShowsCycle past.kind (operate next ∷ past.records) why new.cycle → IsWitnessOf IsOrderOf new.witness past
    → new.taken ≡ old.taken
    → new.labels ≡ label.number + 1 → new.tracker ≡ old.tracker → new.fault ≡ Some (fault_at label.number why)
    → new.replicas ≡ old.replicas → Represents new (history_with past (operate next))
stands_failed old new past next label brought why newest because shown witness taken labels tracker fault replicas =
    let now = operate next ∷ past.records in
    let is : label.number ≡ label_count past.records = ap (λ (l : Label). l.number) newest.becomes in
    let before = before_failed past.kind past.records next why newest.none because in
    record {
      tracker = rw tracker newest.tracker;
      causal = newest.causal;
      labels = omega (arith, labels, is);
      replicas = replicas ∙ newest.replicas;
      witness = rw before witness;
      taken = rw (before, taken) newest.taken;
      places = ap (λ (t : UsedKeys). vec_len t.clocks) taken ∙ newest.places;
      fault = fault ∙ ap (λ (k : ℕ). Some (fault_at k why)) is ∙ sym (fault_with past.kind past.records next (Some why) newest.none because);
      cycle = subst (λ f. KeepsCycle past.kind now f new.cycle) (sym fault) shown;
    }

mapped : (n : ℕ) (why : Option Cause) → option_map_or (λ w. no_reply (fault_at n w)) why (reply.Ok n) ≡ option_map_or no_reply (option_map (fault_at n) why) (reply.Ok n)
mapped n None = refl
mapped n (Some why) = refl

-- the reply to the newest label
pub reply_to : (kind : Kind) (records : Records) (next : NextOperation) (why : Option Cause) (n : ℕ)
    → fault_of kind records ≡ None → why ≡ cause_of kind (operate next ∷ records) → n ≡ label_count records
    → option_map_or (λ w. no_reply (fault_at n w)) why (reply.Ok n) ≡ answer_to_accepted kind records (operate next)
reply_to kind records next why n none because is =
    ap (λ (k : ℕ). option_map_or (λ w. no_reply (fault_at k w)) why (reply.Ok k)) is
    ∙ mapped (label_count records) why
    ∙ sym (ap (λ o. option_map_or no_reply o (reply.Ok (label_count records))) (fault_with kind records next why none because))

-- without a fault, the used stamps and identifiers are those of all labels
pub taken_known : (history : TrackedHistory) (past : History) → Represents history past
    → fault_of past.kind past.records ≡ None → AreUsedKeysOf past.records history.taken
taken_known history past stands none = rw (records_before_fault_have_none-all past.kind past.records none) at stands.taken

-- and the witness is that of all labels
pub witness_known : (history : TrackedHistory) (past : History) → Represents history past
    → fault_of past.kind past.records ≡ None → IsWitnessOf IsOrderOf history.witness past
witness_known history past stands none = rw (records_before_fault_have_none-all past.kind past.records none) at stands.witness

-- the used stamps and identifiers are determined by their look-ups
pub taken_alike : (records : Records) (old new : UsedKeys) → ((stamp : Stamp) → is_stamp_in new stamp ≡ is_stamp_in old stamp)
    → ((identifier : ℕ) → is_identifier_in new identifier ≡ is_identifier_in old identifier) → AreUsedKeysOf records old → AreUsedKeysOf records new
taken_alike records old new stamps identifiers known = record {
  stamps = λ stamp. stamps stamp ∙ known.stamps stamp;
  identifiers = λ identifier. identifiers identifier ∙ known.identifiers identifier;
}

-- a delivery uses no stamp or identifier
taken_delivered : (records : Records) (to label : ℕ) (taken : UsedKeys) → AreUsedKeysOf records taken → AreUsedKeysOf (Deliver to label ∷ records) taken
taken_delivered records to label taken known = record { stamps = known.stamps; identifiers = known.identifiers }

-- the history after a delivery
pub stands_delivered : (old new : TrackedHistory) (past : History) (to label : ℕ)
    → Represents old past → fault_of past.kind past.records ≡ None
    → IsVisibilityOf new.tracker.now (history_with past (Deliver to label)) → IsCausal (Deliver to label ∷ past.records)
    → IsWitnessOf IsOrderOf new.witness (history_with past (Deliver to label))
    → new.labels ≡ old.labels → new.taken ≡ old.taken → new.fault ≡ old.fault → new.cycle ≡ old.cycle
    → new.replicas ≡ old.replicas → Represents new (history_with past (Deliver to label))
stands_delivered old new past to label stands none tracker causal witness labels taken fault cycle replicas = record {
  tracker = tracker;
  causal = causal;
  labels = labels ∙ stands.labels;
  replicas = replicas ∙ stands.replicas;
  witness = rw (records_before_fault_have_none-all past.kind (Deliver to label ∷ past.records) none) witness;
  taken = rw (records_before_fault_have_none-all past.kind (Deliver to label ∷ past.records) none, taken) (taken_delivered past.records to label old.taken (taken_known old past stands none));
  places = ap (λ (t : UsedKeys). vec_len t.clocks) taken ∙ stands.places;
  fault = fault ∙ stands.fault;
  cycle = no_cycle past.kind (Deliver to label ∷ past.records) new.fault new.cycle (fault ∙ stands.fault ∙ none)
      (cycle ∙ cycle_known old past stands none);
}

-- the history with the newest label
pub newest_stands : (old new : TrackedHistory) (past : History) (next : NextOperation) (label : Label) (brought : UniqueKey)
    → Represents old past → fault_of past.kind past.records ≡ None
    → IsVisibilityOf new.tracker.now (history_with past (operate next))
    → label ≡ label_of past.records next → brought ≡ key_of next
    → new.labels ≡ old.labels → new.witness ≡ old.witness → new.fault ≡ old.fault → new.cycle ≡ old.cycle
    → new.replicas ≡ old.replicas
    → AreUsedKeysOf past.records new.taken → vec_len new.taken.clocks ≡ vec_len old.taken.clocks
    → IsAccepted past (operate next)
    → HasNewest new past next label brought
newest_stands old new past next label brought stands none tracker is brings labels witness fault cycle replicas taken places accepted = record {
  tracker = tracker;
  causal = stands.causal;
  labels = labels ∙ stands.labels;
  replicas = replicas ∙ stands.replicas;
  witness = rw witness (witness_known old past stands none);
  taken = taken;
  places = places ∙ stands.places;
  fault = fault ∙ stands.fault ∙ none;
  cycle = cycle ∙ cycle_known old past stands none;
  none = none;
  accepted = accepted;
  becomes = is;
  brings = brings;
}

-- the history after a label is withdrawn, or capacity is reserved
pub stands_same : (old new : TrackedHistory) (past : History) → Represents old past
    → new.tracker.now ≡ old.tracker.now → new.labels ≡ old.labels
    → IsWitnessOf IsOrderOf new.witness (before_fault past)
    → AreUsedKeysOf (records_before_fault past.kind past.records) new.taken → vec_len new.taken.clocks ≡ vec_len old.taken.clocks
    → new.fault ≡ old.fault → new.cycle ≡ old.cycle → new.replicas ≡ old.replicas → Represents new past
stands_same old new past stands tracker labels witness taken places fault cycle replicas = record {
  tracker = rw tracker stands.tracker;
  causal = stands.causal;
  labels = labels ∙ stands.labels;
  replicas = replicas ∙ stands.replicas;
  witness = witness;
  taken = taken;
  places = places ∙ stands.places;
  fault = fault ∙ stands.fault;
  cycle = subst (λ f. KeepsCycle past.kind past.records f new.cycle) (sym fault)
      (subst (KeepsCycle past.kind past.records old.fault) (sym cycle) stands.cycle);
}

-- a join uses no stamp or identifier
taken_joined : (records : Records) (joined from : ℕ) (taken : UsedKeys) → AreUsedKeysOf records taken
    → AreUsedKeysOf (Join joined from ∷ records) taken
taken_joined records joined from taken known = record { stamps = known.stamps; identifiers = known.identifiers }

-- the history after a join
pub stands_joined : (old new : TrackedHistory) (past : History) (joined from : ℕ)
    → Represents old past → fault_of past.kind past.records ≡ None
    → IsVisibilityOf new.tracker.now (history_with past (Join joined from))
    → IsWitnessOf IsOrderOf new.witness (history_with past (Join joined from))
    → ((stamp : Stamp) → is_stamp_in new.taken stamp ≡ is_stamp_in old.taken stamp)
    → ((identifier : ℕ) → is_identifier_in new.taken identifier ≡ is_identifier_in old.taken identifier)
    → vec_len new.taken.clocks ≡ vec_len old.taken.clocks + 1 → new.labels ≡ old.labels → new.fault ≡ old.fault
    → new.cycle ≡ old.cycle → new.replicas ≡ old.replicas + 1
    → Represents new (history_with past (Join joined from))
stands_joined old new past joined from stands none tracker witness stamps identifiers places labels fault cycle replicas = record {
  tracker = tracker;
  causal = stands.causal;
  labels = labels ∙ stands.labels;
  replicas = replicas ∙ ap (λ k. k + 1) stands.replicas;
  witness = rw (records_before_fault_have_none-all past.kind (Join joined from ∷ past.records) none) witness;
  taken = rw (records_before_fault_have_none-all past.kind (Join joined from ∷ past.records) none) (taken_joined past.records joined from new.taken
      (taken_alike past.records old.taken new.taken stamps identifiers (taken_known old past stands none)));
  places = places ∙ ap (λ k. k + 1) stands.places;
  fault = fault ∙ stands.fault;
  cycle = no_cycle past.kind (Join joined from ∷ past.records) new.fault new.cycle (fault ∙ stands.fault ∙ none)
      (cycle ∙ cycle_known old past stands none);
}
