-- Lemmas on the records of the monitor among those that are reported.
use Rattle.std.proofs.Common.{◌≡◌, ℕ, List, [], ◌∷◌, ◌++◌, Option, Some, None, refl, sym, ap, ◌∙◌, append_assoc}
use Rattle.std.specs.Prelude.{◌||◌, cond, is_some}
use Rattle.ra_labels.specs.declared.kind.Kind.{Kind}
use Rattle.ra_labels.specs.declared.command.Command.{Command}
use Rattle.ra_labels.specs.declared.command.Command.TheVariants.{Operate, Deliver, Join, Verdict}
use Rattle.ra_labels.specs.declared.refusal.Refusal.{Refusal}
use Rattle.ra_labels.specs.declared.reply.Fault.{Fault}
use Rattle.ra_labels.specs.Records.{Records}
use Rattle.ra_labels.specs.Fault.{fault_of}
use Rattle.ra_labels.specs.Answer.{refusal_of, with_accepted, records_after, records_after_all}
use Rattle.ra_labels.specs.HistorySoFar.{History, history_of}
use Rattle.ra_reported.specs.Reported.{reported_after, reported_after_all}

module _ (kind : Kind) (replicas : ℕ) where
  abbrev past_of : Records → History
  past_of records = history_of kind replicas records

  none_is_some : (fault : Fault) → ¬ (None ≡ Some fault)
  none_is_some fault e = cc e

  -- after a violation the monitor's records stay
  stays : (records : Records) (commands : List Command) (fault : Fault) → fault_of kind records ≡ Some fault
      → records_after_all kind replicas records commands ≡ records
  stays records [] fault is = refl
  stays records (command ∷ commands) fault is =
      ap (λ r. records_after_all kind replicas r commands)
      (ap (λ o. cond (is_some o || is_some (refusal_of kind replicas records command)) records
      (with_accepted records command)) is)
      ∙ stays records commands fault is

  either_way : (refusal : Option Refusal) (records accepted : Records)
      → cond (is_some refusal) (past_of records) (past_of accepted) ≡ past_of (cond (is_some refusal) records accepted)
  either_way None records accepted = refl
  either_way (Some why) records accepted = refl

  -- without a violation a command is read as the monitor does
  alike : (records : Records) (command : Command) → fault_of kind records ≡ None
      → reported_after (past_of records) command ≡ past_of (records_after kind replicas records command)
  alike records command none =
      either_way (refusal_of kind replicas records command) records (with_accepted records command)
      ∙ sym (ap (λ o. past_of (cond (is_some o || is_some (refusal_of kind replicas records command)) records
      (with_accepted records command))) none)

  with_more : (records : Records) (command : Command) → (later : Records) × (with_accepted records command ≡ later ++ records)
  with_more records (Operate by op clock) = (Operate by op clock ∷ [], refl)
  with_more records (Deliver to label) = (Deliver to label ∷ [], refl)
  with_more records (Join joined from) = (Join joined from ∷ [], refl)
  with_more records Verdict = ([], refl)

  kept_or_more : (refusal : Option Refusal) (records : Records) (command : Command) → (later : Records)
      × ((cond (is_some refusal) (past_of records) (past_of (with_accepted records command))) ≡ past_of (later ++ records))
  kept_or_more None records command =
      let (later, is) = with_more records command in (later, ap past_of is)
  kept_or_more (Some why) records command = ([], refl)

  -- what is reported only grows
  pub grows : (records : Records) (commands : List Command) → (later : Records)
      × ((reported_after_all (past_of records) commands).records ≡ later ++ records)
  grows records [] = ([], refl)
  grows records (command ∷ commands) =
      let (first, is) = kept_or_more (refusal_of kind replicas records command) records command in
      let (later, further) = grows (first ++ records) commands in (
        later ++ first,
        ap (λ h. (reported_after_all h commands).records) is ∙ further ∙ sym (append_assoc later first records),
      )

  -- a reported history is one of these replicas and of this kind
  pub form : (records : Records) (commands : List Command) → (all : Records)
      × (reported_after_all (past_of records) commands ≡ past_of all)
  form records [] = (records, refl)
  form records (command ∷ commands) =
      let (first, is) = kept_or_more (refusal_of kind replicas records command) records command in
      let (all, further) = form (first ++ records) commands in
      (all, ap (λ h. reported_after_all h commands) is ∙ further)

  pub all_reported : (records : Records) (commands : List Command)
      → fault_of kind (records_after_all kind replicas records commands) ≡ None
      → reported_after_all (past_of records) commands ≡ past_of (records_after_all kind replicas records commands)
  all_reported records [] none = refl
  all_reported records (command ∷ commands) none =
      with_fault (fault_of kind records) refl (all_reported (records_after kind replicas records command) commands none)
    where
      with_fault : (fault : Option Fault) → fault_of kind records ≡ fault
          → reported_after_all (past_of (records_after kind replicas records command)) commands
          ≡ past_of (records_after_all kind replicas (records_after kind replicas records command) commands)
          → reported_after_all (past_of records) (command ∷ commands)
          ≡ past_of (records_after_all kind replicas records (command ∷ commands))
      with_fault None is further = ap (λ h. reported_after_all h commands) (alike records command is) ∙ further
      with_fault (Some fault) is further =
          absurd (none_is_some fault
          (sym none ∙ ap (fault_of kind) (stays records (command ∷ commands) fault is) ∙ is))

  pub first_reported : (records : Records) (commands : List Command) → (later : Records)
      × ((reported_after_all (past_of records) commands).records
      ≡ later ++ records_after_all kind replicas records commands)
  first_reported records [] = ([], refl)
  first_reported records (command ∷ commands) =
      with_fault (fault_of kind records) refl (first_reported (records_after kind replicas records command) commands)
    where
      with_fault : (fault : Option Fault) → fault_of kind records ≡ fault
          → (later : Records) × ((reported_after_all (past_of (records_after kind replicas records command)) commands).records
          ≡ later ++ records_after_all kind replicas (records_after kind replicas records command) commands)
          → (later : Records)
          × ((reported_after_all (past_of records) (command ∷ commands)).records
          ≡ later ++ records_after_all kind replicas records (command ∷ commands))
      with_fault None is (later, further) =
          (later, ap (λ h. (reported_after_all h commands).records) (alike records command is) ∙ further)
      with_fault (Some fault) is further =
          let (later, more) = grows records (command ∷ commands) in
          (later, more ∙ ap (λ r. later ++ r) (sym (stays records (command ∷ commands) fault is)))
