-- Lemmas on the accepted commands of a legal log: they are its records.
use Rattle.std.proofs.Common.{◌≡◌, ℕ, Bool, true, false, not, cond, List, [], ◌∷◌, ◌++◌, Option, Some, None, refl, sym, ap, subst, ◌∙◌}
use Rattle.std.specs.Prelude.{reverse, is_some, ◌||◌}
use Rattle.std.specs.Option.{option_map_or}
use Rattle.std.proofs.lemmas.List.{append_assoc, append-nil, map-append, reverse-append}
use Rattle.std.proofs.Math.Bool.{or-false}
use Rattle.ra_labels.specs.declared.kind.Kind.{Kind}
use Rattle.ra_labels.specs.declared.operation.Op.{Op}
use Rattle.ra_labels.specs.declared.command.Command.{Command}
use Rattle.ra_labels.specs.declared.command.Command.TheVariants.{Operate, Deliver, Join, Verdict}
use Rattle.ra_labels.specs.declared.refusal.Refusal.{Refusal}
use Rattle.ra_labels.specs.declared.reply.Fault.{Fault}
use Rattle.ra_labels.specs.declared.reply.Reply.{Reply}
use Rattle.ra_labels.specs.declared.reply.Reply.TheVariants as reply
use Rattle.ra_labels.specs.Records.{Records, label_count}
use Rattle.ra_labels.specs.Fault.{fault_of}
use Rattle.ra_labels.specs.Answer.{no_reply, refusal_of, answer_to_accepted}
use Rattle.ra_labels.specs.Answer.{with_accepted, answer_of, records_after, records_after_all}
use Rattle.ra_theorems.proofs.TheoremIndex.{answers_append-records}
use Rattle.ra_monitor.specs.declared.setup.Setup.{Setup}
use Rattle.ra_monitor.specs.Monitor.{MonitorEntry, IsLegalLog, commands_of, records_of, answer_after}
use Rattle.ra_journal.specs.Log.{IsLegalAfter}
use Rattle.ra_accepted_commands.specs.Accepted.{is_no, is_accepting_reply, accepted_one, accepted_in}

-- what one reply determines: the records after it, and whether they have a fault
record Tells (kind : Kind) (n : ℕ) (records : Records) (command : Command) (said : Reply) : Type 0 where
  pub records_are : records_after kind n records command
      ≡ (cond (is_accepting_reply (is_some (fault_of kind records)) said) (command ∷ records) records)
  pub failed_is : is_some (fault_of kind (records_after kind n records command))
      ≡ (is_some (fault_of kind records) || is_no said)

-- after a fault
tells_failed : (kind : Kind) (n : ℕ) (records : Records) (command : Command) (fault : Fault)
    → fault_of kind records ≡ Some fault
    → Tells kind n records command (answer_of kind n records command)
tells_failed kind n records command fault failed =
    let stays : records_after kind n records command ≡ records = rw failed refl in
    let said : answer_of kind n records command ≡ no_reply fault = rw failed refl in
    let made : Tells kind n records command (no_reply fault) = record {
      records_are = stays ∙ rw failed refl;
      failed_is = ap (λ (r : Records). is_some (fault_of kind r)) stays ∙ rw failed refl;
    } in
    subst (Tells kind n records command) (sym said) made

-- after a refusal
tells_refused : (kind : Kind) (n : ℕ) (records : Records) (command : Command) (why : Refusal)
    → fault_of kind records ≡ None → refusal_of kind n records command ≡ Some why
    → Tells kind n records command (answer_of kind n records command)
tells_refused kind n records command why sound refused =
    let stays : records_after kind n records command ≡ records = rw (sound, refused) refl in
    let said : answer_of kind n records command ≡ reply.Refused why = rw (sound, refused) refl in
    let made : Tells kind n records command (reply.Refused why) = record {
      records_are = stays;
      failed_is = ap (λ (r : Records). is_some (fault_of kind r)) stays ∙ rw sound refl;
    } in
    subst (Tells kind n records command) (sym said) made

-- after neither
record IsTaken (kind : Kind) (n : ℕ) (records : Records) (command : Command) : Type 0 where
  pub records_are : records_after kind n records command ≡ with_accepted records command
  pub said : answer_of kind n records command ≡ answer_to_accepted kind records command

is_taken : (kind : Kind) (n : ℕ) (records : Records) (command : Command) → fault_of kind records ≡ None
    → refusal_of kind n records command ≡ None → IsTaken kind n records command
is_taken kind n records command sound fits =
    record { records_are = rw (sound, fits) refl; said = rw (sound, fits) refl }

tells_operation : (kind : Kind) (n : ℕ) (records : Records) (by : ℕ) (op : Op) (clock : Option ℕ) (o : Option Fault)
    → fault_of kind records ≡ None
    → fault_of kind (Operate by op clock ∷ records) ≡ o → IsTaken kind n records (Operate by op clock)
    → Tells kind n records (Operate by op clock) (option_map_or no_reply o (reply.Ok (label_count records)))
tells_operation kind n records by op clock None sound behind taken = record {
  records_are = taken.records_are;
  failed_is = ap (λ (r : Records). is_some (fault_of kind r)) taken.records_are ∙ ap is_some behind
      ∙ ap (λ (o : Option Fault). is_some o || false) (sym sound);
}
tells_operation kind n records by op clock (Some fault) sound behind taken = record {
  records_are = taken.records_are
      ∙ ap (λ (o : Option Fault). cond (not (is_some o)) (Operate by op clock ∷ records) records) (sym sound);
  failed_is = ap (λ (r : Records). is_some (fault_of kind r)) taken.records_are ∙ ap is_some behind
      ∙ ap (λ (o : Option Fault). is_some o || true) (sym sound);
}

tells_taken : (kind : Kind) (n : ℕ) (records : Records) (command : Command) → fault_of kind records ≡ None
    → IsTaken kind n records command
    → Tells kind n records command (answer_to_accepted kind records command)
tells_taken kind n records Verdict sound taken = record {
  records_are = taken.records_are;
  failed_is = ap (λ (r : Records). is_some (fault_of kind r)) taken.records_are
      ∙ sym (or-false (is_some (fault_of kind records)));
}
tells_taken kind n records (Deliver to label) sound taken = record {
  records_are = taken.records_are;
  failed_is = ap (λ (r : Records). is_some (fault_of kind r)) taken.records_are
      ∙ sym (or-false (is_some (fault_of kind records)));
}
tells_taken kind n records (Join replica from) sound taken = record {
  records_are = taken.records_are;
  failed_is = ap (λ (r : Records). is_some (fault_of kind r)) taken.records_are
      ∙ sym (or-false (is_some (fault_of kind records)));
}
tells_taken kind n records (Operate by op clock) sound taken =
    tells_operation kind n records by op clock (fault_of kind (Operate by op clock ∷ records)) sound refl taken

tells_sound : (kind : Kind) (n : ℕ) (records : Records) (command : Command) (o : Option Refusal)
    → fault_of kind records ≡ None → refusal_of kind n records command ≡ o
    → Tells kind n records command (answer_of kind n records command)
tells_sound kind n records command (Some why) sound refused = tells_refused kind n records command why sound refused
tells_sound kind n records command None sound fits =
    let taken = is_taken kind n records command sound fits in
    subst (Tells kind n records command) (sym taken.said) (tells_taken kind n records command sound taken)

tells_by : (kind : Kind) (n : ℕ) (records : Records) (command : Command) (o : Option Fault) → fault_of kind records ≡ o
    → Tells kind n records command (answer_of kind n records command)
tells_by kind n records command (Some fault) failed = tells_failed kind n records command fault failed
tells_by kind n records command None sound =
    tells_sound kind n records command (refusal_of kind n records command) sound refl

tells : (kind : Kind) (n : ℕ) (records : Records) (command : Command)
    → Tells kind n records command (answer_of kind n records command)
tells kind n records command = tells_by kind n records command (fault_of kind records) refl

-- ---- a whole log

pub records_push : (setup : Setup) (before : List MonitorEntry) (entry : MonitorEntry)
    → records_of setup (before ++ entry ∷ []) ≡ records_after setup.kind setup.replicas
    (records_of setup before) entry.command
records_push setup before entry =
    ap (records_after_all setup.kind setup.replicas [])
    (map-append (λ (e : MonitorEntry). e.command) before (entry ∷ []))
    ∙ answers_append-records setup.kind setup.replicas [] (commands_of before) (entry.command ∷ [])

reverse_taken : (b : Bool) (command : Command) (records : Records)
    → reverse (cond b (command ∷ records) records) ≡ reverse records ++ (cond b (command ∷ []) [])
reverse_taken true command records = reverse-append (command ∷ []) records
reverse_taken false command records = sym (append-nil (reverse records))

accepted_are : (setup : Setup) (before log : List MonitorEntry) → IsLegalAfter (answer_after setup) before log
    → reverse (records_of setup (before ++ log)) ≡ reverse (records_of setup before)
    ++ accepted_in (is_some (fault_of setup.kind (records_of setup before))) log
accepted_are setup before [] legal = ap (λ (l : List MonitorEntry). reverse (records_of setup l)) (append-nil before)
    ∙ sym (append-nil (reverse (records_of setup before)))
accepted_are setup before (entry ∷ log) legal =
    let records : Records = records_of setup before in
    let failed : Bool = is_some (fault_of setup.kind records) in
    let told : Tells setup.kind setup.replicas records entry.command entry.reply =
    subst (Tells setup.kind setup.replicas records entry.command) (sym legal.0.0)
    (tells setup.kind setup.replicas records entry.command) in
    let pushed = records_push setup before entry in
    let one : reverse (records_of setup (before ++ entry ∷ [])) ≡ reverse records ++ accepted_one failed entry =
    ap reverse (pushed ∙ told.records_are) ∙ reverse_taken (is_accepting_reply failed entry.reply) entry.command records in
    let next : is_some (fault_of setup.kind (records_of setup (before ++ entry ∷ []))) ≡ (failed || is_no entry.reply) =
    ap (λ (r : Records). is_some (fault_of setup.kind r)) pushed ∙ told.failed_is in
    ap (λ (l : List MonitorEntry). reverse (records_of setup l)) (sym (append_assoc before (entry ∷ []) log))
    ∙ accepted_are setup (before ++ entry ∷ []) log legal.1
    ∙ ap (λ (b : Bool). reverse (records_of setup (before ++ entry ∷ [])) ++ accepted_in b log) next
    ∙ ap (λ (cs : List Command). cs ++ accepted_in (failed || is_no entry.reply) log) one
    ∙ append_assoc (reverse records) (accepted_one failed entry) (accepted_in (failed || is_no entry.reply) log)

pub in_order : (setup : Setup) (log : List MonitorEntry) → IsLegalLog setup log
    → accepted_in false log ≡ reverse (records_of setup log)
in_order setup log legal = sym (accepted_are setup [] log legal)
