-- Lemmas on the commands that a trial received, and on its replies.
use Rattle.std.proofs.Common.{◌≡◌, ℕ, suc, ◌+◌, ◌<◌, true, false, List, length, drop, get_or, arith, [], ◌∷◌, ◌++◌, Option, Some, None, refl, sym, ap, ◌∙◌, subst}
use Rattle.std.proofs.Math.Seq.{drop-cons}
use Rattle.std.proofs.lemmas.Bool.{cond-true, cond-false}
use Rattle.std.proofs.lemmas.List.{append_assoc}
use Rattle.std.specs.Option.{option_map_or}
use Rattle.ra_labels.specs.declared.command.Command.{Command}
use Rattle.ra_labels.specs.declared.refusal.Refusal.{Refusal}
use Rattle.ra_labels.specs.declared.reply.Fault.{Fault}
use Rattle.ra_labels.specs.declared.reply.Reply.{Reply}
use Rattle.ra_labels.specs.declared.reply.Reply.TheVariants as reply
use Rattle.ra_labels.specs.Records.{Records, label_count}
use Rattle.ra_labels.specs.Fault.{fault_of}
use Rattle.ra_labels.specs.Answer.{answer_of, records_after_all, refusal_of, no_reply}
use Rattle.ra_labels.specs.HistorySoFar.{NextOperation, operate}
use Rattle.ra_monitor.specs.declared.setup.Setup.{Setup}
use Rattle.ra_monitor.specs.declared.trial.Trial.{Trial}
use Rattle.ra_monitor.specs.Monitor.{MonitorEntry}
use Rattle.ra_monitor.specs.Trial.{HasAnswered}
use Rattle.ra_explain.specs.declared.changes.Change.{Change}
use Rattle.ra_explain.specs.Changes.{is_ok, is_kept, kept_one, kept_from, holds_after}

-- the trial received some commands, which together with the kept ones of the rest are all that are kept of the whole
-- log
pub record IsToldSo (trial : Trial) (change : Change) (replica place : ℕ)
    (rest whole : List MonitorEntry) : Type 0 where
  pub commands : List Command
  pub told : HasAnswered trial commands
  pub same : commands ++ kept_from change replica place rest ≡ kept_from change replica 0 whole

-- the trial receives the command of one more entry, which is kept
pub told_more : (old new : Trial) (change : Change) (replica place : ℕ) (entry : MonitorEntry)
    (rest whole : List MonitorEntry) → IsToldSo old change replica place (entry ∷ rest) whole
    → is_kept change replica place entry ≡ true
    → ((commands : List Command) → HasAnswered old commands → HasAnswered new (commands ++ entry.command ∷ []))
    → IsToldSo new change replica (place + 1) rest whole
told_more old new change replica place entry rest whole so kept tells =
    let behind = kept_from change replica (place + 1) rest in
    let one : kept_one change replica place entry ≡ entry.command ∷ [] =
    cond-true (is_kept change replica place entry) (entry.command ∷ []) [] kept in
    record {
      commands = so.commands ++ entry.command ∷ [];
      told = tells so.commands so.told;
      same = append_assoc so.commands (entry.command ∷ []) behind
          ∙ sym (ap (λ (cs : List Command). so.commands ++ (cs ++ behind)) one) ∙ so.same;
    }

-- or the entry is removed
pub told_same : (trial : Trial) (change : Change) (replica place : ℕ) (entry : MonitorEntry)
    (rest whole : List MonitorEntry) → IsToldSo trial change replica place (entry ∷ rest) whole
    → is_kept change replica place entry ≡ false → IsToldSo trial change replica (place + 1) rest whole
told_same trial change replica place entry rest whole so kept =
    let behind = kept_from change replica (place + 1) rest in
    let none : kept_one change replica place entry ≡ [] =
    cond-false (is_kept change replica place entry) (entry.command ∷ []) [] kept in
    record {
      commands = so.commands;
      told = so.told;
      same = sym (ap (λ (cs : List Command). so.commands ++ (cs ++ behind)) none) ∙ so.same;
    }

-- the first entry of the rest is the one at its position
pub next_one : (i : ℕ) (log : List MonitorEntry) (entry : MonitorEntry) → i < length log → entry ≡ get_or log i entry
    → drop i log ≡ entry ∷ drop (i + 1) log
next_one i log entry below is =
    let next : suc i ≡ i + 1 = omega arith in
    drop-cons log i entry below
    ∙ ap (λ (e : MonitorEntry). e ∷ drop (suc i) log) (sym is) ∙ ap (λ (j : ℕ). entry ∷ drop j log) next

-- the entry's command is the next one
pub told_next : (trial : Trial) (change : Change) (replica place i : ℕ) (entry : MonitorEntry)
    (whole : List MonitorEntry) → i < length whole → entry ≡ get_or whole i entry
    → IsToldSo trial change replica place (drop i whole) whole
    → IsToldSo trial change replica place (entry ∷ drop (i + 1) whole) whole
told_next trial change replica place i entry whole below is so =
    subst (λ (rest : List MonitorEntry). IsToldSo trial change replica place rest whole)
    (next_one i whole entry below is) so

-- the reply to the last command states whether it holds after the others
pub told_last : (setup told : Setup) (commands : List Command) (last same : Command) (reply : Reply)
    → told ≡ setup → same ≡ last
    → reply ≡ answer_of told.kind told.replicas (records_after_all told.kind told.replicas [] commands) same
    → is_ok reply ≡ holds_after setup commands last
told_last setup told commands last same reply setups lasts is =
    ap is_ok is
    ∙ ap (λ (s : Setup). is_ok (answer_of s.kind s.replicas (records_after_all s.kind s.replicas [] commands) same))
    setups ∙ ap (λ (c : Command). holds_after setup commands c) lasts

-- a reply is `ok` only if there is no earlier fault, the command is not refused, and it causes no fault
ok_only : (older newest : Option Fault) (why : Option Refusal) (n : ℕ)
    → is_ok (option_map_or no_reply older (option_map_or reply.Refused why (option_map_or no_reply newest (reply.Ok n))))
    ≡ true → (why ≡ None) × (newest ≡ None)
ok_only None None None n is = (refl, refl)
ok_only None (Some fault) None n is = absurd (cc is)
ok_only None newest (Some why) n is = absurd (cc is)
ok_only (Some fault) newest why n is = absurd (cc is)

pub ok_holds : (setup : Setup) (records : Records) (next : NextOperation)
    → is_ok (answer_of setup.kind setup.replicas records (operate next)) ≡ true
    → (refusal_of setup.kind setup.replicas records (operate next) ≡ None)
    × (fault_of setup.kind (operate next ∷ records) ≡ None)
ok_holds setup records next is =
    ok_only (fault_of setup.kind records) (fault_of setup.kind (operate next ∷ records))
    (refusal_of setup.kind setup.replicas records (operate next)) (label_count records) is
