-- Lemmas on the commands of an RGA that a trial of a list received.
use Rattle.std.proofs.Common.{◌≡◌, ℕ, ◌+◌, ◌<◌, true, false, List, length, drop, get_or, [], ◌∷◌, ◌++◌, sym, ap, ◌∙◌, subst}
use Rattle.std.proofs.lemmas.Bool.{cond-true, cond-false}
use Rattle.std.proofs.lemmas.List.{append_assoc}
use Rattle.ra_labels.specs.declared.command.Command.{Command}
use Rattle.ra_monitor.specs.declared.trial.Trial.{Trial}
use Rattle.ra_monitor.specs.Monitor.{MonitorEntry}
use Rattle.ra_monitor.specs.Trial.{HasAnswered}
use Rattle.ra_accepted_commands.specs.Accepted.{is_accepting_reply}
use Rattle.ra_explain.specs.OneList.{accepted_one, list_command, list_commands}
use Rattle.ra_explain.proofs.Retold.{next_one}

-- the trial received some commands, which together with those of the rest are those of the whole log
pub record IsToldList (trial : Trial) (rest whole : List MonitorEntry) : Type 0 where
  pub commands : List Command
  pub told : HasAnswered trial commands
  pub same : commands ++ list_commands rest ≡ list_commands whole

-- the entry's command is the next one
pub list_next : (trial : Trial) (i : ℕ) (entry : MonitorEntry) (whole : List MonitorEntry) → i < length whole
    → entry ≡ get_or whole i entry → IsToldList trial (drop i whole) whole
    → IsToldList trial (entry ∷ drop (i + 1) whole) whole
list_next trial i entry whole below is so =
    subst (λ (rest : List MonitorEntry). IsToldList trial rest whole) (next_one i whole entry below is) so

-- the trial receives the command of one more entry, which was accepted
pub list_more : (old new : Trial) (entry : MonitorEntry) (rest whole : List MonitorEntry)
    → IsToldList old (entry ∷ rest) whole → is_accepting_reply false entry.reply ≡ true
    → ((commands : List Command) → HasAnswered old commands
    → HasAnswered new (commands ++ list_command entry.command ∷ []))
    → IsToldList new rest whole
list_more old new entry rest whole so accepted tells =
    let behind = list_commands rest in
    let one : accepted_one entry ≡ list_command entry.command ∷ [] =
    cond-true (is_accepting_reply false entry.reply) (list_command entry.command ∷ []) [] accepted in
    record {
      commands = so.commands ++ list_command entry.command ∷ [];
      told = tells so.commands so.told;
      same = append_assoc so.commands (list_command entry.command ∷ []) behind
          ∙ sym (ap (λ (cs : List Command). so.commands ++ (cs ++ behind)) one) ∙ so.same;
    }

-- or the entry was not accepted
pub list_same : (trial : Trial) (entry : MonitorEntry) (rest whole : List MonitorEntry)
    → IsToldList trial (entry ∷ rest) whole → is_accepting_reply false entry.reply ≡ false
    → IsToldList trial rest whole
list_same trial entry rest whole so accepted =
    let behind = list_commands rest in
    let none : accepted_one entry ≡ [] =
    cond-false (is_accepting_reply false entry.reply) (list_command entry.command ∷ []) [] accepted in
    record {
      commands = so.commands;
      told = so.told;
      same = sym (ap (λ (cs : List Command). so.commands ++ (cs ++ behind)) none) ∙ so.same;
    }
