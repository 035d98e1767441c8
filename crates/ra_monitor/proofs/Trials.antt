-- Lemmas on a trial after one more command.
use Rattle.std.proofs.Common.{◌≡◌, ◌+◌, ◌<◌, ◌≤◌, ◌∷◌, ◌++◌, [], List, arith}
use Rattle.ra_labels.specs.declared.command.Command.{Command}
use Rattle.ra_labels.specs.declared.reply.Reply.{Reply}
use Rattle.ra_labels.specs.Answer.{answer_of, records_after_all}
use Rattle.ra_theorems.proofs.TheoremIndex.{answers_append-records}
use Rattle.ra_visibility.specs.declared.limits.TheConstants.{MOST_LABELS}
use Rattle.ra_monitor.specs.declared.trial.Trial.{Trial}
use Rattle.ra_monitor.specs.History.{history_in, IsAnswered}
use Rattle.ra_monitor.specs.Trial.{HasAnswered}

-- the reply is that to the command after the earlier ones, and the trial has then received the command too
pub told_one : (old new : Trial) (commands : List Command) (command : Command) (reply : Reply)
    → HasAnswered old commands → old.history.labels < MOST_LABELS
    → let records = records_after_all old.setup.kind old.setup.replicas [] commands in
    IsAnswered new.history (history_in old.setup records) command reply
    → new.setup ≡ old.setup → new.history.labels ≤ old.history.labels + 1
    → (reply ≡ answer_of old.setup.kind old.setup.replicas
    (records_after_all old.setup.kind old.setup.replicas [] commands) command)
    × HasAnswered new (commands ++ command ∷ [])
told_one old new commands command reply is room taken setup labels =
    let s = old.setup in (
      taken.0,
      record {
        history = rw (setup, answers_append-records s.kind s.replicas [] commands (command ∷ [])) taken.1;
        few = omega (arith, labels, room);
      },
    )
