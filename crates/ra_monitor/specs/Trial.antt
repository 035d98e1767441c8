-- The commands that were reported to a trial.
use Rattle.std.specs.Prelude.{◌≤◌, List, []}
use Rattle.ra_labels.specs.declared.command.Command.{Command}
use Rattle.ra_labels.specs.Answer.{records_after_all}
use Rattle.ra_visibility.specs.declared.limits.TheConstants.{MOST_LABELS}
use Rattle.ra_monitor.specs.declared.trial.Trial.{Trial}
use Rattle.ra_monitor.specs.History.{history_in, Represents}

-- holds if the trial represents the history after these commands, in this order
pub record HasAnswered (trial : Trial) (commands : List Command) : Type 0 where
  pub history : Represents trial.history
      (history_in trial.setup (records_after_all trial.setup.kind trial.setup.replicas [] commands))
  pub few : trial.history.labels ≤ MOST_LABELS

-- holds if the trial represents the history after some commands
pub record HasAnsweredSome (trial : Trial) : Type 0 where
  pub commands : List Command
  pub told : HasAnswered trial commands
