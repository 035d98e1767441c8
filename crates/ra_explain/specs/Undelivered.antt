-- What was not delivered to a replica.
use Rattle.std.specs.Prelude.{ℕ, List, length}
use Rattle.std.specs.List.{slice_get}
use Rattle.ra_monitor.specs.declared.setup.Setup.{Setup}
use Rattle.ra_monitor.specs.Monitor.{MonitorEntry}
use Rattle.ra_explain.specs.declared.label_filter.LabelFilter.TheVariants.{MissingAt}
use Rattle.ra_explain.specs.declared.undelivered.Undelivered.{Undelivered}
use Rattle.ra_explain.specs.LabelFilter.{find_labels}

-- the number of the updates that the replica lacks at the end of the log, and the oldest of them
abbrev pub undelivered_at : Setup → List MonitorEntry → ℕ → Undelivered
undelivered_at setup log replica =
    let lacking = find_labels setup log (MissingAt replica) in
    record { replica = replica; updates = length lacking; oldest = slice_get lacking 0 }
