-- The past that the commands read so far represent.
use Rattle.std.specs.Prelude.{◌≡◌, ◌⊎◌, ◌++◌, ◌∷◌, [], ℕ, List, Some, length, option_map, vec_len}
use Rattle.std.specs.List.{slice_get}
use Rattle.ra_labels.specs.declared.command.Command.{Command}
use Rattle.ra_labels.specs.Records.{label_count, label_at}
use Rattle.ra_labels.specs.HistorySoFar.{History}
use Rattle.ra_visibility.specs.Tracked.{IsVisibilityOf, replicas_in}
use Rattle.ra_monitor.specs.Monitor.{MonitorEntry}
use Rattle.ra_monitor.specs.UsedKeys.{AreUsedKeysOf}
use Rattle.ra_reported.specs.declared.reading.Reading.{Reading}
use Rattle.ra_reported.specs.Reported.{operation_at}

-- holds if the log has the command at this place
abbrev pub IsOperationAt : List MonitorEntry → ℕ → Command → Type 0
IsOperationAt log place command = option_map (λ entry. entry.command) (slice_get log place) ≡ Some command

-- holds if the place was added to the places, or if they are the same
abbrev pub IsPlaceAdded : List ℕ → ℕ → List ℕ → Type 0
IsPlaceAdded old place new = (new ≡ old) ⊎ (new ≡ old ++ place ∷ [])

-- holds if clocks are kept for each replica
abbrev pub HasClocks : Reading → Type 0
HasClocks reading = vec_len reading.taken.clocks ≡ replicas_in reading.tracker.now

-- holds if the reading represents the past, whose operations are in the log
pub record IsReadingOf (log : List MonitorEntry) (reading : Reading) (past : History) : Type 0 where
  pub tracker : IsVisibilityOf reading.tracker.now past
  pub taken : AreUsedKeysOf past.records reading.taken
  pub count : length reading.places.items ≡ label_count past.records
  pub listed : (n : ℕ) → operation_at log reading.places.items n
      ≡ option_map (λ label. label.op) (label_at past.records n)
