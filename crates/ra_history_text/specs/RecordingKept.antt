-- What the fields of a recorded history represent, and its representation invariant.
use Rattle.std.specs.Prelude.{◌≡◌, ℕ, ◌≤◌, nat_lt, Bool, true, List, length, map, take, drop}
use Rattle.std.specs.List.{list_all}
use Rattle.ra_labels.specs.Records.{replica_count}
use Rattle.ra_monitor.specs.Monitor.{MonitorEntry, commands_of, records_of}
use Rattle.ra_history_text.specs.declared.recording.Recording.TheInside.{Inside}
use Rattle.ra_history_lines.specs.declared.limits.TheConstants.{MOST_COMMANDS}
use Rattle.ra_history_text.specs.Recording.{Recording}
use Rattle.ra_history_text.specs.Output.{answers_in}

-- the initial names; below, those that joined
abbrev pub first_names_of : Inside → List (List ℕ)
first_names_of h = take h.monitor.setup.replicas h.names

abbrev pub joined_names_of : Inside → List (List ℕ)
joined_names_of h = drop h.monitor.setup.replicas h.names

abbrev pub recording_of : Inside → Recording
recording_of h = record {
  format = h.format;
  kind = h.kind;
  first = first_names_of h;
  joined = joined_names_of h;
  commands = commands_of h.monitor.log;
}

-- `true` if each ticket is below the count
abbrev pub are_tickets_below : ℕ → List MonitorEntry → Bool
are_tickets_below count log = list_all (λ entry. nat_lt entry.ticket count) log

pub record RecordingKept (h : Inside) : Type 0 where
  pub kind : h.monitor.setup.kind ≡ h.kind
  pub replicas : h.monitor.setup.replicas ≡ length (first_names_of h)
  -- a name is missing if its allocation failed
  pub few : length h.names ≤ replica_count h.monitor.setup.replicas (records_of h.monitor.setup h.monitor.log)
  pub limit : h.monitor.setup.limit ≡ MOST_COMMANDS
  pub fits : length h.monitor.log ≤ MOST_COMMANDS
  pub tickets : are_tickets_below (length h.monitor.log) h.monitor.log ≡ true
  pub answered : map (λ entry. entry.reply) h.monitor.log
      ≡ answers_in h.kind (first_names_of h) (commands_of h.monitor.log)
