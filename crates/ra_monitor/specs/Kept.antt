-- What the parts of a monitor represent, and its representation invariant.
use Rattle.std.specs.Prelude.{◌≡◌, ℕ, ◌-◌, ◌≤◌, length, min, vec_capacity}
use Rattle.std.specs.Global as global
use Rattle.ra_monitor.specs.declared.parts.Parts.{Parts}
use Rattle.ra_monitor.specs.Monitor.{Monitor, MonitorEntry, records_of, refused_count, IsLegalLog}
use Rattle.ra_monitor.specs.History.{history_in, Represents}
use Rattle.ra_monitor.specs.Limits.{AreReplicas, IsLimit}

-- the number of further entries that a log has room for, up to its limit
abbrev pub room_in : ℕ → global.Vec MonitorEntry → ℕ
room_in limit log = min (vec_capacity log - length log.items) (limit - length log.items)

abbrev pub monitor_of : Parts → Monitor
monitor_of m = record { setup = m.setup; log = m.log.items; room = room_in m.setup.limit m.log }

pub record MonitorKept (m : Parts) : Type 0 where
  pub replicas : AreReplicas m.setup.replicas
  pub joined : AreReplicas m.history.replicas
  pub limit : IsLimit m.setup.limit
  pub fits : length m.log.items ≤ m.setup.limit
  pub legal : IsLegalLog m.setup m.log.items
  pub history : Represents m.history (history_in m.setup (records_of m.setup m.log.items))
  pub labels : m.history.labels ≤ length m.log.items
  pub refused : m.refused ≡ refused_count m.log.items
