-- What the field of a reporter represents, and its representation invariant.
use Rattle.std.specs.Prelude.{length}
use Rattle.ra_monitor.specs.declared.reporter.Reporter.TheInside.{Inside}
use Rattle.ra_monitor.specs.Monitor.{Monitor, IsNextTicket}

-- the monitor that represents a reporter
abbrev pub reported_to : Inside → Monitor
reported_to r = r.monitor

-- holds if the number of log entries is above the log's last ticket
pub record ReporterKept (r : Inside) : Type 0 where
  pub next : IsNextTicket r.monitor (length r.monitor.log)
