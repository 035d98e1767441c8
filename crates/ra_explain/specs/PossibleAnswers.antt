-- What the violating read can return so that some order explains it.
use Rattle.std.specs.Prelude.{List, Option, IfSome}
use Rattle.ra_monitor.specs.declared.setup.Setup.{Setup}
use Rattle.ra_monitor.specs.Monitor.{MonitorEntry}
use Rattle.ra_another_order.specs.declared.possible.PossibleAnswers.{PossibleAnswers}
use Rattle.ra_another_order.specs.Extent.{records_at}
use Rattle.ra_another_order.specs.PossibleAnswers.{ArePossible}
use Rattle.ra_explain.specs.declared.violation.Violation.{Violation}

-- holds if these are what the violating read can return after the labels before it
abbrev pub HasPossible : Setup → List MonitorEntry → Violation → Option PossibleAnswers → Type 0
HasPossible setup log v found =
    IfSome found (ArePossible setup.kind (records_at setup.kind setup.replicas log v.place) v.replica)
