use Rattle.std.proofs.Common.{◌≡◌, ◌≤◌, drop, take, length}
use Rattle.ra_labels.specs.HistorySoFar.{History}
use Rattle.ra_monitor.specs.Monitor.{commands_of}
use Rattle.ra_reported.specs.Reported.{reported_after_all, reported_in}
use Rattle.ra_reported.specs.Reading.{HasClocks, IsReadingOf}
use Rattle.ra_reported.proofs.LabelPlaces.{ArePlaces}
use Rattle.ra_reported.proofs.reported.Reported.of.Given as goal

abbrev pub invariant-loop-at : goal.invariant-loop-at
invariant-loop-at l = record {
  past : History;
  reads : IsReadingOf l.log l.reading past;
  rest : reported_after_all past (commands_of (drop l.at l.log)) ≡ reported_in l.kind l.replicas l.log;
  sofar : past ≡ reported_in l.kind l.replicas (take l.at l.log);
  places : ArePlaces l.kind l.replicas l.log l.reading.places.items;
  kind : past.kind ≡ l.kind;
  clocks : HasClocks l.reading;
  within : l.at ≤ length l.log;
}
