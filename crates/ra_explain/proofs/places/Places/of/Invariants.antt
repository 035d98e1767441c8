use Rattle.std.proofs.Common.{◌≡◌, ◌≤◌, ◌++◌, drop, length}
use Rattle.ra_explain.specs.Places.{places_from, places_in}
use Rattle.ra_explain.proofs.places.Places.of.Given as goal

abbrev pub invariant-loop-entry : goal.invariant-loop-entry
invariant-loop-entry l = record {
  places : l.places.items ++ places_from l.failed l.place (drop l.entry-index l.log) ≡ places_in l.log;
  place : l.place ≡ l.entry-index;
  few : length l.places.items ≤ l.place;
}
