use Rattle.std.proofs.Common.{◌≡◌, drop}
use Rattle.ra_explain.specs.Changes.{got_from, got_last}
use Rattle.ra_explain.proofs.changes.got_last.Given as goal

abbrev pub invariant-loop-entry : goal.invariant-loop-entry
invariant-loop-entry l = record {
  got : got_from l.replica l.place l.got.items (drop l.entry-index l.log) ≡ got_last l.replica l.log;
  place : l.place ≡ l.entry-index;
}
