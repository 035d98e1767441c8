use Rattle.std.proofs.Common.{◌≡◌, drop}
use Rattle.ra_explain.specs.Rejected.{first_rejected, rejected_from}
use Rattle.ra_explain.proofs.rejected.first_rejected.Given as goal

abbrev pub invariant-loop-entry : goal.invariant-loop-entry
invariant-loop-entry l = record {
  found : rejected_from l.place l.places.items (drop l.entry-index l.log) ≡ first_rejected l.log;
  place : l.place ≡ l.entry-index;
}
