use Rattle.std.proofs.Common.{◌≡◌, drop}
use Rattle.ra_explain.specs.Explanation.{delivery_from}
use Rattle.ra_explain.proofs.explanation.Explanation.delivery.Given as goal

abbrev pub invariant-loop-entry : goal.invariant-loop-entry
invariant-loop-entry l = record {
  found : delivery_from l.replica l.label l.place (drop l.entry-index l.self.log.items)
      ≡ delivery_from l.replica l.label 0 l.self.log.items;
  place : l.place ≡ l.entry-index;
}
