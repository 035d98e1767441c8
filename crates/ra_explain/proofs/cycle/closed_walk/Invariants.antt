use Rattle.std.proofs.Common.{◌≡◌}
use Rattle.std.specs.Prelude.{All, Contains}
use Rattle.ra_labels.specs.Edges.{IsChain}
use Rattle.ra_labels.specs.TheoremTerms.{HasNoDuplicates}
use Rattle.ra_explain.specs.Conflicts.{starts_of}
use Rattle.ra_explain.proofs.Conflicts.{ArePassed}
use Rattle.ra_explain.proofs.cycle.closed_walk.Given as goal

abbrev pub invariant-loop-number : goal.invariant-loop-number
invariant-loop-number l = record {
  chain : IsChain l.start l.walk.items l.at;
  among : All (Contains l.edges) l.walk.items;
  passed : ArePassed l.passed l.walk.items;
  once : HasNoDuplicates (starts_of l.walk.items);
}
