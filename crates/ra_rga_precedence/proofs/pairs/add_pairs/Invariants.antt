use Rattle.ra_rga_precedence.specs.UpdateConditions.{NameBelow}
use Rattle.std.proofs.Common.{length}
use Rattle.ra_rga_precedence.proofs.PairLists.{AreFirstPairs}
use Rattle.ra_rga_precedence.proofs.pairs.add_pairs.Given as goal

abbrev pub invariant-loop-place : goal.invariant-loop-place
invariant-loop-place l = record {
  first : AreFirstPairs l.needed l.labels l.fn.conditions.items l.conditions.items l.place;
  named : NameBelow (length l.needed) l.fn.conditions.items → NameBelow (length l.needed) l.conditions.items;
}
