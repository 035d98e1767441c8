use Rattle.std.proofs.Common.{◌≡◌, length}
use Rattle.ra_rga_precedence.proofs.RankLists.{AreRanksBelow}
use Rattle.ra_rga_precedence.proofs.ranks.ranks_of.Given as goal

abbrev pub invariant-loop-index : goal.invariant-loop-index
invariant-loop-index l = record {
  len : length l.ranks.items ≡ l.count;
  are : AreRanksBelow l.order l.ranks.items l.index;
}
