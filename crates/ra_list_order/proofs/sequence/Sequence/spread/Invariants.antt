use Rattle.std.proofs.Common.{◌≡◌, ◌<◌, length}
use Rattle.ra_list_order.specs.Chunks.{joined, AreGrouped, group_in}
use Rattle.ra_list_order.proofs.sequence.Sequence.spread.Given as goal

abbrev pub invariant-loop-turn : goal.invariant-loop-turn
invariant-loop-turn l = record {
  within : l.place < length l.self-inside.chunks.items;
  same : joined l.self-inside.chunks.items ≡ joined l.fn.self;
  grouped : AreGrouped (group_in l.self-inside.groups.items) l.self-inside.chunks.items l.self-inside.places.items;
}
