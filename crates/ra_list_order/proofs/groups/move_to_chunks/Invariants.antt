use Rattle.std.proofs.Common.{take}
use Rattle.ra_list_order.specs.Chunks.{AreMovedToChunks, group_in}
use Rattle.ra_list_order.proofs.groups.move_to_chunks.Given as goal

abbrev pub invariant-loop-chunk : goal.invariant-loop-chunk
invariant-loop-chunk l =
    AreMovedToChunks (take l.chunk-index l.chunks) (group_in l.fn.groups.items) (group_in l.groups.items)
