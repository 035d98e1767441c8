use Rattle.std.proofs.Common.{◌≡◌, take}
use Rattle.ra_list_order.specs.Chunks.{joined}
use Rattle.ra_list_order.proofs.chunks.copied.Given as goal

abbrev pub invariant-loop-chunk : goal.invariant-loop-chunk
invariant-loop-chunk l = l.elements.items ≡ joined (take l.chunk-index l.chunks)
