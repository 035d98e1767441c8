use Rattle.std.proofs.Common.{◌≡◌, take, drop, length}
use Rattle.ra_list_order.specs.Chunks.{joined, HaveSameGroups}
use Rattle.ra_list_order.proofs.chunks.refill.Given as goal

-- the chunks so far have the elements so far, and the others are unchanged
abbrev pub invariant-loop-place : goal.invariant-loop-place
invariant-loop-place l = record {
  done : l.done ≡ length (joined (take l.place l.fn.chunks));
  filled : joined (take l.place l.chunks) ≡ take l.done l.elements;
  rest : drop l.place l.chunks ≡ drop l.place l.fn.chunks;
  groups : HaveSameGroups l.fn.chunks l.chunks;
}
