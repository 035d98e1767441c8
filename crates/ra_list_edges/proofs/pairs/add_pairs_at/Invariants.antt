use Rattle.std.proofs.Common.{ℕ, take}
use Rattle.std.specs.Prelude.{Contains}
use Rattle.std.specs.List.Sorted.{IsPermutation}
use Rattle.ra_list_edges.specs.Pairs.{AddsSome, HasEdgeAt}
use Rattle.ra_list_edges.proofs.pairs.add_pairs_at.Given as goal

-- the edges at the indexes so far are there
abbrev pub invariant-loop-place : goal.invariant-loop-place
invariant-loop-place l = record {
  elements : IsPermutation l.fn.order.order l.order.order;
  some : AddsSome l.label l.list l.fn.order.edges l.order.edges;
  all : (i : ℕ) → Contains (take l.place-index l.places) i → HasEdgeAt l.order.edges l.list i;
}
