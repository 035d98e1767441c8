use Rattle.std.proofs.Common.{◌≡◌, ℕ, ◌<◌, ◌≤◌, length, get_or}
use Rattle.ra_list_order.specs.EdgePool.{no_edge}
use Rattle.ra_list_witness.specs.Named.{named}
use Rattle.ra_list_witness.proofs.named.name_edges.Given as goal

-- the edges before the index are named, and the others are unchanged
abbrev pub invariant-loop-i : goal.invariant-loop-i
invariant-loop-i l = record {
  as_many : length l.edges.items ≡ length l.fn.edges.items;
  done : (m : ℕ) → m < l.i → get_or l.edges.items m no_edge ≡ named l.numbers (get_or l.fn.edges.items m no_edge);
  others : (m : ℕ) → l.i ≤ m → get_or l.edges.items m no_edge ≡ get_or l.fn.edges.items m no_edge;
}
