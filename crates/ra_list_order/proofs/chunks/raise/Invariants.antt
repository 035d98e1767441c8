use Rattle.std.proofs.Common.{◌≡◌, ℕ, ◌<◌, ◌≤◌, get_or}
use Rattle.ra_list_order.specs.Chunks.{IsRaised}
use Rattle.ra_list_order.proofs.chunks.raise.Given as goal

abbrev pub invariant-loop-place : goal.invariant-loop-place
invariant-loop-place l = record {
  raised : (m : ℕ) → m < l.place-index → IsRaised l.at (get_or l.fn.places.items m 0) (get_or l.place-items m 0);
  others : (m : ℕ) → l.place-index ≤ m → get_or l.place-items m 0 ≡ get_or l.fn.places.items m 0;
}
