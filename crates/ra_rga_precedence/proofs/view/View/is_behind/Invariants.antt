use Rattle.std.proofs.Common.{◌<◌, ◌≤◌, ℕ, get_or}
use Rattle.ra_visibility.specs.Seen.{count_in}
use Rattle.ra_rga_precedence.proofs.view.View.is_behind.Given as goal

abbrev pub invariant-loop-replica : goal.invariant-loop-replica
invariant-loop-replica l =
    (k : ℕ) → k < l.replica → get_or l.self.taken.items k 0 ≤ count_in l.seen k
