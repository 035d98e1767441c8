use Rattle.std.proofs.Common.{ℕ, ◌<◌, length}
use Rattle.std.specs.Prelude.{Contains}
use Rattle.ra_rga_precedence.proofs.arrangement.marked_from.Given as goal

abbrev pub invariant-loop : goal.invariant-loop
invariant-loop l = (m : ℕ) → Contains l.labels.items m → m < length l.shown
