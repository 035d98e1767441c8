use Rattle.std.proofs.Common.{◌≡◌, ℕ, ◌<◌, length}
use Rattle.std.specs.Prelude.{Contains}
use Rattle.ra_rga_precedence.proofs.reported.reported_labels.Given as goal

abbrev pub invariant-loop-element : goal.invariant-loop-element
invariant-loop-element l = record {
  wide : length l.open.items ≡ length l.shown.items;
  low : (m : ℕ) → Contains l.labels.items m → m < length l.shown.items;
}
