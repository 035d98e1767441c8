use Rattle.std.proofs.Common.{ℕ, ◌<◌, take}
use Rattle.std.specs.Prelude.{Contains}
use Rattle.ra_precedence.proofs.condition.are_below.Given as goal

abbrev pub invariant-loop-label : goal.invariant-loop-label
invariant-loop-label l = (b : ℕ) → Contains (take l.label-index l.labels) b → b < l.count
