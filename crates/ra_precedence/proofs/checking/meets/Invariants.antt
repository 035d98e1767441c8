use Rattle.std.specs.Prelude.{ℕ, ◌<◌, take, get_or, Contains}
use Rattle.ra_precedence.proofs.checking.meets.Given as goal

abbrev pub invariant-loop-label : goal.invariant-loop-label
invariant-loop-label l = (b : ℕ) → Contains (take l.label-index l.label-items) b
    → (0 < get_or l.positions b 0) × (get_or l.positions b 0 < l.last)
