use Rattle.std.proofs.Common.{◌≡◌, ℕ}
use Rattle.ra_precedence.specs.Placing.{times}
use Rattle.ra_precedence.proofs.FreeLabels.{free_below}
use Rattle.ra_precedence.proofs.placing.free_labels.Given as goal

abbrev pub invariant-loop-label : goal.invariant-loop-label
invariant-loop-label l = (b : ℕ) → times b l.labels.items ≡ free_below l.numbers l.label b
