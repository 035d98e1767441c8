use Rattle.ra_precedence.proofs.OpenLabels.{AreOpenBelow}
use Rattle.ra_precedence.proofs.ordering.open_labels.Given as goal

abbrev pub invariant-loop-label : goal.invariant-loop-label
invariant-loop-label l = AreOpenBelow l.numbers l.label l.labels.items
