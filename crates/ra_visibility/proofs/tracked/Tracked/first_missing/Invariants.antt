use Rattle.ra_visibility.proofs.MissingLabels.{IsLeastOf}
use Rattle.ra_visibility.proofs.tracked.Tracked.first_missing.Given as goal

abbrev pub invariant-loop-from : goal.invariant-loop-from
invariant-loop-from l = IsLeastOf l.self l.replica l.label l.from l.least
