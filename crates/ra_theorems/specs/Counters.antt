-- The numbers of increments and decrements of a counter.
use Rattle.std.specs.Prelude.{ℕ, ◌+◌, List, [], ◌∷◌}
use Rattle.ra_labels.specs.declared.operation.Update.{Update}
use Rattle.ra_labels.specs.declared.operation.Update.TheVariants.{Inc, Dec}

abbrev pub increments_in : List Update → ℕ
increments_in [] = 0
increments_in (Inc ∷ updates) = increments_in updates + 1
increments_in (_ ∷ updates) = increments_in updates

abbrev pub decrements_in : List Update → ℕ
decrements_in [] = 0
decrements_in (Dec ∷ updates) = decrements_in updates + 1
decrements_in (_ ∷ updates) = decrements_in updates
