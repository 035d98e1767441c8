-- Several updates, one after another.
use Rattle.std.specs.Prelude.{List, fold, unwrap_or}
use Rattle.ra_labels.specs.declared.operation.Update.{Update}
use Rattle.ra_labels.specs.Specification.{State, step_of}

-- the state after the updates, of which those that are not admitted change nothing
abbrev pub after_all : State → List Update → State
after_all state updates = fold (λ s update. unwrap_or (step_of s update) s) state updates
