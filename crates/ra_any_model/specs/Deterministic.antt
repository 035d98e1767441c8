-- A deterministic specification, which says of each label what its update does and of each state what a read returns.
use Rattle.std.specs.Prelude.{ℕ, List, Option, Some, fold, option_and_then}

-- A specification whose states are of this type. Each label may have an operation of its own, so a step is given by
-- the number of its label.
pub record Deterministic (State : Type 0) : Type 0 where
  pub initial : State
  -- the state after the update of the label; none if the state does not admit it
  pub step : ℕ → State → Option State
  -- the value that a read returns
  pub answer : State → ℕ

abbrev pub state_from : (State : Type 0) → Deterministic State → Option State → List ℕ → Option State
state_from State specification state labels =
    fold (λ before label. option_and_then (specification.step label) before) state labels

-- the state after the updates of these labels, applied in this order; none if one of them is not admitted
abbrev pub state_after : (State : Type 0) → Deterministic State → List ℕ → Option State
state_after State specification labels = state_from State specification (Some specification.initial) labels
