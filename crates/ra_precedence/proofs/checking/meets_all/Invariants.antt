use Rattle.std.specs.Prelude.{ℕ, List, take, Contains}
use Rattle.ra_precedence.specs.Conditions.{Condition, Meets}
use Rattle.ra_precedence.specs.Positions.{ArePositions}
use Rattle.ra_precedence.proofs.checking.meets_all.Given as goal

abbrev pub invariant-loop-condition : goal.invariant-loop-condition
invariant-loop-condition l = (order : List ℕ) → ArePositions order l.positions
    → (condition : Condition) → Contains (take l.condition-index l.conditions) condition → Meets order condition
