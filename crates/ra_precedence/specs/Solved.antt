-- What the solution of conditions states.
use Rattle.std.specs.Prelude.{ℕ, ◌<◌, List, Contains}
use Rattle.ra_precedence.specs.declared.ordering.Solution.{Solution}
use Rattle.ra_precedence.specs.declared.ordering.Solution.TheVariants.{Order, Stuck}
use Rattle.ra_precedence.specs.Conditions.{Condition, MeetsAll, IsStuck, HasEachBelow}

-- holds if an order has each label below the count once and meets the conditions, or if a set of such labels is stuck
abbrev pub IsSolution : ℕ → List Condition → Solution → Type 0
IsSolution count conditions (Order order) = HasEachBelow count order.items × MeetsAll order.items conditions
IsSolution count conditions (Stuck set) =
    IsStuck conditions set.items × ((b : ℕ) → Contains set.items b → b < count)
