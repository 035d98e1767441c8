use Rattle.std.proofs.Common.{ℕ}
use Rattle.std.specs.Prelude.{Contains}
use Rattle.ra_labels.specs.HistorySoFar.{History}
use Rattle.ra_rga_precedence.specs.Situation.{operations_in}
use Rattle.ra_rga_precedence.specs.Nearest.{IsPastOfRead, IsUndecided}
use Rattle.ra_rga_precedence.proofs.turned.turned_places.Given as goal

abbrev pub invariant-loop : goal.invariant-loop
invariant-loop l = (place : ℕ) → Contains l.places.items place → (past : History) (replica : ℕ)
    → IsPastOfRead l.tracker.now (operations_in l.operations) past replica → IsUndecided past.records replica l.list place
