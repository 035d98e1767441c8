use Rattle.std.proofs.Common.{◌-◌, ◌++◌, ℕ, List, length}
use Rattle.ra_seqspec.proofs.Walks.{Walked}
use Rattle.ra_seqspec.proofs.rga.shown_elements.Given as goal

abbrev pub invariant-loop-step : goal.invariant-loop-step
invariant-loop-step l =
    (left : List ℕ) → Walked l.nodes l.first (l.elements.items ++ left) left (length l.nodes - l._step) l.slot
