use Rattle.std.proofs.Common.{◌-◌, length}
use Rattle.ra_seqspec.proofs.Walks.{Walked}
use Rattle.ra_seqspec.proofs.rga.are_shown.Given as goal

abbrev pub invariant-loop-step : goal.invariant-loop-step
invariant-loop-step l = Walked l.nodes l.first l.elements l.left (length l.nodes - l._step) l.slot
