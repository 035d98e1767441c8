use Rattle.ra_explain.specs.Spans.{AreSpans}
use Rattle.ra_explain.proofs.spans.spans_of.Given as goal

-- the spans of the positions so far
abbrev pub invariant-loop-position : goal.invariant-loop-position
invariant-loop-position l = AreSpans l.list l.position l.spans
