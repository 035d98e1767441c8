use Rattle.std.proofs.Common.{subst}
use Rattle.ra_precedence.specs.Reasons.{IsClosed}
use Rattle.ra_precedence.proofs.reasons.stuck_set.Goals as goal

pub returns-then-branch-clause-reasons : goal.returns-then-branch-clause-reasons
returns-then-branch-clause-reasons c = record {
  each = c.in_ok-reasons.ensures;
  closed = subst IsClosed c.deref-3.ensures.value (c.in_ok-are_closed.ensures c.if-branch.true);
}
