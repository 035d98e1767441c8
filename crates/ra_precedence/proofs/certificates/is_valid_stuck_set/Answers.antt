use Rattle.std.proofs.Common.{sym, subst}
use Rattle.std.specs.Prelude.{Contains}
use Rattle.ra_precedence.specs.Reasons.{IsClosed, AreHeld}
use Rattle.ra_precedence.proofs.certificates.is_valid_stuck_set.Goals as goal

pub returns-clause-reasons : goal.returns-clause-reasons
returns-clause-reasons c = λ closed. record {
  each = subst (AreHeld c.args.conditions.now) c.deref-4.ensures.value (c.in_ok-are_valid.ensures c.if-not-branch-3.false);
  closed = subst IsClosed c.deref-5.ensures.value (c.in_ok-closed.ensures closed);
}

pub returns-clause-among : goal.returns-clause-among
returns-clause-among c = λ closed held there.
    subst (λ labels. Contains labels held.label) c.deref-2.ensures.value
    (c.in_ok-are_about.ensures c.if-not-branch-2.false held
    (subst (λ reasons. Contains reasons held) (sym c.deref-3.ensures.value) there))
