use Rattle.std.proofs.Common.{All, sym, subst}
use Rattle.ra_ticket.specs.Passes.{IsPassOf}
use Rattle.ra_ticket.proofs.caller.Caller.open.Goals as goal

pub returns-clause-one_lock : goal.returns-clause-one_lock
returns-clause-one_lock g c =
    (c.in_ok-lock.lock, subst (All (IsPassOf c.in_ok-lock.lock)) (sym c.in_ok-share.ensures) c.in_ok-lock.ensures.own)
