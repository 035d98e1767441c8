use Rattle.std.proofs.Common.{length}
use Rattle.ra_history_text.specs.Sessions.{IsFedUpTo}
use Rattle.ra_history_text.proofs.session.Session.feed.Given as goal

-- the complete lines are consumed, and the rest remains
abbrev pub invariant-loop-front : goal.invariant-loop-front
invariant-loop-front l = IsFedUpTo l.initial.self l.self l.piece l.rest l.initial.out.items l.out.items

abbrev pub decreases-loop-front : goal.decreases-loop-front
decreases-loop-front l = length l.rest
