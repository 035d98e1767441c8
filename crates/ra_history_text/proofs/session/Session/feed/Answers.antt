use Rattle.ra_history_text.specs.Sessions.{StopsInside}
use Rattle.ra_history_text.proofs.Halts.{passed_on}
use Rattle.ra_history_text.proofs.FedPieces.{fed_none, fed_line, feed_taken, feed_replied, feed_stops, stop_line}
use Rattle.ra_history_text.proofs.session.Session.feed.Goals as goal

pub loop-front-init : goal.loop-front-init
loop-front-init c = fed_none c.args.self.now c.args.piece.now c.args.out.now.items

pub loop-front-preserved : goal.loop-front-preserved
loop-front-preserved c = fed_line _ _ _ _ _ _ _ _ _ _ c.loop-front.invariant c.in-Some.ensures
    c.in_ok-close_line.ensures.taken c.in_ok-close_line.ensures.replied

pub returns-clause-taken : goal.returns-clause-taken
returns-clause-taken c = feed_taken c.extend.result _ _ _ _ _ _ _ c.loop-front.invariant c.extend.ensures.taken

pub returns-clause-replied : goal.returns-clause-replied
returns-clause-replied c = feed_replied c.extend.result _ _ c.extend.new.self _ _ _ _
    c.loop-front.invariant c.extend.ensures.said

pub returns-clause-fault : goal.returns-clause-fault
returns-clause-fault c = feed_stops c.extend.result _ _ _ _ _ _ c.loop-front.invariant c.extend.ensures.fault

pub returns-in_err-close_line-clause-fault : goal.returns-in_err-close_line-clause-fault
returns-in_err-close_line-clause-fault c =
    passed_on c.from_residual.result
    (StopsInside c.args.self.now c.args.piece.now c.args.out.now.items c.close_line.new.out.items) _
    c.from_residual.ensures.1
    (stop_line _ _ _ _ _ _ _ _ _ _ c.loop-front.invariant c.in-Some.ensures c.in_err-close_line.ensures.fault
    c.in_err-close_line.ensures.err)
