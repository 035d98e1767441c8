use Rattle.std.proofs.Common.{arith, refl}
use Rattle.std.proofs.lemmas.Option.{slice_get-get_or}
use Rattle.ra_explain.proofs.Positions.{spans_more}
use Rattle.ra_explain.proofs.spans.spans_of.Goals as goal

pub loop-position-preserved : goal.loop-position-preserved
loop-position-preserved c =
    let l = c.loop-position in
    spans_more c.args.list.now l.position l.spans c.insert.new.self _ _
    (slice_get-get_or c.args.list.now l.position 0 (omega (arith, c.loop-position-test.true))) l.invariant refl c.first_position-first.ensures
    c.in_ok-insert.ensures.updates
