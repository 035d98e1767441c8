use Rattle.std.proofs.Common.{arith, ◌∙◌, subst, sym}
use Rattle.ra_rga_elements.specs.Entries.{IsPast}
use Rattle.ra_rga_elements.proofs.GreaterStamps.{passing_first, passing_on, at_end, stops_within, stops_last, stops_between}
use Rattle.ra_rga_elements.proofs.spot.spot_behind.Goals as goal

pub loop-position-init : goal.loop-position-init
loop-position-init c =
    passing_first _ _ _ _ _ _ _ c.requires.there c.index-chunks-place.is c.position_behind.ensures
    c.past_greater-position.ensures

pub returns-then-further-eq0 : goal.returns-then-further-eq0
returns-then-further-eq0 c =
    let at = c.loop-position in
    let after = c.index-chunks-place-in-loop-position-2 in
    stops_between _ _ _ _ _ _ at.invariant
    (at_end _ _ _ _ at.invariant.there c.index-chunks-place-in-loop-position.is
    (c.loop-position-test.true ∙ c.len.ensures)) c.if-place-chunks.true c.requires.filled after.is
    (subst (λ r. IsPast after.result.entries 0 c.args.stamp r) c.if-further-eq0.true c.past_greater-further.ensures)

pub loop-position-preserved : goal.loop-position-preserved
loop-position-preserved c =
    let at = c.loop-position in
    passing_on _ _ _ _ _ _ _ at.invariant
    (at_end _ _ _ _ at.invariant.there c.index-chunks-place-in-loop-position.is
    (c.loop-position-test.true ∙ c.len.ensures)) c.if-place-chunks.true c.index-chunks-place-in-loop-position-2.is
    (omega (arith, c.if-further-eq0.false)) c.past_greater-further.ensures

pub returns-else-place-chunks : goal.returns-else-place-chunks
returns-else-place-chunks c =
    let at = c.loop-position in
    stops_last _ _ _ _ _ at.invariant
    (at_end _ _ _ _ at.invariant.there c.index-chunks-place-in-loop-position.is
    (c.loop-position-test.true ∙ c.len.ensures)) (omega (arith, c.if-place-chunks.false))

pub returns-after-loop-position : goal.returns-after-loop-position
returns-after-loop-position c =
    let at = c.loop-position in
    stops_within _ _ _ _ _ at.invariant (λ end. c.loop-position-test.false
    (end ∙ sym (at_end _ _ _ _ at.invariant.there c.index-chunks-place-in-loop-position.is c.len.ensures)))
