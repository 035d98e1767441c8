use Rattle.std.proofs.Common.{◌∙◌, inl, inr, arith}
use Rattle.ra_precedence.proofs.PositionLists.{last_more}
use Rattle.ra_precedence.proofs.checking.last_position.Goals.{then-position-last, else-position-last}
use Rattle.ra_precedence.proofs.checking.last_position.Goals as goal

pub loop-label-preserved : goal.loop-label-preserved
loop-label-preserved c =
    let i = c.loop-label.label-index in
    let position = c.position_in-position.ensures in
    let more = last_more c.args.positions.now c.args.labels.now i c.loop-label.last c.if-position-last.last
    c.loop-label-test.true c.loop-label.invariant in
    elim c.if-position-last.branch [
      | then-position-last w ↦
          let is = w.last-is in
          let above = w.if-position-last.true in
          more (omega (arith, is, above)) (omega (arith, is, position)) (inr (is ∙ position))
      | else-position-last w ↦
          let is = w.last-is in
          let not = w.if-position-last.false in
          more (omega (arith, is)) (omega (arith, is, not, position)) (inl is)
    ]
