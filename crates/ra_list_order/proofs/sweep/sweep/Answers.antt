use Rattle.std.proofs.Common.{◌∙◌, refl}
use Rattle.ra_list_order.proofs.Ends.{sweep_stays, sweep_moves}
use Rattle.ra_list_order.proofs.sweep.sweep.Goals as goal
use Rattle.ra_list_order.proofs.sweep.sweep.Goals.{then-is_reached+in_ok-push+in_ok-push_from+in_ok-add_ends, else-is_reached+in_ok-push-2}

pub loop-element-preserved : goal.loop-element-preserved
loop-element-preserved c =
    let stretch = c.args.stretch.now in
    let i = c.loop-element.element-index in
    elim c.if-is_reached.branch [
      | then-is_reached+in_ok-push+in_ok-push_from+in_ok-add_ends w ↦
          let both = sweep_moves stretch i _ _ _ _ _ _ c.loop-element.invariant.swept c.loop-element.invariant.ends
          c.loop-element-test.true _ c.is_reached.ensures _ _ _ _ _ _ w.in_ok-push.ensures.items w.if-is_reached.true
          w.in_ok-push_from.ensures (w.len-count.ensures ∙ c.loop-element.walked.ok.0) w.deref.ensures.value refl w.in_ok-add_ends.ensures in
          rw (w.stays-is, w.moves-is, w.walked-is, w.ends-is) (record { swept = both.0; ends = both.1 })
      | else-is_reached+in_ok-push-2 w ↦
          rw (w.stays-is, w.moves-is, w.walked-is, w.ends-is) (record {
            swept = sweep_stays stretch i _ _ _ _ _ _ c.loop-element.invariant.swept c.loop-element.invariant.ends
                c.loop-element-test.true _ c.is_reached.ensures _ w.in_ok-push-2.ensures.items w.if-is_reached.false;
            ends = c.loop-element.invariant.ends;
          })
    ]
