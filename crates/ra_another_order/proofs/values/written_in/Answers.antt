use Rattle.std.proofs.Common.{Some, None, take, refl, sym, subst}
use Rattle.std.specs.Prelude.{◌+◌}
use Rattle.ra_another_order.proofs.WrittenValues.{AreWrittenIn, written_more, written_same}
use Rattle.ra_another_order.proofs.values.written_in.Goals.{in-Some+in_ok-insert-in-Some, in-None}
use Rattle.ra_another_order.proofs.values.written_in.Goals as goal

pub loop-value-preserved : goal.loop-value-preserved
loop-value-preserved c =
    let values = c.args.values.now in
    let i = c.loop-value.value-index in
    elim c.match-value.branch [
      | in-Some+in_ok-insert-in-Some w ↦
          subst (AreWrittenIn (take (i + 1) values)) (sym w.set-is)
          (written_more values i (Some w.in-Some.x) c.loop-value-test.true (sym w.in-Some.is) c.loop-value.set
          w.insert.new.self w.in-Some.x refl w.in_ok-insert-in-Some.ensures.updates c.loop-value.invariant)
      | in-None w ↦
          subst (AreWrittenIn (take (i + 1) values)) (sym w.set-is)
          (written_same values i None c.loop-value-test.true (sym w.in-None.is) c.loop-value.set refl
          c.loop-value.invariant)
    ]
