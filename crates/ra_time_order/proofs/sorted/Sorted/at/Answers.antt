use Rattle.std.proofs.Common.{sym, ap, ◌∙◌, arith}
use Rattle.std.specs.Prelude.{◌-◌, ◌+◌, drop, option_map}
use Rattle.std.specs.List.{slice_get}
use Rattle.ra_time_order.specs.declared.entry.Entry.{Entry}
use Rattle.ra_time_order.specs.Sorted.{joined}
use Rattle.ra_time_order.proofs.FiledLabels.{label_here, label_further}
use Rattle.ra_time_order.proofs.sorted.Sorted.at.Goals as goal

pub returns-then-rest-len : goal.returns-then-rest-len
returns-then-rest-len c =
    c.at.ensures ∙ ap (option_map (λ (entry : Entry). entry.label))
    (sym (label_here _ _ c.loop-run.rest _ c.loop-run-test.true c.run-item.is
    (omega (arith, c.if-rest-len.true, c.len.ensures))) ∙ c.loop-run.invariant)

pub loop-run-preserved : goal.loop-run-preserved
loop-run-preserved c =
    let items = c.deref-run-items.result.now in
    ap (λ k. slice_get (joined (drop (c.loop-run.run-index + 1) items)) (c.loop-run.rest - k)) c.len-rest.ensures
    ∙ sym (label_further _ _ c.loop-run.rest _ c.loop-run-test.true c.run-item.is
    (omega (arith, c.if-rest-len.false, c.len.ensures))) ∙ c.loop-run.invariant
