use Rattle.std.proofs.Common.{sym, ◌∙◌}
use Rattle.ra_witness.specs.declared.part_ref.Half.TheVariants.{Whole}
use Rattle.ra_explain.proofs.Faults.{few_enough}
use Rattle.ra_explain.proofs.Steps.{does_at, may_step, made_no_more, made_one}
use Rattle.ra_explain.proofs.replica_state.replica_state.Goals as goal

pub make-requires : goal.make-requires
make-requires c =
    let m = c.args.monitor.now in
    may_step _ _ _ _ _ _ (few_enough m.setup m.log c.log-log.ensures.fits.0 c.log-log.ensures.fits.1)
    (does_at m.setup m.log c.args.replica c.as_slice-part-items.result.now c.loop-part.part-index
    (record { label = 0; half = Whole }) _ c.log-log.ensures.legal
    (c.as_slice-part-items.ensures.value ∙ c.in_ok-parts.ensures.named) c.loop-part-test.true c.in_ok-update.ensures)
    c.loop-part.invariant

pub returns-then-not-branch : goal.returns-then-not-branch
returns-then-not-branch c =
    let m = c.args.monitor.now in
    made_no_more _ _ _ _ c.loop-part.state _
    (does_at m.setup m.log c.args.replica c.as_slice-part-items.result.now c.loop-part.part-index
    (record { label = 0; half = Whole }) _ c.log-log.ensures.legal
    (c.as_slice-part-items.ensures.value ∙ c.in_ok-parts.ensures.named) c.loop-part-test.true c.in_ok-update.ensures)
    (sym c.if-not-branch.true ∙ c.in_ok-make.ensures.admitted) c.loop-part.invariant

pub loop-part-preserved : goal.loop-part-preserved
loop-part-preserved c =
    let m = c.args.monitor.now in
    made_one _ _ _ _ c.loop-part.state _ _
    (does_at m.setup m.log c.args.replica c.as_slice-part-items.result.now c.loop-part.part-index
    (record { label = 0; half = Whole }) _ c.log-log.ensures.legal
    (c.as_slice-part-items.ensures.value ∙ c.in_ok-parts.ensures.named) c.loop-part-test.true c.in_ok-update.ensures)
    (sym c.if-not-branch.false ∙ c.in_ok-make.ensures.admitted) c.in_ok-make.ensures.made c.loop-part.invariant
