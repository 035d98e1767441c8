use Rattle.std.proofs.Common.{◌-◌, ◌∙◌, get_or, length-set, ap, refl, arith}
use Rattle.ra_precedence.proofs.Releases.{released_none, still_open, label_within, number_read, after_zero, after_more}
use Rattle.ra_precedence.proofs.placing.release.Goals as goal
use Rattle.ra_precedence.proofs.placing.release.Goals.{then-left-eq0+in_ok-push, else-left-eq0}

pub loop-label-init : goal.loop-label-init
loop-label-init c = record { released = released_none c.args.numbers.now.items c.args.placed.now.items; len = refl }

pub index-requires : goal.index-requires
index-requires c =
    let low = label_within c.args.labels.now c.args.numbers.now.items c.loop-label.numbers.items c.args.placed.now.items
    c.loop-label.placed.items c.loop-label.label-index c.loop-label-test.true c.requires c.loop-label.invariant.released in
    let long = c.loop-label.numbers.ok.0 in
    omega (arith, low, long)

pub overflow_sub-left : goal.overflow_sub-left
overflow_sub-left c =
    let some = still_open c.args.labels.now c.args.numbers.now.items c.loop-label.numbers.items c.args.placed.now.items
    c.loop-label.placed.items c.loop-label.label-index c.loop-label-test.true c.requires c.loop-label.invariant.released in
    let read = number_read c.args.labels.now c.args.numbers.now.items c.loop-label.numbers.items c.args.placed.now.items
    c.loop-label.placed.items c.loop-label.label-index c.loop-label-test.true c.requires c.loop-label.invariant.released
    c.index.result.now c.index.ensures in
    omega (arith, some, read)

pub index_mut-requires : goal.index_mut-requires
index_mut-requires c =
    let low = label_within c.args.labels.now c.args.numbers.now.items c.loop-label.numbers.items c.args.placed.now.items
    c.loop-label.placed.items c.loop-label.label-index c.loop-label-test.true c.requires c.loop-label.invariant.released in
    let long = c.loop-label.numbers.ok.0 in
    omega (arith, low, long)

pub loop-label-preserved : goal.loop-label-preserved
loop-label-preserved c =
    let label = get_or c.args.labels.now c.loop-label.label-index 0 in
    let len = length-set c.loop-label.numbers.items label (c.index.result.now - 1) ∙ c.loop-label.invariant.len in
    elim c.if-left-eq0.branch [
      | then-left-eq0+in_ok-push w ↦ record {
        released = after_zero c.args.labels.now c.args.numbers.now.items c.loop-label.numbers.items c.args.placed.now.items
            c.loop-label.placed.items c.loop-label.label-index c.loop-label-test.true c.requires
            c.loop-label.invariant.released c.index.result.now (c.index.result.now - 1) _ _ c.index.ensures refl refl
            w.if-left-eq0.true
            (ap (λ v. v.items) w.placed-is ∙ w.in_ok-push.ensures.items);
        len = len;
      }
      | else-left-eq0 w ↦ record {
        released = after_more c.args.labels.now c.args.numbers.now.items c.loop-label.numbers.items c.args.placed.now.items
            c.loop-label.placed.items c.loop-label.label-index c.loop-label-test.true c.requires
            c.loop-label.invariant.released c.index.result.now (c.index.result.now - 1) _ _ c.index.ensures refl refl
            w.if-left-eq0.false
            (ap (λ v. v.items) w.placed-is);
        len = len;
      }
    ]
