use Rattle.std.proofs.Common.{◌≡◌, ◌∙◌, ◌+◌, ◌<◌, true, false, [], get_or, set, length, take, ap, sym, subst, arith}
use Rattle.std.specs.Prelude.{◌↔◌, Contains}
use Rattle.std.proofs.lemmas.List.{take_all, length-replicate, get_or_read}
use Rattle.std.proofs.lemmas.List.Elements.{Contains-get_or}
use Rattle.ra_precedence.proofs.AllUnmet.{made_long, all_unmet}
use Rattle.ra_precedence.proofs.DistinctLabels.{AreDistinct, distinct_none, distinct_more, distinct_same}
use Rattle.ra_precedence.proofs.solver.distinct.Goals as goal
use Rattle.ra_precedence.proofs.solver.distinct.Goals.{then-not-index+in_ok-push, else-not-index}

pub loop-label-init : goal.loop-label-init
loop-label-init c =
    let is = made_long c.args.count _ _ c.resize.new.self.items c.new-marks.ensures.items c.new-marks.ensures.len c.in_ok-resize.ensures.items in
    subst (λ labels. AreDistinct c.resize.new.self.items labels [] c.args.count) (sym c.new-labels.ensures.items)
    (distinct_none c.resize.new.self.items c.args.count (λ b. ap (λ m. get_or m b false) is ∙ all_unmet c.args.count b)
    (ap length is ∙ length-replicate c.args.count false))

pub index-requires : goal.index-requires
index-requires c =
    let low = c.requires (get_or c.args.set.now c.loop-label.label-index 0) (Contains-get_or c.args.set.now c.loop-label.label-index 0 c.loop-label-test.true) in
    let len = c.loop-label.invariant.len in
    let long = c.loop-label.marks.ok.0 in
    omega (arith, low, len, long)

pub index_mut-requires : goal.index_mut-requires
index_mut-requires c =
    let low = c.requires (get_or c.args.set.now c.loop-label.label-index 0) (Contains-get_or c.args.set.now c.loop-label.label-index 0 c.loop-label-test.true) in
    let len = c.loop-label.invariant.len in
    let long = c.loop-label.marks.ok.0 in
    omega (arith, low, len, long)

pub loop-label-preserved : goal.loop-label-preserved
loop-label-preserved c =
    let label = get_or c.args.set.now c.loop-label.label-index 0 in
    let low : label < c.args.count = c.requires label (Contains-get_or c.args.set.now c.loop-label.label-index 0 c.loop-label-test.true) in
    let len = c.loop-label.invariant.len in
    let read : c.index.result.now ≡ get_or c.loop-label.marks.items label false =
    get_or_read c.loop-label.marks.items label c.index.result.now (omega (arith, low, len)) c.index.ensures false in
    elim c.if-not-index.branch [
      | then-not-index+in_ok-push w ↦
          subst (λ ms. AreDistinct ms c.if-not-index.labels.items (take (c.loop-label.label-index + 1) c.args.set.now) c.args.count)
          (sym (ap (λ v. v.items) w.marks-is))
          (subst (λ ls. AreDistinct (set c.loop-label.marks.items label true) ls (take (c.loop-label.label-index + 1) c.args.set.now) c.args.count)
          (sym (ap (λ v. v.items) w.labels-is ∙ w.in_ok-push.ensures.items))
          (distinct_more c.loop-label.marks.items c.loop-label.labels.items c.args.set.now c.args.count c.loop-label.label-index
          c.loop-label-test.true c.loop-label.invariant low (sym read ∙ w.if-not-index.true)))
      | else-not-index w ↦
          subst (λ ms. AreDistinct ms c.if-not-index.labels.items (take (c.loop-label.label-index + 1) c.args.set.now) c.args.count)
          (sym (ap (λ v. v.items) w.marks-is))
          (subst (λ ls. AreDistinct c.loop-label.marks.items ls (take (c.loop-label.label-index + 1) c.args.set.now) c.args.count)
          (sym (ap (λ v. v.items) w.labels-is))
          (distinct_same c.loop-label.marks.items c.loop-label.labels.items c.args.set.now c.args.count c.loop-label.label-index
          c.loop-label-test.true c.loop-label.invariant (sym read ∙ w.if-not-index.false)))
    ]

pub returns-clause-same : goal.returns-clause-same
returns-clause-same c = λ b. subst (λ xs. Contains c.loop-label.labels.items b ↔ Contains xs b)
    (take_all c.loop-label.label-index c.args.set.now c.loop-label-test.false) (c.loop-label.invariant.same b)
