use Rattle.std.proofs.Common.{◌≡◌, ◌<◌, length, length-set, sym, subst, ◌∙◌, inl, arith}
use Rattle.std.proofs.lemmas.List.{get_or_read}
use Rattle.ra_visibility.specs.Tracked.{labels_in}
use Rattle.ra_rga_precedence.specs.Situation.{operations_in}
use Rattle.ra_rga_precedence.specs.Views.{IsView}
use Rattle.ra_rga_precedence.specs.Answers.{IsStep, AreReadConditions}
use Rattle.ra_rga_precedence.proofs.TakenUpdates.{new_is_view, each_set}
use Rattle.ra_rga_precedence.proofs.demands.add_reads.Goals as goal

pub loop-label-init : goal.loop-label-init
loop-label-init c = record {
  wide = c.in_ok-views.ensures.len;
  views = λ i none within. new_is_view c.args.tracker.now.now (operations_in c.args.operations.now)
      c.args.insertions.now.needed.items _ (c.in_ok-views.ensures.each i none within);
  named = λ named. named;
  are = λ past stands. record {
    kept = λ condition there. there;
    only = λ condition there. inl there;
    possible = λ n list below has. absurd (omega (arith, below));
    each = λ m n its below. absurd (omega (arith, below));
  };
  within = omega arith;
}

pub add_label-requires-clause-view : goal.add_label-requires-clause-view
add_label-requires-clause-view c =
    let r = c.issuer.result in
    let views = c.loop-label.views.items in
    let view = c.index_mut-view.result.now in
    let kept = c.loop-label.invariant in
    let there : r < length views = subst (λ k. r < k) (sym kept.wide) c.issuer.ensures.replica in
    let read = get_or_read views r view there c.index_mut-view.ensures.value view in
    subst (IsView c.args.tracker.now.now (operations_in c.args.operations.now) c.args.insertions.now.needed.items)
    (sym read) (kept.views r view there)

pub loop-label-preserved : goal.loop-label-preserved
loop-label-preserved c =
    let n = c.loop-label.label in
    let r = c.issuer.result in
    let views = c.loop-label.views.items in
    let view = c.add_label.new.view in
    let kept = c.loop-label.invariant in
    let test = c.loop-label-test.true in
    let end = c.labels-label-end.ensures in
    record {
      wide = length-set views r view ∙ kept.wide;
      views = each_set (λ i v. IsView c.args.tracker.now.now (operations_in c.args.operations.now)
          c.args.insertions.now.needed.items v) views r view kept.views (c.in_ok-reason.ensures.view c.in_default.is);
      named = λ named. c.in_ok-reason.ensures.named c.in_default.is (kept.named named);
      are = λ past stands. subst (IsStep past.records n c.loop-label.conditions.items c.add_label.new.conditions.items)
          c.in_default.is (c.in_ok-reason.ensures.step past stands) c.args.conditions.now.items (kept.are past stands);
      within = omega (arith, test, end);
    }

pub returns-clause-reads : goal.returns-clause-reads
returns-clause-reads c = λ past stands.
    let kept = c.loop-label.invariant in
    let within = kept.within in
    let test = c.loop-label-test.false in
    let end = c.labels-label-end.ensures in
    let all : c.loop-label.label ≡ labels_in c.args.tracker.now.now = omega (arith, within, test, end) in
    subst (λ k. AreReadConditions past.records k c.args.conditions.now.items c.loop-label.conditions.items) all
    (kept.are past stands)
