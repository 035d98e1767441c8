use Rattle.std.proofs.Common.{◌≡◌, ◌<◌, ◌+◌, length, length-set, sym, subst, ◌∙◌, arith}
use Rattle.std.proofs.lemmas.List.{get_or_read}
use Rattle.ra_labels.proofs.Members.{none_there}
use Rattle.ra_labels.specs.Records.{label_count}
use Rattle.ra_visibility.specs.Tracked.{labels_in}
use Rattle.ra_any_order.specs.Changes.{ArePrevious, IsViewBelow, IsViewOf}
use Rattle.ra_any_order.specs.Outcomes.{IfPossible, IsLabelOutcome}
use Rattle.ra_any_order.specs.Requirements.{AreConditionsBelow, NameBelow}
use Rattle.ra_any_order.specs.Situation.{operations_in}
use Rattle.ra_any_order.proofs.Conclusions.{none_yet}
use Rattle.ra_any_order.proofs.ReadOutcomes.{view_later, new_view_below, new_view_of, each_set}
use Rattle.ra_any_order.proofs.conditions.conditions_of.Goals as goal

pub loop-label-init : goal.loop-label-init
loop-label-init c =
    let count = labels_in c.args.tracker.now.now in
    let empty = sym c.new-conditions.ensures.items in
    record {
      wide = c.in_ok-views.ensures.len ∙ c.replicas.ensures.number;
      low = λ i none within. new_view_below count _ (c.in_ok-views.ensures.each i none within);
      views = λ past stands i none within.
          new_view_of past.records (operations_in c.args.operations.now) i 0 _ (c.in_ok-views.ensures.each i none within);
      named = subst (NameBelow count) empty (λ condition there. absurd (none_there condition there));
      are = λ past stands. subst (AreConditionsBelow past.records 0) empty (none_yet past.records);
      within = omega arith;
    }

pub loop-label-preserved : goal.loop-label-preserved
loop-label-preserved c =
    let n = c.loop-label.label in
    let r = c.issuer.result in
    let ops = operations_in c.args.operations.now in
    let count = labels_in c.args.tracker.now.now in
    let views = c.loop-label.views.items in
    let view = c.add_label.new.view in
    let kept = c.loop-label.invariant in
    let done = c.in_ok-outcome.ensures in
    let below : n < count = subst (λ k. n < k) c.labels-label-end.ensures c.loop-label-test.true in
    let there : r < length views = subst (λ k. r < k) (sym kept.wide) c.issuer.ensures.replica in
    let read = get_or_read views r c.index_mut-view.result.now there c.index_mut-view.ensures.value view in
    record {
      wide = length-set views r view ∙ kept.wide;
      low = each_set (λ i v. IsViewBelow count v) views r view kept.low done.below;
      views = λ past stands.
          let issued = c.issuer.ensures.issued past stands.visibility in
          let previous = subst (ArePrevious past.records count) (sym c.deref.ensures.value)
          (c.in_ok-previous.ensures.each past stands.visibility) in
          each_set (λ i v. IsViewOf past.records ops i (n + 1) v) views r view
          (λ i none within. view_later past.records ops i n _ (kept.views past stands i none within))
          (subst (λ q. IsViewOf past.records ops q (n + 1) view) (sym issued)
          (done.view past stands previous
          (subst (λ q. IsViewOf past.records ops q n c.index_mut-view.result.now) issued
          (subst (IsViewOf past.records ops r n) (sym read) (kept.views past stands r view there)))));
      named = subst (λ o. IfPossible o (NameBelow count c.add_label.new.conditions.items)) c.in_default.is
          (done.named kept.named);
      are = λ past stands.
          let issued = c.issuer.ensures.issued past stands.visibility in
          let previous = subst (ArePrevious past.records count) (sym c.deref.ensures.value)
          (c.in_ok-previous.ensures.each past stands.visibility) in
          subst (IsLabelOutcome past.records n c.add_label.new.conditions.items) c.in_default.is
          (done.outcome past stands previous
          (subst (λ q. IsViewOf past.records ops q n c.index_mut-view.result.now) issued
          (subst (IsViewOf past.records ops r n) (sym read) (kept.views past stands r view there)))
          (kept.are past stands));
      within = omega (arith, below);
    }

pub returns-clause-found : goal.returns-clause-found
returns-clause-found c = λ past stands.
    let labels = stands.visibility.labels in
    let end = c.labels-label-end.ensures in
    let test = c.loop-label-test.false in
    let within = c.loop-label.invariant.within in
    let all : c.loop-label.label ≡ label_count past.records = omega (arith, labels, end, test, within) in
    subst (λ k. AreConditionsBelow past.records k c.loop-label.conditions.items) all
    (c.loop-label.invariant.are past stands)
