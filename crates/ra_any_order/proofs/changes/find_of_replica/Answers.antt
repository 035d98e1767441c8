use Rattle.std.proofs.Common.{◌≡◌, ◌<◌, ◌+◌, ℕ, None, Some, true, refl, sym, subst, ◌∙◌, get_or}
use Rattle.std.specs.Prelude.{◌⊎◌, IfSome}
use Rattle.ra_labels.specs.Visibility.{sees}
use Rattle.ra_visibility.specs.Tracked.{labels_in}
use Rattle.ra_any_order.specs.Changes.{newer_than}
use Rattle.ra_any_order.specs.Finding.{IsFinding, IsOfReplicaBelow, IsReached, IsNextOf}
use Rattle.ra_any_order.specs.Situation.{operations_in}
use Rattle.ra_any_order.proofs.SeenBefore.{earlier_seen, earlier_seen_by}
use Rattle.ra_any_order.proofs.FoundChanges.{reach_other, reach_first, next_first, reach_end, reach_previous, next_previous, next_newer, reach_newer, take_more, low_newer, low_earlier, low_taken}
use Rattle.ra_any_order.proofs.changes.find_of_replica.Goals as goal

pub loop-next-init : goal.loop-next-init
loop-next-init c =
    let n = c.args.label in
    let r = c.args.replica in
    let last = c.args.view.now.last in
    let ops = operations_in c.args.operations.now in
    let known = c.newest_known-known.result in
    let raw = c.newest_seen.result in
    let count = labels_in c.args.tracker.now.now in
    record {
      last = refl;
      below = c.requires.view;
      low = subst (λ o. IfSome o (λ m. m < count)) (sym c.newer_than-next.ensures)
          (low_newer known raw count c.newest_seen.ensures.below);
      next = λ past stands previous. subst (IsNextOf past.records n r) (sym c.newer_than-next.ensures)
          (next_newer past.records ops last n r known raw
          (next_first past.records ops last n r raw (c.newest_seen.ensures.newest past stands.visibility)));
      found = λ past stands previous it.
          subst (λ o. IsFinding past.records ops last n (IsReached past.records last r o) c.args.view.now.newest c.args.changed.now.items)
          (sym c.newer_than-next.ensures)
          (reach_other past.records ops last n (IsOfReplicaBelow past.records last r)
          (IsReached past.records last r (newer_than known raw)) c.args.view.now.newest c.args.changed.now.items
          (λ k seen reached. reach_first past.records ops last n r raw (c.newest_seen.ensures.newest past stands.visibility) k seen
          (reach_newer past.records ops last n r known raw
          (earlier_seen_by c.args.tracker.now.now past stands.visibility last c.requires.view.last)
          (c.newest_known-known.ensures past stands.visibility) k seen reached)) it);
    }

pub loop-next-preserved : goal.loop-next-preserved
loop-next-preserved c =
    let n = c.args.label in
    let r = c.args.replica in
    let last = c.args.view.now.last in
    let ops = operations_in c.args.operations.now in
    let known = c.newest_known-known.result in
    let m = c.in-Some.update in
    let raw = get_or c.args.previous.now m None in
    let count = labels_in c.args.tracker.now.now in
    let kept = c.loop-next.invariant in
    let low : m < count = subst (λ o. IfSome o (λ k. k < count)) c.in-Some.is kept.low in
    let old = c.loop-next.view.newest in
    let new = c.take.new.newest in
    let before = c.loop-next.changed.items in
    let after = c.take.new.changed.items in
    record {
      last = kept.last;
      below = record {
        last = kept.below.last;
        newest = low_taken ops r m count old new before after c.in_ok-take.ensures low kept.below.newest;
      };
      low = subst (λ o. IfSome o (λ k. k < count)) (sym c.newer_than-next-in-Some.ensures)
          (low_newer known raw count (low_earlier raw m count (c.requires.earlier.earlier m) low));
      next = λ past stands previous. subst (IsNextOf past.records n r) (sym c.newer_than-next-in-Some.ensures)
          (next_newer past.records ops last n r known raw
          (next_previous past.records ops last n r m raw
          (subst (IsNextOf past.records n r) c.in-Some.is (kept.next past stands previous)) (previous m low)));
      found = λ past stands previous it.
          let (issued, (o, o_seen, o_issued, less)) = subst (IsNextOf past.records n r) c.in-Some.is (kept.next past stands previous) in
          let seen : (x : ℕ) → _ → sees past.records n m ≡ true = λ x passes.
          earlier_seen c.args.tracker.now.now past stands.visibility n c.requires.label m o o_seen less (issued ∙ sym o_issued)
          (stands.updates x m passes) in
          subst (λ p. IsFinding past.records ops last n (IsReached past.records last r p) new after)
          (sym c.newer_than-next-in-Some.ensures)
          (reach_other past.records ops last n (λ k. IsReached past.records last r (Some m) k ⊎ (k ≡ m))
          (IsReached past.records last r (newer_than known raw)) new after
          (λ k k_seen reached. reach_previous past.records ops last n r m raw issued (previous m low) k
          (reach_newer past.records ops last n r known raw
          (earlier_seen_by c.args.tracker.now.now past stands.visibility last c.requires.view.last)
          (c.newest_known-known.ensures past stands.visibility) k k_seen reached))
          (take_more past.records ops last n r m (IsReached past.records last r (Some m)) old new before after issued seen
          c.in_ok-take.ensures
          (subst (λ p. IsFinding past.records ops last n (IsReached past.records last r p) old before) c.in-Some.is
          (kept.found past stands previous it))));
    }

pub returns-clause-found : goal.returns-clause-found
returns-clause-found c = λ past stands previous it.
    let n = c.args.label in
    let r = c.args.replica in
    let last = c.args.view.now.last in
    let ops = operations_in c.args.operations.now in
    reach_other past.records ops last n (IsReached past.records last r None) (IsOfReplicaBelow past.records last (r + 1))
    c.loop-next.view.newest c.loop-next.changed.items
    (λ k seen below. reach_end past.records ops last n r k below)
    (subst (λ p. IsFinding past.records ops last n (IsReached past.records last r p) c.loop-next.view.newest c.loop-next.changed.items)
    c.in_default.is (c.loop-next.invariant.found past stands previous it))
