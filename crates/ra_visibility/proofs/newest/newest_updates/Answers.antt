use Rattle.std.proofs.Common.{ℕ, ◌+◌, ◌<◌, sym, ap, subst, ◌∙◌, arith}
use Rattle.std.specs.Prelude.{Contains, IfSome}
use Rattle.ra_visibility.specs.Newest.{IsNewestSeen}
use Rattle.ra_visibility.specs.Tracked.{labels_in}
use Rattle.ra_theorems.proofs.TheoremIndex.{sees_earlier_updates-updates, delivered_are_updates-there}
use Rattle.ra_visibility.proofs.NewestLists.{AreNewestBelow, newest_more, newest_same, newest_all, below_more}
use Rattle.ra_visibility.proofs.newest.newest_updates.Goals.{in-Some+in_ok-push, in_default}
use Rattle.ra_visibility.proofs.newest.newest_updates.Goals as goal

pub loop-replica-preserved : goal.loop-replica-preserved
loop-replica-preserved c =
    let n = c.args.label in
    let q = c.loop-replica.replica in
    let kept = c.loop-replica.invariant in
    elim c.match-newest_seen.branch [
      | in-Some+in_ok-push w ↦
          let items = ap (λ v. v.items) w.newest-is ∙ w.in_ok-push.ensures.items in
          let last = subst (λ o. IfSome o (λ m. m < labels_in c.args.tracker.now.now)) w.in-Some.is c.newest_seen.ensures.below in
          record {
            below = subst (λ xs. (m : ℕ) → Contains xs m → m < labels_in c.args.tracker.now.now) (sym items)
                (below_more c.loop-replica.newest.items w.in-Some.update (labels_in c.args.tracker.now.now) kept.below last);
            are = λ past stands. subst (λ xs. AreNewestBelow past.records n xs (q + 1)) (sym items)
                (newest_more past.records n c.loop-replica.newest.items q w.in-Some.update (kept.are past stands)
                (subst (IsNewestSeen past.records n q) w.in-Some.is (c.newest_seen.ensures.newest past stands)));
          }
      | in_default w ↦
          let items = ap (λ v. v.items) w.newest-is in
          record {
            below = subst (λ xs. (m : ℕ) → Contains xs m → m < labels_in c.args.tracker.now.now) (sym items) kept.below;
            are = λ past stands. subst (λ xs. AreNewestBelow past.records n xs (q + 1)) (sym items)
                (newest_same past.records n c.loop-replica.newest.items q (kept.are past stands)
                (subst (IsNewestSeen past.records n q) w.in_default.is (c.newest_seen.ensures.newest past stands)));
          }
    ]

pub returns-clause-newest : goal.returns-clause-newest
returns-clause-newest c = λ past stands. newest_all past.records c.args.label c.loop-replica.newest.items c.loop-replica.replica
    (c.loop-replica.invariant.are past stands) (λ k seen.
    let updates = sees_earlier_updates-updates past.records c.args.label k seen in
    let there = delivered_are_updates-there past.records k updates in
    let labels = stands.labels in
    let below = c.replicas-replica-end.ensures.issuers past stands k (omega (arith, there, labels)) in
    let end = c.loop-replica-test.false in
    omega (arith, below, end))
