use Rattle.std.proofs.Common.{◌≡◌, ◌<◌, ◌+◌, ℕ, List, refl, sym, subst, ◌∙◌, arith}
use Rattle.ra_labels.specs.Records.{label_count}
use Rattle.ra_theorems.proofs.TheoremIndex.{sees_earlier_updates-updates, delivered_are_updates-there}
use Rattle.ra_labels.specs.declared.operation.Op.TheVariants as op
use Rattle.std.specs.Prelude.{slice_get, Some}
use Rattle.ra_any_order.specs.Finding.{IsFinding, IsOfReplicaBelow}
use Rattle.ra_any_order.specs.Situation.{operations_in}
use Rattle.ra_any_order.proofs.SeenBefore.{earlier_seen_by, all_seen_later}
use Rattle.ra_any_order.proofs.FoundChanges.{reach_none, reach_all}
use Rattle.ra_any_order.proofs.changes.find_changes.Goals as goal

pub loop-replica-init : goal.loop-replica-init
loop-replica-init c = record {
  last = refl;
  below = c.requires.view;
  found = λ past stands previous view.
      let below : c.args.label < label_count past.records =
      subst (λ k. c.args.label < k) stands.visibility.labels c.requires.label in
      subst (λ xs. IsFinding past.records (operations_in c.args.operations.now) c.args.view.now.last c.args.label
      (IsOfReplicaBelow past.records c.args.view.now.last 0) c.args.view.now.newest xs) (sym c.new-changed.ensures.items)
      (reach_none past.records (operations_in c.args.operations.now) c.args.view.now.last c.args.label
      c.args.view.now.newest view.newest (all_seen_later past.records c.args.view.now.last c.args.label
      (λ q. (list : List ℕ) × (slice_get (operations_in c.args.operations.now) q ≡ Some (op.LwwRead list))) below view.last));
}

pub loop-replica-preserved : goal.loop-replica-preserved
loop-replica-preserved c =
    let n = c.args.label in
    let ops = operations_in c.args.operations.now in
    let q = c.loop-replica.replica in
    let kept = c.loop-replica.invariant in
    let made = c.find_of_replica.new in
    record {
      last = c.in_ok-find_of_replica.ensures.last ∙ kept.last;
      below = c.in_ok-find_of_replica.ensures.below;
      found = λ past stands previous view.
          subst (λ p. IsFinding past.records ops p n (IsOfReplicaBelow past.records p (q + 1)) made.view.newest made.changed.items)
          kept.last (c.in_ok-find_of_replica.ensures.found past stands previous
          (subst (λ p. IsFinding past.records ops p n (IsOfReplicaBelow past.records p q) c.loop-replica.view.newest
          c.loop-replica.changed.items) (sym kept.last) (kept.found past stands previous view)));
    }

pub returns-clause-found : goal.returns-clause-found
returns-clause-found c = λ past stands previous view.
    let last = c.args.view.now.last in
    reach_all past.records (operations_in c.args.operations.now) last c.args.label c.loop-replica.view.newest
    c.loop-replica.changed.items c.loop-replica.replica
    (earlier_seen_by c.args.tracker.now.now past stands.visibility last c.requires.view.last)
    (λ k seen.
    let updates = sees_earlier_updates-updates past.records c.args.label k seen in
    let there = delivered_are_updates-there past.records k updates in
    let labels = stands.visibility.labels in
    let below = c.replicas-replica-end.ensures.issuers past stands.visibility k (omega (arith, there, labels)) in
    let end = c.loop-replica-test.false in
    omega (arith, below, end))
    (c.loop-replica.invariant.found past stands previous view)
