-- Lemmas on a changed tracker: its invariant, its visibility, and the state after the change is withdrawn.
use Rattle.std.proofs.Common.{◌≡◌, ℕ, ◌+◌, ◌<◌, Bool, Option, None, sym, ap, ◌∙◌, subst, arith}
use Rattle.std.specs.Prelude.{is_none}
use Rattle.ra_labels.specs.declared.command.Command.TheVariants.{Operate, Deliver}
use Rattle.ra_labels.specs.declared.command.Command.TheVariants as command
use Rattle.ra_labels.specs.declared.limits.TheConstants.{MOST_REPLICAS}
use Rattle.ra_labels.specs.Visibility.{is_update}
use Rattle.ra_labels.specs.HistorySoFar.{History, history_with, NextOperation, operate}
use Rattle.ra_visibility.specs.declared.last_change.LastChange.TheVariants.{Issue, Delivery, Join}
use Rattle.ra_visibility.specs.declared.stored.Stored.{Stored}
use Rattle.ra_visibility.specs.declared.limits.TheConstants.{MOST_LABELS}
use Rattle.ra_visibility.specs.Tracked.{Tracked, IsVisibilityOf, replicas_in, labels_in, replica_at, row_at, delivered_count, refusal_in}
use Rattle.ra_visibility.specs.Changes.{with_label, without_label, with_delivery, without_delivery, with_joined, without_joined}
use Rattle.ra_visibility.specs.Kept.{TrackedKept}
use Rattle.ra_visibility.specs.Tracker.{TrackerKept}
use Rattle.ra_visibility.proofs.IssuedRows.{labels_more}
use Rattle.ra_visibility.proofs.NextLabels.{kept_issued}
use Rattle.ra_visibility.proofs.IssuedVisibility.{stands_issued}
use Rattle.ra_visibility.proofs.Deliveries.{kept_delivered, stands_delivered, gained_more}
use Rattle.ra_visibility.proofs.MissingLabels.{next_where_taken}
use Rattle.ra_visibility.proofs.Withdrawals.{label_back, delivery_back, join_back}
use Rattle.ra_visibility.proofs.Joins.{one_more, kept_joined, stands_joined}

-- the tracker before and after an operation is issued
pub record Issues (old new : Tracked) (by : ℕ) (update was_stored : Bool) : Type 0 where
  pub kept : TrackedKept old
  pub replica : by < replicas_in old
  pub room : labels_in old < MOST_LABELS
  pub made : new ≡ with_label old by update
  pub stored : was_stored ≡ is_none (replica_at old by).stored

-- the same, from its fields
pub issues : (inside old new : Tracked) (by : ℕ) (update was_stored : Bool) → inside ≡ old → TrackedKept inside → by < replicas_in old → labels_in old < MOST_LABELS
    → new ≡ with_label inside by update → was_stored ≡ is_none (replica_at inside by).stored → Issues old new by update was_stored
issues inside old new by update was_stored same kept replica room made stored = record {
  kept = subst TrackedKept same kept;
  replica = replica;
  room = room;
  made = made ∙ ap (λ t. with_label t by update) same;
  stored = stored ∙ ap (λ t. is_none (replica_at t by).stored) same;
}

pub issue_taken_back : (old new : Tracked) (by : ℕ) (update was_stored : Bool) → Issues old new by update was_stored → without_label new was_stored ≡ old
issue_taken_back old new by update was_stored is =
    ap (λ t. without_label t was_stored) is.made ∙ ap (without_label (with_label old by update)) is.stored ∙ label_back old by update is.kept is.replica

pub issue_keeps : (old new : Tracked) (by : ℕ) (update was_stored : Bool) → Issues old new by update was_stored → TrackerKept new (Issue was_stored)
issue_keeps old new by update was_stored is = record {
  now = subst TrackedKept (sym is.made) (kept_issued old by update is.kept is.replica is.room);
  before = subst TrackedKept (sym (issue_taken_back old new by update was_stored is)) is.kept;
  taken_back = omega (arith, ap labels_in is.made, labels_more old by update);
}

pub issue_stands : (old new : Tracked) (by : ℕ) (update was_stored : Bool) → Issues old new by update was_stored
    → (past : History) (next : NextOperation) → IsVisibilityOf old past → next.by ≡ by → is_update next.op ≡ update
    → IsVisibilityOf new (history_with past (operate next))
issue_stands old new by update was_stored is past next stands same kind =
    subst (λ r. IsVisibilityOf new (history_with past (Operate r next.op next.clock))) (sym same)
    (subst (λ t. IsVisibilityOf t (history_with past (Operate by next.op next.clock))) (sym is.made)
    (stands_issued old by past next.op next.clock update is.kept is.replica stands kind))

-- the tracker before and after a delivery that is not refused
pub record Delivers (old new : Tracked) (to label from : ℕ) (at : Option Stored) : Type 0 where
  pub kept : TrackedKept old
  pub replica : to < replicas_in old
  pub taken : refusal_in old to label ≡ None
  pub made : new ≡ with_delivery old to label
  pub whose : from ≡ (row_at old label).replica
  pub stored : at ≡ (replica_at old to).stored

-- the same, from its fields
pub delivers : (inside old new : Tracked) (to label from : ℕ) (at : Option Stored) → inside ≡ old → TrackedKept inside → to < replicas_in old → None ≡ refusal_in inside to label
    → new ≡ with_delivery inside to label → from ≡ (row_at inside label).replica → at ≡ (replica_at inside to).stored → Delivers old new to label from at
delivers inside old new to label from at same kept replica taken made is stored = record {
  kept = subst TrackedKept same kept;
  replica = replica;
  taken = sym (ap (λ t. refusal_in t to label) same) ∙ sym taken;
  made = made ∙ ap (λ t. with_delivery t to label) same;
  whose = is ∙ ap (λ t. (row_at t label).replica) same;
  stored = stored ∙ ap (λ t. (replica_at t to).stored) same;
}

pub delivery_taken_back : (old new : Tracked) (to label from : ℕ) (at : Option Stored) → Delivers old new to label from at → without_delivery new to from at ≡ old
delivery_taken_back old new to label from at is =
    let next = next_where_taken old to label is.kept is.replica is.taken in
    ap (λ t. without_delivery t to from at) is.made ∙ delivery_back old to label from at is.kept is.replica next.there is.whose is.stored

pub delivery_keeps : (old new : Tracked) (to label from : ℕ) (at : Option Stored) → Delivers old new to label from at → TrackerKept new (Delivery to from at)
delivery_keeps old new to label from at is =
    let next = next_where_taken old to label is.kept is.replica is.taken in
    let more = gained_more old to label is.kept next in
    record {
      now = subst TrackedKept (sym is.made) (kept_delivered old to label is.kept next);
      before = subst TrackedKept (sym (delivery_taken_back old new to label from at is)) is.kept;
      taken_back = (
        omega (arith, ap replicas_in is.made, more.0, is.replica),
        omega (arith, ap replicas_in is.made, more.0, is.whose, is.kept.row_replica label next.there),
        omega (arith, ap (λ t. delivered_count t to from) is.made, ap (delivered_count (with_delivery old to label) to) is.whose, more.1),
      );
    }

pub delivery_stands : (old new : Tracked) (to label from : ℕ) (at : Option Stored) → Delivers old new to label from at
    → (past : History) → IsVisibilityOf old past → IsVisibilityOf new (history_with past (Deliver to label))
delivery_stands old new to label from at is past stands =
    let next = next_where_taken old to label is.kept is.replica is.taken in
    subst (λ t. IsVisibilityOf t (history_with past (Deliver to label))) (sym is.made) (stands_delivered old past to label is.kept next stands)

-- the tracker before and after a join
pub record Joins (old new : Tracked) (from : ℕ) : Type 0 where
  pub kept : TrackedKept old
  pub there : from < replicas_in old
  pub room : replicas_in old < MOST_REPLICAS
  pub made : new ≡ with_joined old from

-- the same, from its fields
pub joins : (inside old new : Tracked) (from : ℕ) → inside ≡ old → TrackedKept inside → from < replicas_in old → replicas_in old < MOST_REPLICAS
    → new ≡ with_joined inside from → Joins old new from
joins inside old new from same kept there room made = record {
  kept = subst TrackedKept same kept;
  there = there;
  room = room;
  made = made ∙ ap (λ t. with_joined t from) same;
}

pub join_taken_back : (old new : Tracked) (from : ℕ) → Joins old new from → without_joined new ≡ old
join_taken_back old new from is = ap without_joined is.made ∙ join_back old from

pub join_keeps : (old new : Tracked) (from : ℕ) → Joins old new from → TrackerKept new Join
join_keeps old new from is = record {
  now = subst TrackedKept (sym is.made) (kept_joined old from is.kept is.there is.room);
  before = subst TrackedKept (sym (join_taken_back old new from is)) is.kept;
  taken_back = omega (arith, ap replicas_in is.made, one_more old from);
}

pub join_more : (old new : Tracked) (from : ℕ) → Joins old new from → replicas_in new ≡ replicas_in old + 1
join_more old new from is = ap replicas_in is.made ∙ one_more old from

pub join_stands : (old new : Tracked) (from : ℕ) → Joins old new from → (past : History) → IsVisibilityOf old past
    → IsVisibilityOf new (history_with past (command.Join (replicas_in old) from))
join_stands old new from is past stands =
    subst (λ t. IsVisibilityOf t (history_with past (command.Join (replicas_in old) from))) (sym is.made) (stands_joined old from is.kept is.there past stands)
