-- Lemmas on the counts of what a label sees: none exceeds the number of updates that its replica issued.
use Rattle.std.proofs.Common.{◌≡◌, ℕ, ◌<◌, length, ap, inl, inr, arith}
use Rattle.std.specs.Prelude.{◌≤◌, set, drop}
use Rattle.std.proofs.lemmas.Bool.{cases_lt}
use Rattle.std.proofs.lemmas.List.{get_or_past, length-set, length-take}
use Rattle.ra_labels.specs.Places.{updates_issued}
use Rattle.ra_labels.specs.HistorySoFar.{History}
use Rattle.ra_visibility.specs.Replica.{Replica, new_replica}
use Rattle.ra_visibility.specs.Seen.{count_in}
use Rattle.ra_visibility.specs.Tracked.{Tracked, IsVisibilityOf, replicas_in, labels_in, replica_at, row_at, seen_in, counts_at}
use Rattle.ra_visibility.specs.Kept.{TrackedKept, issued_count}

-- a label has no updates of a replica that does not exist
pub none_beyond : (t : Tracked) (n of : ℕ) → TrackedKept t → n < labels_in t → replicas_in t ≤ of → count_in (seen_in t n) of ≡ 0
none_beyond t n of kept there beyond =
    let row = row_at t n in
    let stored = counts_at t row.counts row.width in
    let few = length-take row.width (drop row.counts t.stored) in
    let width = (kept.row_width n there).1 in
    get_or_past (set stored row.replica row.place) of 0
    (omega (arith, length-set stored row.replica row.place, few, width, beyond))

pub seen_issued : (t : Tracked) (n of : ℕ) → TrackedKept t → n < labels_in t → count_in (seen_in t n) of ≤ issued_count t of
seen_issued t n of kept there = elim (cases_lt of (replicas_in t)) [
  | inl below ↦ kept.row_seen n of there below
  | inr beyond ↦ omega (arith, none_beyond t n of kept there (omega (arith, beyond)))
]

pub issued-records : (t : Tracked) (past : History) (of : ℕ) → IsVisibilityOf t past → issued_count t of ≤ updates_issued past.records of
issued-records t past of represents = elim (cases_lt of (replicas_in t)) [
  | inl below ↦ omega (arith, represents.issued of below)
  | inr beyond ↦
      let none : replica_at t of ≡ new_replica 0 = get_or_past t.replicas of (new_replica 0) (omega (arith, beyond)) in
      omega (arith, ap (λ (r : Replica). length r.issued) none)
]
