-- Lemmas on runs: no label is missing if a label is its issuer's next one at the receiver and shares its stored counts
-- with the update before it.
use Rattle.std.proofs.Common.{◌≡◌, ◌≢◌, ℕ, ◌-◌, ◌<◌, List, get_or, None, sym, ap, ◌∙◌, subst, ⊎_elim, arith}
use Rattle.std.proofs.lemmas.List.{get_or-set_other}
use Rattle.ra_visibility.specs.declared.row.Row.{Row}
use Rattle.ra_visibility.specs.Tracked.{Tracked, replicas_in, labels_in, replica_at, row_at, delivered_count, seen_count, counts_at, is_missing, first_missing_in}
use Rattle.ra_visibility.specs.Kept.{TrackedKept, IsUpdateOf, issued_at}
use Rattle.ra_visibility.proofs.Tests.{at_or_else, both_or_none}
use Rattle.ra_visibility.proofs.MissingLabels.{find_none, seen_own, missing_where}

-- the number of updates of another replica that a label sees is in its stored counts
pub seen_other : (t : Tracked) (n of : ℕ) → of ≢ (row_at t n).replica → seen_count t n of ≡ get_or (counts_at t (row_at t n).counts (row_at t n).width) of 0
seen_other t n of other = get_or-set_other (counts_at t (row_at t n).counts (row_at t n).width) (row_at t n).replica of (row_at t n).place 0 other

-- the label is its issuer's next one at the receiver, and shares its stored counts with the update before it
pub record IsNextOfRun (t : Tracked) (to label before : ℕ) : Type 0 where
  pub next : delivered_count t to (row_at t label).replica ≡ (row_at t label).place
  pub some : 0 < (row_at t label).place
  pub earlier : before ≡ issued_at t (row_at t label).replica ((row_at t label).place - 1)
  pub shared : (row_at t before).counts ≡ (row_at t label).counts
  pub width : (row_at t before).width ≡ (row_at t label).width

-- then no label is missing
pub run_misses_none : (t : Tracked) (to label before : ℕ) → TrackedKept t → to < replicas_in t → label < labels_in t → IsNextOfRun t to label before
    → first_missing_in t to label ≡ None
run_misses_none t to label before kept receiver there run =
    let from = (row_at t label).replica in
    let place = (row_at t label).place in
    let known : from < replicas_in t = kept.row_replica label there in
    let issued = kept.issued_row from (place - 1) known (omega (arith, run.next, run.some, kept.had_issued to from receiver known)) in
    let is = subst (λ n. IsUpdateOf t from (place - 1) n) (sym run.earlier) issued in
    find_none (is_missing t to label) 0 (labels_in t) (λ m low high. ⊎_elim
    (λ missing.
    let lacks = missing_where t to label m missing in
    let r = (row_at t m).replica in
    at_or_else r from
    (λ own. absurd (omega (arith, lacks.seen, lacks.lacked, ap (seen_count t label) own, ap (delivered_count t to) own, seen_own t label kept there, run.next)))
    (λ other.
    let same : seen_count t label r ≡ seen_count t before r =
    seen_other t label r other
    ∙ (λ i. get_or (counts_at t (sym run.shared i) (sym run.width i)) r 0)
    ∙ sym (seen_other t before r (λ e. other (e ∙ is.replica))) in
    let had : (row_at t before).place < delivered_count t to (row_at t before).replica =
    omega (arith, is.place, ap (delivered_count t to) is.replica, run.next, run.some) in
    let all = kept.closed to before r receiver is.there (kept.row_replica m (omega (arith, high))) is.update had in
    absurd (omega (arith, lacks.seen, lacks.lacked, same, all))))
    (λ fine. fine)
    (both_or_none (is_missing t to label m)))

-- the same, in terms of the values that the code reads
pub run_read : (t : Tracked) (to label : ℕ) (row before : Row) (counts issued : List ℕ) → row ≡ row_at t label → counts ≡ (replica_at t to).counts
    → get_or counts row.replica 0 ≡ row.place → get_or counts row.replica 0 ≢ 0 → issued ≡ (replica_at t row.replica).issued
    → before ≡ row_at t (get_or issued (get_or counts row.replica 0 - 1) 0) → before.counts ≡ row.counts → before.width ≡ row.width
    → IsNextOfRun t to label (get_or issued (get_or counts row.replica 0 - 1) 0)
run_read t to label row before counts issued is counts_are next more issued_are before_is shared width = record {
  next =
      ap (λ (r : Row). delivered_count t to r.replica) (sym is) ∙ sym (ap (λ xs. get_or xs row.replica 0) counts_are)
      ∙ next ∙ ap (λ (r : Row). r.place) is;
  some = omega (arith, next, more, ap (λ (r : Row). r.place) is);
  earlier =
      ap (λ xs. get_or xs (get_or counts row.replica 0 - 1) 0) issued_are
      ∙ ap (λ k. issued_at t row.replica (k - 1)) next
      ∙ ap (λ (r : Row). issued_at t r.replica (r.place - 1)) is;
  shared = sym (ap (λ (r : Row). r.counts) before_is) ∙ shared ∙ ap (λ (r : Row). r.counts) is;
  width = sym (ap (λ (r : Row). r.width) before_is) ∙ width ∙ ap (λ (r : Row). r.width) is;
}
