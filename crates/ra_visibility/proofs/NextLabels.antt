-- Lemmas on the tracker after a replica's next label.
use Rattle.std.proofs.Common.{◌≡◌, ◌≢◌, ℕ, ◌+◌, ◌<◌, ◌≤◌, Bool, true, false, length, get_or, Some, refl, sym, ap, ◌∙◌, subst, arith}
use Rattle.ra_visibility.specs.declared.limits.TheConstants.{MOST_LABELS}
use Rattle.ra_visibility.specs.declared.row.Row.{Row}
use Rattle.ra_visibility.specs.declared.stored.Stored.{Stored}
use Rattle.ra_visibility.specs.Replica.{Replica}
use Rattle.ra_visibility.specs.Tracked.{Tracked, seen_count, replicas_in, labels_in, replica_at, row_at, delivered_count, counts_at}
use Rattle.ra_visibility.specs.Changes.{with_label}
use Rattle.ra_visibility.specs.Kept.{TrackedKept, IsUpdateOf, issued_count, issued_at}
use Rattle.ra_visibility.proofs.Tests.{at_or_else, below_or_not}
use Rattle.ra_visibility.proofs.IssuedRows.{ones, counts_of_label, own_replica, own_counts, own_counts_length, width_there, own_length, labels_more, row_new, row_else, count_same, replica_there, replica_else, issued_there, issued_else, issued_more, issued_before, issued_last, had_there, had_own, had_else, counts_same, counts_new, counts_there, seen_before, seen_new, stored_longer}

-- the earlier updates, and the new one
update_before : (t : Tracked) (by q p n : ℕ) (update : Bool) → IsUpdateOf t q p n → IsUpdateOf (with_label t by update) q p n
update_before t by q p n update is =
    let row = row_else t by n update (omega (arith, is.there)) in
    record {
      there = omega (arith, labels_more t by update, is.there);
      replica = ap (λ (r : Row). r.replica) row ∙ is.replica;
      update = ap (λ (r : Row). r.is_update) row ∙ is.update;
      place = ap (λ (r : Row). r.place) row ∙ is.place;
    }

update_new : (t : Tracked) (by q p : ℕ) (update : Bool) → update ≡ true → q ≡ by → p ≡ issued_count t by → IsUpdateOf (with_label t by update) q p (labels_in t)
update_new t by q p update is own last =
    let row = row_new t by (labels_in t) update refl in
    record {
      there = omega (arith, labels_more t by update);
      replica = ap (λ (r : Row). r.replica) row ∙ sym own;
      update = ap (λ (r : Row). r.is_update) row ∙ is;
      place = ap (λ (r : Row). r.place) row ∙ sym last;
    }

-- a label that adds an update is one
is_one : (update : Bool) → 0 < ones update → update ≡ true
is_one true more = refl
is_one false more = absurd (omega arith)

no_more : (update : Bool) → ones update ≤ 1
no_more true = omega arith
no_more false = omega arith

-- the number of updates of each replica delivered to another one, after the label
had_within : (t : Tracked) (by q of : ℕ) (update : Bool) → TrackedKept t → by < replicas_in t → q < replicas_in t → of < replicas_in t
    → delivered_count (with_label t by update) q of ≤ issued_count (with_label t by update) of
had_within t by q of update kept below known inside =
    let was = kept.had_issued q of known inside in
    at_or_else q by
    (λ same. at_or_else of by
    (λ own. omega (arith, was, issued_there t by of update below own, had_own t by q of update below (omega (arith, kept.had_length by below)) same own))
    (λ foreign. omega (arith, was, issued_else t by of update foreign, had_there t by q of update below same foreign)))
    (λ other. omega (arith, was, issued_more t by of update below, had_else t by q of update other))

had_no_less : (t : Tracked) (by q of : ℕ) (update : Bool) → TrackedKept t → by < replicas_in t → delivered_count t q of ≤ delivered_count (with_label t by update) q of
had_no_less t by q of update kept below = at_or_else q by
    (λ same. at_or_else of by
    (λ own. omega (arith, had_own t by q of update below (omega (arith, kept.had_length by below)) same own))
    (λ foreign. omega (arith, had_there t by q of update below same foreign)))
    (λ other. omega (arith, had_else t by q of update other))

-- the delivered updates stay causally closed: for the new label, delivered to its issuer alone, and for earlier ones
closed_issued : (t : Tracked) (by q n of : ℕ) (update : Bool) → TrackedKept t → by < replicas_in t → q < replicas_in t → of < replicas_in t
    → n < labels_in (with_label t by update) → (row_at (with_label t by update) n).is_update ≡ true
    → (row_at (with_label t by update) n).place < delivered_count (with_label t by update) q (row_at (with_label t by update) n).replica
    → seen_count (with_label t by update) n of ≤ delivered_count (with_label t by update) q of
closed_issued t by q n of update kept below known inside there is had =
    let new = with_label t by update in
    let no_less = had_no_less t by q of update kept below in
    at_or_else n (labels_in t)
    (λ last.
    let place : issued_count t by < delivered_count new q by = subst (λ (r : Row). r.place < delivered_count new q r.replica) (row_new t by n update last) had in
    at_or_else q by
    (λ same. omega (arith, seen_new t by n of update kept below inside last, no_less, ap (λ k. delivered_count t k of) same))
    (λ other. absurd (omega (arith, place, had_else t by q by update other, kept.had_issued q by known below))))
    (λ before.
    let row = row_else t by n update before in
    let r = (row_at t n).replica in
    let p = (row_at t n).place in
    let early : n < labels_in t = omega (arith, there, labels_more t by update, before) in
    let was_update : (row_at t n).is_update ≡ true = sym (ap (λ (r : Row). r.is_update) row) ∙ is in
    let place : p < delivered_count new q r = subst (λ (r : Row). r.place < delivered_count new q r.replica) row had in
    let was : p < delivered_count t q r = at_or_else q by
    (λ same. at_or_else r by
    (λ own. omega (arith, (kept.row_issued n early was_update).0, kept.had_own q known, ap (delivered_count t q) (own ∙ sym same), ap (issued_count t) (own ∙ sym same)))
    (λ foreign. omega (arith, place, had_there t by q r update below same foreign)))
    (λ other. omega (arith, place, had_else t by q r update other)) in
    omega (arith, ap (λ xs. get_or xs of 0) (seen_before t by n update kept early), kept.closed q n of known early inside was_update was, no_less))

-- the stored counts of a replica, after the label
stored_after : (t : Tracked) (by q : ℕ) (at : Stored) (update : Bool) → by < replicas_in t → (replica_at (with_label t by update) q).stored ≡ Some at → q ≡ by → counts_of_label t by ≡ at
stored_after t by q at update below e same = cc (e, ap (λ (r : Replica). r.stored) (replica_there t by q update below same))

stored_else : (t : Tracked) (by q : ℕ) (at : Stored) (update : Bool) → (replica_at (with_label t by update) q).stored ≡ Some at → q ≢ by → (replica_at t q).stored ≡ Some at
stored_else t by q at update e other = sym (ap (λ (r : Replica). r.stored) (replica_else t by q update other)) ∙ e

-- the invariant holds after the label
pub kept_issued : (t : Tracked) (by : ℕ) (update : Bool) → TrackedKept t → by < replicas_in t → labels_in t < MOST_LABELS → TrackedKept (with_label t by update)
kept_issued t by update kept below room =
    let new = with_label t by update in
    let count : replicas_in new ≡ replicas_in t = count_same t by update in
    let labels : labels_in new ≡ labels_in t + 1 = labels_more t by update in
    let inside : by < length (replica_at t by).counts = omega (arith, kept.had_length by below) in
    let places : length (own_replica t by update).counts ≡ length (replica_at t by).counts = own_length (replica_at t by) by (labels_in t) update in
    let counts : length (own_counts t by update) ≡ replicas_in t = own_counts_length t by update kept below in
    let longer = stored_longer (replica_at t by).stored t.stored (own_counts t by update) in
    let width = width_there t by kept below in
    let long_enough : (q : ℕ) → q < replicas_in t → length (replica_at new q).counts ≡ length (replica_at t q).counts = λ q known. at_or_else q by
    (λ same. ap (λ (r : Replica). length r.counts) (replica_there t by q update below same) ∙ places ∙ ap (λ k. length (replica_at t k).counts) (sym same))
    (λ other. ap (λ (r : Replica). length r.counts) (replica_else t by q update other)) in
    record {
      few_replicas = omega (arith, count, kept.few_replicas);
      few_labels = omega (arith, labels, room);
      few_counts = omega (arith, labels, counts, longer.1, kept.few_counts, kept.few_replicas);
      few_issued = λ q. at_or_else q by
          (λ same. omega (arith, labels, issued_there t by q update below same, kept.few_issued q, no_more update))
          (λ other. omega (arith, labels, issued_else t by q update other, kept.few_issued q));
      row_replica = λ n l. at_or_else n (labels_in t)
          (λ last. omega (arith, count, ap (λ (r : Row). r.replica) (row_new t by n update last)))
          (λ before. omega (arith, count, ap (λ (r : Row). r.replica) (row_else t by n update before), kept.row_replica n (omega (arith, labels, l, before))));
      row_counts = λ n l. at_or_else n (labels_in t)
          (λ last. omega (arith, ap (λ (r : Row). r.counts + r.width) (row_new t by n update last), counts_there t by update kept below))
          (λ before. omega (arith, ap (λ (r : Row). r.counts + r.width) (row_else t by n update before), longer.0, kept.row_counts n (omega (arith, labels, l, before))));
      row_width = λ n l. at_or_else n (labels_in t)
          (λ last. let row = row_new t by n update last in (
            subst (λ (r : Row). r.replica < r.width) (sym row) width.0,
            subst (λ (r : Row). r.width ≤ replicas_in new) (sym row) (omega (arith, count, width.1)),
          ))
          (λ before.
          let row = row_else t by n update before in
          let old = kept.row_width n (omega (arith, labels, l, before)) in (
            subst (λ (r : Row). r.replica < r.width) (sym row) old.0,
            subst (λ (r : Row). r.width ≤ replicas_in new) (sym row) (omega (arith, count, old.1)),
          ));
      row_seen = λ n of l o. at_or_else n (labels_in t)
          (λ last. omega (arith, seen_new t by n of update kept below (omega (arith, count, o)) last, kept.had_issued by of below (omega (arith, count, o)), issued_more t by of update below))
          (λ before.
          let early : n < labels_in t = omega (arith, labels, l, before) in
          omega (arith, ap (λ xs. get_or xs of 0) (seen_before t by n update kept early), kept.row_seen n of early (omega (arith, count, o)), issued_more t by of update below));
      row_issued = λ n l u. at_or_else n (labels_in t)
          (λ last.
          let row = row_new t by n update last in
          let is : update ≡ true = sym (ap (λ (r : Row). r.is_update) row) ∙ u in (
            subst (λ (r : Row). r.place < issued_count new r.replica) (sym row)
                (omega (arith, issued_there t by by update below refl, ap ones is)),
            subst (λ (r : Row). issued_at new r.replica r.place ≡ n) (sym row)
                (issued_last t by by (issued_count t by) update below is refl refl ∙ sym last),
          ))
          (λ before.
          let row = row_else t by n update before in
          let old = kept.row_issued n (omega (arith, labels, l, before)) (sym (ap (λ (r : Row). r.is_update) row) ∙ u) in
          let r = (row_at t n).replica in (
            subst (λ (r : Row). r.place < issued_count new r.replica) (sym row) (omega (arith, old.0, issued_more t by r update below)),
            subst (λ (r : Row). issued_at new r.replica r.place ≡ n) (sym row) (issued_before t by r (row_at t n).place update below old.0 ∙ old.1),
          ));
      issued_row = λ q p lq lp. below_or_not p (issued_count t q)
          (λ before.
          subst (λ n. IsUpdateOf new q p n) (sym (issued_before t by q p update below before))
          (update_before t by q p (issued_at t q p) update (kept.issued_row q p (omega (arith, count, lq)) before)))
          (λ after. at_or_else q by
          (λ same.
          let more : issued_count new q ≡ issued_count t q + ones update = issued_there t by q update below same in
          let is : update ≡ true = is_one update (omega (arith, more, lp, after)) in
          let last : p ≡ issued_count t q = omega (arith, more, lp, after, no_more update) in
          subst (λ n. IsUpdateOf new q p n) (sym (issued_last t by q p update below is same last))
          (update_new t by q p update is same (last ∙ ap (issued_count t) same)))
          (λ other. absurd (omega (arith, issued_else t by q update other, lp, after))));
      issued_rise = λ q p r lq pr lr.
          let known : q < replicas_in t = omega (arith, count, lq) in
          below_or_not r (issued_count t q)
          (λ before.
          omega (arith, issued_before t by q p update below (omega (arith, pr, before)), issued_before t by q r update below before, kept.issued_rise q p r known pr before))
          (λ after. at_or_else q by
          (λ same.
          let more : issued_count new q ≡ issued_count t q + ones update = issued_there t by q update below same in
          let is : update ≡ true = is_one update (omega (arith, more, lr, after)) in
          let last : r ≡ issued_count t q = omega (arith, more, lr, after, no_more update) in
          let early : p < issued_count t q = omega (arith, pr, last) in
          omega (arith, issued_before t by q p update below early, issued_last t by q r update below is same last, (kept.issued_row q p known early).there))
          (λ other. absurd (omega (arith, issued_else t by q update other, lr, after))));
      had_length = λ q lq. let known : q < replicas_in t = omega (arith, count, lq) in omega (arith, count, long_enough q known, kept.had_length q known);
      had_places = λ q lq. let known : q < replicas_in t = omega (arith, count, lq) in omega (arith, long_enough q known, kept.had_places q known);
      had_beyond = λ q of lq past.
          let known : q < replicas_in t = omega (arith, count, lq) in
          let none = kept.had_beyond q of known (omega (arith, count, past)) in
          at_or_else q by
          (λ same. had_there t by q of update below same (λ own. absurd (omega (arith, own, below, count, past))) ∙ none)
          (λ other. had_else t by q of update other ∙ none);
      had_issued = λ q of lq lof. had_within t by q of update kept below (omega (arith, count, lq)) (omega (arith, count, lof));
      had_own = λ q lq. at_or_else q by
          (λ same. omega (arith, had_own t by q q update below inside same same, issued_there t by q update below same, kept.had_own q (omega (arith, count, lq))))
          (λ other. omega (arith, had_else t by q q update other, issued_else t by q update other, kept.had_own q (omega (arith, count, lq))));
      closed = λ q n of lq ln lof u h. closed_issued t by q n of update kept below (omega (arith, count, lq)) (omega (arith, count, lof)) ln u h;
      stored_there = λ q at lq e. at_or_else q by
          (λ same. omega (arith, ap (λ (s : Stored). s.at + s.width) (stored_after t by q at update below e same), counts_there t by update kept below))
          (λ other. omega (arith, longer.0, kept.stored_there q at (omega (arith, count, lq)) (stored_else t by q at update e other)));
      stored_width = λ q at lq e. at_or_else q by
          (λ same. let is = ap (λ (s : Stored). s.width) (stored_after t by q at update below e same) in
          (omega (arith, same, is, width.0), omega (arith, count, is, width.1)))
          (λ other. let was = kept.stored_width q at (omega (arith, count, lq)) (stored_else t by q at update e other) in
          (was.0, omega (arith, count, was.1)));
      stored_same = λ q at of lq e lof differs.
          let known : q < replicas_in t = omega (arith, count, lq) in
          let inside_of : of < replicas_in t = omega (arith, count, lof) in
          at_or_else q by
          (λ same.
          let foreign : of ≢ by = λ own. differs (own ∙ sym same) in
          ap (λ (s : Stored). get_or (counts_at new s.at s.width) of 0) (sym (stored_after t by q at update below e same))
          ∙ counts_new t by of update kept below inside_of foreign
          ∙ ap (λ k. delivered_count t k of) (sym same)
          ∙ sym (had_there t by q of update below same foreign))
          (λ other.
          let was = stored_else t by q at update e other in
          ap (λ xs. get_or xs of 0) (counts_same t by at.at at.width update (kept.stored_there q at known was))
          ∙ kept.stored_same q at of known was inside_of differs
          ∙ sym (had_else t by q of update other));
    }
