-- Lemmas on the tracker after a delivery of the next update of its issuer.
use Rattle.std.proofs.Common.{◌≡◌, ◌≢◌, ℕ, ◌+◌, ◌<◌, ◌≤◌, Bool, true, false, length, get_or, refl, sym, ap, ◌∙◌, subst, arith}
use Rattle.std.specs.Prelude.{◌==◌, ◌&&◌, ◌||◌, nat_lt, set}
use Rattle.std.proofs.lemmas.List.{length-set, get_or-set_same, get_or-set_other}
use Rattle.std.proofs.lemmas.Bool.{eq-eqb, ne_eqb, lt-ltb}
use Rattle.ra_labels.specs.declared.command.Command.TheVariants.{Deliver}
use Rattle.ra_labels.specs.Visibility.{has_delivered, is_update_at}
use Rattle.ra_labels.specs.HistorySoFar.{History, history_with}
use Rattle.ra_theorems.proofs.TheoremIndex.{nothing_delivered_before_join-delivery}
use Rattle.ra_visibility.specs.Replica.{Replica, new_replica, with_next}
use Rattle.ra_visibility.specs.Seen.{is_in, count_in}
use Rattle.ra_visibility.specs.Tracked.{Tracked, seen_count, IsVisibilityOf, replicas_in, labels_in, replica_at, row_at, delivered_count, has_delivered_in, seen_in}
use Rattle.ra_visibility.specs.Changes.{with_delivery}
use Rattle.ra_visibility.specs.Kept.{TrackedKept, IsUpdateOf, issued_count, issued_at}
use Rattle.ra_visibility.proofs.Tests.{at_or_else, below_or_not, lt_same, in_same, update_there}

abbrev gained : Tracked → ℕ → ℕ → Tracked
gained t to from = record { replicas = set t.replicas to (with_next (replica_at t to) from); rows = t.rows; stored = t.stored }

-- the label is the next update of its issuer for the receiver
pub record IsNext (t : Tracked) (to label : ℕ) : Type 0 where
  pub there : label < labels_in t
  pub update : (row_at t label).is_update ≡ true
  pub receiver : to < replicas_in t
  pub other : to ≢ (row_at t label).replica
  pub place : delivered_count t to (row_at t label).replica ≡ (row_at t label).place
  pub all : (of : ℕ) → of < replicas_in t → seen_count t label of ≤ delivered_count t to of

replica_there : (t : Tracked) (to from q : ℕ) → to < replicas_in t → q ≡ to → replica_at (gained t to from) q ≡ with_next (replica_at t to) from
replica_there t to from q below same = rw same (get_or-set_same t.replicas to (with_next (replica_at t to) from) (new_replica 0) below)

replica_else : (t : Tracked) (to from q : ℕ) → q ≢ to → replica_at (gained t to from) q ≡ replica_at t q
replica_else t to from q other = get_or-set_other t.replicas to q (with_next (replica_at t to) from) (new_replica 0) other

issued_same : (t : Tracked) (to from q : ℕ) → to < replicas_in t → (replica_at (gained t to from) q).issued ≡ (replica_at t q).issued
issued_same t to from q below = at_or_else q to
    (λ same. ap (λ (r : Replica). r.issued) (replica_there t to from q below same) ∙ ap (λ k. (replica_at t k).issued) (sym same))
    (λ other. ap (λ (r : Replica). r.issued) (replica_else t to from q other))

had_else : (t : Tracked) (to from q of : ℕ) → q ≢ to → delivered_count (gained t to from) q of ≡ delivered_count t q of
had_else t to from q of other = ap (λ (r : Replica). get_or r.counts of 0) (replica_else t to from q other)

had_others : (t : Tracked) (to from of : ℕ) → to < replicas_in t → of ≢ from → delivered_count (gained t to from) to of ≡ delivered_count t to of
had_others t to from of below other =
    ap (λ (r : Replica). get_or r.counts of 0) (replica_there t to from to below refl)
    ∙ get_or-set_other (replica_at t to).counts from of (delivered_count t to from + 1) 0 other

had_more : (t : Tracked) (to from : ℕ) → to < replicas_in t → from < length (replica_at t to).counts → delivered_count (gained t to from) to from ≡ delivered_count t to from + 1
had_more t to from below inside =
    ap (λ (r : Replica). get_or r.counts from 0) (replica_there t to from to below refl)
    ∙ get_or-set_same (replica_at t to).counts from (delivered_count t to from + 1) 0 inside

count_same : (t : Tracked) (to from : ℕ) → replicas_in (gained t to from) ≡ replicas_in t
count_same t to from = length-set t.replicas to (with_next (replica_at t to) from)

seen_same : (t : Tracked) (to from n : ℕ) → seen_in (gained t to from) n ≡ seen_in t n
seen_same t to from n = refl

update_same : (t : Tracked) (to from q p n : ℕ) → IsUpdateOf t q p n → IsUpdateOf (gained t to from) q p n
update_same t to from q p n is = record { there = is.there; replica = is.replica; update = is.update; place = is.place }

-- two updates of one replica at the same position are the same label
only_at : (t : Tracked) (m n : ℕ) → TrackedKept t → (row_at t m).is_update ≡ true → (row_at t n).is_update ≡ true
    → (row_at t m).replica ≡ (row_at t n).replica → (row_at t m).place ≡ (row_at t n).place → m ≡ n
only_at t m n kept m_update n_update replica place =
    sym (kept.row_issued m (update_there t m m_update) m_update).1
    ∙ ap (λ q. issued_at t q (row_at t m).place) replica
    ∙ ap (issued_at t (row_at t n).replica) place
    ∙ (kept.row_issued n (update_there t n n_update) n_update).1

had_more_at : (t : Tracked) (to from q of : ℕ) → to < replicas_in t → from < length (replica_at t to).counts → q ≡ to → of ≡ from
    → delivered_count (gained t to from) q of ≡ delivered_count t q of + 1
had_more_at t to from q of below inside same here = rw (same, here) (had_more t to from below inside)

had_others_at : (t : Tracked) (to from q of : ℕ) → to < replicas_in t → q ≡ to → of ≢ from
    → delivered_count (gained t to from) q of ≡ delivered_count t q of
had_others_at t to from q of below same other = rw same (had_others t to from of below other)

had_no_less : (t : Tracked) (to from q of : ℕ) → to < replicas_in t → from < length (replica_at t to).counts → delivered_count t q of ≤ delivered_count (gained t to from) q of
had_no_less t to from q of below inside = at_or_else q to
    (λ same. at_or_else of from
    (λ here. omega (arith, had_more_at t to from q of below inside same here))
    (λ there. omega (arith, had_others_at t to from q of below same there)))
    (λ other. omega (arith, had_else t to from q of other))

-- the delivered updates stay causally closed, since all that the label sees was delivered to the receiver
closed_gained : (t : Tracked) (to label q n of : ℕ) → TrackedKept t → IsNext t to label → q < replicas_in t → n < labels_in t → of < replicas_in t
    → (row_at t n).is_update ≡ true → (row_at t n).place < delivered_count (gained t to (row_at t label).replica) q (row_at t n).replica
    → seen_count t n of ≤ delivered_count (gained t to (row_at t label).replica) q of
closed_gained t to label q n of kept next known there inside_of update has_delivered =
    let from = (row_at t label).replica in
    let below : to < replicas_in t = next.receiver in
    let inside : from < length (replica_at t to).counts = omega (arith, kept.had_length to below, kept.row_replica label next.there) in
    let r = (row_at t n).replica in
    let p = (row_at t n).place in
    let more = had_no_less t to from q of below inside in
    below_or_not p (delivered_count t q r)
    (λ before. omega (arith, more, kept.closed q n of known there inside_of update before))
    (λ after. at_or_else q to
    (λ same. at_or_else r from
    (λ own.
    let at : p ≡ delivered_count t q r = omega (arith, after, has_delivered, had_more_at t to from q r below inside same own) in
    let was : delivered_count t q r ≡ (row_at t label).place = rw (same, own) next.place in
    let is : n ≡ label = only_at t n label kept update next.update own (at ∙ was) in
    omega (arith, more, ap (λ k. seen_count t k of) is, next.all of inside_of, ap (λ k. delivered_count t k of) same))
    (λ foreign. absurd (omega (arith, after, has_delivered, had_others_at t to from q r below same foreign))))
    (λ other. absurd (omega (arith, after, has_delivered, had_else t to from q r other))))

kept_gained : (t : Tracked) (to label : ℕ) → TrackedKept t → IsNext t to label → TrackedKept (gained t to (row_at t label).replica)
kept_gained t to label kept next =
    let from = (row_at t label).replica in
    let below : to < replicas_in t = next.receiver in
    let differ : to ≢ from = next.other in
    let more : delivered_count t to from < issued_count t from = omega (arith, next.place, (kept.row_issued label next.there next.update).0) in
    let from_below : from < replicas_in t = kept.row_replica label next.there in
    let count : replicas_in (gained t to from) ≡ replicas_in t = count_same t to from in
    let issued : (q : ℕ) → (replica_at (gained t to from) q).issued ≡ (replica_at t q).issued = λ q. issued_same t to from q below in
    let inside : from < length (replica_at t to).counts = omega (arith, kept.had_length to below) in
    let long_enough : (q : ℕ) → length (replica_at (gained t to from) q).counts ≡ length (replica_at t q).counts = λ q. at_or_else q to
    (λ same. ap (λ (r : Replica). length r.counts) (replica_there t to from q below same)
    ∙ length-set (replica_at t to).counts from (delivered_count t to from + 1) ∙ ap (λ k. length (replica_at t k).counts) (sym same))
    (λ other. ap (λ (r : Replica). length r.counts) (replica_else t to from q other)) in
    record {
      few_replicas = omega (arith, kept.few_replicas);
      few_labels = kept.few_labels;
      few_counts = kept.few_counts;
      few_issued = λ q. omega (arith, ap length (issued q), kept.few_issued q);
      row_replica = λ n l. omega (arith, kept.row_replica n l);
      row_counts = kept.row_counts;
      row_width = λ n l. ((kept.row_width n l).0, omega (arith, count, (kept.row_width n l).1));
      row_seen = λ n of l o. omega (arith, ap (λ s. count_in s of) (seen_same t to from n), ap length (issued of), kept.row_seen n of l (omega arith));
      row_issued = λ n l u.
          let r = (row_at t n).replica in
          let old = kept.row_issued n l u in
          (omega (arith, ap length (issued r), old.0), ap (λ xs. get_or xs (row_at t n).place 0) (issued r) ∙ old.1);
      issued_row = λ q p lq lp.
          let old = kept.issued_row q p (omega arith) (omega (arith, ap length (issued q), lp)) in
          subst (λ n. IsUpdateOf (gained t to from) q p n) (sym (ap (λ xs. get_or xs p 0) (issued q))) (update_same t to from q p (issued_at t q p) old);
      issued_rise = λ q p r lq pr lr.
          omega (
            arith,
            ap (λ xs. get_or xs p 0) (issued q),
            ap (λ xs. get_or xs r 0) (issued q),
            kept.issued_rise q p r (omega arith) pr (omega (arith, ap length (issued q), lr)),
          );
      had_length = λ q lq. omega (arith, count, long_enough q, kept.had_length q (omega (arith, count, lq)));
      had_places = λ q lq. omega (arith, long_enough q, kept.had_places q (omega (arith, count, lq)));
      had_beyond = λ q of lq past.
          let none = kept.had_beyond q of (omega (arith, count, lq)) (omega (arith, count, past)) in
          at_or_else q to
          (λ same. had_others_at t to from q of below same (λ own. absurd (omega (arith, own, from_below, count, past))) ∙ none)
          (λ other. had_else t to from q of other ∙ none);
      had_issued = λ q of lq lof. at_or_else q to
          (λ same. at_or_else of from
          (λ here. rw (same, here) (omega (arith, had_more t to from below inside, ap length (issued from))))
          (λ there. rw same (omega (arith, had_others t to from of below there, ap length (issued of), kept.had_issued to of below (omega arith)))))
          (λ other. omega (arith, had_else t to from q of other, ap length (issued of), kept.had_issued q of (omega arith) (omega arith)));
      had_own = λ q lq. at_or_else q to
          (λ same. rw same (had_others t to from to below differ ∙ kept.had_own to below ∙ sym (ap length (issued to))))
          (λ other. had_else t to from q q other ∙ kept.had_own q (omega arith) ∙ sym (ap length (issued q)));
      closed = λ q n of lq ln lof u h.
          omega (arith, ap (λ s. count_in s of) (seen_same t to from n), closed_gained t to label q n of kept next (omega (arith, count, lq)) ln (omega (arith, count, lof)) u h);
      stored_there = λ q at lq e. at_or_else q to
          (λ same. absurd (cc (e, ap (λ (r : Replica). r.stored) (replica_there t to from q below same))))
          (λ other. kept.stored_there q at (omega (arith, count, lq)) (sym (ap (λ (r : Replica). r.stored) (replica_else t to from q other)) ∙ e));
      stored_width = λ q at lq e. at_or_else q to
          (λ same. absurd (cc (e, ap (λ (r : Replica). r.stored) (replica_there t to from q below same))))
          (λ other.
          let was = kept.stored_width q at (omega (arith, count, lq)) (sym (ap (λ (r : Replica). r.stored) (replica_else t to from q other)) ∙ e) in
          (was.0, omega (arith, count, was.1)));
      stored_same = λ q at of lq e lof differs. at_or_else q to
          (λ same. absurd (cc (e, ap (λ (r : Replica). r.stored) (replica_there t to from q below same))))
          (λ other. kept.stored_same q at of (omega arith) (sym (ap (λ (r : Replica). r.stored) (replica_else t to from q other)) ∙ e) (omega arith) differs
          ∙ sym (had_else t to from q of other));
    }

had_delivered : (t : Tracked) (past : History) (to label q m : ℕ) → TrackedKept t → IsVisibilityOf t past → IsNext t to label
    → q < replicas_in t
    → has_delivered_in (gained t to (row_at t label).replica) q m ≡ ((to == q && m == label && is_update_at past.records m) || has_delivered past.records q m)
had_delivered t past to label q m kept stands next below =
    let from = (row_at t label).replica in
    let new = gained t to from in
    let inside : from < length (replica_at t to).counts = omega (arith, kept.had_length to next.receiver, kept.row_replica label next.there) in
    let had_as : has_delivered_in t q m ≡ has_delivered past.records q m = stands.had q m below in
    at_or_else q to
    (λ same. at_or_else m label
    (λ here.
    let left : has_delivered_in new q m ≡ true = rw (same, here) (
    ap (λ (b : Bool). b && nat_lt (row_at t label).place (delivered_count new to from)) next.update
    ∙ lt-ltb (row_at t label).place (delivered_count new to from) (omega (arith, had_more t to from next.receiver inside, next.place))) in
    let right : (to == q && m == label && is_update_at past.records m) ≡ true =
    rw (eq-eqb to q (sym same), eq-eqb m label here, here, ← stands.updates label) next.update in
    left ∙ sym (ap (λ b. b || has_delivered past.records q m) right))
    (λ else.
    let right : (to == q && m == label && is_update_at past.records m) ≡ false = rw (eq-eqb to q (sym same), ne_eqb m label else) refl in
    let left : has_delivered_in new q m ≡ has_delivered_in t q m =
    in_same (record { rows = t.rows; counts = (replica_at t q).counts }) (record { rows = t.rows; counts = (replica_at new q).counts }) m refl (λ update.
    let r = (row_at t m).replica in
    let p = (row_at t m).place in
    at_or_else r from
    (λ own.
    let more : delivered_count new q r ≡ delivered_count t q r + 1 = had_more_at t to from q r next.receiver inside same own in
    let was : delivered_count t q r ≡ (row_at t label).place = rw (same, own) next.place in
    let not_next : p ≢ delivered_count t q r = λ e. else (only_at t m label kept update next.update own (e ∙ was)) in
    lt_same p (delivered_count new q r) p (delivered_count t q r) (λ l. omega (arith, l, more, not_next)) (λ l. omega (arith, l, more)))
    (λ foreign. ap (nat_lt p) (had_others_at t to from q r next.receiver same foreign)))
    in left ∙ had_as ∙ sym (ap (λ b. b || has_delivered past.records q m) right)))
    (λ other.
    let right : (to == q) ≡ false = ne_eqb to q (λ e. other (sym e)) in
    ap (λ (r : Replica). is_in (record { rows = t.rows; counts = r.counts }) m) (replica_else t to from q other)
    ∙ had_as ∙ sym (ap (λ b. (b && m == label && is_update_at past.records m) || has_delivered past.records q m) right))

-- the tracker represents the visibility with the delivery
pub stands_delivered : (t : Tracked) (past : History) (to label : ℕ) → TrackedKept t → IsNext t to label → IsVisibilityOf t past
    → IsVisibilityOf (with_delivery t to label) (history_with past (Deliver to label))
stands_delivered t past to label kept next stands =
    let from = (row_at t label).replica in
    let same = count_same t to from in
    record {
      replicas = same ∙ stands.replicas;
      labels = stands.labels;
      updates = stands.updates;
      had = λ q m below. had_delivered t past to label q m kept stands next (omega (arith, same));
      sees = λ n m below. ap (λ s. is_in s m) (seen_same t to from n) ∙ stands.sees n m below;
      issuer = stands.issuer;
      place = stands.place;
      issued = λ q below. ap length (issued_same t to from q next.receiver) ∙ stands.issued q (omega (arith, same, below));
      beyond = nothing_delivered_before_join-delivery past.initial_replicas past.records to label (omega (arith, stands.replicas, next.receiver)) stands.beyond;
    }

-- the invariant holds after the delivery
pub kept_delivered : (t : Tracked) (to label : ℕ) → TrackedKept t → IsNext t to label → TrackedKept (with_delivery t to label)
kept_delivered t to label kept next = kept_gained t to label kept next

-- the number of replicas is the same, and one more update of the label's issuer was delivered to the receiver
pub gained_more : (t : Tracked) (to label : ℕ) → TrackedKept t → IsNext t to label
    → (replicas_in (with_delivery t to label) ≡ replicas_in t)
    × (delivered_count (with_delivery t to label) to (row_at t label).replica ≡ delivered_count t to (row_at t label).replica + 1)
gained_more t to label kept next =
    let from = (row_at t label).replica in
    (count_same t to from, had_more t to from next.receiver (omega (arith, kept.had_length to next.receiver, kept.row_replica label next.there)))
