-- Lemmas on the tracker after a replica joined.
use Rattle.std.proofs.Common.{◌≡◌, ℕ, ◌+◌, ◌<◌, ◌≤◌, true, [], ◌∷◌, length, get_or, Some, sym, ap, ◌∙◌, subst, arith, length-append}
use Rattle.std.specs.Prelude.{drop, ◌&&◌, ◌||◌}
use Rattle.std.proofs.lemmas.Bool.{ne_eqb}
use Rattle.std.proofs.lemmas.List.{get_or_past, get_or_push, length-take-le, length-drop}
use Rattle.std.proofs.Math.ListN.{get_or-append}
use Rattle.ra_labels.specs.declared.limits.TheConstants.{MOST_REPLICAS}
use Rattle.ra_labels.specs.declared.command.Command.TheVariants.{Join}
use Rattle.ra_labels.specs.HistorySoFar.{History, history_with, replicas_of}
use Rattle.ra_labels.specs.Visibility.{has_delivered}
use Rattle.ra_labels.specs.Places.{updates_issued}
use Rattle.ra_theorems.proofs.TheoremIndex.{nothing_delivered_before_join-join, join_copies_delivered-labels, join_copies_delivered-issued}
use Rattle.ra_visibility.specs.declared.stored.Stored.{Stored}
use Rattle.ra_visibility.specs.Replica.{Replica, new_replica, joined_from}
use Rattle.ra_visibility.specs.Seen.{is_in}
use Rattle.ra_visibility.specs.Tracked.{Tracked, IsVisibilityOf, replicas_in, labels_in, replica_at, row_at, delivered_count, seen_count, counts_at}
use Rattle.ra_visibility.specs.Changes.{with_joined}
use Rattle.ra_visibility.specs.Kept.{TrackedKept, IsUpdateOf, issued_at}
use Rattle.ra_visibility.proofs.Tests.{at_or_else, below_or_not}
use Rattle.ra_visibility.proofs.Runs.{seen_other}

module _ (t : Tracked) (from : ℕ) where
  abbrev new : Tracked
  new = with_joined t from

  pub one_more : replicas_in new ≡ replicas_in t + 1
  one_more = length-append t.replicas (joined_from (replica_at t from) ∷ [])

  -- the new replica, those before it, and none above it
  joined_there : (q : ℕ) → q ≡ replicas_in t → replica_at new q ≡ joined_from (replica_at t from)
  joined_there q same = get_or_push t.replicas (joined_from (replica_at t from)) (new_replica 0) q (sym same)

  joined_else : (q : ℕ) → q < replicas_in t → replica_at new q ≡ replica_at t q
  joined_else q before = get_or-append t.replicas (joined_from (replica_at t from) ∷ []) (new_replica 0) q before

  -- the updates that each replica issued
  issued_same : (q : ℕ) → (replica_at new q).issued ≡ (replica_at t q).issued
  issued_same q = below_or_not q (replicas_in t)
      (λ before. ap (λ (r : Replica). r.issued) (joined_else q before))
      (λ after. at_or_else q (replicas_in t)
      (λ same. ap (λ (r : Replica). r.issued) (joined_there q same) ∙ sym (ap (λ (r : Replica). r.issued) (get_or_past t.replicas q (new_replica 0) after)))
      (λ other. ap (λ (r : Replica). r.issued) (get_or_past new.replicas q (new_replica 0) (omega (arith, one_more, after, other)))
      ∙ sym (ap (λ (r : Replica). r.issued) (get_or_past t.replicas q (new_replica 0) after))))

  had_there : (q of : ℕ) → q ≡ replicas_in t → delivered_count new q of ≡ delivered_count t from of
  had_there q of same = ap (λ (r : Replica). get_or r.counts of 0) (joined_there q same)

  had_else : (q of : ℕ) → q < replicas_in t → delivered_count new q of ≡ delivered_count t q of
  had_else q of before = ap (λ (r : Replica). get_or r.counts of 0) (joined_else q before)

  update_same : (q p n : ℕ) → IsUpdateOf t q p n → IsUpdateOf new q p n
  update_same q p n is = record { there = is.there; replica = is.replica; update = is.update; place = is.place }

  -- by cases: the new replica, or an earlier one
  new_or_before : {A : Type 0} (q : ℕ) → q < replicas_in new → (q ≡ replicas_in t → A) → (q < replicas_in t → A) → A
  new_or_before q known this before = below_or_not q (replicas_in t) before (λ after. this (omega (arith, one_more, known, after)))

  module _ (kept : TrackedKept t) (there : from < replicas_in t) where
    -- a label sees nothing of a replica that does not exist
    sees_none_beyond : (n of : ℕ) → n < labels_in t → replicas_in t ≤ of → seen_count t n of ≡ 0
    sees_none_beyond n of known past =
        let row = row_at t n in
        let width = kept.row_width n known in
        let long : length (counts_at t row.counts row.width) ≡ row.width =
        length-take-le row.width (drop row.counts t.stored) (omega (arith, length-drop row.counts t.stored, kept.row_counts n known)) in
        seen_other t n of (λ own. absurd (omega (arith, own, width.0, width.1, past)))
        ∙ get_or_past (counts_at t row.counts row.width) of 0 (omega (arith, long, width.1, past))

    stored_before : (q : ℕ) (s : Stored) → q < replicas_in t → (replica_at new q).stored ≡ Some s → (replica_at t q).stored ≡ Some s
    stored_before q s before e = sym (ap (λ (r : Replica). r.stored) (joined_else q before)) ∙ e

    none_stored : (q : ℕ) (s : Stored) → q ≡ replicas_in t → (replica_at new q).stored ≡ Some s → ⊥
    none_stored q s same e = cc (e, ap (λ (r : Replica). r.stored) (joined_there q same))

    closed_joined : (q n of : ℕ) → q < replicas_in new → n < labels_in t → of < replicas_in new
        → (row_at t n).is_update ≡ true → (row_at t n).place < delivered_count new q (row_at t n).replica
        → seen_count t n of ≤ delivered_count new q of
    closed_joined q n of lq ln lof update has_delivered = new_or_before of lof
        (λ this. omega (arith, sees_none_beyond n of ln (omega (arith, this))))
        (λ before. new_or_before q lq
        (λ same. omega (arith, had_there q of same, kept.closed from n of there ln before update (omega (arith, has_delivered, had_there q (row_at t n).replica same))))
        (λ older. omega (arith, had_else q of older, kept.closed q n of older ln before update (omega (arith, has_delivered, had_else q (row_at t n).replica older)))))

    pub kept_joined : replicas_in t < MOST_REPLICAS → TrackedKept new
    kept_joined room = record {
      few_replicas = omega (arith, one_more, room);
      few_labels = kept.few_labels;
      few_counts = kept.few_counts;
      few_issued = λ q. omega (arith, ap length (issued_same q), kept.few_issued q);
      row_replica = λ n l. omega (arith, one_more, kept.row_replica n l);
      row_counts = kept.row_counts;
      row_width = λ n l. ((kept.row_width n l).0, omega (arith, one_more, (kept.row_width n l).1));
      row_seen = λ n of l o. new_or_before of o
          (λ this. omega (arith, sees_none_beyond n of l (omega (arith, this))))
          (λ before. omega (arith, ap length (issued_same of), kept.row_seen n of l before));
      row_issued = λ n l u.
          let r = (row_at t n).replica in
          let old = kept.row_issued n l u in
          (omega (arith, ap length (issued_same r), old.0), ap (λ xs. get_or xs (row_at t n).place 0) (issued_same r) ∙ old.1);
      issued_row = λ q p lq lp. new_or_before q lq
          (λ this. absurd (omega (arith, ap (λ (r : Replica). length r.issued) (joined_there q this), lp)))
          (λ before.
          let old = kept.issued_row q p before (omega (arith, ap length (issued_same q), lp)) in
          subst (λ n. IsUpdateOf new q p n) (sym (ap (λ xs. get_or xs p 0) (issued_same q))) (update_same q p (issued_at t q p) old));
      issued_rise = λ q p r lq pr lr. new_or_before q lq
          (λ this. absurd (omega (arith, ap (λ (r : Replica). length r.issued) (joined_there q this), lr)))
          (λ before.
          omega (
            arith,
            ap (λ xs. get_or xs p 0) (issued_same q),
            ap (λ xs. get_or xs r 0) (issued_same q),
            kept.issued_rise q p r before pr (omega (arith, ap length (issued_same q), lr)),
          ));
      had_length = λ q lq. new_or_before q lq
          (λ this. omega (arith, one_more, ap (λ (r : Replica). length r.counts) (joined_there q this), kept.had_places from there, room))
          (λ before. omega (arith, one_more, ap (λ (r : Replica). length r.counts) (joined_else q before), kept.had_places q before, room));
      had_places = λ q lq. new_or_before q lq
          (λ this. omega (arith, ap (λ (r : Replica). length r.counts) (joined_there q this), kept.had_places from there))
          (λ before. omega (arith, ap (λ (r : Replica). length r.counts) (joined_else q before), kept.had_places q before));
      had_beyond = λ q of lq past.
          let beyond : replicas_in t ≤ of = omega (arith, one_more, past) in
          new_or_before q lq
          (λ this. had_there q of this ∙ kept.had_beyond from of there beyond)
          (λ before. had_else q of before ∙ kept.had_beyond q of before beyond);
      had_issued = λ q of lq lof.
          let same = ap length (issued_same of) in
          new_or_before of lof
          (λ this. new_or_before q lq
          (λ own. omega (arith, had_there q of own, kept.had_beyond from of there (omega (arith, this))))
          (λ before. omega (arith, had_else q of before, kept.had_beyond q of before (omega (arith, this)))))
          (λ older. new_or_before q lq
          (λ own. omega (arith, same, had_there q of own, kept.had_issued from of there older))
          (λ before. omega (arith, same, had_else q of before, kept.had_issued q of before older)));
      had_own = λ q lq. new_or_before q lq
          (λ this. omega (arith, had_there q q this, kept.had_beyond from q there (omega (arith, this)), ap (λ (r : Replica). length r.issued) (joined_there q this)))
          (λ before. omega (arith, had_else q q before, ap length (issued_same q), kept.had_own q before));
      closed = λ q n of lq ln lof u h. closed_joined q n of lq ln lof u h;
      stored_there = λ q s lq e. new_or_before q lq
          (λ this. absurd (none_stored q s this e))
          (λ before. kept.stored_there q s before (stored_before q s before e));
      stored_width = λ q s lq e. new_or_before q lq
          (λ this. absurd (none_stored q s this e))
          (λ before. let was = kept.stored_width q s before (stored_before q s before e) in (was.0, omega (arith, one_more, was.1)));
      stored_same = λ q s of lq e lof differs. new_or_before q lq
          (λ this. absurd (none_stored q s this e))
          (λ before.
          let was = stored_before q s before e in
          new_or_before of lof
          (λ last.
          let long : length (counts_at t s.at s.width) ≡ s.width =
          length-take-le s.width (drop s.at t.stored) (omega (arith, length-drop s.at t.stored, kept.stored_there q s before was)) in
          get_or_past (counts_at t s.at s.width) of 0 (omega (arith, long, (kept.stored_width q s before was).1, last))
          ∙ sym (had_else q of before ∙ kept.had_beyond q of before (omega (arith, last))))
          (λ older. kept.stored_same q s of before was older differs ∙ sym (had_else q of before)));
    }

    pub stands_joined : (past : History) → IsVisibilityOf t past → IsVisibilityOf new (history_with past (Join (replicas_in t) from))
    stands_joined past stands = subst (λ r. IsVisibilityOf new (history_with past (Join r from))) (sym stands.replicas) (record {
      replicas = one_more ∙ ap (λ k. k + 1) stands.replicas;
      labels = stands.labels;
      updates = stands.updates;
      had = λ q n lq. new_or_before q lq
          (λ this.
          ap (λ (r : Replica). is_in (record { rows = t.rows; counts = r.counts }) n) (joined_there q this)
          ∙ stands.had from n there
          ∙ sym (join_copies_delivered-labels past.initial_replicas past.records from n stands.beyond)
          ∙ ap (λ k. has_delivered (Join (replicas_of past) from ∷ past.records) k n) (sym (this ∙ stands.replicas)))
          (λ before.
          ap (λ (r : Replica). is_in (record { rows = t.rows; counts = r.counts }) n) (joined_else q before)
          ∙ stands.had q n before
          ∙ sym (ap (λ b. (b && has_delivered past.records from n) || has_delivered past.records q n)
          (ne_eqb (replicas_of past) q (λ e. absurd (omega (arith, e, stands.replicas, before))))));
      sees = stands.sees;
      issuer = stands.issuer;
      place = stands.place;
      issued = λ q lq. new_or_before q lq
          (λ this. ap (λ (r : Replica). length r.issued) (joined_there q this)
          ∙ sym (ap (updates_issued past.records) (this ∙ stands.replicas)
          ∙ join_copies_delivered-issued past.initial_replicas past.records stands.beyond))
          (λ before. ap length (issued_same q) ∙ stands.issued q before);
      beyond = nothing_delivered_before_join-join past.initial_replicas past.records from stands.beyond;
    })
