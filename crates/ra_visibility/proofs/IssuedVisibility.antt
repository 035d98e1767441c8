-- Lemmas on the visibility of the records after a replica's next label, and of the empty records.
use Rattle.std.proofs.Common.{◌≡◌, ◌≢◌, ℕ, ◌+◌, ◌<◌, ◌≤◌, Bool, true, false, List, ◌∷◌, get_or, Option, Some, refl, sym, ap, ◌∙◌, arith}
use Rattle.std.specs.Prelude.{◌==◌, ◌&&◌, nat_lt, if◌then◌else◌, cond}
use Rattle.std.specs.Option.{option_map_or}
use Rattle.std.proofs.lemmas.List.{get_or_past}
use Rattle.std.proofs.lemmas.Bool.{eq-eqb, ne_eqb, lt-ltb, le-ltb}
use Rattle.std.proofs.Math.Bool.{and-false, and-true, or-false}
use Rattle.ra_labels.specs.declared.operation.Op.{Op}
use Rattle.ra_labels.specs.declared.label.Label.{Label}
use Rattle.ra_labels.specs.declared.command.Command.TheVariants.{Operate}
use Rattle.ra_labels.specs.Records.{label_count, label_at, next_label}
use Rattle.ra_labels.specs.Visibility.{has_delivered, sees, is_update, is_update_at}
use Rattle.ra_labels.specs.Places.{issuer_of, issue_position, updates_issued}
use Rattle.ra_labels.specs.HistorySoFar.{History, history_with, next_operation}
use Rattle.ra_theorems.proofs.TheoremIndex.{nothing_delivered_before_join-operation}
use Rattle.ra_visibility.specs.declared.row.Row.{Row}
use Rattle.ra_visibility.specs.Seen.{no_row, is_in}
use Rattle.ra_visibility.specs.Tracked.{Tracked, IsVisibilityOf, replicas_in, labels_in, replica_at, row_at, is_update_in, delivered_count, has_delivered_in, seen_in, sees_in}
use Rattle.ra_visibility.specs.Changes.{with_label}
use Rattle.ra_visibility.specs.Kept.{TrackedKept, issued_count}
use Rattle.ra_visibility.proofs.Tests.{at_or_else, lt_same, in_same, update_there}
use Rattle.ra_visibility.proofs.IssuedRows.{ones, issued_there, issued_else, labels_more, row_new, row_else, count_same, had_there, had_own, had_else, seen_before, seen_new}

-- a label without a row is in no set
past_out : (t : Tracked) (counts : List ℕ) (m : ℕ) → m ≡ labels_in t → is_in (record { rows = t.rows; counts = counts }) m ≡ false
past_out t counts m past = ap (λ (r : Row). r.is_update && nat_lt r.place (get_or counts r.replica 0)) (get_or_past t.rows m no_row (omega (arith, past)))

-- the new label is in no set that has at most the updates its replica had issued before
new_out : (t : Tracked) (by m : ℕ) (update : Bool) (counts : List ℕ) → m ≡ labels_in t → get_or counts by 0 ≤ issued_count t by
    → is_in (record { rows = (with_label t by update).rows; counts = counts }) m ≡ false
new_out t by m update counts last few =
    ap (λ (r : Row). r.is_update && nat_lt r.place (get_or counts r.replica 0)) (row_new t by m update last)
    ∙ ap (λ b. update && b) (le-ltb (issued_count t by) (get_or counts by 0) few)
    ∙ and-false update

-- whether the new label is an update, and whether the others are
update_issued : (t : Tracked) (by n : ℕ) (past : History) (op : Op) (clock : Option ℕ) (update : Bool) → IsVisibilityOf t past → is_update op ≡ update
    → is_update_in (with_label t by update) n ≡ is_update_at (Operate by op clock ∷ past.records) n
update_issued t by n past op clock update stands is =
    let at : Bool → Bool = λ b. option_map_or (λ (l : Label). is_update l.op) (cond b (Some (next_label past.records by op clock)) (label_at past.records n)) false in
    at_or_else n (labels_in t)
    (λ last. ap (λ (r : Row). r.is_update) (row_new t by n update last) ∙ sym is
    ∙ sym (ap at (eq-eqb (label_count past.records) n (sym stands.labels ∙ sym last))))
    (λ before. ap (λ (r : Row). r.is_update) (row_else t by n update before) ∙ stands.updates n
    ∙ sym (ap at (ne_eqb (label_count past.records) n (λ e. before (sym e ∙ sym stands.labels)))))

-- which earlier labels were delivered to a replica
had_before : (t : Tracked) (by q m : ℕ) (update : Bool) → TrackedKept t → by < replicas_in t → q < replicas_in t → m ≢ labels_in t
    → has_delivered_in (with_label t by update) q m ≡ has_delivered_in t q m
had_before t by q m update kept below known before =
    let new = with_label t by update in
    in_same (record { rows = t.rows; counts = (replica_at t q).counts }) (record { rows = new.rows; counts = (replica_at new q).counts }) m (row_else t by m update before) (λ is.
    let r = (row_at t m).replica in
    let p = (row_at t m).place in
    at_or_else q by
    (λ same. at_or_else r by
    (λ own.
    let place = (kept.row_issued m (update_there t m is) is).0 in
    let more = had_own t by q r update below (omega (arith, kept.had_length by below)) same own in
    let all : delivered_count t q r ≡ issued_count t r = ap (delivered_count t q) (own ∙ sym same) ∙ kept.had_own q known ∙ ap (issued_count t) (same ∙ sym own) in
    lt_same p (delivered_count new q r) p (delivered_count t q r) (λ l. omega (arith, place, all)) (λ l. omega (arith, l, more)))
    (λ foreign. ap (nat_lt p) (had_there t by q r update below same foreign)))
    (λ other. ap (nat_lt p) (had_else t by q r update other)))

-- whether the new label was delivered to a replica
had_last : (t : Tracked) (by q m : ℕ) (update : Bool) → TrackedKept t → by < replicas_in t → q < replicas_in t → m ≡ labels_in t
    → has_delivered_in (with_label t by update) q m ≡ (by == q && update)
had_last t by q m true kept below known last =
    let new = with_label t by true in
    at_or_else q by
    (λ same.
    let more = had_own t by q by true below (omega (arith, kept.had_length by below)) same refl in
    let all : delivered_count t q by ≡ issued_count t by = ap (λ k. delivered_count t k by) same ∙ kept.had_own by below in
    ap (λ (r : Row). r.is_update && nat_lt r.place (delivered_count new q r.replica)) (row_new t by m true last)
    ∙ lt-ltb (issued_count t by) (delivered_count new q by) (omega (arith, more, all))
    ∙ sym (ap (λ b. b && true) (eq-eqb by q (sym same))))
    (λ other.
    new_out t by m true (replica_at new q).counts last (omega (arith, had_else t by q by true other, kept.had_issued q by known below))
    ∙ sym (ap (λ b. b && true) (ne_eqb by q (λ e. other (sym e)))))
had_last t by q m false kept below known last =
    ap (λ (r : Row). r.is_update && nat_lt r.place (delivered_count (with_label t by false) q r.replica)) (row_new t by m false last)
    ∙ sym (and-false (by == q))

had_issued : (t : Tracked) (by q n : ℕ) (past : History) (op : Op) (clock : Option ℕ) (update : Bool) → TrackedKept t → by < replicas_in t → q < replicas_in t
    → IsVisibilityOf t past → is_update op ≡ update
    → has_delivered_in (with_label t by update) q n ≡ has_delivered (Operate by op clock ∷ past.records) q n
had_issued t by q n past op clock update kept below known stands is = at_or_else n (labels_in t)
    (λ last.
    let none : has_delivered past.records q n ≡ false = sym (stands.had q n known) ∙ past_out t (replica_at t q).counts n last in
    let this : (n == label_count past.records) ≡ true = eq-eqb n (label_count past.records) (last ∙ stands.labels) in
    had_last t by q n update kept below known last
    ∙ sym (rw (none, this, is, or-false (by == q && true && update), and-true (by == q)) refl))
    (λ before.
    let none : (n == label_count past.records) ≡ false = ne_eqb n (label_count past.records) (λ e. before (e ∙ sym stands.labels)) in
    had_before t by q n update kept below known before ∙ stands.had q n known
    ∙ sym (rw (none, and-false (by == q)) refl))

-- what the earlier labels see
sees_before : (t : Tracked) (by n m : ℕ) (update : Bool) → TrackedKept t → by < replicas_in t → n < labels_in t → sees_in (with_label t by update) n m ≡ sees_in t n m
sees_before t by n m update kept below before =
    let new = with_label t by update in
    let seen = seen_before t by n update kept before in
    ap (λ xs. is_in (record { rows = new.rows; counts = xs }) m) seen
    ∙ at_or_else m (labels_in t)
    (λ last. new_out t by m update (seen_in t n).counts last (kept.row_seen n by before below) ∙ sym (past_out t (seen_in t n).counts m last))
    (λ early. in_same (seen_in t n) (record { rows = new.rows; counts = (seen_in t n).counts }) m (row_else t by m update early) (λ is. refl))

-- what the new label sees
sees_last : (t : Tracked) (by n m : ℕ) (update : Bool) → TrackedKept t → by < replicas_in t → n ≡ labels_in t → sees_in (with_label t by update) n m ≡ has_delivered_in t by m
sees_last t by n m update kept below last =
    let new = with_label t by update in
    at_or_else m (labels_in t)
    (λ same.
    new_out t by m update (seen_in new n).counts same (omega (arith, seen_new t by n by update kept below below last, kept.had_own by below))
    ∙ sym (past_out t (replica_at t by).counts m same))
    (λ early.
    in_same (record { rows = t.rows; counts = (replica_at t by).counts }) (seen_in new n) m (row_else t by m update early) (λ is.
    let r = (row_at t m).replica in
    ap (nat_lt (row_at t m).place) (seen_new t by n r update kept below (kept.row_replica m (update_there t m is)) last)))

sees_issued : (t : Tracked) (by n m : ℕ) (past : History) (op : Op) (clock : Option ℕ) (update : Bool) → TrackedKept t → by < replicas_in t
    → IsVisibilityOf t past → n < labels_in (with_label t by update)
    → sees_in (with_label t by update) n m ≡ sees (Operate by op clock ∷ past.records) n m
sees_issued t by n m past op clock update kept below stands known =
    let at : Bool → Bool = λ b. if b then has_delivered past.records by m else sees past.records n m in
    at_or_else n (labels_in t)
    (λ last.
    sees_last t by n m update kept below last ∙ stands.had by m below
    ∙ sym (ap at (eq-eqb n (label_count past.records) (last ∙ stands.labels))))
    (λ before.
    let early : n < labels_in t = omega (arith, known, labels_more t by update, before) in
    sees_before t by n m update kept below early ∙ stands.sees n m early
    ∙ sym (ap at (ne_eqb n (label_count past.records) (λ e. before (e ∙ sym stands.labels)))))

-- the issuer of each label, and its position among the issuer's updates
issuer_issued : (t : Tracked) (by n : ℕ) (past : History) (op : Op) (clock : Option ℕ) (update : Bool) → IsVisibilityOf t past
    → n < labels_in (with_label t by update) → (row_at (with_label t by update) n).replica ≡ issuer_of (Operate by op clock ∷ past.records) n
issuer_issued t by n past op clock update stands known =
    let at : Bool → ℕ = λ b. option_map_or (λ (l : Label). l.replica) (cond b (Some (next_label past.records by op clock)) (label_at past.records n)) 0 in
    at_or_else n (labels_in t)
    (λ last. ap (λ (r : Row). r.replica) (row_new t by n update last) ∙ sym (ap at (eq-eqb (label_count past.records) n (sym stands.labels ∙ sym last))))
    (λ before.
    ap (λ (r : Row). r.replica) (row_else t by n update before) ∙ stands.issuer n (omega (arith, known, labels_more t by update, before))
    ∙ sym (ap at (ne_eqb (label_count past.records) n (λ e. before (sym e ∙ sym stands.labels)))))

place_issued : (t : Tracked) (by n : ℕ) (past : History) (op : Op) (clock : Option ℕ) (update : Bool) → by < replicas_in t → IsVisibilityOf t past
    → n < labels_in (with_label t by update) → (row_at (with_label t by update) n).place ≡ issue_position (Operate by op clock ∷ past.records) n
place_issued t by n past op clock update below stands known =
    let at : Bool → ℕ = λ b. if b then updates_issued past.records by else issue_position past.records n in
    at_or_else n (labels_in t)
    (λ last. ap (λ (r : Row). r.place) (row_new t by n update last) ∙ stands.issued by below ∙ sym (ap at (eq-eqb n (label_count past.records) (last ∙ stands.labels))))
    (λ before.
    ap (λ (r : Row). r.place) (row_else t by n update before) ∙ stands.place n (omega (arith, known, labels_more t by update, before))
    ∙ sym (ap at (ne_eqb n (label_count past.records) (λ e. before (e ∙ sym stands.labels)))))

one_more : (update : Bool) (k : ℕ) → k + ones update ≡ (if update then k + 1 else k)
one_more true k = refl
one_more false k = omega arith

updates_with_label : (t : Tracked) (by q : ℕ) (past : History) (op : Op) (clock : Option ℕ) (update : Bool) → by < replicas_in t → IsVisibilityOf t past
    → is_update op ≡ update → q < replicas_in t → issued_count (with_label t by update) q ≡ updates_issued (Operate by op clock ∷ past.records) q
updates_with_label t by q past op clock update below stands kind known =
    let at : Bool → ℕ = λ b. if b then updates_issued past.records q + 1 else updates_issued past.records q in
    at_or_else q by
    (λ same.
    let this : (by == q && is_update op) ≡ update = ap (λ b. b && is_update op) (eq-eqb by q (sym same)) ∙ kind in
    issued_there t by q update below same ∙ ap (λ k. k + ones update) (stands.issued q known) ∙ one_more update (updates_issued past.records q) ∙ sym (ap at this))
    (λ other.
    let none : (by == q && is_update op) ≡ false = ap (λ b. b && is_update op) (ne_eqb by q (λ e. other (sym e))) in
    issued_else t by q update other ∙ stands.issued q known ∙ sym (ap at none))

-- the tracker represents the visibility with the operation
pub stands_issued : (t : Tracked) (by : ℕ) (past : History) (op : Op) (clock : Option ℕ) (update : Bool) → TrackedKept t → by < replicas_in t
    → IsVisibilityOf t past → is_update op ≡ update
    → IsVisibilityOf (with_label t by update) (history_with past (Operate by op clock))
stands_issued t by past op clock update kept below stands is =
    let count = count_same t by update in
    record {
      replicas = count ∙ stands.replicas;
      labels = labels_more t by update ∙ ap (λ k. k + 1) stands.labels;
      updates = λ n. update_issued t by n past op clock update stands is;
      had = λ q n known. had_issued t by q n past op clock update kept below (omega (arith, count, known)) stands is;
      sees = λ n m known. sees_issued t by n m past op clock update kept below stands known;
      issuer = λ n known. issuer_issued t by n past op clock update stands known;
      place = λ n known. place_issued t by n past op clock update below stands known;
      issued = λ q known. updates_with_label t by q past op clock update below stands is (omega (arith, count, known));
      beyond = nothing_delivered_before_join-operation past.initial_replicas past.records (next_operation by op clock) (omega (arith, stands.replicas, below)) stands.beyond;
    }
