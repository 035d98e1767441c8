-- Lemmas on the tracker's rows and counts after a replica's next label.
use Rattle.std.proofs.Common.{◌≡◌, ◌≢◌, ℕ, ◌+◌, ◌<◌, ◌≤◌, Bool, true, false, List, [], ◌∷◌, ◌++◌, length, get_or, Option, Some, None, refl, sym, ap, ◌∙◌, arith, length-append}
use Rattle.std.specs.Prelude.{set, take, drop}
use Rattle.std.proofs.lemmas.List.{length-set, get_or-set_same, get_or-set_other, get_or_past, get_or_push, get_or-take, take-append-le, drop-append-le, length-drop, length-take-le}
use Rattle.std.proofs.Math.ListN.{get_or-append}
use Rattle.std.proofs.Math.Seq.{drop-append_seam, take-length}
use Rattle.ra_visibility.specs.declared.row.Row.{Row}
use Rattle.ra_visibility.specs.declared.stored.Stored.{Stored}
use Rattle.ra_visibility.specs.Replica.{Replica, new_replica, with_own, stored_at}
use Rattle.ra_visibility.specs.Seen.{no_row}
use Rattle.ra_visibility.specs.Tracked.{Tracked, replicas_in, labels_in, replica_at, row_at, delivered_count, seen_in, seen_count, counts_at}
use Rattle.ra_visibility.specs.Changes.{stored_for, stored_with, with_label}
use Rattle.ra_visibility.specs.Kept.{TrackedKept, issued_count, issued_at}
use Rattle.ra_visibility.proofs.Tests.{at_or_else, below_or_not}

-- the number of updates of one label: 1 or 0
abbrev pub ones : Bool → ℕ
ones true = 1
ones false = 0

-- the issuer, after its own next label
pub own_length : (r : Replica) (by n : ℕ) (update : Bool) → length (with_own r by update n).counts ≡ length r.counts
own_length r by n true = length-set r.counts by (get_or r.counts by 0 + 1)
own_length r by n false = refl

pub own_other : (r : Replica) (by n of : ℕ) (update : Bool) → of ≢ by → get_or (with_own r by update n).counts of 0 ≡ get_or r.counts of 0
own_other r by n of true other = get_or-set_other r.counts by of (get_or r.counts by 0 + 1) 0 other
own_other r by n of false other = refl

pub own_count : (r : Replica) (by n : ℕ) (update : Bool) → by < length r.counts → get_or (with_own r by update n).counts by 0 ≡ get_or r.counts by 0 + ones update
own_count r by n true inside = get_or-set_same r.counts by (get_or r.counts by 0 + 1) 0 inside
own_count r by n false inside = omega arith

pub own_issued : (r : Replica) (by n : ℕ) (update : Bool) → length (with_own r by update n).issued ≡ length r.issued + ones update
own_issued r by n true = length-append r.issued (n ∷ [])
own_issued r by n false = omega arith

pub own_before : (r : Replica) (by n p : ℕ) (update : Bool) → p < length r.issued → get_or (with_own r by update n).issued p 0 ≡ get_or r.issued p 0
own_before r by n p true before = get_or-append r.issued (n ∷ []) 0 p before
own_before r by n p false before = refl

pub own_last : (r : Replica) (by n p : ℕ) (update : Bool) → update ≡ true → p ≡ length r.issued → get_or (with_own r by update n).issued p 0 ≡ n
own_last r by n p true is at = get_or_push r.issued n 0 p (sym at)
own_last r by n p false is at = absurd (cc is)

-- the stored counts
pub stored_before : (s : Option Stored) (stored counts : List ℕ) (at k : ℕ) → at + k ≤ length stored
    → take k (drop at (stored_with s stored counts)) ≡ take k (drop at stored)
stored_before (Some a) stored counts at k fits = refl
stored_before None stored counts at k fits =
    ap (take k) (drop-append-le at stored counts (omega arith))
    ∙ take-append-le k (drop at stored) counts (omega (arith, length-drop at stored))

pub stored_longer : (s : Option Stored) (stored counts : List ℕ)
    → (length stored ≤ length (stored_with s stored counts)) × (length (stored_with s stored counts) ≤ length stored + length counts)
stored_longer (Some a) stored counts = (omega arith, omega arith)
stored_longer None stored counts = (omega (arith, length-append stored counts), omega (arith, length-append stored counts))

pub own_stored : (s : Option Stored) (stored counts : List ℕ) (of k : ℕ) → length counts ≡ k
    → ((there : Stored) → s ≡ Some there → get_or (take there.width (drop there.at stored)) of 0 ≡ get_or counts of 0)
    → let there = stored_for s (length stored) k in
    get_or (take there.width (drop there.at (stored_with s stored counts))) of 0 ≡ get_or counts of 0
own_stored (Some there) stored counts of k long same = same there refl
own_stored None stored counts of k long same =
    ap (λ xs. get_or (take k xs) of 0) (drop-append_seam stored counts)
    ∙ ap (λ j. get_or (take j counts) of 0) (sym long)
    ∙ ap (λ xs. get_or xs of 0) (take-length counts)

pub own_there : (s : Option Stored) (stored counts : List ℕ) (k : ℕ) → length counts ≡ k
    → ((there : Stored) → s ≡ Some there → there.at + there.width ≤ length stored)
    → let there = stored_for s (length stored) k in there.at + there.width ≤ length (stored_with s stored counts)
own_there (Some at) stored counts k long there = there at refl
own_there None stored counts k long there = omega (arith, length-append stored counts, long)

-- the counts cover the issuer, and only existing replicas
pub own_width : (s : Option Stored) (end k by : ℕ) → by < k
    → ((there : Stored) → s ≡ Some there → (by < there.width) × (there.width ≤ k))
    → (by < (stored_for s end k).width) × ((stored_for s end k).width ≤ k)
own_width (Some there) end k by below within = within there refl
own_width None end k by below within = (below, omega arith)

-- where the new label's counts are stored, the issuer's new state, and the new row
abbrev pub counts_of_label : Tracked → ℕ → Stored
counts_of_label t by = stored_for (replica_at t by).stored (length t.stored) (replicas_in t)

abbrev pub new_row : Tracked → ℕ → Bool → Row
new_row t by update = record {
  replica = by;
  is_update = update;
  width = (counts_of_label t by).width;
  place = issued_count t by;
  counts = (counts_of_label t by).at;
}

abbrev pub own_replica : Tracked → ℕ → Bool → Replica
own_replica t by update = with_own (replica_at t by) by update (labels_in t)

-- the issuer's new counts for the existing replicas
abbrev pub own_counts : Tracked → ℕ → Bool → List ℕ
own_counts t by update = take (replicas_in t) (own_replica t by update).counts

pub own_counts_length : (t : Tracked) (by : ℕ) (update : Bool) → TrackedKept t → by < replicas_in t → length (own_counts t by update) ≡ replicas_in t
own_counts_length t by update kept below =
    length-take-le (replicas_in t) (own_replica t by update).counts (omega (arith, own_length (replica_at t by) by (labels_in t) update, kept.had_length by below))

pub labels_more : (t : Tracked) (by : ℕ) (update : Bool) → labels_in (with_label t by update) ≡ labels_in t + 1
labels_more t by update = length-append t.rows (new_row t by update ∷ [])

pub row_new : (t : Tracked) (by n : ℕ) (update : Bool) → n ≡ labels_in t → row_at (with_label t by update) n ≡ new_row t by update
row_new t by n update at = get_or_push t.rows (new_row t by update) no_row n (sym at)

pub row_else : (t : Tracked) (by n : ℕ) (update : Bool) → n ≢ labels_in t → row_at (with_label t by update) n ≡ row_at t n
row_else t by n update other = below_or_not n (labels_in t)
    (λ before. get_or-append t.rows (new_row t by update ∷ []) no_row n before)
    (λ after. get_or_past (t.rows ++ new_row t by update ∷ []) n no_row (omega (arith, length-append t.rows (new_row t by update ∷ [])))
    ∙ sym (get_or_past t.rows n no_row after))

pub count_same : (t : Tracked) (by : ℕ) (update : Bool) → replicas_in (with_label t by update) ≡ replicas_in t
count_same t by update = length-set t.replicas by (stored_at (own_replica t by update) (Some (counts_of_label t by)))

pub replica_there : (t : Tracked) (by q : ℕ) (update : Bool) → by < replicas_in t → q ≡ by
    → replica_at (with_label t by update) q ≡ stored_at (own_replica t by update) (Some (counts_of_label t by))
replica_there t by q update below same =
    rw same (get_or-set_same t.replicas by (stored_at (own_replica t by update) (Some (counts_of_label t by))) (new_replica 0) below)

pub replica_else : (t : Tracked) (by q : ℕ) (update : Bool) → q ≢ by → replica_at (with_label t by update) q ≡ replica_at t q
replica_else t by q update other = get_or-set_other t.replicas by q (stored_at (own_replica t by update) (Some (counts_of_label t by))) (new_replica 0) other

-- the number of updates that each replica issued
pub issued_there : (t : Tracked) (by q : ℕ) (update : Bool) → by < replicas_in t → q ≡ by → issued_count (with_label t by update) q ≡ issued_count t q + ones update
issued_there t by q update below same =
    ap (λ (r : Replica). length r.issued) (replica_there t by q update below same)
    ∙ own_issued (replica_at t by) by (labels_in t) update
    ∙ ap (λ k. issued_count t k + ones update) (sym same)

pub issued_else : (t : Tracked) (by q : ℕ) (update : Bool) → q ≢ by → issued_count (with_label t by update) q ≡ issued_count t q
issued_else t by q update other = ap (λ (r : Replica). length r.issued) (replica_else t by q update other)

pub issued_more : (t : Tracked) (by q : ℕ) (update : Bool) → by < replicas_in t → issued_count t q ≤ issued_count (with_label t by update) q
issued_more t by q update below = at_or_else q by
    (λ same. omega (arith, issued_there t by q update below same))
    (λ other. omega (arith, issued_else t by q update other))

pub issued_before : (t : Tracked) (by q p : ℕ) (update : Bool) → by < replicas_in t → p < issued_count t q → issued_at (with_label t by update) q p ≡ issued_at t q p
issued_before t by q p update below before = at_or_else q by
    (λ same.
    ap (λ (r : Replica). get_or r.issued p 0) (replica_there t by q update below same)
    ∙ own_before (replica_at t by) by (labels_in t) p update (omega (arith, ap (issued_count t) same, before))
    ∙ ap (λ k. issued_at t k p) (sym same))
    (λ other. ap (λ (r : Replica). get_or r.issued p 0) (replica_else t by q update other))

pub issued_last : (t : Tracked) (by q p : ℕ) (update : Bool) → by < replicas_in t → update ≡ true → q ≡ by → p ≡ issued_count t q → issued_at (with_label t by update) q p ≡ labels_in t
issued_last t by q p update below is same at =
    ap (λ (r : Replica). get_or r.issued p 0) (replica_there t by q update below same)
    ∙ own_last (replica_at t by) by (labels_in t) p update is (at ∙ ap (issued_count t) same)

-- the number of updates delivered to each replica
pub had_there : (t : Tracked) (by q of : ℕ) (update : Bool) → by < replicas_in t → q ≡ by → of ≢ by → delivered_count (with_label t by update) q of ≡ delivered_count t q of
had_there t by q of update below same other =
    ap (λ (r : Replica). get_or r.counts of 0) (replica_there t by q update below same)
    ∙ own_other (replica_at t by) by (labels_in t) of update other
    ∙ ap (λ k. delivered_count t k of) (sym same)

pub had_own : (t : Tracked) (by q of : ℕ) (update : Bool) → by < replicas_in t → by < length (replica_at t by).counts → q ≡ by → of ≡ by
    → delivered_count (with_label t by update) q of ≡ delivered_count t q of + ones update
had_own t by q of update below inside same own =
    ap (λ (r : Replica). get_or r.counts of 0) (replica_there t by q update below same)
    ∙ ap (λ k. get_or (own_replica t by update).counts k 0) own
    ∙ own_count (replica_at t by) by (labels_in t) update inside
    ∙ ap (λ k. delivered_count t k by + ones update) (sym same)
    ∙ ap (λ k. delivered_count t q k + ones update) (sym own)

pub had_else : (t : Tracked) (by q of : ℕ) (update : Bool) → q ≢ by → delivered_count (with_label t by update) q of ≡ delivered_count t q of
had_else t by q of update other = ap (λ (r : Replica). get_or r.counts of 0) (replica_else t by q update other)

-- the number of updates that each label sees
pub counts_same : (t : Tracked) (by at width : ℕ) (update : Bool) → at + width ≤ length t.stored → counts_at (with_label t by update) at width ≡ counts_at t at width
counts_same t by at width update fits =
    stored_before (replica_at t by).stored t.stored (own_counts t by update) at width fits

pub counts_new : (t : Tracked) (by of : ℕ) (update : Bool) → TrackedKept t → by < replicas_in t → of < replicas_in t → of ≢ by
    → get_or (counts_at (with_label t by update) (counts_of_label t by).at (counts_of_label t by).width) of 0 ≡ delivered_count t by of
counts_new t by of update kept below inside other =
    let had : get_or (own_counts t by update) of 0 ≡ delivered_count t by of =
    get_or-take (replicas_in t) (own_replica t by update).counts of 0 inside ∙ own_other (replica_at t by) by (labels_in t) of update other in
    own_stored (replica_at t by).stored t.stored (own_counts t by update) of (replicas_in t) (own_counts_length t by update kept below)
    (λ there e. kept.stored_same by there of below e inside other ∙ sym had)
    ∙ had

pub counts_there : (t : Tracked) (by : ℕ) (update : Bool) → TrackedKept t → by < replicas_in t
    → (counts_of_label t by).at + (counts_of_label t by).width ≤ length (with_label t by update).stored
counts_there t by update kept below =
    own_there (replica_at t by).stored t.stored (own_counts t by update) (replicas_in t) (own_counts_length t by update kept below) (λ there e. kept.stored_there by there below e)

pub width_there : (t : Tracked) (by : ℕ) → TrackedKept t → by < replicas_in t
    → (by < (counts_of_label t by).width) × ((counts_of_label t by).width ≤ replicas_in t)
width_there t by kept below =
    own_width (replica_at t by).stored (length t.stored) (replicas_in t) by below (λ there e. kept.stored_width by there below e)

pub seen_before : (t : Tracked) (by n : ℕ) (update : Bool) → TrackedKept t → n < labels_in t
    → (seen_in (with_label t by update) n).counts ≡ (seen_in t n).counts
seen_before t by n update kept before =
    ap (λ (r : Row). set (counts_at (with_label t by update) r.counts r.width) r.replica r.place) (row_else t by n update (omega (arith, before)))
    ∙ ap (λ xs. set xs (row_at t n).replica (row_at t n).place) (counts_same t by (row_at t n).counts (row_at t n).width update (kept.row_counts n before))

-- the new label sees what was delivered to its replica
pub seen_new : (t : Tracked) (by n of : ℕ) (update : Bool) → TrackedKept t → by < replicas_in t → of < replicas_in t → n ≡ labels_in t
    → seen_count (with_label t by update) n of ≡ delivered_count t by of
seen_new t by n of update kept below inside new =
    let there = counts_of_label t by in
    let counts = counts_at (with_label t by update) there.at there.width in
    let long : by < length counts =
    omega (
      arith,
      length-take-le there.width (drop there.at (with_label t by update).stored)
          (omega (arith, length-drop there.at (with_label t by update).stored, counts_there t by update kept below)),
      (width_there t by kept below).0,
    ) in
    ap (λ (r : Row). get_or (set (counts_at (with_label t by update) r.counts r.width) r.replica r.place) of 0) (row_new t by n update new)
    ∙ at_or_else of by
    (λ own.
    ap (λ k. get_or (set counts by (issued_count t by)) k 0) own
    ∙ get_or-set_same counts by (issued_count t by) 0 long
    ∙ sym (kept.had_own by below)
    ∙ ap (delivered_count t by) (sym own))
    (λ other. get_or-set_other counts by of (issued_count t by) 0 other ∙ counts_new t by of update kept below inside other)
