-- Lemmas on withdrawals: withdrawing a change restores the previous state.
use Rattle.std.proofs.Common.{◌≡◌, ℕ, ◌+◌, ◌-◌, ◌<◌, Bool, true, false, List, [], ◌∷◌, ◌++◌, length, get_or, Option, Some, None, refl, ap, ◌∙◌, arith, length-append}
use Rattle.std.specs.Prelude.{set, take, is_none, if◌then◌else◌}
use Rattle.std.proofs.lemmas.List.{set-set, set-get_or, get_or-set_same}
use Rattle.std.proofs.Math.Seq.{take-append_seam}
use Rattle.ra_visibility.specs.declared.row.Row.{Row}
use Rattle.ra_visibility.specs.declared.stored.Stored.{Stored}
use Rattle.ra_visibility.specs.Replica.{Replica, new_replica, joined_from, with_own, without_own, stored_at, with_next, without_last}
use Rattle.ra_visibility.specs.Tracked.{Tracked, replicas_in, labels_in, replica_at, row_at}
use Rattle.ra_visibility.specs.Changes.{stored_for, stored_with, with_label, without_label, with_delivery, without_delivery, with_joined, without_joined}
use Rattle.ra_visibility.specs.Kept.{TrackedKept}
use Rattle.ra_visibility.proofs.IssuedRows.{counts_of_label, new_row, own_replica, own_counts, labels_more, row_new, replica_there}

-- a count that is raised and then lowered
count_back : (xs : List ℕ) (i : ℕ) → i < length xs → set (set xs i (get_or xs i 0 + 1)) i (get_or (set xs i (get_or xs i 0 + 1)) i 0 - 1) ≡ xs
count_back xs i inside =
    let was : get_or (set xs i (get_or xs i 0 + 1)) i 0 - 1 ≡ get_or xs i 0 = omega (arith, get_or-set_same xs i (get_or xs i 0 + 1) 0 inside) in
    set-set xs i (get_or xs i 0 + 1) (get_or (set xs i (get_or xs i 0 + 1)) i 0 - 1) ∙ ap (set xs i) was ∙ set-get_or xs i 0

-- an element that is appended and then removed
last_back : {A : Type 0} (xs : List A) (x : A) → take (length (xs ++ x ∷ []) - 1) (xs ++ x ∷ []) ≡ xs
last_back xs x =
    let short : length (xs ++ x ∷ []) - 1 ≡ length xs = omega (arith, length-append xs (x ∷ [])) in
    ap (λ k. take k (xs ++ x ∷ [])) short ∙ take-append_seam xs (x ∷ [])

-- an element that is replaced and then written back
written_back : (xs : List Replica) (i : ℕ) (x y d : Replica) → y ≡ get_or xs i d → set (set xs i x) i y ≡ xs
written_back xs i x y d same = set-set xs i x y ∙ ap (set xs i) same ∙ set-get_or xs i d

issue_back : (r : Replica) (by n : ℕ) (update : Bool) (at : Stored) → by < length r.counts → without_own (stored_at (with_own r by update n) (Some at)) by update ≡ stored_at r (Some at)
issue_back r by n true at inside =
    let counts = count_back r.counts by inside in
    let issued = last_back r.issued n in
    cc (counts, issued)
issue_back r by n false at inside = refl

stored_back : (s : Option Stored) (end width : ℕ) → (if is_none s then None else Some (stored_for s end width)) ≡ s
stored_back (Some at) end width = refl
stored_back None end width = refl

table_back : (s : Option Stored) (stored counts : List ℕ) (width : ℕ)
    → (if is_none s then take (stored_for s (length stored) width).at (stored_with s stored counts) else stored_with s stored counts) ≡ stored
table_back (Some at) stored counts width = refl
table_back None stored counts width = take-append_seam stored counts

abbrev tracked_of : List Replica → List Row → List ℕ → Tracked
tracked_of replicas rows stored = record { replicas = replicas; rows = rows; stored = stored }

-- the tracker without this row, which was its last
abbrev taken : Tracked → Bool → ℕ → Row → Tracked
taken tracked was_stored end row =
    let replica = without_own (replica_at tracked row.replica) row.replica row.is_update in
    record {
      replicas = set tracked.replicas row.replica (stored_at replica (if was_stored then None else replica.stored));
      rows = take end tracked.rows;
      stored = if was_stored then take row.counts tracked.stored else tracked.stored;
    }

pub label_back : (t : Tracked) (by : ℕ) (update : Bool) → TrackedKept t → by < replicas_in t → without_label (with_label t by update) (is_none (replica_at t by).stored) ≡ t
label_back t by update kept below =
    let new = with_label t by update in
    let was = is_none (replica_at t by).stored in
    let at = counts_of_label t by in
    let inside : by < length (replica_at t by).counts = omega (arith, kept.had_length by below) in
    let short : labels_in new - 1 ≡ labels_in t = omega (arith, labels_more t by update) in
    let row : row_at new (labels_in new - 1) ≡ new_row t by update = row_new t by (labels_in new - 1) update short in
    let left : without_label new was ≡ taken new was (labels_in t) (new_row t by update) = ap (λ r. taken new was (labels_in new - 1) r) row ∙ ap (λ k. taken new was k (new_row t by update)) short in
    let own : without_own (replica_at new by) by update ≡ stored_at (replica_at t by) (Some at) =
    ap (λ r. without_own r by update) (replica_there t by by update below refl) ∙ issue_back (replica_at t by) by (labels_in t) update at inside in
    let given : Replica → Replica = λ r. stored_at r (if was then None else r.stored) in
    let replica : given (without_own (replica_at new by) by update) ≡ replica_at t by =
    ap given own ∙ ap (stored_at (replica_at t by)) (stored_back (replica_at t by).stored (length t.stored) (replicas_in t)) in
    let replicas = written_back t.replicas by (stored_at (own_replica t by update) (Some at)) (given (without_own (replica_at new by) by update)) (new_replica 0) replica in
    let rows = take-append_seam t.rows (new_row t by update ∷ []) in
    let stored_left = if was then take at.at new.stored else new.stored in
    let stored = table_back (replica_at t by).stored t.stored (own_counts t by update) (replicas_in t) in
    left
    ∙ ap (λ xs. tracked_of xs (take (labels_in t) new.rows) stored_left) replicas
    ∙ ap (λ xs. tracked_of t.replicas xs stored_left) rows
    ∙ ap (tracked_of t.replicas t.rows) stored

get_back : (r : Replica) (from : ℕ) → from < length r.counts → without_last (with_next r from) from r.stored ≡ r
get_back r from inside =
    let of_counts : List ℕ → Replica = λ counts. record { counts = counts; issued = r.issued; stored = r.stored } in
    ap of_counts (count_back r.counts from inside)

pub delivery_back : (t : Tracked) (to label from : ℕ) (at : Option Stored) → TrackedKept t → to < replicas_in t → label < labels_in t
    → from ≡ (row_at t label).replica → at ≡ (replica_at t to).stored
    → without_delivery (with_delivery t to label) to from at ≡ t
delivery_back t to label from at kept below there is stored =
    let r = (row_at t label).replica in
    let inside : r < length (replica_at t to).counts = omega (arith, kept.had_length to below, kept.row_replica label there) in
    let next = with_next (replica_at t to) r in
    let new = with_delivery t to label in
    let same : without_last (replica_at new to) from at ≡ replica_at t to =
    ap (λ x. without_last x from at) (get_or-set_same t.replicas to next (new_replica 0) below)
    ∙ ap (λ f. without_last next f at) is
    ∙ ap (without_last next r) stored
    ∙ get_back (replica_at t to) r inside in
    let replicas = written_back t.replicas to next (without_last (replica_at new to) from at) (new_replica 0) same in
    ap (λ xs. tracked_of xs t.rows t.stored) replicas

pub join_back : (t : Tracked) (from : ℕ) → without_joined (with_joined t from) ≡ t
join_back t from = ap (λ xs. tracked_of xs t.rows t.stored) (last_back t.replicas (joined_from (replica_at t from)))
