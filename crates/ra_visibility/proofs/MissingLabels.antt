-- Lemmas on the least label that a delivered label sees and the receiver lacks, searched replica by replica.
use Rattle.std.proofs.Common.{◌≡◌, ℕ, zero, suc, ◌+◌, ◌<◌, ◌≤◌, Bool, true, false, length, Option, Some, None, refl, sym, ap, ◌∙◌, subst, ⊎_elim, arith}
use Rattle.std.specs.Prelude.{[], ◌∷◌, ◌&&◌, not, nat_lt, drop, option_map, cond}
use Rattle.std.specs.List.{find, range_with_len}
use Rattle.std.proofs.lemmas.List.{get_or-set_same, length-take-le, length-drop}
use Rattle.std.proofs.lemmas.Bool.{lt-ltb, le-ltb, ltb-true, ltb-false}
use Rattle.ra_labels.specs.declared.refusal.Refusal.TheVariants.{UnknownLabel, NotAnUpdate, AlreadySeen, NotCausal}
use Rattle.ra_labels.specs.Answer.{when, first_of}
use Rattle.ra_visibility.specs.Tracked.{Tracked, replicas_in, labels_in, row_at, is_update_in, delivered_count, has_delivered_in, seen_count, counts_at, is_missing, first_missing_in, refusal_in}
use Rattle.ra_visibility.specs.Least.{lesser_of}
use Rattle.ra_visibility.specs.Kept.{TrackedKept, issued_count, issued_at}
use Rattle.ra_visibility.proofs.Tests.{at_or_else, below_or_not, both_or_none, update_there}
use Rattle.ra_visibility.proofs.Deliveries.{IsNext}

-- `find` returns `None` if no number passes
pub find_none : (p : ℕ → Bool) (a n : ℕ) → ((m : ℕ) → a ≤ m → m < a + n → p m ≡ false) → find p (range_with_len a n) ≡ None
find_none p a zero fails = refl
find_none p a (suc n) fails =
    rw (fails a (omega arith) (omega arith)) (find_none p (a + 1) n (λ m low high. fails m (omega arith) (omega arith)))

-- `find` returns the first number that passes
find_some : (p : ℕ → Bool) (a n k : ℕ) → a ≤ k → k < a + n → p k ≡ true → ((m : ℕ) → a ≤ m → m < k → p m ≡ false)
    → find p (range_with_len a n) ≡ Some k
find_some p a zero k low high passes fails = absurd (omega arith)
find_some p a (suc n) k low high passes fails = at_or_else a k
    (λ here. rw (here, passes) refl)
    (λ above. rw (fails a (omega arith) (omega arith)) (find_some p (a + 1) n k (omega arith) (omega arith) passes (λ m l h. fails m (omega arith) h)))

-- no number passes if `find` returns `None`
pub none_of : (p : ℕ → Bool) (a n m : ℕ) → find p (range_with_len a n) ≡ None → a ≤ m → m < a + n → p m ≡ false
none_of p a zero m none low high = absurd (omega arith)
none_of p a (suc n) m none low high = ⊎_elim
    (λ passes. absurd (cc (none, ap (λ b. cond b (Some a) (find p (range_with_len (a + 1) n))) passes)))
    (λ fails. at_or_else m a
    (λ here. rw here fails)
    (λ above.
    let rest : find p (range_with_len (a + 1) n) ≡ None = sym (ap (λ b. cond b (Some a) (find p (range_with_len (a + 1) n))) fails) ∙ none in
    none_of p (a + 1) n m rest (omega arith) (omega arith)))
    (both_or_none (p a))

-- the next update of this replica that the receiver lacks, if the label sees it
abbrev pub IsLackedOf : Tracked → ℕ → ℕ → ℕ → Type 0
IsLackedOf t to label of = delivered_count t to of < seen_count t label of

abbrev pub lacked_at : Tracked → ℕ → ℕ → ℕ
lacked_at t to of = issued_at t of (delivered_count t to of)

-- the least missing label of the first replicas
abbrev pub IsLeastOf : Tracked → ℕ → ℕ → ℕ → Option ℕ → Type 0
IsLeastOf t to label end None = (of : ℕ) → of < end → seen_count t label of ≤ delivered_count t to of
IsLeastOf t to label end (Some m) =
    ((of : ℕ) × (of < replicas_in t) × IsLackedOf t to label of × (m ≡ lacked_at t to of))
    × ((of : ℕ) → of < end → IsLackedOf t to label of → m ≤ lacked_at t to of)

missing_parts : (u a b : Bool) → ((u && a) && not (u && b)) ≡ true → (u ≡ true) × (a ≡ true) × (b ≡ false)
missing_parts true true true is = absurd (cc is)
missing_parts true true false is = (refl, refl, refl)
missing_parts true false b is = absurd (cc is)
missing_parts false a b is = absurd (cc is)

missing_from : (u a b : Bool) → u ≡ true → a ≡ true → b ≡ false → ((u && a) && not (u && b)) ≡ true
missing_from u a b update sees lacks = rw (update, sees, lacks) refl

-- a missing label is an update whose position is between the two counts
pub record IsMissing (t : Tracked) (to label m : ℕ) : Type 0 where
  pub update : (row_at t m).is_update ≡ true
  pub seen : (row_at t m).place < seen_count t label (row_at t m).replica
  pub lacked : delivered_count t to (row_at t m).replica ≤ (row_at t m).place

pub missing_where : (t : Tracked) (to label m : ℕ) → is_missing t to label m ≡ true → IsMissing t to label m
missing_where t to label m missing =
    let r = (row_at t m).replica in
    let p = (row_at t m).place in
    let parts = missing_parts (row_at t m).is_update (nat_lt p (seen_count t label r)) (nat_lt p (delivered_count t to r)) missing in
    record { update = parts.0; seen = ltb-true p (seen_count t label r) parts.1; lacked = ltb-false p (delivered_count t to r) parts.2 }

where_missing : (t : Tracked) (to label m : ℕ) → IsMissing t to label m → is_missing t to label m ≡ true
where_missing t to label m is =
    let r = (row_at t m).replica in
    let p = (row_at t m).place in
    missing_from (row_at t m).is_update (nat_lt p (seen_count t label r)) (nat_lt p (delivered_count t to r))
    is.update (lt-ltb p (seen_count t label r) is.seen) (le-ltb p (delivered_count t to r) is.lacked)

-- the next update that the receiver lacks is missing
lacked_missing : (t : Tracked) (to label of : ℕ) → TrackedKept t → label < labels_in t → of < replicas_in t → IsLackedOf t to label of
    → (lacked_at t to of < labels_in t) × (is_missing t to label (lacked_at t to of) ≡ true)
lacked_missing t to label of kept there below lacked =
    let is = kept.issued_row of (delivered_count t to of) below (omega (arith, lacked, kept.row_seen label of there below)) in
    let m = lacked_at t to of in (
      is.there,
      where_missing t to label m (record {
        update = is.update;
        seen = subst (λ q. (row_at t m).place < seen_count t label q) (sym is.replica) (omega (arith, is.place, lacked));
        lacked = subst (λ q. delivered_count t to q ≤ (row_at t m).place) (sym is.replica) (omega (arith, is.place));
      }),
    )

-- a missing label has at least the number of its issuer's next update that the receiver lacks
missing_above : (t : Tracked) (to label m : ℕ) → TrackedKept t → label < labels_in t → IsMissing t to label m
    → ((row_at t m).replica < replicas_in t) × IsLackedOf t to label (row_at t m).replica × (lacked_at t to (row_at t m).replica ≤ m)
missing_above t to label m kept there is =
    let r = (row_at t m).replica in
    let p = (row_at t m).place in
    let known : m < labels_in t = update_there t m is.update in
    let below : r < replicas_in t = kept.row_replica m known in
    let own = kept.row_issued m known is.update in
    let lower : lacked_at t to r ≤ m = at_or_else (delivered_count t to r) p
    (λ next. omega (arith, ap (issued_at t r) next, own.1))
    (λ later. omega (arith, kept.issued_rise r (delivered_count t to r) p below (omega (arith, is.lacked)) own.0, own.1)) in
    (below, omega (arith, is.seen, is.lacked), lower)

-- the search is complete once it has visited each replica
pub least_found : (t : Tracked) (to label : ℕ) (least : Option ℕ) → TrackedKept t → label < labels_in t
    → IsLeastOf t to label (replicas_in t) least → least ≡ first_missing_in t to label
least_found t to label None kept there none = sym (find_none (is_missing t to label) 0 (labels_in t) (λ m low high.
    ⊎_elim
    (λ missing.
    let is = missing_where t to label m missing in
    absurd (omega (arith, is.seen, is.lacked, none (row_at t m).replica (kept.row_replica m (omega arith)))))
    (λ fine. fine)
    (both_or_none (is_missing t to label m))))
least_found t to label (Some k) kept there (found, least) =
    let of = found.0 in
    let lacked = lacked_missing t to label of kept there found.1 found.2 in
    let same : lacked_at t to of ≡ k = sym found.3 in
    sym (find_some (is_missing t to label) 0 (labels_in t) k (omega arith) (omega (arith, lacked.0, same)) (ap (is_missing t to label) (sym same) ∙ lacked.1) (λ m low high.
    ⊎_elim
    (λ missing.
    let above = missing_above t to label m kept there (missing_where t to label m missing) in
    absurd (omega (arith, high, above.2, least (row_at t m).replica above.0 above.1)))
    (λ fine. fine)
    (both_or_none (is_missing t to label m))))

-- one more replica
pub least_skips : (t : Tracked) (to label end : ℕ) (least : Option ℕ) → IsLeastOf t to label end least → seen_count t label end ≤ delivered_count t to end
    → IsLeastOf t to label (end + 1) least
least_skips t to label end None none fine = λ of below. at_or_else of end
    (λ here. rw here fine)
    (λ before. none of (omega arith))
least_skips t to label end (Some m) (found, least) fine = (
  found,
  λ of below lacked. at_or_else of end
      (λ here. absurd (omega (arith, fine, ap (delivered_count t to) here, ap (seen_count t label) here, lacked)))
      (λ before. least of (omega arith) lacked),
)

pub least_takes : (t : Tracked) (to label end : ℕ) (least : Option ℕ) → end < replicas_in t → IsLackedOf t to label end
    → IsLeastOf t to label end least → IsLeastOf t to label (end + 1) (Some (lesser_of least (lacked_at t to end)))
least_takes t to label end None known lacks none = (
  (end, known, lacks, refl),
  λ of below lacked. at_or_else of end
      (λ here. omega (arith, ap (lacked_at t to) here))
      (λ before. absurd (omega (arith, lacked, none of (omega arith)))),
)
least_takes t to label end (Some m) known lacks (found, least) =
    let next = lacked_at t to end in (
      below_or_not m next
          (λ lower. (found.0, found.1, found.2, omega (arith, lower, found.3)))
          (λ higher. (end, known, lacks, omega (arith, higher))),
      λ of below lacked. at_or_else of end
          (λ here. omega (arith, ap (lacked_at t to) here))
          (λ before. omega (arith, least of (omega arith) lacked)),
    )

-- what the tests state of a delivery that is not refused
pub none_parts : (there update has : Bool) (missing : Option ℕ)
    → first_of (when (not there) UnknownLabel ∷ when (not update) NotAnUpdate ∷ when has AlreadySeen ∷ option_map NotCausal missing ∷ []) ≡ None
    → (there ≡ true) × (update ≡ true) × (has ≡ false) × (missing ≡ None)
none_parts false update has missing is = absurd (cc is)
none_parts true false has missing is = absurd (cc is)
none_parts true true true missing is = absurd (cc is)
none_parts true true false None is = (refl, refl, refl, refl)
none_parts true true false (Some m) is = absurd (cc is)

-- the number of updates of its own replica that a label sees is its position
pub seen_own : (t : Tracked) (label : ℕ) → TrackedKept t → label < labels_in t → seen_count t label (row_at t label).replica ≡ (row_at t label).place
seen_own t label kept there =
    let row = row_at t label in
    let long : length (counts_at t row.counts row.width) ≡ row.width =
    length-take-le row.width (drop row.counts t.stored) (omega (arith, length-drop row.counts t.stored, kept.row_counts label there)) in
    get_or-set_same (counts_at t row.counts row.width) row.replica row.place 0 (omega (arith, long, (kept.row_width label there).0))

-- if no label is missing, all that the label sees was delivered to the receiver
none_lacked : (t : Tracked) (to label of : ℕ) → TrackedKept t → label < labels_in t → first_missing_in t to label ≡ None → of < replicas_in t
    → seen_count t label of ≤ delivered_count t to of
none_lacked t to label of kept there none below = below_or_not (delivered_count t to of) (seen_count t label of)
    (λ lacked.
    let missing = lacked_missing t to label of kept there below lacked in
    absurd (cc (missing.1, none_of (is_missing t to label) 0 (labels_in t) (lacked_at t to of) none (omega arith) (omega (arith, missing.0)))))
    (λ fine. fine)

pub next_where_taken : (t : Tracked) (to label : ℕ) → TrackedKept t → to < replicas_in t → refusal_in t to label ≡ None → IsNext t to label
next_where_taken t to label kept receiver none =
    let parts = none_parts (nat_lt label (labels_in t)) (is_update_in t label) (has_delivered_in t to label) (first_missing_in t to label) none in
    let there : label < labels_in t = ltb-true label (labels_in t) parts.0 in
    let from = (row_at t label).replica in
    let place = (row_at t label).place in
    let known : from < replicas_in t = kept.row_replica label there in
    let own = kept.row_issued label there parts.1 in
    let not_had : delivered_count t to from ≤ place =
    ltb-false place (delivered_count t to from) (sym (ap (λ b. b && nat_lt place (delivered_count t to from)) parts.1) ∙ parts.2) in
    record {
      there = there;
      update = parts.1;
      receiver = receiver;
      other = λ same. omega (arith, own.0, not_had, kept.had_own to receiver, ap (delivered_count t to) same, ap (issued_count t) same);
      place = omega (arith, seen_own t label kept there, not_had, none_lacked t to label from kept there parts.3 known);
      all = λ of below. none_lacked t to label of kept there parts.3 below;
    }
