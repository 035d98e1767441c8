-- Lemmas on parts that are among other parts, as those of the named sequence are among those of any sequence.
use Rattle.std.proofs.Common.{◌≡◌, ℕ, Bool, true, false, cond, List, [], ◌∷◌, filter, refl, sym, ap, ◌∙◌, subst, inl, inr, arith}
use Rattle.std.specs.Prelude.{◌||◌, not, Contains, IsPermutation}
use Rattle.std.specs.List.{list_all, cons_option}
use Rattle.std.proofs.lemmas.Bool.{and_parts, and_from, or_left}
use Rattle.std.proofs.lemmas.List.Sorted.{Contains-permutation, IsPermutation-sym}
use Rattle.ra_labels.specs.declared.kind.Kind.{Kind}
use Rattle.ra_labels.specs.declared.operation.Update.{Update}
use Rattle.ra_labels.specs.Records.{Records}
use Rattle.ra_labels.specs.Visibility.{sees}
use Rattle.ra_labels.specs.Rewriting.{Part, Does, update_of, updates_of}
use Rattle.ra_labels.specs.Linearization.{parts_in, is_visible_to, is_earlier_at_replica, is_query_half_of, must_precede, extends, visible_updates, IsRaLinearizationBy}
use Rattle.ra_labels.specs.NamedOrder.{named_sequence}
use Rattle.ra_labels.proofs.InLists.{list_all-contains, list_all-from_contains}
use Rattle.ra_labels.proofs.Members.{head_or_behind, at_head, there-kept, kept-there}
use Rattle.ra_theorems.proofs.Faults.{IsPermutation-named_sequence}
use Rattle.ra_theorems.proofs.LastUpdates.{in_option}
use Rattle.ra_theorems.proofs.Deliveries.{update_from}

pub in_updates : (parts : List Part) (p : Part) (u : Update) → Contains parts p → p.act ≡ Does u
    → Contains (updates_of parts) u
in_updates [] p u there does = absurd (omega (arith, there.1))
in_updates (q ∷ qs) p u there does = elim (head_or_behind q qs p there) [
  | inl here ↦
      subst (λ o. Contains (cons_option o (updates_of qs)) u)
      (sym (ap (λ (r : Part). update_of r.act) here ∙ ap update_of does)) (at_head u (updates_of qs) u refl)
  | inr further ↦ in_option (update_of q.act) (updates_of qs) u (in_updates qs p u further does)
]

-- every part of one list is a part of the other
abbrev pub AreAmong : List Part → List Part → Type 0
AreAmong ps qs = (p : Part) → Contains ps p → Contains qs p

pub updates_among : (ps qs : List Part) → AreAmong ps qs → (u : Update) → Contains (updates_of ps) u
    → Contains (updates_of qs) u
updates_among ps qs among u there =
    let (p, found, does) = update_from ps u there in
    in_updates qs p u (among p found) does

pub filter_among : (ps qs : List Part) (test : Part → Bool) → AreAmong ps qs
    → AreAmong (filter test ps) (filter test qs)
filter_among ps qs test among p there =
    let kept = there-kept test ps p there in
    kept-there test qs p (among p kept.0) kept.1

pub shuffled_among : (ps qs : List Part) → IsPermutation ps qs → AreAmong ps qs
shuffled_among ps qs same p there = Contains-permutation ps qs p same there

-- of a sequence, the parts that label n sees
abbrev pub seen_by : Records → ℕ → Part → Bool
seen_by records n p = sees records n p.label.number

pub extends-filter : (precedes : Part → Part → Bool) (test : Part → Bool) (ps : List Part) → extends precedes ps ≡ true
    → extends precedes (filter test ps) ≡ true
extends-filter precedes test [] extended = refl
extends-filter precedes test (p ∷ ps) extended =
    let pieces = and_parts (list_all (λ q. not (precedes q p)) ps) (extends precedes ps) extended in
    with_one (test p) pieces.0 (extends-filter precedes test ps pieces.1)
  where
    with_one : (b : Bool) → list_all (λ q. not (precedes q p)) ps ≡ true → extends precedes (filter test ps) ≡ true
        → extends precedes (cond b (p ∷ filter test ps) (filter test ps)) ≡ true
    with_one false none rest = rest
    with_one true none rest =
        and_from (list_all (λ q. not (precedes q p)) (filter test ps)) (extends precedes (filter test ps))
        (list_all-from_contains (λ q. not (precedes q p)) (filter test ps) (λ q found.
        list_all-contains (λ r. not (precedes r p)) ps q none (there-kept test ps q found).0)) rest

abbrev pub Linearizes : Kind → Records → List Part → Type 0
Linearizes kind records sequence = IsRaLinearizationBy (is_visible_to records) kind records sequence

pub named_in : (kind : Kind) (records : Records) (sequence : List Part) → Linearizes kind records sequence
    → AreAmong (named_sequence kind records) sequence
named_in kind records sequence linearizes p there =
    Contains-permutation (parts_in records) sequence p linearizes.each_part_once
    (Contains-permutation (named_sequence kind records) (parts_in records) p
    (IsPermutation-sym (parts_in records) (named_sequence kind records) (IsPermutation-named_sequence kind records))
    there)

pub in_named : (kind : Kind) (records : Records) (sequence : List Part) → Linearizes kind records sequence
    → AreAmong sequence (named_sequence kind records)
in_named kind records sequence linearizes p there =
    Contains-permutation (parts_in records) (named_sequence kind records) p (IsPermutation-named_sequence kind records)
    (Contains-permutation sequence (parts_in records) p
    (IsPermutation-sym (parts_in records) sequence linearizes.each_part_once) there)

-- if the parts of one order are among those of another, so are the updates that a label sees
pub visible_among : (records : Records) (ps qs : List Part) (n : ℕ) → AreAmong ps qs → (u : Update)
    → Contains (visible_updates records ps n) u → Contains (visible_updates records qs n) u
visible_among records ps qs n among =
    updates_among (filter (seen_by records n) ps) (filter (seen_by records n) qs)
    (filter_among ps qs (seen_by records n) among)

-- a part must precede each part to which it is visible
pub seen_must_precede : (records : Records) (p q : Part) → is_visible_to records p q ≡ true
    → must_precede records p q ≡ true
seen_must_precede records p q seen =
    or_left (is_visible_to records p q || is_earlier_at_replica p q) (is_query_half_of p q)
    (or_left (is_visible_to records p q) (is_earlier_at_replica p q) seen)
