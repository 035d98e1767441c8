-- Lemmas on labels that are sorted by rank one after another, by increasing number.
use Rattle.std.proofs.Common.{◌≡◌, ℕ, zero, suc, ◌+◌, ◌<◌, ◌≤◌, true, false, List, [], ◌∷◌, ◌++◌, length, get_or, refl, sym, ap, ◌∙◌, subst, inl, inr, arith, Ordering}
use Rattle.std.specs.Prelude.{take}
use Rattle.std.specs.List.{AllByRecursion, insert}
use Rattle.std.specs.List.Sorted.{IsPartitionedBy}
use Rattle.std.specs.Ordering.{is_lt, nat_cmp, ordering_then, match_ordering}
use Rattle.std.specs.declared.cmp.Ordering.TheVariants.{Less, Equal, Greater}
use Rattle.std.specs.BTreeSet.{insert_key}
use Rattle.std.proofs.lemmas.Bool.{true≢false, cases_Bool, le-ltb, ne_eqb, not-true, not-false, false_from_ne_true}
use Rattle.std.proofs.lemmas.List.{length-take, take_more}
use Rattle.ra_labels.specs.declared.label.Stamp.{Stamp}
use Rattle.ra_labels.specs.NamedOrder.{stamp_cmp, greater_of}
use Rattle.ra_time_order.specs.declared.entry.Entry.{Entry}
use Rattle.ra_time_order.specs.Positions.{not_above, IsPositionOf}
use Rattle.ra_time_order.specs.Sorted.{UpTo}
use Rattle.ra_time_order.specs.LabelRanks.{entry_cmp, sorted_with, sorted_ranks, RanksKept}
use Rattle.ra_time_order.proofs.Ranks.{at_most_through, greater_above}
use Rattle.ra_time_order.proofs.Each.{each_weaker}

-- a label with a greater number than another comes before it only if its rank is less
below_by : (o p : Ordering) → is_lt o ≡ true → ordering_then o p ≡ Less
below_by Less p less = refl
below_by Equal p less = absurd (true≢false (sym less))
below_by Greater p less = absurd (true≢false (sym less))

above_by : (o : Ordering) (m n : ℕ) → is_lt o ≡ false → n < m → ordering_then o (nat_cmp m n) ≡ Greater
above_by Less m n less below = absurd (true≢false less)
above_by Equal m n less below = rw (le-ltb m n (omega arith), ne_eqb m n (λ is. absurd (omega arith)))
above_by Greater m n less below = refl

abbrev Below : ℕ → Entry → Type 0
Below number entry = entry.label < number

goes_before : (e f : Entry) → not_above e.rank f ≡ false → entry_cmp e f ≡ Less
goes_before e f above = below_by (stamp_cmp e.rank f.rank) (nat_cmp e.label f.label)
    (not-false (is_lt (stamp_cmp e.rank f.rank)) above)

goes_behind : (e f : Entry) → not_above e.rank f ≡ true → Below e.label f → entry_cmp e f ≡ Greater
goes_behind e f under below = above_by (stamp_cmp e.rank f.rank) e.label f.label
    (not-true (is_lt (stamp_cmp e.rank f.rank)) under) below

-- the list with the label, by whether the first one has no greater rank
abbrev with_key : Entry → Entry → List Entry → Ordering → List Entry
with_key e y ys o = match_ordering o (e ∷ y ∷ ys) (y ∷ ys) (y ∷ insert_key entry_cmp ys e)

-- a label with a greater number than all is inserted behind those that have no greater rank
key_inserted : (e : Entry) (xs : List Entry) (p : ℕ) → AllByRecursion (Below e.label) xs → IsPositionOf e.rank xs p
    → insert_key entry_cmp xs e ≡ insert xs p e
key_inserted e [] zero below is = refl
key_inserted e [] (suc p) below is = absurd (omega (arith, is.among))
key_inserted e (y ∷ ys) zero below is =
    ap (with_key e y ys) (goes_before e y (is.split.1 0 y (omega arith) (omega arith)))
key_inserted e (y ∷ ys) (suc p) below is =
    let rest : IsPositionOf e.rank ys p = record {
      among = omega (arith, is.among);
      split = (
        (λ k d low high. is.split.0 (suc k) d (omega arith) (omega arith)),
        (λ k d low high. is.split.1 (suc k) d (omega arith) (omega arith)),
      );
    } in
    ap (with_key e y ys) (goes_behind e y (is.split.0 0 y (omega arith) (omega arith)) below.0)
    ∙ ap (λ zs. y ∷ zs) (key_inserted e ys p below.1 rest)

-- so there is one label more
key_counted : (e : Entry) (xs : List Entry) → AllByRecursion (Below e.label) xs
    → length (insert_key entry_cmp xs e) ≡ suc (length xs)
key_counted e [] below = refl
key_counted e (y ∷ ys) below = elim (cases_Bool (not_above e.rank y)) [
  | inl under ↦
      ap (λ o. length (with_key e y ys o)) (goes_behind e y under below.0) ∙ ap suc (key_counted e ys below.1)
  | inr above ↦ ap (λ o. length (with_key e y ys o)) (goes_before e y above)
]

-- a property of all labels, and of the label
each_by : (P : Entry → Type 0) (e y : Entry) (ys : List Entry) → P e → AllByRecursion P (y ∷ ys)
    → AllByRecursion P (insert_key entry_cmp ys e) → (o : Ordering) → AllByRecursion P (with_key e y ys o)
each_by P e y ys this each rest Less = (this, each)
each_by P e y ys this each rest Equal = each
each_by P e y ys this each rest Greater = (each.0, rest)

key_each : (P : Entry → Type 0) (e : Entry) (xs : List Entry) → AllByRecursion P xs → P e
    → AllByRecursion P (insert_key entry_cmp xs e)
key_each P e [] each this = (this, tt)
key_each P e (y ∷ ys) each this = each_by P e y ys this each (key_each P e ys each.1 this) (entry_cmp e y)

from_none : (n : ℕ) → 0 + n ≡ n
from_none n = omega arith

further : (n : ℕ) → n ≡ n + 0
further n = omega arith

further_one : (n k : ℕ) → suc n + k ≡ n + suc k
further_one n k = omega arith

-- the labels with one more
sorted_more : (entries : List Entry) (n : ℕ) (ranks : List Stamp) (rank : Stamp)
    → sorted_with entries n (ranks ++ rank ∷ [])
    ≡ insert_key entry_cmp (sorted_with entries n ranks) (record { rank = rank; label = n + length ranks })
sorted_more entries n [] rank = ap (λ k. insert_key entry_cmp entries (record { rank = rank; label = k })) (further n)
sorted_more entries n (first ∷ ranks) rank =
    let with_first = insert_key entry_cmp entries (record { rank = first; label = n }) in
    sorted_more with_first (suc n) ranks rank
    ∙ ap (λ k. insert_key entry_cmp (sorted_with with_first (suc n) ranks) (record { rank = rank; label = k }))
    (further_one n (length ranks))

-- each label once, and their numbers
record AreNumbered (entries : List Entry) (n : ℕ) : Type 0 where
  count : length entries ≡ n
  below : AllByRecursion (Below n) entries

numbered_more : (entries : List Entry) (n : ℕ) (rank : Stamp) → AreNumbered entries n
    → AreNumbered (insert_key entry_cmp entries (record { rank = rank; label = n })) (suc n)
numbered_more entries n rank are =
    let e : Entry = record { rank = rank; label = n } in
    record {
      count = key_counted e entries are.below ∙ ap suc are.count;
      below = key_each (Below (suc n)) e entries
          (each_weaker (Below n) (Below (suc n)) (λ entry low. omega (arith, low)) entries are.below) (omega arith);
    }

numbered : (entries : List Entry) (n : ℕ) (ranks : List Stamp) → AreNumbered entries n
    → AreNumbered (sorted_with entries n ranks) (n + length ranks)
numbered entries n [] are = subst (AreNumbered entries) (further n) are
numbered entries n (rank ∷ ranks) are =
    let e : Entry = record { rank = rank; label = n } in
    subst (AreNumbered (sorted_with (insert_key entry_cmp entries e) (suc n) ranks)) (further_one n (length ranks))
    (numbered (insert_key entry_cmp entries e) (suc n) ranks (numbered_more entries n rank are))

all_numbered : (ranks : List Stamp) → AreNumbered (sorted_ranks ranks) (length ranks)
all_numbered ranks =
    subst (AreNumbered (sorted_ranks ranks)) (from_none (length ranks))
    (numbered [] 0 ranks (record { count = refl; below = tt }))

pub ranks_counted : (ranks : List Stamp) → length (sorted_ranks ranks) ≡ length ranks
ranks_counted ranks = (all_numbered ranks).count

pub sorted_pushed : (ranks : List Stamp) (rank : Stamp)
    → sorted_ranks (ranks ++ rank ∷ []) ≡ insert_key entry_cmp (sorted_ranks ranks) (record {
      rank = rank;
      label = length ranks;
    })
sorted_pushed ranks rank =
    sorted_more [] 0 ranks rank
    ∙ ap (λ n. insert_key entry_cmp (sorted_ranks ranks) (record { rank = rank; label = n })) (from_none (length ranks))

pub pushed_counted : (ranks : List Stamp) (rank : Stamp)
    → length (sorted_ranks (ranks ++ rank ∷ [])) ≡ length (sorted_ranks ranks) + 1
pushed_counted ranks rank =
    let one = ap (λ (es : List Entry). length es) (sorted_pushed ranks rank)
    ∙ key_counted (record { rank = rank; label = length ranks }) (sorted_ranks ranks) (all_numbered ranks).below in
    omega (arith, one)

-- the last label is at its position
pub pushed_there : (ranks : List Stamp) (rank : Stamp) (p : ℕ) → IsPositionOf rank (sorted_ranks ranks) p
    → sorted_ranks (ranks ++ rank ∷ [])
    ≡ insert (sorted_ranks ranks) p (record { rank = rank; label = length (sorted_ranks ranks) })
pushed_there ranks rank p is =
    sorted_pushed ranks rank
    ∙ key_inserted (record { rank = rank; label = length ranks }) (sorted_ranks ranks) p (all_numbered ranks).below is
    ∙ ap (λ n. insert (sorted_ranks ranks) p (record { rank = rank; label = n })) (sym (ranks_counted ranks))

-- no label is above the greatest rank
pub pushed_kept : (ranks : List Stamp) (last rank greatest : Stamp) (new : List Stamp) → RanksKept ranks last
    → length (sorted_ranks ranks) < 4294967295 → greatest ≡ greater_of last rank → new ≡ ranks ++ rank ∷ []
    → RanksKept new greatest
pushed_kept ranks last rank greatest new kept few greatest_is new_is =
    let both = greater_above last rank in
    let most = greater_of last rank in
    let e : Entry = record { rank = rank; label = length ranks } in
    let count = ap (λ (es : List Entry). length es) (ap sorted_ranks new_is) in
    record {
      few = omega (arith, few, ranks_counted new, count, pushed_counted ranks rank);
      under = subst (λ s. AllByRecursion (UpTo s) (sorted_ranks new)) (sym greatest_is)
          (subst (AllByRecursion (UpTo most)) (sym (ap sorted_ranks new_is ∙ sorted_pushed ranks rank))
          (key_each (UpTo most) e (sorted_ranks ranks)
          (each_weaker (UpTo last) (UpTo most) (λ entry low. at_most_through entry.rank last most low both.0)
          (sorted_ranks ranks) kept.under) both.1));
    }

-- a rank that partitions the labels has a position
pub position_there : (rank : Stamp) (xs : List Entry) → IsPartitionedBy (not_above rank) xs
    → (p : ℕ) × IsPositionOf rank xs p
position_there rank [] parts = (
  0,
  record {
    among = omega arith;
    split = ((λ k d low high. absurd (omega arith)), (λ k d low high. absurd (omega arith)));
  },
)
position_there rank (x ∷ xs) parts = elim (cases_Bool (not_above rank x)) [
  | inl under ↦
      let rest = position_there rank xs (λ i j d before there passes.
      parts (suc i) (suc j) d (omega arith) (omega arith) passes) in (
        suc rest.0,
        record {
          among = omega (arith, rest.1.among);
          split = (before rest.0 rest.1 under, behind rest.0 rest.1);
        },
      )
  | inr above ↦ (
    0,
    record {
      among = omega arith;
      split = (
        (λ k d low high. absurd (omega arith)),
        (λ k d low high. false_from_ne_true _ (λ passes.
            true≢false (sym (parts 0 k d (omega arith) high passes) ∙ above))),
      );
    },
  )
]
  where
    before : (p : ℕ) → IsPositionOf rank xs p → not_above rank x ≡ true → (k : ℕ) (d : Entry) → 0 ≤ k → k < suc p
        → not_above rank (get_or (x ∷ xs) k d) ≡ true
    before p is under zero d low high = under
    before p is under (suc k) d low high = is.split.0 k d (omega arith) (omega arith)

    behind : (p : ℕ) → IsPositionOf rank xs p → (k : ℕ) (d : Entry) → suc p ≤ k → k < length (x ∷ xs)
        → not_above rank (get_or (x ∷ xs) k d) ≡ false
    behind p is zero d low high = absurd (omega arith)
    behind p is (suc k) d low high = is.split.1 k d (omega arith) (omega arith)

-- one label further among those that are sorted
pub sorted_further : (ranks : List Stamp) (at : ℕ) (d : Stamp) (old new : List Entry) (e : Entry)
    → new ≡ insert_key entry_cmp old e → old ≡ sorted_ranks (take at ranks) → at < length ranks
    → e.rank ≡ get_or ranks at d → e.label ≡ at → new ≡ sorted_ranks (take (at + 1) ranks)
sorted_further ranks at d old new e made before there rank_is label_is =
    let number : e.label ≡ length (take at ranks) = omega (arith, label_is, there, length-take at ranks) in
    made
    ∙ (λ i. insert_key entry_cmp (before i) (record { rank = rank_is i; label = number i }))
    ∙ sym (sorted_pushed (take at ranks) (get_or ranks at d))
    ∙ ap sorted_ranks (sym (take_more ranks at d there))
