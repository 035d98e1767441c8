-- Lemmas on the named order of labels.
use Rattle.std.proofs.Common.{◌≡◌, ℕ, ◌<◌, false, [], ◌∷◌, refl, sym, ap, ◌∙◌, inl, inr, arith, Ordering, reverse}
use mathlib.Core.List.{reverse-cons}
use Rattle.std.specs.Prelude.{◌↔◌, ◌⊎◌, IsPermutation, IsSorted}
use Rattle.std.specs.Ordering.{MatchOrdering, nat_cmp, is_lt, ordering_then}
use Rattle.std.specs.declared.cmp.Ordering.TheVariants.{Less, Equal, Greater}
use Rattle.std.specs.Cmp.{IsTotalOrder}
use Rattle.std.proofs.lemmas.Cmp.{ranked, on_total, then_total, nat_cmp_total}
use Rattle.std.proofs.lemmas.Bool.{le-ltb, ne_eqb}
use Rattle.std.proofs.lemmas.List.Elements.{All-weaker}
use Rattle.std.proofs.lemmas.List.Sorted.{All-permutation, IsPermutation-reverse}
use Rattle.ra_labels.specs.declared.kind.Kind.{Kind}
use Rattle.ra_labels.specs.declared.label.Stamp.{Stamp}
use Rattle.ra_labels.specs.declared.label.Label.{Label}
use Rattle.ra_labels.specs.declared.command.Command.TheVariants.{Operate}
use Rattle.ra_labels.specs.Records.{Records, label_count, labels_of, next_label}
use Rattle.ra_labels.specs.NamedOrder.{lowest_rank, rank_of, stamp_cmp, label_cmp, sort_by, insert_by, named_labels}
use Rattle.ra_labels.specs.TheoremTerms.{IsStampBelow}
use Rattle.ra_labels.proofs.StampOrder.{stamp_cmp-total, stamp_below, stamp_same}
use Rattle.ra_labels.proofs.Counted.{numbers_below_count}
use Rattle.ra_theorems.proofs.SortedLists.{IsSorted-sort_by, IsPermutation-sort_by, insert_by-last}

-- the named order is a total order
pub label_cmp-total : (kind : Kind) (records : Records) → IsTotalOrder (label_cmp kind records)
label_cmp-total kind records = then_total (on_total (rank_of kind records) stamp_cmp-total)
    (on_total (λ (l : Label). l.number) nat_cmp_total)

-- the named labels are sorted by the named order
pub IsSorted-named_labels : (kind : Kind) (records : Records)
    → IsSorted (label_cmp kind records) (named_labels kind records)
IsSorted-named_labels kind records =
    IsSorted-sort_by (label_cmp kind records) (label_cmp-total kind records) (labels_of records)

-- and they are a permutation of the labels
pub IsPermutation-named_labels : (kind : Kind) (records : Records)
    → IsPermutation (labels_of records) (named_labels kind records)
IsPermutation-named_labels kind records = IsPermutation-sort_by (label_cmp kind records) (labels_of records)

-- a label is not below a label with a smaller number if both ranks are the lowest
same_rank_above : (s t : Stamp) (m n : ℕ) → s ≡ lowest_rank → t ≡ lowest_rank → m < n
    → is_lt (ordering_then (stamp_cmp s t) (nat_cmp n m)) ≡ false
same_rank_above s t m n lowest_s lowest_t below =
    rw (lowest_s, lowest_t, le-ltb n m (omega arith), ne_eqb n m (λ is. absurd (omega arith)))

-- labels of equal rank are sorted by number
sort_by_number : (cmp : Label → Label → Ordering) (records : Records)
    → ((l m : Label) → m.number < l.number → is_lt (cmp l m) ≡ false)
    → sort_by cmp (labels_of records) ≡ reverse (labels_of records)
sort_by_number cmp [] above = refl
sort_by_number cmp (Operate by op clock ∷ before) above =
    let label = next_label before by op clock in
    let lower = All-permutation (λ l. l.number < label_count before) (labels_of before) (reverse (labels_of before))
    (IsPermutation-reverse (labels_of before)) (numbers_below_count before) in
    ap (insert_by cmp label) (sort_by_number cmp before above)
    ∙ insert_by-last cmp label (reverse (labels_of before))
    (All-weaker (λ l. l.number < label_count before) (λ l. is_lt (cmp label l) ≡ false)
    (λ l below. above label l below) (reverse (labels_of before)) lower)
    ∙ sym (reverse-cons label (labels_of before))
sort_by_number cmp (_ ∷ before) above = sort_by_number cmp before above

-- if all ranks are the lowest, the named order is the order of acceptance
pub named_labels-by_number : (kind : Kind) (records : Records)
    → ((label : Label) → rank_of kind records label ≡ lowest_rank)
    → named_labels kind records ≡ reverse (labels_of records)
named_labels-by_number kind records lowest =
    sort_by_number (label_cmp kind records) records
    (λ l m below. same_rank_above (rank_of kind records l) (rank_of kind records m) m.number l.number (lowest l)
    (lowest m) below)

then_less : (o p : Ordering) → (ordering_then o p ≡ Less) ↔ ((o ≡ Less) ⊎ ((o ≡ Equal) × (p ≡ Less)))
then_less Less p = (λ is. inl refl, λ known. refl)
then_less Equal p = (λ is. inr (refl, is), λ known. elim known [ inl less ↦ absurd (cc less) | inr both ↦ both.1 ])
then_less Greater p =
    (λ is. absurd (cc is), λ known. elim known [ inl less ↦ absurd (cc less) | inr both ↦ absurd (cc (both.0)) ])

number_less : (m n : ℕ) (o : Ordering) → MatchOrdering o (m < n) (m ≡ n) (n < m) → (o ≡ Less) ↔ (m < n)
number_less m n Less known = (λ is. known, λ below. refl)
number_less m n Equal known = (λ is. absurd (cc is), λ below. absurd (omega arith))
number_less m n Greater known = (λ is. absurd (cc is), λ below. absurd (omega arith))

-- labels are ordered by rank, and for equal ranks by number
pub label_below : (kind : Kind) (records : Records) (l m : Label)
    → (label_cmp kind records l m ≡ Less)
    ↔ (IsStampBelow (rank_of kind records l) (rank_of kind records m)
    ⊎ ((rank_of kind records l ≡ rank_of kind records m) × (l.number < m.number)))
label_below kind records l m =
    let s = rank_of kind records l in
    let t = rank_of kind records m in
    let either = then_less (stamp_cmp s t) (nat_cmp l.number m.number) in
    let numbers = number_less l.number m.number (nat_cmp l.number m.number) (ranked l.number m.number _ refl) in (
      (λ is. elim (either.0 is) [
        | inl below ↦ inl ((stamp_below s t).0 below)
        | inr tie ↦ inr ((stamp_same s t).0 tie.0, numbers.0 tie.1)
      ]),
      (λ known. elim known [
        | inl below ↦ either.1 (inl ((stamp_below s t).1 below))
        | inr tie ↦ either.1 (inr ((stamp_same s t).1 tie.0, numbers.1 tie.1))
      ]),
    )
