-- Lemmas on when the ranks of the labels let the named sequence extend visibility.
use Rattle.std.proofs.Common.{◌≡◌, ◌<◌, Bool, true, false, List, [], ◌∷◌, refl, sym, ap, ◌∙◌, subst, inl, inr, arith, Ordering}
use Rattle.std.specs.Prelude.{◌↔◌, ◌==◌, All, Contains, IsSorted, flat_map, is_some}
use Rattle.std.specs.List.{IsDistinct, AllByRecursion}
use Rattle.std.specs.Option.{option_map_or}
use Rattle.std.specs.Ordering.{is_lt, ordering_reverse}
use Rattle.std.specs.declared.cmp.Ordering.TheVariants.{Less, Equal, Greater}
use Rattle.std.proofs.lemmas.Bool.{true≢false, false_from_ne_true, eq-eqb, ne_eqb}
use Rattle.std.proofs.lemmas.List.Elements.{All-head, All-tail, All-weaker, All-contains, All-contains_itself}
use Rattle.std.proofs.lemmas.List.Sorted.{All-permutation, Contains-permutation, IsPermutation-sym}
use Rattle.std.proofs.lemmas.Map.Keys.{IsDistinct-IsPermutation}
use Rattle.ra_labels.specs.declared.kind.Kind.{Kind}
use Rattle.ra_labels.specs.declared.kind.Kind.TheVariants.{Counter, OrSet}
use Rattle.ra_labels.specs.declared.kind.Kind.TheVariants as kinds
use Rattle.ra_labels.specs.declared.label.Stamp.{Stamp}
use Rattle.ra_labels.specs.declared.label.Label.{Label}
use Rattle.ra_labels.specs.declared.command.Command.TheVariants.{Operate}
use Rattle.ra_labels.specs.Records.{Records, label_count, labels_of}
use Rattle.ra_labels.specs.Visibility.{sees, is_update, is_update_at}
use Rattle.ra_labels.specs.Rewriting.{Part, Half, Act, acts_of, part_of, parts_of, update_of}
use Rattle.ra_labels.specs.Linearization.{must_precede, extends, extends_visibility}
use Rattle.ra_labels.specs.NamedOrder.{lowest_rank, rank_of, stamp_cmp, label_cmp, named_labels, named_sequence}
use Rattle.ra_labels.specs.TheoremTerms.{IsStampBelow, MustStandBefore}
use Rattle.ra_labels.proofs.Members.{head_or_behind, at_head, behind_head, reached, piece_of, in_piece, everyone, what_passes}
use Rattle.ra_labels.proofs.StampOrder.{stamp_cmp-total, stamp_below, stamp_same, not_below_itself}
use Rattle.ra_labels.proofs.Parts.{extends-first, extends-behind, extends-apart, part_is_of, some_part}
use Rattle.ra_labels.proofs.Counted.{numbers_below_count}
use Rattle.ra_labels.proofs.Comparisons.{eqb-comm}
use Rattle.ra_theorems.proofs.SeenLabels.{sees_earlier}
use Rattle.ra_theorems.proofs.Extensions.{is_update-acts, extends-append, own_parts}
use Rattle.ra_theorems.proofs.Order.{label_cmp-total, IsSorted-named_labels, IsPermutation-named_labels, label_below}
use Rattle.ra_theorems.proofs.UniqueOrder.{head_least, sorted_behind, label_found}
use Rattle.ra_theorems.proofs.Meanings.{acts, must_precede-exactly}

-- a label that is an update has a part that is one
update_part : (records : Records) (label : Label) → Contains (labels_of records) label
    → is_update_at records label.number ≡ true
    → (part : Part) × Contains (parts_of label) part × (is_some (update_of part.act) ≡ true)
update_part records label there is =
    let update : is_update label.op ≡ true =
    sym (ap (λ l. option_map_or (λ (m : Label). is_update m.op) l false) (label_found records label there)) ∙ is in
    let act = what_passes (λ (a : Half × Act). is_some (update_of a.1)) (acts_of label.op)
    (sym (is_update-acts label.op) ∙ update) in
    (part_of label act.0, reached (part_of label) (acts_of label.op) act.0 act.1, act.2)

-- a label that must precede another has a smaller number
pub must_stand-earlier : (records : Records) (m n : Label) → MustStandBefore records m n → m.number < n.number
must_stand-earlier records m n (inl seen) = (sees_earlier records n.number m.number seen).0
must_stand-earlier records m n (inr earlier) = earlier.1

-- if a part must precede a part of another label, so must its label
pub label_must : (records : Records) (p q : Part) (m n : Label) → p.label ≡ m → q.label ≡ n → ¬ (m.number ≡ n.number)
    → must_precede records p q ≡ true → MustStandBefore records m n
label_must records p q m n is_m is_n other must = elim ((must_precede-exactly records p q).0 must) [
  | inl seen ↦ inl (sym (λ i. sees records (is_n i).number (is_m i).number) ∙ seen.1)
  | inr (inl earlier) ↦
      let lower = earlier.1 in
      inr (
        sym (ap (λ (l : Label). l.replica) is_m) ∙ earlier.0 ∙ ap (λ (l : Label). l.replica) is_n,
        omega (arith, lower, ap (λ (l : Label). l.number) is_m, ap (λ (l : Label). l.number) is_n),
      )
  | inr (inr halves) ↦
      absurd (other (sym (ap (λ (l : Label). l.number) is_m) ∙ halves.0 ∙ ap (λ (l : Label). l.number) is_n))
]

-- and if a label must precede another, so must one of its parts
pub part_must : (records : Records) (m n : Label) → Contains (labels_of records) m → MustStandBefore records m n
    → (q : Part) → q.label ≡ n → (p : Part) × Contains (parts_of m) p × (must_precede records p q ≡ true)
part_must records m n there (inl seen) q is_n =
    let part = update_part records m there (sees_earlier records n.number m.number seen).1 in
    let p = part.0 in
    let is_m = part_is_of m p part.1 in (
      p,
      part.1,
      (must_precede-exactly records p q).1
          (inl ((acts p.act).0 part.2, (λ i. sees records (is_n i).number (is_m i).number) ∙ seen)),
    )
part_must records m n there (inr earlier) q is_n =
    let part = some_part m in
    let p = part.0 in
    let is_m = part_is_of m p part.1 in
    let lower = earlier.1 in (
      p,
      part.1,
      (must_precede-exactly records p q).1 (inr (inl (
        ap (λ (l : Label). l.replica) is_m ∙ earlier.0 ∙ sym (ap (λ (l : Label). l.replica) is_n),
        omega (arith, lower, ap (λ (l : Label). l.number) is_m, ap (λ (l : Label). l.number) is_n),
      ))),
    )

for_everyone : {A : Type 0} (P : A → Type 0) (xs : List A) → All P xs → AllByRecursion P xs
for_everyone P [] all = tt
for_everyone P (x ∷ xs) all = (All-head P x xs all, for_everyone P xs (All-tail P x xs all))

abbrev pub have_one_number : Label → Label → Bool
have_one_number l m = l.number == m.number

-- no two labels have the same number
labels_differ : (records : Records) → IsDistinct have_one_number (labels_of records)
unfolding IsDistinct
labels_differ [] = tt
labels_differ (Operate by op clock ∷ before) = (
  for_everyone (λ l. (label_count before == l.number) ≡ false) (labels_of before)
      (All-weaker (λ l. l.number < label_count before) (λ l. (label_count before == l.number) ≡ false)
      (λ l below. ne_eqb (label_count before) l.number (λ is. absurd (omega arith))) (labels_of before)
      (numbers_below_count before)),
  labels_differ before,
)
labels_differ (_ ∷ before) = labels_differ before

pub named_differ : (kind : Kind) (records : Records) → IsDistinct have_one_number (named_labels kind records)
named_differ kind records =
    IsDistinct-IsPermutation have_one_number (λ l m. eqb-comm l.number m.number) (labels_of records)
    (named_labels kind records) (IsPermutation-named_labels kind records) (labels_differ records)

module _ (records : Records) where
  -- no label of the list must precede a label that stands before it
  abbrev pub NoneMisplaced : List Label → Type 0
  NoneMisplaced [] = Unit {0}
  NoneMisplaced (x ∷ xs) = ((y : Label) → Contains xs y → ¬ MustStandBefore records y x) × NoneMisplaced xs

  pub none_misplaced : (xs : List Label) → All (Contains (labels_of records)) xs
      → extends (must_precede records) (flat_map parts_of xs) ≡ true → NoneMisplaced xs
  none_misplaced [] there extended = tt
  none_misplaced (x ∷ xs) there extended = (
    (λ y found must.
        let q = some_part x in
        let known = All-contains (Contains (labels_of records)) xs y
        (All-tail (Contains (labels_of records)) x xs there) found in
        let p = part_must records y x known must q.0 (part_is_of x q.0 q.1) in
        true≢false
        (sym p.2 ∙ extends-apart (must_precede records) (parts_of x) (flat_map parts_of xs) extended q.0 p.0 q.1
        (in_piece parts_of xs y p.0 found p.1))),
    none_misplaced xs (All-tail (Contains (labels_of records)) x xs there)
        (extends-behind (must_precede records) (parts_of x) (flat_map parts_of xs) extended),
  )

  pub none_misplaced-extends : (xs : List Label) → IsDistinct have_one_number xs → NoneMisplaced xs
      → extends (must_precede records) (flat_map parts_of xs) ≡ true
  unfolding IsDistinct
  none_misplaced-extends [] differ clear = refl
  none_misplaced-extends (x ∷ xs) differ clear =
      extends-append (must_precede records) (parts_of x) (flat_map parts_of xs)
      (extends-first (must_precede records) (parts_of x) [] (own_parts records x x.op))
      (none_misplaced-extends xs differ.1 clear.1)
      (λ p q p_there q_there.
      let of_y = piece_of parts_of xs q q_there in
      let y = of_y.0 in
      let other : ¬ (y.number ≡ x.number) =
      λ same. true≢false (sym (eq-eqb x.number y.number (sym same))
      ∙ everyone (λ l. have_one_number x l ≡ false) xs y differ.0 of_y.1) in
      false_from_ne_true (must_precede records q p)
      (λ must. clear.0 y of_y.1
      (label_must records q p y x (part_is_of y q of_y.2) (part_is_of x p p_there) other must)))

module _ (kind : Kind) (records : Records) where
  abbrev rank : Label → Stamp
  rank label = rank_of kind records label

  not_below_ranks : (m n : Label) → is_lt (label_cmp kind records n m) ≡ false → ¬ IsStampBelow (rank n) (rank m)
  not_below_ranks m n not_lt below = true≢false (sym (ap is_lt ((label_below kind records n m).1 (inl below))) ∙ not_lt)

  -- an earlier label whose rank is not greater is smaller in the named order
  below_by_ranks : (m n : Label) (o : Ordering) → o ≡ stamp_cmp (rank m) (rank n) → m.number < n.number
      → ¬ IsStampBelow (rank n) (rank m) → is_lt (label_cmp kind records m n) ≡ true
  below_by_ranks m n Less is earlier not_above =
      ap is_lt ((label_below kind records m n).1 (inl ((stamp_below (rank m) (rank n)).0 (sym is))))
  below_by_ranks m n Equal is earlier not_above =
      ap is_lt ((label_below kind records m n).1 (inr ((stamp_same (rank m) (rank n)).0 (sym is), earlier)))
  below_by_ranks m n Greater is earlier not_above =
      absurd (not_above
      ((stamp_below (rank n) (rank m)).0
      (stamp_cmp-total.antisymm (rank n) (rank m) ∙ ap ordering_reverse (sym is))))

  abbrev RanksAllow : List Label → Type 0
  RanksAllow xs = (m n : Label) → Contains xs m → Contains xs n → MustStandBefore records m n
      → ¬ IsStampBelow (rank n) (rank m)

  ranks_allow : (xs : List Label) → IsSorted (label_cmp kind records) xs → NoneMisplaced records xs → RanksAllow xs
  ranks_allow [] sorted clear m n m_there n_there must = absurd (omega (arith, m_there.1))
  ranks_allow (x ∷ xs) sorted clear m n m_there n_there must = elim (head_or_behind x xs m m_there) [
    | inl here ↦
        not_below_ranks m n
        (subst (λ l. is_lt (label_cmp kind records n l) ≡ false) here
        (head_least (label_cmp kind records) (label_cmp-total kind records) x xs sorted n n_there))
    | inr further ↦ elim (head_or_behind x xs n n_there) [
      | inl first ↦ absurd (clear.0 m further (subst (MustStandBefore records m) (sym first) must))
      | inr behind ↦ ranks_allow xs (sorted_behind (label_cmp kind records) (label_cmp-total kind records) x xs sorted)
          clear.1 m n further behind must
    ]
  ]

  allowed_by_ranks : (xs : List Label) → IsSorted (label_cmp kind records) xs → RanksAllow xs → NoneMisplaced records xs
  allowed_by_ranks [] sorted allow = tt
  allowed_by_ranks (x ∷ xs) sorted allow = (
    (λ y found must.
        let above = head_least (label_cmp kind records) (label_cmp-total kind records) x xs sorted y
        (behind_head x xs y found) in
        let below = below_by_ranks y x (stamp_cmp (rank y) (rank x)) refl (must_stand-earlier records y x must)
        (allow y x (behind_head x xs y found) (at_head x xs x refl) must) in
        true≢false (sym below ∙ above)),
    allowed_by_ranks xs (sorted_behind (label_cmp kind records) (label_cmp-total kind records) x xs sorted)
        (λ m n m_there n_there. allow m n (behind_head x xs m m_there) (behind_head x xs n n_there)),
  )

  pub ranks-extend : (extends_visibility records (named_sequence kind records) ≡ true)
      ↔ ((m n : Label) → Contains (labels_of records) m → Contains (labels_of records) n → MustStandBefore records m n
      → ¬ IsStampBelow (rank_of kind records n) (rank_of kind records m))
  ranks-extend =
      let labels = labels_of records in
      let named = named_labels kind records in
      let same = IsPermutation-named_labels kind records in
      let sorted = IsSorted-named_labels kind records in (
        (λ extended m n m_there n_there.
            ranks_allow named sorted
            (none_misplaced records named
            (All-permutation (Contains labels) labels named same (All-contains_itself labels)) extended)
            m n (Contains-permutation labels named m same m_there) (Contains-permutation labels named n same n_there)),
        (λ allow.
            let back = IsPermutation-sym labels named same in
            none_misplaced-extends records named (named_differ kind records)
            (allowed_by_ranks named sorted
            (λ m n m_there n_there. allow m n (Contains-permutation named labels m back m_there)
            (Contains-permutation named labels n back n_there)))),
      )

-- if all ranks are the lowest, none is greater
pub execution-extends : (kind : Kind) (records : Records) → ((label : Label) → rank_of kind records label ≡ lowest_rank)
    → extends_visibility records (named_sequence kind records) ≡ true
execution-extends kind records lowest =
    (ranks-extend kind records).1
    (λ m n m_there n_there must below. not_below_itself lowest_rank lowest_rank refl (rw (lowest n, lowest m) at below))

pub counter-extends : (records : Records) → extends_visibility records (named_sequence Counter records) ≡ true
counter-extends records = execution-extends Counter records (λ label. refl)

pub or_set-extends : (records : Records) → extends_visibility records (named_sequence OrSet records) ≡ true
or_set-extends records = execution-extends OrSet records (λ label. refl)

pub list-extends : (records : Records) → extends_visibility records (named_sequence kinds.List records) ≡ true
list-extends records = execution-extends kinds.List records (λ label. refl)
