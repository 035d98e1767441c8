-- Lemmas on how many first labels insert all elements that they need, label by label.
use Rattle.std.proofs.Common.{◌≡◌, ℕ, ◌+◌, ◌<◌, ◌≤◌, cond, List, [], ◌∷◌, ◌++◌, Option, Some, None, length, get_or, refl, sym, ap, ◌∙◌, subst, inl, inr, arith}
use Rattle.std.specs.Prelude.{◌==◌, ◌⊎◌}
use Rattle.std.proofs.lemmas.Bool.{cases_eq, cases_lt, eq-eqb, ne_eqb, cond-true, cond-false}
use Rattle.std.proofs.lemmas.Option.{none-some, same_Some}
use Rattle.std.proofs.lemmas.List.{length-append, get_or_append_left}
use Rattle.std.proofs.lemmas.List.Elements.{Contains-append_left, Contains-append_right}
use Rattle.std.proofs.Math.Seq.{get_or-append_seam}
use Rattle.ra_labels.specs.declared.operation.Op.{Op}
use Rattle.ra_labels.proofs.Members.{at_head}
use Rattle.ra_rga_precedence.specs.Operations.{inserted_at, needed_at}
use Rattle.ra_rga_precedence.specs.Needing.{NeedsAbsent}
use Rattle.ra_rga_precedence.specs.Complete.{IsComplete, AreCompleteCounts, AreFirstInserters}

-- ---- which label inserts each element first
module _ (operations : List Op) (from to n : ℕ) (is_next : n + 1 ≡ from) (below : n < to) (old : ℕ → Option ℕ)
    (are : AreFirstInserters operations from to old) where
  pub inserts_before : (x : ℕ) (new : ℕ → Option ℕ) → inserted_at operations n ≡ Some x
      → ((q : ℕ) → new q ≡ cond (x == q) (Some n) (old q)) → AreFirstInserters operations n to new
  inserts_before x new inserts updates =
      let here : (q : ℕ) → x ≡ q → new q ≡ Some n =
      λ q same. updates q ∙ cond-true (x == q) (Some n) (old q) (eq-eqb x q same) in
      let others : (q : ℕ) → ¬ (x ≡ q) → new q ≡ old q =
      λ q differs. updates q ∙ cond-false (x == q) (Some n) (old q) (ne_eqb x q differs) in
      record {
        found =
            λ q m is. elim (cases_eq x q) [
              | inl same ↦
                  let this = same_Some n m (sym (here q same) ∙ is) in (
                    subst (λ k. k < to) this below,
                    subst (λ k. inserted_at operations k ≡ Some q) this (inserts ∙ ap Some same),
                  )
              | inr differs ↦ are.found q m (sym (others q differs) ∙ is)
            ];
        first =
            λ m q from_n to_m its. elim (cases_eq x q) [
              | inl same ↦ (n, here q same, from_n)
              | inr differs ↦ elim (cases_eq m n) [
                | inl same ↦
                    absurd (differs (same_Some x q (sym inserts ∙ ap (inserted_at operations) (sym same) ∙ its)))
                | inr later ↦
                    let (k, is, less) = are.first m q (omega (arith, from_n, later, is_next)) to_m its in
                    (k, others q differs ∙ is, less)
              ]
            ];
      }

  pub nothing_before : inserted_at operations n ≡ None → AreFirstInserters operations n to old
  nothing_before nothing = record {
    found = are.found;
    first =
        λ m q from_n to_m its. elim (cases_eq m n) [
          | inl same ↦ absurd (none-some q (sym nothing ∙ ap (inserted_at operations) (sym same) ∙ its))
          | inr later ↦ are.first m q (omega (arith, from_n, later, is_next)) to_m its
        ];
  }

-- ---- the last label that the first ones need
pub record IsLast (operations : List Op) (count n last : ℕ) : Type 0 where
  pub enough : (i x : ℕ) → i < n → needed_at operations i ≡ Some x
      → (m : ℕ) × (m ≤ last) × (inserted_at operations m ≡ Some x)
  pub needed : (last ≡ 0) ⊎ ((i x : ℕ) × (i < n) × (needed_at operations i ≡ Some x)
      × ((m : ℕ) → m < count → inserted_at operations m ≡ Some x → last ≤ m))

module _ (operations : List Op) (count n last : ℕ) (is_last : IsLast operations count n last) where
  pub last_without : needed_at operations n ≡ None → IsLast operations count (n + 1) last
  last_without nothing = record {
    enough =
        λ i x below needs. elim (cases_eq i n) [
          | inl same ↦ absurd (none-some x (sym nothing ∙ ap (needed_at operations) (sym same) ∙ needs))
          | inr other ↦ is_last.enough i x (omega (arith, below, other)) needs
        ];
    needed = elim is_last.needed [
      | inl none ↦ inl none
      | inr (i, x, below, needs, least) ↦ inr (i, x, omega (arith, below), needs, least)
    ];
  }

  module _ (inserter : ℕ → Option ℕ) (are : AreFirstInserters operations 0 count inserter) (x k : ℕ)
      (needs : needed_at operations n ≡ Some x) (is : inserter x ≡ Some k) where
    pub last_with : (new : ℕ) → last ≤ new → k ≤ new → (new ≡ last) ⊎ (new ≡ k) → IsLast operations count (n + 1) new
    last_with new more enough either = record {
      enough =
          λ i y below its. elim (cases_eq i n) [
            | inl same ↦
                let this : x ≡ y = same_Some x y (sym needs ∙ ap (needed_at operations) (sym same) ∙ its) in
                (k, enough, (are.found x k is).1 ∙ ap Some this)
            | inr other ↦
                let (m, less, inserts) = is_last.enough i y (omega (arith, below, other)) its in
                (m, omega (arith, less, more), inserts)
          ];
      needed = elim either [
        | inl same ↦ elim is_last.needed [
          | inl none ↦ inl (same ∙ none)
          | inr (i, y, below, its, least) ↦
              inr (i, y, omega (arith, below), its, λ m within inserts. subst (λ l. l ≤ m) (sym same) (least m within inserts))
        ]
        | inr same ↦ inr (
          n,
          x,
          omega arith,
          needs,
          λ m within inserts.
              let (first, its, less) = are.first m x (omega arith) within inserts in
              let this : k ≡ first = same_Some k first (sym is ∙ its) in
              omega (arith, less, this, same),
        )
      ];
    }

  pub complete_if : last < n → IsComplete operations n
  complete_if before i x below needs =
      let (m, less, inserts) = is_last.enough i x below needs in (m, omega (arith, less, before), inserts)

  pub incomplete_if : n ≤ last → 0 < n → n ≤ count → ¬ IsComplete operations n
  incomplete_if after some within complete = elim is_last.needed [
    | inl none ↦ absurd (omega (arith, none, after, some))
    | inr (i, x, below, needs, least) ↦
        let (m, less, inserts) = complete i x below needs in
        let more = least m (omega (arith, less, within)) inserts in
        absurd (omega (arith, less, more, after))
  ]

-- ---- the numbers so far
pub counts_from_zero : (operations : List Op) → AreCompleteCounts operations 0 (0 ∷ [])
counts_from_zero operations = record {
  some = omega arith;
  start = refl;
  ascend = λ i j less within. absurd (omega (arith, less, within));
  each =
      λ i within.
      let first : i ≡ 0 = omega (arith, within) in
      subst (λ k. (get_or (0 ∷ []) k 0 ≤ 0) × IsComplete operations (get_or (0 ∷ []) k 0)) (sym first)
      (omega arith, λ n x below needs. absurd (omega (arith, below)));
  all = λ count within complete. at_head 0 [] count (omega (arith, within));
}

module _ (operations : List Op) (n : ℕ) (counts : List ℕ) (are : AreCompleteCounts operations n counts) where
  pub counts_with : IsComplete operations (n + 1) → AreCompleteCounts operations (n + 1) (counts ++ (n + 1) ∷ [])
  counts_with complete =
      let more = counts ++ (n + 1) ∷ [] in
      let long = length-append counts ((n + 1) ∷ []) in
      let some = are.some in
      let older : (i : ℕ) → i < length counts → get_or more i 0 ≡ get_or counts i 0 =
      λ i within. get_or_append_left counts ((n + 1) ∷ []) 0 i within in
      let newest : (i : ℕ) → i ≡ length counts → get_or more i 0 ≡ n + 1 =
      λ i is. ap (λ k. get_or more k 0) is ∙ get_or-append_seam counts (n + 1) [] 0 in
      record {
        some = omega (arith, long);
        start = older 0 some ∙ are.start;
        ascend =
            λ i j less within. elim (cases_eq j (length counts)) [
              | inl last ↦
                  let at_i = older i (omega (arith, less, last)) in
                  let at_j = newest j last in
                  let bound = (are.each i (omega (arith, less, last))).0 in
                  omega (arith, at_i, at_j, bound)
              | inr before ↦
                  let within_j : j < length counts = omega (arith, within, long, before) in
                  let at_i = older i (omega (arith, less, within_j)) in
                  let at_j = older j within_j in
                  let rises = are.ascend i j less within_j in
                  omega (arith, at_i, at_j, rises)
            ];
        each =
            λ i within. elim (cases_eq i (length counts)) [
              | inl last ↦
                  subst (λ k. (k ≤ n + 1) × IsComplete operations k) (sym (newest i last)) (omega arith, complete)
              | inr before ↦
                  let within_i : i < length counts = omega (arith, within, long, before) in
                  let (bound, its) = are.each i within_i in
                  subst (λ k. (k ≤ n + 1) × IsComplete operations k) (sym (older i within_i)) (omega (arith, bound), its)
            ];
        all =
            λ count within its. elim (cases_eq count (n + 1)) [
              | inl here ↦
                  Contains-append_right counts ((n + 1) ∷ []) count (at_head (n + 1) [] count (sym here))
              | inr before ↦
                  Contains-append_left counts ((n + 1) ∷ []) count (are.all count (omega (arith, within, before)) its)
            ];
      }

  pub counts_without : ¬ IsComplete operations (n + 1) → AreCompleteCounts operations (n + 1) counts
  counts_without incomplete = record {
    some = are.some;
    start = are.start;
    ascend = are.ascend;
    each = λ i within. let (bound, its) = are.each i within in (omega (arith, bound), its);
    all =
        λ count within its. elim (cases_eq count (n + 1)) [
          | inl here ↦ absurd (incomplete (subst (IsComplete operations) here its))
          | inr before ↦ are.all count (omega (arith, within, before)) its
        ];
  }

  -- what a label needs and none inserts stays away
  pub counts_end : (count : ℕ) → n < count → (inserter : ℕ → Option ℕ) → AreFirstInserters operations 0 count inserter
      → NeedsAbsent operations inserter n → AreCompleteCounts operations count counts
  counts_end count below inserter firsts (x, needs, none) = record {
    some = are.some;
    start = are.start;
    ascend = are.ascend;
    each = λ i within. let (bound, its) = are.each i within in (omega (arith, bound, below), its);
    all =
        λ many within its. elim (cases_lt n many) [
          | inl after ↦
              let (m, less, inserts) = its n x after needs in
              let (first, is, rest) = firsts.first m x (omega arith) (omega (arith, less, within)) inserts in
              absurd (none-some first (sym none ∙ is))
          | inr before ↦ are.all many before its
        ];
  }
