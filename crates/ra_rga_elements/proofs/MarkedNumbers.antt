-- Lemmas on the number of marks: the marked elements of a list are as many.
use Rattle.std.proofs.Common.{◌≡◌, ℕ, suc, ◌+◌, ◌<◌, Bool, true, false, cond, List, [], ◌∷◌, length, filter, map, set, refl, sym, ap, ◌∙◌, subst, inl, inr, arith}
use Rattle.std.specs.Prelude.{Contains}
use Rattle.std.proofs.lemmas.Bool.{false≢true, cases_Bool, cases_eq, cases_lt}
use Rattle.std.proofs.lemmas.List.{get_or_past, get_or-set_same, get_or-set_other}
use Rattle.std.proofs.lemmas.List.Sums.{length-filter, sum_by-set}
use Rattle.ra_labels.specs.TheoremTerms.{HasNoDuplicates}
use Rattle.ra_labels.proofs.Members.{head_or_behind, at_head, behind_head}
use Rattle.ra_rga_elements.specs.declared.entry.Entry.{Entry}
use Rattle.ra_rga_elements.specs.Entries.{entry_at, numbers_in}
use Rattle.ra_rga_elements.specs.ElementList.{is_marked, marked_count}
use Rattle.ra_rga_elements.proofs.ElementPlaces.{index_in}

-- the length of what passes a test, by whether the first element does
length_filter : {A : Type 0} (p : A → Bool) (x : A) (xs : List A)
    → length (filter p (x ∷ xs)) ≡ cond (p x) (suc (length (filter p xs))) (length (filter p xs))
length_filter p x xs = elim (cases_Bool (p x)) [
  | inl is ↦
      ap (λ (b : Bool). length (cond b (x ∷ filter p xs) (filter p xs))) is
      ∙ ap (λ (b : Bool). cond b (suc (length (filter p xs))) (length (filter p xs))) (sym is)
  | inr fails ↦
      ap (λ (b : Bool). length (cond b (x ∷ filter p xs) (filter p xs))) fails
      ∙ ap (λ (b : Bool). cond b (suc (length (filter p xs))) (length (filter p xs))) (sym fails)
]

-- tests that agree on the members pass as many
as_many : {A B : Type 0} (p : A → Bool) (q : B → Bool) (f : A → B) (xs : List A)
    → ((x : A) → Contains xs x → q (f x) ≡ p x) → length (filter q (map f xs)) ≡ length (filter p xs)
as_many p q f [] same = refl
as_many p q f (x ∷ xs) same =
    let rest = as_many p q f xs (λ y there. same y (behind_head x xs y there)) in
    length_filter q (f x) (map f xs)
    ∙ (λ i. cond (same x (at_head x xs x refl) i) (suc (rest i)) (rest i))
    ∙ sym (length_filter p x xs)

none_marked : (marks : List Bool) → ((n : ℕ) → ¬ (is_marked marks n ≡ true))
    → length (filter (λ (mark : Bool). mark) marks) ≡ 0
none_marked [] none = refl
none_marked (true ∷ marks) none = absurd (none 0 refl)
none_marked (false ∷ marks) none = none_marked marks (λ n. none (suc n))

-- without one of the marks there is one less
pub unmarked_one : (marks : List Bool) (n : ℕ) → is_marked marks n ≡ true
    → (n < length marks) × (marked_count (set marks n false) + 1 ≡ marked_count marks)
unmarked_one marks n is = elim (cases_lt n (length marks)) [
  | inl there ↦
      let f : Bool → ℕ = λ mark. cond mark 1 0 in
      let less = sum_by-set f marks n false false there in
      (there, omega (arith, less, ap f is))
  | inr past ↦ absurd (false≢true (sym (get_or_past marks n false past) ∙ is))
]

-- different numbers, among them all that are marked
pub numbers_counted : (ns : List ℕ) (marks : List Bool) → HasNoDuplicates ns
    → ((n : ℕ) → is_marked marks n ≡ true → Contains ns n) → length (filter (is_marked marks) ns) ≡ marked_count marks
numbers_counted [] marks once all =
    sym (none_marked marks (λ n is. let there = all n is in omega (arith, there.1)))
    ∙ length-filter (λ (mark : Bool). mark) marks
numbers_counted (m ∷ ns) marks once all = elim (cases_Bool (is_marked marks m)) [
  | inl is ↦
      let less = set marks m false in
      let (there, one) = unmarked_one marks m is in
      let inside : (n : ℕ) → is_marked less n ≡ true → Contains ns n = λ n still. elim (cases_eq n m) [
        | inl here ↦ absurd (false≢true (sym (get_or-set_same marks m false false there)
            ∙ ap (is_marked less) (sym here) ∙ still))
        | inr other ↦ elim (head_or_behind m ns n
            (all n (sym (get_or-set_other marks m n false false other) ∙ still))) [
              | inl same ↦ absurd (other (sym same))
              | inr behind ↦ behind
            ]
      ] in
      let rest = numbers_counted ns less once.1 inside in
      let same : length (filter (is_marked less) ns) ≡ length (filter (is_marked marks) ns) =
      alike ns (is_marked less) (is_marked marks) (λ n found. get_or-set_other marks m n false false
      (λ here. once.0 (subst (Contains ns) here found))) in
      length_filter (is_marked marks) m ns
      ∙ ap (λ (b : Bool). cond b (suc (length (filter (is_marked marks) ns))) (length (filter (is_marked marks) ns))) is
      ∙ omega (arith, rest, same, one)
  | inr fails ↦
      length_filter (is_marked marks) m ns
      ∙ ap (λ (b : Bool). cond b (suc (length (filter (is_marked marks) ns))) (length (filter (is_marked marks) ns)))
      fails
      ∙ numbers_counted ns marks once.1 (λ n is. elim (head_or_behind m ns n (all n is)) [
        | inl here ↦ absurd (false≢true (sym fails ∙ ap (is_marked marks) here ∙ is))
        | inr behind ↦ behind
      ])
]
  where
    alike : (ns : List ℕ) (p q : ℕ → Bool) → ((n : ℕ) → Contains ns n → p n ≡ q n)
        → length (filter p ns) ≡ length (filter q ns)
    alike [] p q same = refl
    alike (n ∷ ns) p q same =
        let rest = alike ns p q (λ k there. same k (behind_head n ns k there)) in
        length_filter p n ns
        ∙ (λ i. cond (same n (at_head n ns n refl) i) (suc (rest i)) (rest i))
        ∙ sym (length_filter q n ns)

-- the numbers of a list in which none occurs twice
pub numbers_once : (entries : List Entry)
    → ((j k : ℕ) → j < k → k < length entries → ¬ ((entry_at entries j).number ≡ (entry_at entries k).number))
    → HasNoDuplicates (numbers_in entries)
numbers_once [] apart = tt
numbers_once (entry ∷ entries) apart = (
  λ found.
      let (k, within, is) = index_in entries entry.number found in
      apart 0 (suc k) (omega arith) (omega (arith, within)) (sym is),
  numbers_once entries (λ j k low high. apart (suc j) (suc k) (omega (arith, low)) (omega (arith, high))),
)

pub elements_counted : {B : Type 0} (ns : List ℕ) (marks : List Bool) (keep : B → Bool) (name : ℕ → B)
    → HasNoDuplicates ns → ((n : ℕ) → is_marked marks n ≡ true → Contains ns n)
    → ((n : ℕ) → Contains ns n → keep (name n) ≡ is_marked marks n)
    → length (filter keep (map name ns)) ≡ marked_count marks
elements_counted ns marks keep name once all says =
    as_many (is_marked marks) keep name ns says ∙ numbers_counted ns marks once all
