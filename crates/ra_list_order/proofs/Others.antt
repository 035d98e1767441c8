-- What is left of a list without some of its elements.
use Rattle.std.proofs.Common.{◌≡◌, ℕ, ◌+◌, ◌<◌, Bool, true, false, cond, List, [], ◌∷◌, ◌++◌, length, get_or, take, filter, refl, sym, ap, ◌∙◌, subst, inl, inr, append_assoc}
use Rattle.std.specs.Prelude.{◌==◌, ◌||◌, ◌&&◌, not, Contains}
use Rattle.std.specs.List.{list_any}
use Rattle.std.specs.List.Sorted.{IsPermutation}
use Rattle.std.proofs.lemmas.Bool.{false≢true, cases_Bool, cond-true, cond-false, eq-eqb, eqb-true}
use Rattle.std.proofs.lemmas.List.Elements.{filter-append}
use Rattle.std.proofs.lemmas.List.Folds.{list_any_more}
use Rattle.std.proofs.lemmas.List.Sorted.{IsPermutation-refl, IsPermutation-cons, IsPermutation-trans, IsPermutation-append_comm, IsPermutation-append_left, IsPermutation-filter_both}
use Rattle.ra_labels.specs.Edges.{EachOnce, IsBefore}
use Rattle.ra_list_order.specs.Gathering.{others, gathered}
use Rattle.ra_labels.specs.Listing.{without}
use Rattle.ra_list_order.proofs.Adds.{once_moved}
use Rattle.ra_list_order.proofs.JoinedChunks.{once_right, once_apart}
use Rattle.ra_list_order.proofs.Members.{head_or_behind, at_head, behind_head, none_there, kept-there, there-kept, any_there}

abbrev pub among : List ℕ → ℕ → Bool
among moved y = list_any (λ x. y == x) moved

abbrev pub is_other : List ℕ → ℕ → Bool
is_other moved y = not (among moved y)

pub among_there : (moved : List ℕ) (y : ℕ) → Contains moved y → among moved y ≡ true
among_there moved y there = any_there (λ x. y == x) moved y there (eq-eqb y y refl)

pub none_among : (moved : List ℕ) (y : ℕ) → ¬ Contains moved y → among moved y ≡ false
none_among [] y none = refl
none_among (x ∷ xs) y none = elim (cases_Bool (y == x)) [
  | inl same ↦ absurd (none (at_head x xs y (sym (eqb-true y x same))))
  | inr other ↦
      ap (λ b. b || among xs y) other ∙ none_among xs y (λ there. none (behind_head x xs y there))
]

pub kept_other : (moved xs : List ℕ) (y : ℕ) → Contains xs y → ¬ Contains moved y → Contains (others moved xs) y
kept_other moved xs y there none = kept-there (is_other moved) xs y there (ap not (none_among moved y none))

pub other_kept : (moved xs : List ℕ) (y : ℕ) → Contains (others moved xs) y → Contains xs y × (¬ Contains moved y)
other_kept moved xs y there =
    let both = there-kept (is_other moved) xs y there in
    (both.0, λ mine. false≢true (sym (ap not (among_there moved y mine)) ∙ both.1))

before_filtered : (p : ℕ → Bool) (xs : List ℕ) (a b : ℕ) → p a ≡ true → p b ≡ true → IsBefore xs a b
    → IsBefore (filter p xs) a b
before_filtered p [] a b first second before = absurd before
before_filtered p (x ∷ xs) a b first second before = elim before [
  | inl here ↦ subst (λ ys. IsBefore ys a b)
      (sym (cond-true (p x) (x ∷ filter p xs) (filter p xs) (ap p here.0 ∙ first)))
      (inl (here.0, kept-there p xs b here.1 second))
  | inr further ↦ elim (cases_Bool (p x)) [
    | inl keeps ↦ subst (λ ys. IsBefore ys a b) (sym (cond-true (p x) (x ∷ filter p xs) (filter p xs) keeps))
        (inr (before_filtered p xs a b first second further))
    | inr drops ↦ subst (λ ys. IsBefore ys a b) (sym (cond-false (p x) (x ∷ filter p xs) (filter p xs) drops))
        (before_filtered p xs a b first second further)
  ]
]

-- two elements that are left are in the same order
pub before_others : (moved xs : List ℕ) (a b : ℕ) → ¬ Contains moved a → ¬ Contains moved b → IsBefore xs a b
    → IsBefore (others moved xs) a b
before_others moved xs a b first second before =
    before_filtered (is_other moved) xs a b (ap not (none_among moved a first)) (ap not (none_among moved b second)) before

not_or : (a b : Bool) → not (a || b) ≡ (not a && not b)
not_or true true = refl
not_or true false = refl
not_or false true = refl
not_or false false = refl

pub filters_same : (p q : ℕ → Bool) → ((y : ℕ) → p y ≡ q y) → (xs : List ℕ) → filter p xs ≡ filter q xs
filters_same p q same [] = refl
filters_same p q same (x ∷ xs) =
    ap (λ b. cond b (x ∷ filter p xs) (filter p xs)) (same x)
    ∙ ap (λ ys. cond (q x) (x ∷ ys) ys) (filters_same p q same xs)

-- a filter of a filter
filters_joined : (p q r : ℕ → Bool) → ((y : ℕ) → r y ≡ (p y && q y)) → (xs : List ℕ)
    → filter q (filter p xs) ≡ filter r xs
filters_joined p q r both [] = refl
filters_joined p q r both (x ∷ xs) =
    let rest = filters_joined p q r both xs in
    elim (cases_Bool (p x)) [
      | inl keeps ↦
          ap (filter q) (cond-true (p x) (x ∷ filter p xs) (filter p xs) keeps)
          ∙ ap (λ ys. cond (q x) (x ∷ ys) ys) rest
          ∙ ap (λ b. cond b (x ∷ filter r xs) (filter r xs)) (sym (both x ∙ ap (λ b. b && q x) keeps))
      | inr drops ↦
          ap (filter q) (cond-false (p x) (x ∷ filter p xs) (filter p xs) drops) ∙ rest
          ∙ sym (cond-false (r x) (x ∷ filter r xs) (filter r xs) (both x ∙ ap (λ b. b && q x) drops))
    ]

-- one more element is taken out
pub others_more : (moved xs : List ℕ) (i : ℕ) → i < length moved
    → without (get_or moved i 0) (others (take i moved) xs) ≡ others (take (i + 1) moved) xs
others_more moved xs i within =
    filters_joined (is_other (take i moved)) (λ y. not (y == get_or moved i 0)) (is_other (take (i + 1) moved))
    (λ y. ap not (list_any_more (λ x. y == x) moved i 0 within)
    ∙ not_or (among (take i moved) y) (y == get_or moved i 0)) xs

without_none : (x : ℕ) (xs : List ℕ) → ¬ Contains xs x → without x xs ≡ xs
without_none x [] none = refl
without_none x (y ∷ ys) none = elim (cases_Bool (y == x)) [
  | inl same ↦ absurd (none (at_head y ys x (eqb-true y x same)))
  | inr other ↦
      cond-true (not (y == x)) (y ∷ without x ys) (without x ys) (ap not other)
      ∙ ap (λ zs. y ∷ zs) (without_none x ys (λ there. none (behind_head y ys x there)))
]

-- an element that is not in the list is taken out
pub others_same : (moved xs : List ℕ) (i : ℕ) → i < length moved → ¬ Contains xs (get_or moved i 0)
    → others (take (i + 1) moved) xs ≡ others (take i moved) xs
others_same moved xs i within none =
    sym (others_more moved xs i within)
    ∙ without_none (get_or moved i 0) (others (take i moved) xs)
    (λ there. none (other_kept (take i moved) xs (get_or moved i 0) there).0)

pub others_none : (xs : List ℕ) → others [] xs ≡ xs
others_none [] = refl
others_none (x ∷ xs) = ap (λ ys. x ∷ ys) (others_none xs)

none_equal : (xs : List ℕ) (m : ℕ) → ¬ Contains xs m → filter (λ y. y == m) xs ≡ []
none_equal [] m none = refl
none_equal (x ∷ xs) m none = elim (cases_Bool (x == m)) [
  | inl same ↦ absurd (none (at_head x xs m (eqb-true x m same)))
  | inr other ↦
      cond-false (x == m) (x ∷ filter (λ y. y == m) xs) (filter (λ y. y == m) xs) other
      ∙ none_equal xs m (λ there. none (behind_head x xs m there))
]

one_equal : (xs : List ℕ) (m : ℕ) → EachOnce xs → Contains xs m → filter (λ y. y == m) xs ≡ m ∷ []
one_equal [] m once there = absurd (none_there m there)
one_equal (x ∷ xs) m once there = elim (cases_Bool (x == m)) [
  | inl same ↦
      let is = eqb-true x m same in
      cond-true (x == m) (x ∷ filter (λ y. y == m) xs) (filter (λ y. y == m) xs) same
      ∙ ap (λ y. y ∷ filter (λ z. z == m) xs) is
      ∙ ap (λ ys. m ∷ ys)
      (none_equal xs m (λ further. once_apart (x ∷ []) xs m once (at_head x [] m is) further))
  | inr other ↦
      cond-false (x == m) (x ∷ filter (λ y. y == m) xs) (filter (λ y. y == m) xs) other
      ∙ one_equal xs m (once_right (x ∷ []) xs once) (elim (head_or_behind x xs m there) [
        | inl here ↦ absurd (false≢true (sym other ∙ eq-eqb x m here))
        | inr further ↦ further
      ])
]

without_one : (xs : List ℕ) (m : ℕ) → EachOnce xs → Contains xs m → IsPermutation xs (m ∷ without m xs)
without_one xs m once there =
    subst (λ ys. IsPermutation xs (ys ++ without m xs)) (one_equal xs m once there)
    (IsPermutation-filter_both (λ y. y == m) (λ y. not (y == m)) (λ y. refl) xs)

-- a list is the elements that are taken out and the others
pub taken_out : (moved xs : List ℕ) → EachOnce xs → EachOnce moved → ((x : ℕ) → Contains moved x → Contains xs x)
    → IsPermutation xs (moved ++ others moved xs)
taken_out [] xs once once_moved_too known = subst (λ ys. IsPermutation xs ys) (sym (others_none xs)) (IsPermutation-refl xs)
taken_out (m ∷ ms) xs once once_moved_too known =
    let one = without_one xs m once (known m (at_head m ms m refl)) in
    let apart : (x : ℕ) → Contains ms x → (x == m) ≡ false = λ x there. elim (cases_Bool (x == m)) [
      | inl same ↦ absurd (once_apart (m ∷ []) ms x once_moved_too (at_head m [] x (sym (eqb-true x m same))) there)
      | inr other ↦ other
    ] in
    let rest : IsPermutation (without m xs) (ms ++ others ms (without m xs)) =
    taken_out ms (without m xs) (once_right (m ∷ []) (without m xs) (once_moved xs (m ∷ without m xs) one once))
    (once_right (m ∷ []) ms once_moved_too)
    (λ x there. kept-there (λ y. not (y == m)) xs x (known x (behind_head m ms x there)) (ap not (apart x there))) in
    IsPermutation-trans xs (m ∷ without m xs) (m ∷ (ms ++ others (m ∷ ms) xs)) one
    (IsPermutation-cons m (without m xs) (ms ++ others (m ∷ ms) xs)
    (subst (λ ys. IsPermutation (without m xs) (ms ++ ys))
    (filters_joined (λ y. not (y == m)) (is_other ms) (is_other (m ∷ ms)) (λ y. not_or (y == m) (among ms y)) xs) rest))

-- the elements that are moved to a cut
pub gathered_elements : (left moved right : List ℕ) → EachOnce (left ++ right) → EachOnce moved
    → ((x : ℕ) → Contains moved x → Contains (left ++ right) x)
    → IsPermutation (left ++ right) (gathered left moved right)
gathered_elements left moved right once once_moved_too known =
    let front = others moved left in
    let back = others moved right in
    let out : IsPermutation (left ++ right) (moved ++ (front ++ back)) =
    subst (λ ys. IsPermutation (left ++ right) (moved ++ ys)) (filter-append (is_other moved) left right)
    (taken_out moved (left ++ right) once once_moved_too known) in
    IsPermutation-trans (left ++ right) (moved ++ (front ++ back)) (gathered left moved right) out
    (subst (λ ys. IsPermutation ys (front ++ (moved ++ back))) (append_assoc moved front back)
    (subst (λ ys. IsPermutation ((moved ++ front) ++ back) ys) (append_assoc front moved back)
    (IsPermutation-append_left back (moved ++ front) (front ++ moved) (IsPermutation-append_comm moved front))))
