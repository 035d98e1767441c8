-- The stored numbers of elements: with one more element, and with one less; and each element has one number.
use Rattle.std.proofs.Common.{◌≡◌, ℕ, ◌+◌, ◌-◌, ◌↔◌, ◌⊎◌, List, [], ◌∷◌, ◌++◌, length, get_or, take, Option, Some, None, BTreeMap, false, refl, sym, ap, ◌∙◌, subst, inl, inr, arith}
use Rattle.std.specs.Prelude.{Contains, IsTrue, is_some}
use Rattle.std.specs.List.{slice_get}
use Rattle.std.specs.BTreeMap.{get, Updates}
use Rattle.std.specs.Cmp.{Equal-is}
use Rattle.std.specs.Ordering.{nat_cmp, is_eq}
use Rattle.std.proofs.lemmas.Map.Lookups.{exact_unsigned}
use Rattle.std.proofs.lemmas.Bool.{cases_Bool, false≢true, cases_eq, cases_lt}
use Rattle.std.proofs.lemmas.Option.{none-some, slice_get_within, slice_get-get_or, get_or_from_slice_get}
use Rattle.std.proofs.lemmas.List.{get_or_append_left, length_push}
use Rattle.std.proofs.lemmas.List.Elements.{Contains-get_or}
use Rattle.std.proofs.Math.Seq.{get_or-append_seam}
use Rattle.ra_list_replica.specs.Numbers.{AreNumbered}

-- the number of the element at an index of a list, one function for all lists
same_some : {A : Type 0} (x y : A) → Some x ≡ Some y → x ≡ y
same_some x y is = cc

there_from_get : (xs : List ℕ) (n x : ℕ) → slice_get xs n ≡ Some x → Contains xs x
there_from_get xs n x is =
    subst (Contains xs) (get_or_from_slice_get xs n x 0 is) (Contains-get_or xs n 0 (slice_get_within xs n x is))

-- an element of the longer list is one of the shorter list, or the last
pushed_cases : (xs : List ℕ) (x n y : ℕ) → slice_get (xs ++ x ∷ []) n ≡ Some y
    → (slice_get xs n ≡ Some y) ⊎ ((n ≡ length xs) × (x ≡ y))
pushed_cases xs x n y is = elim (cases_lt n (length xs)) [
  | inl below ↦ inl (slice_get-get_or xs n 0 below ∙ ap Some (sym (get_or_append_left xs (x ∷ []) 0 n below)
      ∙ get_or_from_slice_get (xs ++ x ∷ []) n y 0 is))
  | inr past ↦
      let within = slice_get_within (xs ++ x ∷ []) n y is in
      let last : n ≡ length xs = omega (arith, within, past, length_push xs x) in
      inr (
        last,
        sym (get_or-append_seam xs x [] 0)
            ∙ ap (λ k. get_or (xs ++ x ∷ []) k 0) (sym last) ∙ get_or_from_slice_get (xs ++ x ∷ []) n y 0 is,
      )
]

pushed_before : (xs : List ℕ) (x n y : ℕ) → slice_get xs n ≡ Some y → slice_get (xs ++ x ∷ []) n ≡ Some y
pushed_before xs x n y is =
    let below = slice_get_within xs n y is in
    slice_get-get_or (xs ++ x ∷ []) n 0 (omega (arith, below, length_push xs x))
    ∙ ap Some (get_or_append_left xs (x ∷ []) 0 n below ∙ get_or_from_slice_get xs n y 0 is)

pushed_last : (xs : List ℕ) (x : ℕ) → slice_get (xs ++ x ∷ []) (length xs) ≡ Some x
pushed_last xs x =
    slice_get-get_or (xs ++ x ∷ []) (length xs) 0 (omega (arith, length_push xs x))
    ∙ ap Some (get_or-append_seam xs x [] 0)

-- no element has two numbers
pub one_number : (number_of : ℕ → Option ℕ) (xs : List ℕ) → AreNumbered number_of xs → (x m n : ℕ)
    → slice_get xs m ≡ Some x → slice_get xs n ≡ Some x → m ≡ n
one_number number_of xs known x m n at_m at_n = same_some m n (sym ((known x m).1 at_m) ∙ (known x n).1 at_n)

-- with the next number stored for a new element
pub numbered_more : (old new : ℕ → Option ℕ) (xs : List ℕ) (x : ℕ) → AreNumbered old xs → ¬ Contains xs x
    → new x ≡ Some (length xs) → ((q : ℕ) → ¬ (q ≡ x) → new q ≡ old q) → AreNumbered new (xs ++ x ∷ [])
numbered_more old new xs x known apart set rest = λ y n. (
  (λ is. elim (cases_eq y x) [
    | inl same ↦
        let number : length xs ≡ n = same_some (length xs) n (sym set ∙ ap new (sym same) ∙ is) in
        subst (λ k. slice_get (xs ++ x ∷ []) k ≡ Some y) number (pushed_last xs x ∙ ap Some (sym same))
    | inr other ↦ pushed_before xs x n y ((known y n).0 (sym (rest y other) ∙ is))
  ]),
  (λ is. elim (pushed_cases xs x n y is) [
    | inl before ↦ rest y (λ same. apart (subst (Contains xs) same (there_from_get xs n y before)))
        ∙ (known y n).1 before
    | inr last ↦ ap new (sym last.1) ∙ set ∙ ap Some (sym last.0)
  ]),
)

pub apart_test : (k q : ℕ) → ¬ (q ≡ k) → is_eq (nat_cmp k q) ≡ false
apart_test k q other = elim (cases_Bool (is_eq (nat_cmp k q))) [
  | inl same ↦ absurd (other (sym (exact_unsigned k q ((Equal-is (nat_cmp k q)).0 same))))
  | inr test ↦ test
]

pub stored_more : (old new : BTreeMap ℕ ℕ) (xs ys : List ℕ) (x : ℕ) → AreNumbered (get nat_cmp old) xs
    → ¬ Contains xs x → Updates nat_cmp old new x (Some (length xs)) → ys ≡ xs ++ x ∷ []
    → AreNumbered (get nat_cmp new) ys
stored_more old new xs ys x known apart updates is =
    subst (AreNumbered (get nat_cmp new)) (sym is)
    (numbered_more (get nat_cmp old) (get nat_cmp new) xs x known apart updates.1
    (λ q other. updates.2 q (apart_test x q other)))

-- with the last element and its number gone
numbered_less : (old new : ℕ → Option ℕ) (xs : List ℕ) (x : ℕ) → AreNumbered old xs → xs ≡ take (length xs - 1) xs ++ x ∷ []
    → new x ≡ None → ((q : ℕ) → ¬ (q ≡ x) → new q ≡ old q) → AreNumbered new (take (length xs - 1) xs)
numbered_less old new xs x known split gone rest = λ y n.
    let ys = take (length xs - 1) xs in
    let long : length xs ≡ length ys + 1 = ap length split ∙ length_push ys x in
    let at_last : slice_get xs (length ys) ≡ Some x = ap (λ zs. slice_get zs (length ys)) split ∙ pushed_last ys x in (
      (λ is. elim (cases_eq y x) [
        | inl same ↦ absurd (none-some n (sym gone ∙ ap new (sym same) ∙ is))
        | inr other ↦ elim (pushed_cases ys x n y (ap (λ zs. slice_get zs n) (sym split) ∙ (known y n).0 (sym (rest y other) ∙ is))) [
          | inl before ↦ before
          | inr last ↦ absurd (other (sym last.1))
        ]
      ]),
      (λ is.
          let before = ap (λ zs. slice_get zs n) split ∙ pushed_before ys x n y is in
          let below = slice_get_within ys n y is in
          rest y (λ same.
          let number = one_number old xs known x n (length ys) (before ∙ ap Some same) at_last in
          absurd (omega (arith, number, below))) ∙ (known y n).1 before),
    )

pub stored_less : (old new : BTreeMap ℕ ℕ) (xs ys : List ℕ) (x : ℕ) → AreNumbered (get nat_cmp old) xs
    → xs ≡ ys ++ x ∷ [] → ys ≡ take (length xs - 1) xs → Updates nat_cmp old new x None
    → AreNumbered (get nat_cmp new) ys
stored_less old new xs ys x known split is updates =
    subst (AreNumbered (get nat_cmp new)) (sym is)
    (numbered_less (get nat_cmp old) (get nat_cmp new) xs x known (split ∙ ap (λ zs. zs ++ x ∷ []) is) updates.1
    (λ q other. updates.2 q (apart_test x q other)))

-- an element has a number exactly if it is numbered
pub has_number : (found : Option ℕ) (xs : List ℕ) (x : ℕ) → ((n : ℕ) → (found ≡ Some n) ↔ (slice_get xs n ≡ Some x))
    → IsTrue (is_some found) ↔ Contains xs x
has_number None xs x exactly = (
  (λ is. absurd (false≢true is)),
  (λ there. absurd (none-some there.0 ((exactly there.0).1 (slice_get-get_or xs there.0 x there.1 ∙ ap Some there.2)))),
)
has_number (Some n) xs x exactly = ((λ is. there_from_get xs n x ((exactly n).0 refl)), (λ there. refl))
