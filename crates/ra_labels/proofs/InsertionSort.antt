-- Lemmas on lists sorted by insertion.
use Rattle.std.proofs.Common.{◌≡◌, List, [], ◌∷◌, refl, ap, ◌∙◌, Ordering}
use Rattle.std.specs.Prelude.{All, cond}
use Rattle.std.specs.Ordering.{is_lt}
use Rattle.std.proofs.lemmas.Bool.{cond_both}
use Rattle.std.proofs.lemmas.List.Elements.{All-nil, All-cons, All-head, All-tail, All-weaker}
use Rattle.ra_labels.specs.NamedOrder.{insert_by, sort_by}

module _ {A : Type 0} where
  pub All-insert_by : (P : A → Type 0) (cmp : A → A → Ordering) (x : A) (ys : List A) → P x → All P ys → All P (insert_by cmp x ys)
  All-insert_by P cmp x [] this all = All-cons P x [] this (All-nil P)
  All-insert_by P cmp x (y ∷ ys) this all =
      cond_both (is_lt (cmp x y)) (x ∷ y ∷ ys) (y ∷ insert_by cmp x ys) (All P)
      (λ _. All-cons P x (y ∷ ys) this all)
      (λ _. All-cons P y (insert_by cmp x ys) (All-head P y ys all) (All-insert_by P cmp x ys this (All-tail P y ys all)))

  pub All-sort_by : (P : A → Type 0) (cmp : A → A → Ordering) (xs : List A) → All P xs → All P (sort_by cmp xs)
  All-sort_by P cmp [] all = All-nil P
  All-sort_by P cmp (x ∷ xs) all = All-insert_by P cmp x (sort_by cmp xs) (All-head P x xs all) (All-sort_by P cmp xs (All-tail P x xs all))

  pub insert_by_same : (cmp other : A → A → Ordering) (x : A) (ys : List A) → All (λ y. cmp x y ≡ other x y) ys → insert_by cmp x ys ≡ insert_by other x ys
  insert_by_same cmp other x [] same = refl
  insert_by_same cmp other x (y ∷ ys) same =
      ap (λ o. cond (is_lt o) (x ∷ y ∷ ys) (y ∷ insert_by cmp x ys)) (All-head (λ z. cmp x z ≡ other x z) y ys same)
      ∙ ap (λ zs. cond (is_lt (other x y)) (x ∷ y ∷ ys) (y ∷ zs)) (insert_by_same cmp other x ys (All-tail (λ z. cmp x z ≡ other x z) y ys same))

  -- comparisons that agree on all elements sort a list alike
  pub sort_by_same : (P : A → Type 0) (cmp other : A → A → Ordering) → ((x y : A) → P x → P y → cmp x y ≡ other x y) → (xs : List A) → All P xs → sort_by cmp xs ≡ sort_by other xs
  sort_by_same P cmp other same [] all = refl
  sort_by_same P cmp other same (x ∷ xs) all =
      let rest = All-sort_by P other xs (All-tail P x xs all) in
      ap (insert_by cmp x) (sort_by_same P cmp other same xs (All-tail P x xs all))
      ∙ insert_by_same cmp other x (sort_by other xs) (All-weaker P (λ y. cmp x y ≡ other x y) (λ y known. same x y (All-head P x xs all) known) (sort_by other xs) rest)
