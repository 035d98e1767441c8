-- Lemmas on a list that extends an order, and on an element inserted before the first one that it must precede.
use Rattle.std.proofs.Common.{◌≡◌, Bool, true, false, cond, List, [], ◌∷◌, ◌++◌, filter, refl, sym, ap, ◌∙◌, subst, inl, inr}
use Rattle.std.specs.Prelude.{not, Contains, IsPermutation, if◌then◌else◌}
use Rattle.std.specs.List.{list_all}
use Rattle.std.proofs.lemmas.Bool.{cases_Bool, cond-true, cond-false, false≢true, and_parts, and_from, not-true, not_from_false, false_from_ne_true}
use Rattle.std.proofs.lemmas.List.Sorted.{IsPermutation-refl, IsPermutation-trans, IsPermutation-cons, IsPermutation-middle, IsPermutation-sym, Contains-permutation}
use Rattle.ra_labels.specs.Linearization.{extends}
use Rattle.ra_labels.proofs.InLists.{list_all-contains, list_all-from_contains}
use Rattle.ra_labels.proofs.Members.{head_or_behind, at_head, behind_head}

module _ {A : Type 0} (precedes : A → A → Bool) where
  -- the list with the element before the first one that it must precede, or at the end
  abbrev pub insert_before : A → List A → List A
  insert_before q [] = q ∷ []
  insert_before q (p ∷ rest) = if precedes q p then q ∷ p ∷ rest else p ∷ insert_before q rest

  swapped : (q p : A) (rest : List A) → IsPermutation (q ∷ p ∷ rest) (p ∷ q ∷ rest)
  swapped q p rest = IsPermutation-sym (p ∷ q ∷ rest) (q ∷ p ∷ rest) (IsPermutation-middle (p ∷ []) q rest)

  at_test : (b : Bool) (q p : A) (rest inserted : List A) → IsPermutation (q ∷ rest) inserted
      → IsPermutation (q ∷ p ∷ rest) (if b then q ∷ p ∷ rest else p ∷ inserted)
  at_test true q p rest inserted same = IsPermutation-refl (q ∷ p ∷ rest)
  at_test false q p rest inserted same =
      IsPermutation-trans (q ∷ p ∷ rest) (p ∷ q ∷ rest) (p ∷ inserted) (swapped q p rest)
      (IsPermutation-cons p (q ∷ rest) inserted same)

  pub inserted_same : (q : A) (list : List A) → IsPermutation (q ∷ list) (insert_before q list)
  inserted_same q [] = IsPermutation-refl (q ∷ [])
  inserted_same q (p ∷ rest) = at_test (precedes q p) q p rest (insert_before q rest) (inserted_same q rest)

  from_inserted : (q : A) (list : List A) (x : A) → Contains (insert_before q list) x → Contains (q ∷ list) x
  from_inserted q list x there =
      Contains-permutation (insert_before q list) (q ∷ list) x
      (IsPermutation-sym (q ∷ list) (insert_before q list) (inserted_same q list)) there

  -- the order is transitive through the inserted element
  abbrev pub LeadsOn : A → List A → Type 0
  LeadsOn q list = (x y : A) → Contains list x → Contains list y → precedes x q ≡ true → precedes q y ≡ true
      → precedes x y ≡ true

  none_precedes : (p : A) (list : List A) → ((x : A) → Contains list x → precedes x p ≡ false)
      → list_all (λ x. not (precedes x p)) list ≡ true
  none_precedes p list none =
      list_all-from_contains (λ x. not (precedes x p)) list (λ x there. not_from_false (precedes x p) (none x there))

  precedes_not : (p : A) (list : List A) → list_all (λ x. not (precedes x p)) list ≡ true → (x : A) → Contains list x
      → precedes x p ≡ false
  precedes_not p list none x there =
      not-true (precedes x p) (list_all-contains (λ y. not (precedes y p)) list x none there)

  pub inserted_extends : ((p : A) → precedes p p ≡ false) → (q : A) (list : List A) → LeadsOn q list
      → extends precedes list ≡ true → extends precedes (insert_before q list) ≡ true
  inserted_extends irreflexive q [] leads extended = refl
  inserted_extends irreflexive q (p ∷ rest) leads extended =
      let parts = and_parts (list_all (λ x. not (precedes x p)) rest) (extends precedes rest) extended in
      let further = inserted_extends irreflexive q rest (λ x y x_there y_there. leads x y (behind_head p rest x x_there)
      (behind_head p rest y y_there)) parts.1 in
      elim (cases_Bool (precedes q p)) [
        | inl must ↦
            subst (λ xs. extends precedes xs ≡ true)
            (sym (cond-true (precedes q p) (q ∷ p ∷ rest) (p ∷ insert_before q rest) must))
            (and_from (list_all (λ x. not (precedes x q)) (p ∷ rest)) (extends precedes (p ∷ rest))
            (none_precedes q (p ∷ rest) (λ x there. false_from_ne_true (precedes x q) (λ before_q.
            let before_p = leads x p there (at_head p rest p refl) before_q must in
            elim (head_or_behind p rest x there) [
              | inl here ↦ false≢true (sym (irreflexive p) ∙ ap (λ y. precedes y p) here ∙ before_p)
              | inr behind ↦ false≢true (sym (precedes_not p rest parts.0 x behind) ∙ before_p)
            ])))
            extended)
        | inr may ↦
            subst (λ xs. extends precedes xs ≡ true)
            (sym (cond-false (precedes q p) (q ∷ p ∷ rest) (p ∷ insert_before q rest) may))
            (and_from (list_all (λ x. not (precedes x p)) (insert_before q rest))
            (extends precedes (insert_before q rest))
            (none_precedes p (insert_before q rest)
            (λ x there. elim (head_or_behind q rest x (from_inserted q rest x there)) [
              | inl here ↦ ap (λ y. precedes y p) (sym here) ∙ may
              | inr behind ↦ precedes_not p rest parts.0 x behind
            ]))
            further)
      ]

  -- what a test keeps does not change, if it does not keep the inserted element
  kept_test : (b c : Bool) (test : A → Bool) (q p : A) (rest inserted : List A) → test q ≡ false
      → filter test inserted ≡ filter test rest
      → filter test (if b then q ∷ p ∷ rest else p ∷ inserted) ≡ filter test (p ∷ rest)
  kept_test true c test q p rest inserted drops same =
      cond-false (test q) (q ∷ filter test (p ∷ rest)) (filter test (p ∷ rest)) drops
  kept_test false c test q p rest inserted drops same = ap (λ xs. cond (test p) (p ∷ xs) xs) same

  pub kept_same : (test : A → Bool) (q : A) (list : List A) → test q ≡ false
      → filter test (insert_before q list) ≡ filter test list
  kept_same test q [] drops = cond-false (test q) (q ∷ []) [] drops
  kept_same test q (p ∷ rest) drops =
      kept_test (precedes q p) true test q p rest (insert_before q rest) drops (kept_same test q rest drops)

  -- the list with all these elements
  abbrev pub insert_all : List A → List A → List A
  insert_all [] list = list
  insert_all (q ∷ qs) list = insert_before q (insert_all qs list)

  pub all_same : (qs list : List A) → IsPermutation (qs ++ list) (insert_all qs list)
  all_same [] list = IsPermutation-refl list
  all_same (q ∷ qs) list =
      IsPermutation-trans (q ∷ (qs ++ list)) (q ∷ insert_all qs list) (insert_before q (insert_all qs list))
      (IsPermutation-cons q (qs ++ list) (insert_all qs list) (all_same qs list))
      (inserted_same q (insert_all qs list))

  pub all_extend : ((p : A) → precedes p p ≡ false) → (qs list : List A)
      → ((q : A) → Contains qs q → LeadsOn q (qs ++ list)) → extends precedes list ≡ true
      → extends precedes (insert_all qs list) ≡ true
  all_extend irreflexive [] list leads extended = extended
  all_extend irreflexive (q ∷ qs) list leads extended =
      inserted_extends irreflexive q (insert_all qs list)
      (λ x y x_there y_there. leads q (at_head q qs q refl) x y (from_all x x_there) (from_all y y_there))
      (all_extend irreflexive qs list (λ p there x y x_there y_there. leads p (behind_head q qs p there) x y
      (behind_head q (qs ++ list) x x_there) (behind_head q (qs ++ list) y y_there)) extended)
    where
      from_all : (x : A) → Contains (insert_all qs list) x → Contains (q ∷ (qs ++ list)) x
      from_all x there = behind_head q (qs ++ list) x (Contains-permutation (insert_all qs list) (qs ++ list) x
          (IsPermutation-sym (qs ++ list) (insert_all qs list) (all_same qs list)) there)

  pub all_kept : (test : A → Bool) (qs list : List A) → ((q : A) → Contains qs q → test q ≡ false)
      → filter test (insert_all qs list) ≡ filter test list
  all_kept test [] list drops = refl
  all_kept test (q ∷ qs) list drops =
      kept_same test q (insert_all qs list) (drops q (at_head q qs q refl))
      ∙ all_kept test qs list (λ p there. drops p (behind_head q qs p there))

-- what a test keeps of a list that passes it
pub all_pass : {A : Type 0} (test : A → Bool) (xs : List A) → ((x : A) → Contains xs x → test x ≡ true)
    → filter test xs ≡ xs
all_pass test [] passes = refl
all_pass test (x ∷ xs) passes =
    cond-true (test x) (x ∷ filter test xs) (filter test xs) (passes x (at_head x xs x refl))
    ∙ ap (λ ys. x ∷ ys) (all_pass test xs (λ y there. passes y (behind_head x xs y there)))
