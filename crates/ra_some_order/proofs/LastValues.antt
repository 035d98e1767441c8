-- Lemmas on the last element of a list to which a function gives a value.
use Rattle.std.proofs.Common.{◌≡◌, Bool, true, false, List, [], ◌∷◌, ◌++◌, filter, Option, Some, None, refl, sym, ap, ◌∙◌, subst, inl, inr}
use Rattle.std.specs.Prelude.{◌⊎◌, Contains, filter_map, option_and_then, if◌then◌else◌}
use Rattle.std.specs.List.{cons_option}
use Rattle.std.specs.Option.{option_or}
use Rattle.std.proofs.lemmas.Option.{none-some}
use Rattle.ra_labels.specs.Commuting.{last_of}
use Rattle.ra_labels.proofs.Members.{head_or_behind, none_there}

module _ {B : Type 0} where
  or_none : (a : Option B) → option_or a None ≡ a
  or_none None = refl
  or_none (Some x) = refl

  last_of-cons : (o : Option B) (ys : List B) → last_of (cons_option o ys) ≡ option_or (last_of ys) o
  last_of-cons None ys = sym (or_none (last_of ys))
  last_of-cons (Some z) ys = refl

  or_parts_none : (a b : Option B) → option_or a b ≡ None → (a ≡ None) × (b ≡ None)
  or_parts_none None b is = (refl, is)
  or_parts_none (Some x) b is = absurd (none-some x (sym is))

  or_some : (a b : Option B) (v : B) → option_or a b ≡ Some v → (a ≡ Some v) ⊎ ((a ≡ None) × (b ≡ Some v))
  or_some None b v is = inr (refl, is)
  or_some (Some x) b v is = inl is

  pub some_or_none : (o : Option B) → (o ≡ None) ⊎ ((v : B) × (o ≡ Some v))
  some_or_none None = inl refl
  some_or_none (Some v) = inr (v, refl)

module _ {A B : Type 0} (value_of : A → Option B) where
  -- the last value that the function gives to an element of the list
  abbrev pub last_value : List A → Option B
  last_value xs = last_of (filter_map value_of xs)

  last_value-cons : (x : A) (xs : List A) → last_value (x ∷ xs) ≡ option_or (last_value xs) (value_of x)
  last_value-cons x xs = last_of-cons (value_of x) (filter_map value_of xs)

  -- if there is no last value, no element has one
  pub none_if_no_last : (xs : List A) → last_value xs ≡ None → (y : A) → Contains xs y → value_of y ≡ None
  none_if_no_last [] none y there = absurd (none_there y there)
  none_if_no_last (x ∷ xs) none y there =
      let parts = or_parts_none (last_value xs) (value_of x) (sym (last_value-cons x xs) ∙ none) in
      elim (head_or_behind x xs y there) [
        | inl here ↦ subst (λ z. value_of z ≡ None) here parts.1
        | inr further ↦ none_if_no_last xs parts.0 y further
      ]

  -- and if an element has one, there is a last value
  pub last_if_some : (xs : List A) (y : A) (w : B) → Contains xs y → value_of y ≡ Some w
      → (v : B) × (last_value xs ≡ Some v)
  last_if_some xs y w there is = elim (some_or_none (last_value xs)) [
    | inl none ↦ absurd (none-some w (sym (none_if_no_last xs none y there) ∙ is))
    | inr some ↦ some
  ]

  -- the element that has the last value: no element behind it has a value
  pub record HasLastValue (xs : List A) (v : B) : Type 0 where
    pub front : List A
    pub last : A
    pub back : List A
    pub split : xs ≡ front ++ last ∷ back
    pub is : value_of last ≡ Some v
    pub none : (y : A) → Contains back y → value_of y ≡ None

  pub where_last : (xs : List A) (v : B) → last_value xs ≡ Some v → HasLastValue xs v
  where_last [] v is = absurd (none-some v is)
  where_last (x ∷ xs) v is = elim (or_some (last_value xs) (value_of x) v (sym (last_value-cons x xs) ∙ is)) [
    | inl further ↦
        let rest = where_last xs v further in record {
          front = x ∷ rest.front;
          last = rest.last;
          back = rest.back;
          split = ap (λ ys. x ∷ ys) rest.split;
          is = rest.is;
          none = rest.none;
        }
    | inr here ↦ record {
      front = [];
      last = x;
      back = xs;
      split = refl;
      is = here.1;
      none = none_if_no_last xs here.0;
    }
  ]

module _ {B C : Type 0} where
  fused_option : (next : B → Option C) (o : Option B) (ys : List B)
      → filter_map next (cons_option o ys) ≡ cons_option (option_and_then next o) (filter_map next ys)
  fused_option next None ys = refl
  fused_option next (Some y) ys = refl

module _ {A B C : Type 0} where
  -- the value of an element that passes the test, taken in two steps
  abbrev pub through : (A → Bool) → (A → Option B) → (B → Option C) → A → Option C
  through test first next x = if test x then option_and_then next (first x) else None

  fused_test : (first : A → Option B) (next : B → Option C) (b : Bool) (x : A) (xs : List A) (zs : List C)
      → filter_map next (filter_map first xs) ≡ zs
      → filter_map next (filter_map first (if b then x ∷ xs else xs))
      ≡ cons_option (if b then option_and_then next (first x) else None) zs
  fused_test first next true x xs zs rest =
      fused_option next (first x) (filter_map first xs) ∙ ap (cons_option (option_and_then next (first x))) rest
  fused_test first next false x xs zs rest = rest

  -- filtering and mapping twice is mapping once
  pub fused : (test : A → Bool) (first : A → Option B) (next : B → Option C) (xs : List A)
      → filter_map next (filter_map first (filter test xs)) ≡ filter_map (through test first next) xs
  fused test first next [] = refl
  fused test first next (x ∷ xs) =
      fused_test first next (test x) x (filter test xs) (filter_map (through test first next) xs)
      (fused test first next xs)

module _ {A : Type 0} where
  -- the element itself, if it passes the test
  abbrev pub if_passes : (A → Bool) → A → Option A
  if_passes test x = if test x then Some x else None

  mapped_test : (b : Bool) (x : A) (xs ys : List A) → xs ≡ ys
      → (if b then x ∷ xs else xs) ≡ cons_option (if b then Some x else None) ys
  mapped_test true x xs ys same = ap (λ zs. x ∷ zs) same
  mapped_test false x xs ys same = same

  pub filter_mapped : (test : A → Bool) (xs : List A) → filter test xs ≡ filter_map (if_passes test) xs
  filter_mapped test [] = refl
  filter_mapped test (x ∷ xs) =
      mapped_test (test x) x (filter test xs) (filter_map (if_passes test) xs) (filter_mapped test xs)
