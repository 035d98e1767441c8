-- Lemmas on writing lists of numbers and reading them back.
use Rattle.std.proofs.Common.{◌≡◌, ℕ, ◌<◌, inl, inr, false, eqb, List, [], ◌∷◌, map, Option, Some, None}
use Rattle.std.proofs.Common.{refl, sym, ap, subst, ◌∙◌, All, arith}
use Rattle.std.specs.Prelude.{decimal, bytes_eq, codes, option_map}
use Rattle.std.specs.List.{join_with_byte, AllByRecursion}
use Rattle.std.specs.Str.Parse.{AllDigits}
use Rattle.std.proofs.lemmas.Bool.{cases_Bool, ne_eqb}
use Rattle.std.proofs.lemmas.Fmt.{decimal_is_IsNumeral}
use Rattle.std.proofs.lemmas.List.Elements.{All-cons, All-nil}
use Rattle.std.proofs.lemmas.List.Splits.{slice_split_at, slice_split_none}
use Rattle.std.proofs.lemmas.Option.{option_and_then_some}
use Rattle.std.proofs.lemmas.Slice.Eq.{bytes_eq-Decides}
use Rattle.std.proofs.lemmas.Str.Parse.{digit_from_value}
use Rattle.ra_history_lines.specs.Fields.{pieces_at}
use Rattle.ra_history_lines.specs.Grammar.{IsSmall, list_word}
use Rattle.ra_history_lines.specs.Reading.{number_read, numbers_read, list_read}
use Rattle.ra_history_lines.proofs.Pieces.{pieces-joined, some_piece}
use Rattle.ra_history_lines.proofs.Numbers.{number_read-Some, number_read-decimal}

-- the original of a mapped option's value
pub mapped : {X Y : Type 0} (f : X → Y) (o : Option X) (y : Y) → option_map f o ≡ Some y
    → (x : X) × (o ≡ Some x) × (f x ≡ y)
mapped f None y e = absurd cc
mapped f (Some x) y e = (x, refl, cc)

-- digits contain no smaller byte
no_digit : (byte : ℕ) (ds : List ℕ) → byte < 48 → AllDigits 10 ds → All (λ b. eqb b byte ≡ false) ds
no_digit byte [] low all = All-nil (λ b. eqb b byte ≡ false)
no_digit byte (d ∷ ds) low all =
    let i = digit_from_value d all.0 in
    All-cons (λ b. eqb b byte ≡ false) d ds (ne_eqb d byte (λ same. omega (arith, i.0))) (no_digit byte ds low all.1)

pub no_such_digit : (byte n : ℕ) → byte < 48 → IsSmall n → All (λ b. eqb b byte ≡ false) (decimal n)
no_such_digit byte n low small = no_digit byte (decimal n) low (decimal_is_IsNumeral n (omega arith)).0.1

pieces_of_joined : (x : ℕ) (xs : List ℕ) → IsSmall x → AllByRecursion IsSmall xs
    → pieces_at 44 (join_with_byte 44 (map decimal (x ∷ xs))) ≡ map decimal (x ∷ xs)
pieces_of_joined x [] here later = slice_split_none (λ b. eqb b 44) (decimal x) (no_such_digit 44 x (omega arith) here)
pieces_of_joined x (y ∷ ys) here later =
    slice_split_at (λ b. eqb b 44) (decimal x) 44 (join_with_byte 44 (map decimal (y ∷ ys)))
    (no_such_digit 44 x (omega arith) here) refl
    ∙ ap (λ (ps : List (List ℕ)). decimal x ∷ ps) (pieces_of_joined y ys later.0 later.1)

numbers_found : (pieces : List (List ℕ)) (xs : List ℕ) → numbers_read pieces ≡ Some xs
    → (pieces ≡ map decimal xs) × AllByRecursion IsSmall xs
numbers_found [] xs e =
    let none : [] ≡ xs = cc in
    subst (λ (ys : List ℕ). ([] ≡ map decimal ys) × AllByRecursion IsSmall ys) none (refl, tt)
numbers_found (piece ∷ pieces) xs e =
    option_and_then_some (λ n. option_map (λ ns. n ∷ ns) (numbers_read pieces)) (number_read piece) xs e
    (λ n read next.
    let m = mapped (λ (ns : List ℕ). n ∷ ns) (numbers_read pieces) xs next in
    let here = number_read-Some piece n read in
    let rest = numbers_found pieces m.0 m.1 in
    subst (λ (ys : List ℕ). (piece ∷ pieces ≡ map decimal ys) × AllByRecursion IsSmall ys) m.2
    (ap (λ (p : List ℕ). p ∷ pieces) here.0 ∙ ap (λ (ps : List (List ℕ)). decimal n ∷ ps) rest.0, (here.1, rest.1)))

numbers_only : (xs : List ℕ) → AllByRecursion IsSmall xs → numbers_read (map decimal xs) ≡ Some xs
numbers_only [] small = refl
numbers_only (x ∷ xs) small = rw (number_read-decimal x small.0, numbers_only xs small.1) refl

-- a joined list of numbers is not `-`
no_minus : (x : ℕ) (xs : List ℕ) → IsSmall x → AllByRecursion IsSmall xs
    → bytes_eq (list_word (x ∷ xs)) (codes "-") ≡ false
no_minus x xs here later =
    elim (cases_Bool (bytes_eq (list_word (x ∷ xs)) (codes "-"))) as
    (λ _. bytes_eq (list_word (x ∷ xs)) (codes "-") ≡ false) [
      | inl is_so ↦
          let same = (bytes_eq-Decides (list_word (x ∷ xs)) (codes "-")).0 is_so in
          let pieces : decimal x ∷ map decimal xs ≡ (45 ∷ []) ∷ [] = sym (pieces_of_joined x xs here later)
          ∙ ap (pieces_at 44) same in
          let minus : decimal x ≡ 45 ∷ [] = cc in
          let digits = subst (AllDigits 10) minus (decimal_is_IsNumeral x (omega arith)).0.1 in
          absurd (omega (arith, digit_from_value 45 digits.0))
      | inr is_not ↦ is_not
    ]

pub list_read-word : (xs : List ℕ) → AllByRecursion IsSmall xs → list_read (list_word xs) ≡ Some xs
list_read-word [] small = refl
list_read-word (x ∷ xs) small =
    rw (no_minus x xs small.0 small.1)
    (ap numbers_read (pieces_of_joined x xs small.0 small.1) ∙ numbers_only (x ∷ xs) small)

joined_is_word : (field : List ℕ) (xs : List ℕ) → pieces_at 44 field ≡ map decimal xs → field ≡ list_word xs
joined_is_word field [] e = absurd (some_piece 44 field e)
joined_is_word field (x ∷ xs) e = sym (pieces-joined 44 field) ∙ ap (join_with_byte 44) e

pub list_read-Some : (field xs : List ℕ) → list_read field ≡ Some xs
    → (field ≡ list_word xs) × AllByRecursion IsSmall xs
list_read-Some field xs e =
    elim (cases_Bool (bytes_eq field (codes "-"))) [
      | inl is_so ↦
          let none : Some [] ≡ Some xs = rw is_so at e in
          let same : [] ≡ xs = cc in
          subst (λ (ys : List ℕ). (field ≡ list_word ys) × AllByRecursion IsSmall ys) same
          ((bytes_eq-Decides field (codes "-")).0 is_so, tt)
      | inr is_not ↦
          let numbers : numbers_read (pieces_at 44 field) ≡ Some xs = rw is_not at e in
          let found = numbers_found (pieces_at 44 field) xs numbers in
          (joined_is_word field xs found.0, found.1)
    ]
