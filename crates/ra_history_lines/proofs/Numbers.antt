-- Lemmas on writing numbers in digits and reading them back.
use Rattle.std.proofs.Common.{◌≡◌, ℕ, zero, suc, ◌^◌, ◌+◌, ◌-◌, ◌*◌, ◌<◌, ◌≤◌, inl, inr, true, false, ◌&&◌, cond}
use Rattle.std.proofs.Common.{eqb, ltb, leb, List, [], ◌∷◌, length, get_or, Some, None, refl, sym, ap, subst, ◌∙◌}
use Rattle.std.proofs.Common.{arith, ℤ, pos, negsuc}
use Rattle.std.specs.Prelude.{decimal, FitsSigned, option_and_then}
use Rattle.std.specs.Char.{is_ascii_digit, digit_value}
use Rattle.std.specs.Fmt.{signed_decimal}
use Rattle.std.specs.Int.{w32}
use Rattle.std.specs.Str.Parse.{AllDigits, digits_value, digits_value_after}
use Rattle.std.proofs.lemmas.Bool.{cases_Bool, eqb-true, ne_eqb, and_parts, and_from, ltb-true, lt-ltb, le-leb, leb-true}
use Rattle.std.proofs.lemmas.Bool.Decides.{nat_tests}
use Rattle.std.proofs.lemmas.Fmt.{decimal_digit, decimal_is_IsNumeral, decimal_nonempty, first_decimal, digits_decimal, decimal-digits_value}
use Rattle.std.proofs.lemmas.Option.{option_and_then_some, cond_some}
use Rattle.std.proofs.lemmas.Str.Parse.{IsNumeralModel, numerals_by_value, tells_digits, digit_at, digit_from_value}
use Rattle.std.proofs.lemmas.Str.{digit_value_digit}
use Rattle.ra_history_lines.specs.Reading.{begins_as_number, digit_read, digits_read, number_read, signed_read, above_zero, below_zero}

own : IsNumeralModel (AllDigits 10) (digits_value 10)
own = numerals_by_value (AllDigits 10) tells_digits

-- a number begins with a digit, and a zero stands alone
record Begins (bs : List ℕ) : Type 0 where
  some : 0 < length bs
  low : 48 ≤ get_or bs 0 0
  high : get_or bs 0 0 ≤ 57
  alone : get_or bs 0 0 ≡ 48 → length bs ≡ 1

Begins-from : (bs : List ℕ) → begins_as_number bs ≡ true → Begins bs
Begins-from [] e = absurd cc
Begins-from (b ∷ bs) e = record {
  some = omega arith;
  low = grind (arith, nat_tests);
  high = grind (arith, nat_tests);
  alone = grind (arith, nat_tests);
}

begins-digit : (bs : List ℕ) → 0 < length bs → 48 < get_or bs 0 0 → get_or bs 0 0 ≤ 57 → begins_as_number bs ≡ true
begins-digit [] some low high = absurd (omega arith)
begins-digit (b ∷ bs) some low high = grind (arith, nat_tests)

begins-decimal : (n : ℕ) → n < 2 ^ 64 → begins_as_number (decimal n) ≡ true
begins-decimal zero lt = ap begins_as_number (decimal_digit 0 (omega arith))
begins-decimal (suc n) lt =
    let some = decimal_nonempty (suc n) lt in
    begins-digit (decimal (suc n)) some (first_decimal (suc n) (omega arith) lt)
    (digit_at (decimal (suc n)) 0 (digits_decimal own (suc n) lt) some).1

-- ---- digits, one after another

pub digit_found : (n byte m : ℕ) → digit_read n byte ≡ Some m → (is_ascii_digit byte ≡ true) × (n * 10 + (byte - 48) ≡ m)
    × (m < 2 ^ 32)
digit_found n byte m e =
    let test = is_ascii_digit byte && ltb (n * 10 + (byte - 48)) (2 ^ 32) in
    let t = cond_some test (n * 10 + (byte - 48)) m e in
    let parts = and_parts (is_ascii_digit byte) (ltb (n * 10 + (byte - 48)) (2 ^ 32)) t.0 in
    (parts.0, t.1, omega (arith, ltb-true (n * 10 + (byte - 48)) (2 ^ 32) parts.1, t.1))

pub digit_in : (byte : ℕ) → is_ascii_digit byte ≡ true → (48 ≤ byte) × (byte ≤ 57)
digit_in byte e = let k = and_parts (leb 48 byte) (leb byte 57) e in (leb-true 48 byte k.0, leb-true byte 57 k.1)

in_digit : (byte : ℕ) → 48 ≤ byte → byte ≤ 57 → is_ascii_digit byte ≡ true
in_digit byte low high = and_from (leb 48 byte) (leb byte 57) (le-leb 48 byte low) (le-leb byte 57 high)

-- bytes that are read as digits are digits, and spell the number that is read
digits_found : (n : ℕ) (bs : List ℕ) (m : ℕ) → n < 2 ^ 32 → digits_read n bs ≡ Some m
    → AllDigits 10 bs × (digits_value_after 10 n bs ≡ m) × (m < 2 ^ 32)
digits_found n [] m small e = let same : n ≡ m = cc in (tt, same, omega (arith, same))
digits_found n (b ∷ bs) m small e =
    option_and_then_some (λ k. digits_read k bs) (digit_read n b) m e
    (λ k read next.
    let d = digit_found n b k read in
    let i = digit_in b d.0 in
    let v = digit_value_digit b i in
    let rest = digits_found k bs m d.2 next in
    let same : n * 10 + digit_value b ≡ k = omega (arith, v, d.1) in
    ((omega (arith, v, i), rest.0), ap (λ (x : ℕ). digits_value_after 10 x bs) same ∙ rest.1, rest.2))

value_grows : (n : ℕ) (bs : List ℕ) → n ≤ digits_value_after 10 n bs
value_grows n [] = omega arith
value_grows n (b ∷ bs) = omega (arith, value_grows (n * 10 + digit_value b) bs)

-- digits that spell a small number are read as it
digits_only : (n : ℕ) (bs : List ℕ) → AllDigits 10 bs → digits_value_after 10 n bs < 2 ^ 32
    → digits_read n bs ≡ Some (digits_value_after 10 n bs)
digits_only n [] all small = refl
digits_only n (b ∷ bs) all small =
    let i = digit_from_value b all.0 in
    let v = digit_value_digit b i in
    let same : n * 10 + digit_value b ≡ n * 10 + (b - 48) = omega (arith, v) in
    let fits : n * 10 + (b - 48) < 2 ^ 32 = omega (arith, same, value_grows (n * 10 + digit_value b) bs) in
    let rest = digits_only (n * 10 + digit_value b) bs all.1 small in
    let here : digit_read n b ≡ Some (n * 10 + digit_value b) =
    rw (in_digit b i.0 i.1, lt-ltb (n * 10 + (b - 48)) (2 ^ 32) fits) (ap (λ (k : ℕ). Some k) (sym same)) in
    ap (option_and_then (λ k. digits_read k bs)) here ∙ rest

-- ---- numbers

pub not_number : (field : List ℕ) → begins_as_number field ≡ false → number_read field ≡ None
unfolding number_read
not_number field begins = rw begins refl

pub number_read-decimal : (n : ℕ) → n < 2 ^ 32 → number_read (decimal n) ≡ Some n
unfolding number_read
number_read-decimal n small =
    let numeral = decimal_is_IsNumeral n (omega arith) in
    let value : digits_value 10 (decimal n) ≡ n = numeral.1 in
    rw (begins-decimal n (omega arith))
    (digits_only 0 (decimal n) numeral.0.1 (omega (arith, value)) ∙ ap (λ (k : ℕ). Some k) value)

pub number_read-Some : (field : List ℕ) (n : ℕ) → number_read field ≡ Some n → (field ≡ decimal n) × (n < 2 ^ 32)
unfolding number_read
number_read-Some field n e =
    elim (cases_Bool (begins_as_number field)) [
      | inl begins ↦
          let here : cond (begins_as_number field) (digits_read 0 field) None ≡ Some n = e in
          let read : digits_read 0 field ≡ Some n = rw begins at here in
          let h = Begins-from field begins in
          let found = digits_found 0 field n (omega arith) read in
          let value : digits_value 10 field ≡ n = found.1 in (
            sym (decimal-digits_value own field found.0 h.some h.alone (omega (arith, value, found.2)))
                ∙ ap decimal value,
            found.2,
          )
      | inr begins ↦
          let here : cond (begins_as_number field) (digits_read 0 field) None ≡ Some n = e in
          let none = rw begins at here in
          absurd cc
    ]

-- ---- with a sign

above_found : (n : ℕ) (z : ℤ) → above_zero n ≡ Some z → (z ≡ pos n) × FitsSigned w32 z
above_found n z e =
    let t = cond_some (ltb n (2 ^ 31)) (pos n) z e in
    (sym t.1, subst (FitsSigned w32) t.1 (record { sfits = ltb-true n (2 ^ 31) t.0 }))

below_found : (n : ℕ) (z : ℤ) → below_zero n ≡ Some z → (45 ∷ decimal n ≡ signed_decimal z) × FitsSigned w32 z
below_found zero z e = absurd cc
below_found (suc n) z e =
    let t = cond_some (ltb n (2 ^ 31)) (negsuc n) z e in
    (ap signed_decimal t.1, subst (FitsSigned w32) t.1 (record { sfits = ltb-true n (2 ^ 31) t.0 }))

pub signed_read-Some : (field : List ℕ) (z : ℤ) → signed_read field ≡ Some z
    → (field ≡ signed_decimal z) × FitsSigned w32 z
signed_read-Some [] z e = absurd cc
signed_read-Some (b ∷ bs) z e =
    elim (cases_Bool (eqb b 45)) [
      | inl is_so ↦
          let is : b ≡ 45 = eqb-true b 45 is_so in
          let below : option_and_then below_zero (number_read bs) ≡ Some z = rw is_so at e in
          option_and_then_some below_zero (number_read bs) z below
          (λ n read next.
          let digits = number_read-Some bs n read in
          let found = below_found n z next in
          (ap (λ (x : ℕ). x ∷ bs) is ∙ ap (λ (ds : List ℕ). 45 ∷ ds) digits.0 ∙ found.0, found.1))
      | inr is_not ↦
          let above : option_and_then above_zero (number_read (b ∷ bs)) ≡ Some z = rw is_not at e in
          option_and_then_some above_zero (number_read (b ∷ bs)) z above
          (λ n read next.
          let digits = number_read-Some (b ∷ bs) n read in
          let found = above_found n z next in
          (digits.0 ∙ sym (ap signed_decimal found.0), found.1))
    ]

not_below : (bs : List ℕ) → begins_as_number bs ≡ true → signed_read bs ≡ option_and_then above_zero (number_read bs)
not_below [] e = absurd cc
not_below (b ∷ bs) e =
    let h = Begins-from (b ∷ bs) e in
    let apart : eqb b 45 ≡ false = ne_eqb b 45 (λ same. omega (arith, h.low)) in
    rw apart refl

pub signed_read-decimal : (z : ℤ) → FitsSigned w32 z → signed_read (signed_decimal z) ≡ Some z
signed_read-decimal (pos n) fits =
    let small : n < 2 ^ 31 = omega (arith, fits.sfits) in
    not_below (decimal n) (begins-decimal n (omega arith))
    ∙ ap (option_and_then above_zero) (number_read-decimal n (omega arith)) ∙ rw (lt-ltb n (2 ^ 31) small) refl
signed_read-decimal (negsuc n) fits =
    let small : n < 2 ^ 31 = omega (arith, fits.sfits) in
    ap (option_and_then below_zero) (number_read-decimal (suc n) (omega arith)) ∙ rw (lt-ltb n (2 ^ 31) small) refl
