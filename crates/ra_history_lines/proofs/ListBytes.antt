-- Lemmas on reading a list byte by byte.
use Rattle.std.proofs.Common.{◌≡◌, ℕ, zero, suc, ◌+◌, ◌-◌, ◌*◌, ◌^◌, ◌<◌, ◌≤◌, ◌≢◌, inl, inr, true, false, eqb, ltb, List, [], ◌∷◌, ◌++◌, Option, Some, None, length}
use Rattle.std.proofs.Common.{refl, sym, ap, ◌∙◌, arith, append_assoc, cond}
use Rattle.std.specs.Prelude.{option_map, option_and_then}
use Rattle.std.specs.List.{onto_first}
use Rattle.std.specs.Char.{is_ascii_digit}
use Rattle.std.proofs.lemmas.Bool.{cases_Bool, eqb-true, eqb-false, ne_eqb, lt-ltb, le-ltb, ltb-true}
use Rattle.ra_history_lines.specs.Fields.{pieces_at}
use Rattle.ra_history_lines.specs.ListBytes.{numbers_with, numbers_behind, EndsNumber}
use Rattle.ra_history_lines.specs.Reading.{begins_as_number, digit_read, digits_read, next_digit_read, number_read, numbers_read}
use Rattle.ra_history_lines.proofs.Numbers.{digit_found, digit_in}
use Rattle.ra_history_lines.proofs.Pieces.{some_piece}

-- the same function of a value that an option has
pub on_value : {X Y : Type 0} (f g : X → Option Y) (o : Option X) → ((x : X) → o ≡ Some x → f x ≡ g x)
    → option_and_then f o ≡ option_and_then g o
on_value f g None same = refl
on_value f g (Some x) same = same x refl

-- ---- the number of one piece

-- the number of the first bytes, followed by the digits of the others
abbrev pub number_with : Option ℕ → List ℕ → Option ℕ
number_with so_far [] = so_far
number_with so_far (byte ∷ bytes) = option_and_then (λ n. number_with (Some n) bytes) (next_digit_read so_far byte)

-- digits that follow another number than zero
behind_digits : (n : ℕ) (bytes : List ℕ) → 0 < n → number_with (Some n) bytes ≡ digits_read n bytes
behind_digits n [] above = refl
behind_digits zero (byte ∷ bytes) above = absurd (omega (arith, above))
behind_digits (suc n) (byte ∷ bytes) above =
    on_value (λ m. number_with (Some m) bytes) (λ m. digits_read m bytes) (digit_read (suc n) byte)
    (λ m read. behind_digits m bytes (omega (arith, (digit_found (suc n) byte m read).1)))

-- a zero is followed by nothing
behind_zero : (bytes : List ℕ) → number_with (Some 0) bytes ≡ number_read (48 ∷ bytes)
unfolding number_read
behind_zero [] = refl
behind_zero (byte ∷ bytes) =
    let more : eqb (length (byte ∷ bytes)) 0 ≡ false = ne_eqb (length (byte ∷ bytes)) 0 (λ same. omega (arith, same)) in
    rw more refl

with_digit : (byte : ℕ) (bytes : List ℕ) → is_ascii_digit byte ≡ true → byte ≢ 48
    → option_and_then (λ n. number_with (Some n) bytes) (digit_read 0 byte)
    ≡ option_and_then (λ m. digits_read m bytes) (digit_read 0 byte)
with_digit byte bytes digit other =
    on_value (λ m. number_with (Some m) bytes) (λ m. digits_read m bytes) (digit_read 0 byte)
    (λ m read. behind_digits m bytes (omega (arith, digit_in byte digit, (digit_found 0 byte m read).1)))

pub number_of_piece : (bytes : List ℕ) → number_with None bytes ≡ number_read bytes
unfolding number_read
number_of_piece [] = refl
number_of_piece (byte ∷ bytes) =
    elim (cases_Bool (eqb byte 48)) [
      | inl is_zero ↦
          let same = eqb-true byte 48 is_zero in
          ap (λ b. number_with None (b ∷ bytes)) same ∙ behind_zero bytes ∙ ap (λ b. number_read (b ∷ bytes)) (sym same)
      | inr other ↦
          elim (cases_Bool (is_ascii_digit byte)) [
            | inl digit ↦
                let begins : begins_as_number (byte ∷ bytes) ≡ true = rw other digit in
                with_digit byte bytes digit (eqb-false byte 48 other)
                ∙ sym (ap (λ b. cond b (digits_read 0 (byte ∷ bytes)) None) begins)
            | inr none ↦ rw (other, none) refl
          ]
    ]

-- ---- the numbers of a list

-- the numbers of the pieces, the first of which follows a number so far
abbrev of_pieces : Option ℕ → List (List ℕ) → Option (List ℕ)
of_pieces so_far [] = None
of_pieces so_far (piece ∷ pieces) =
    option_and_then (λ n. option_map (λ ns. n ∷ ns) (numbers_read pieces)) (number_with so_far piece)

of_all_pieces : (pieces : List (List ℕ)) → (pieces ≡ [] → ⊥) → of_pieces None pieces ≡ numbers_read pieces
of_all_pieces [] some = absurd (some refl)
of_all_pieces (piece ∷ pieces) some =
    ap (option_and_then (λ n. option_map (λ ns. n ∷ ns) (numbers_read pieces))) (number_of_piece piece)

through : (f : ℕ → Option (List ℕ)) (piece : List ℕ) (o : Option ℕ)
    → option_and_then (λ n. option_and_then f (number_with (Some n) piece)) o
    ≡ option_and_then f (option_and_then (λ n. number_with (Some n) piece) o)
through f piece None = refl
through f piece (Some n) = refl

of_longer_piece : (so_far : Option ℕ) (byte : ℕ) (pieces : List (List ℕ)) → (pieces ≡ [] → ⊥)
    → option_and_then (λ n. of_pieces (Some n) pieces) (next_digit_read so_far byte)
    ≡ of_pieces so_far (onto_first byte pieces)
of_longer_piece so_far byte [] some = absurd (some refl)
of_longer_piece so_far byte (piece ∷ pieces) some =
    through (λ n. option_map (λ ns. n ∷ ns) (numbers_read pieces)) piece (next_digit_read so_far byte)

by_pieces : (so_far : Option ℕ) (bytes : List ℕ) → numbers_with so_far bytes ≡ of_pieces so_far (pieces_at 44 bytes)
by_pieces None [] = refl
by_pieces (Some n) [] = refl
by_pieces so_far (byte ∷ bytes) =
    elim (cases_Bool (eqb byte 44)) [
      | inl comma ↦
          rw comma (ap (λ ns. option_and_then (λ n. option_map (λ ms. n ∷ ms) ns) so_far) (by_pieces None bytes ∙ of_all_pieces (pieces_at 44 bytes) (some_piece 44 bytes)))
      | inr other ↦
          rw other
          (on_value (λ n. numbers_with (Some n) bytes) (λ n. of_pieces (Some n) (pieces_at 44 bytes))
          (next_digit_read so_far byte) (λ n read. by_pieces (Some n) bytes)
          ∙ of_longer_piece so_far byte (pieces_at 44 bytes) (some_piece 44 bytes))
    ]

-- read byte by byte, a list has the numbers of its pieces
pub of_whole : (bytes : List ℕ) → numbers_with None bytes ≡ numbers_read (pieces_at 44 bytes)
of_whole bytes = by_pieces None bytes ∙ of_all_pieces (pieces_at 44 bytes) (some_piece 44 bytes)

-- ---- the digits of a number

pub no_first_digit : (byte : ℕ) (bytes : List ℕ) → is_ascii_digit byte ≡ false
    → numbers_with None (byte ∷ bytes) ≡ None
no_first_digit byte bytes other =
    elim (cases_Bool (eqb byte 44)) [ inl comma ↦ rw comma refl | inr another ↦ rw (another, other) refl ]

pub first_digit : (byte : ℕ) (bytes : List ℕ) → is_ascii_digit byte ≡ true
    → numbers_with None (byte ∷ bytes) ≡ numbers_behind (byte - 48) bytes
first_digit byte bytes digit =
    let range = digit_in byte digit in
    let other = ne_eqb byte 44 (λ same. omega (arith, same, range)) in
    let plain : 0 * 10 + (byte - 48) ≡ byte - 48 = omega arith in
    let small = lt-ltb (byte - 48) (2 ^ 32) (omega (arith, range)) in
    rw (other, digit, plain, small) refl

pub one_digit : (n byte : ℕ) (bytes : List ℕ) → 0 < n → is_ascii_digit byte ≡ true
    → numbers_behind n (byte ∷ bytes) ≡ numbers_behind (n * 10 + (byte - 48)) bytes
one_digit zero byte bytes above digit = absurd (omega (arith, above))
one_digit (suc n) byte bytes above digit =
    let range = digit_in byte digit in
    let other = ne_eqb byte 44 (λ same. omega (arith, same, range)) in
    elim (cases_Bool (ltb (suc n * 10 + (byte - 48)) (2 ^ 32))) [
      | inl fits ↦
          let within = ltb-true (suc n * 10 + (byte - 48)) (2 ^ 32) fits in
          let small = lt-ltb (suc n) (2 ^ 32) (omega (arith, within)) in
          rw (small, other, digit, fits) refl
      | inr large ↦
          elim (cases_Bool (ltb (suc n) (2 ^ 32))) [
            | inl small ↦ rw (small, other, digit, large) refl
            | inr none ↦ rw (none, large) refl
          ]
    ]

pub ends_zero : (bytes : List ℕ) → EndsNumber 0 bytes
ends_zero [] = tt
ends_zero (byte ∷ bytes) = refl

pub ends_before : (n byte : ℕ) (bytes : List ℕ) → is_ascii_digit byte ≡ false → EndsNumber n (byte ∷ bytes)
ends_before zero byte bytes other = refl
ends_before (suc n) byte bytes other = rw other refl

pub ends_large : (n : ℕ) (bytes : List ℕ) → 1000000000 ≤ n → EndsNumber n bytes
ends_large n [] large = tt
ends_large zero (byte ∷ bytes) large = refl
ends_large (suc n) (byte ∷ bytes) large =
    elim (cases_Bool (is_ascii_digit byte)) [
      | inl digit ↦ rw (digit, le-ltb (suc n * 10 + (byte - 48)) (2 ^ 32) (omega (arith, large))) refl
      | inr other ↦ rw other refl
    ]

-- ---- the loop: the numbers so far, and the remaining bytes

abbrev pub goes_on : List ℕ → Option ℕ → List ℕ → Option (List ℕ)
goes_on items so_far rest = option_map (λ ns. items ++ ns) (numbers_with so_far rest)

one_more : (items : List ℕ) (n : ℕ) (o : Option (List ℕ))
    → option_map (λ ns. items ++ ns) (option_map (λ ns. n ∷ ns) o) ≡ option_map (λ ns. (items ++ n ∷ []) ++ ns) o
one_more items n None = refl
one_more items n (Some ns) = ap (λ (l : List ℕ). Some l) (sym (append_assoc items (n ∷ []) ns))

pub goes_on_behind_comma : (items rest more : List ℕ) (n : ℕ)
    → numbers_with None rest ≡ numbers_with (Some n) (44 ∷ more)
    → goes_on items None rest ≡ goes_on (items ++ n ∷ []) None more
goes_on_behind_comma items rest more n read =
    ap (option_map (λ ns. items ++ ns)) read ∙ one_more items n (numbers_with None more)

pub goes_on_to_last : (items rest : List ℕ) (n : ℕ) → numbers_with None rest ≡ numbers_with (Some n) []
    → goes_on items None rest ≡ Some (items ++ n ∷ [])
goes_on_to_last items rest n read = ap (option_map (λ ns. items ++ ns)) read

pub goes_on_to_none : (items rest : List ℕ) → numbers_with None rest ≡ None → goes_on items None rest ≡ None
goes_on_to_none items rest read = ap (option_map (λ ns. items ++ ns)) read

-- what follows a number is a comma
pub goes_on_no_further : (items rest more : List ℕ) (n byte : ℕ)
    → numbers_with None rest ≡ numbers_with (Some n) (byte ∷ more) → byte ≢ 44 → EndsNumber n (byte ∷ more)
    → goes_on items None rest ≡ None
goes_on_no_further items rest more n byte read other ends =
    let stops : next_digit_read (Some n) byte ≡ None = ends in
    let none : numbers_with (Some n) (byte ∷ more) ≡ None = rw (ne_eqb byte 44 other, stops) refl in
    ap (option_map (λ ns. items ++ ns)) (read ∙ none)

nothing_before : (o : Option (List ℕ)) → option_map (λ ns. [] ++ ns) o ≡ o
nothing_before None = refl
nothing_before (Some ns) = refl

-- a field other than `-` spells the numbers of its bytes
pub begins_with : (field : List ℕ) → goes_on [] None field ≡ numbers_read (pieces_at 44 field)
begins_with field = nothing_before (numbers_with None field) ∙ of_whole field
