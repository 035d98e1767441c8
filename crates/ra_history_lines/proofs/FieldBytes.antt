-- Lemmas on reading a number and the fields behind it byte by byte.
use Rattle.std.proofs.Common.{◌≡◌, ℕ, ◌-◌, ◌<◌, ◌≤◌, ◌≢◌, inl, inr, eqb, List, [], ◌∷◌, Option, Some, None, length, get_or, take, drop}
use Rattle.std.proofs.Common.{refl, sym, ap, ◌∙◌, arith}
use Rattle.std.proofs.Math.Seq.{take-length}
use Rattle.std.specs.Prelude.{option_map, option_and_then}
use Rattle.std.specs.List.{onto_first}
use Rattle.std.proofs.lemmas.Bool.{cases_Bool, eq-eqb, ne_eqb}
use Rattle.ra_labels.specs.declared.command.Command.TheVariants.{Deliver}
use Rattle.ra_history_lines.specs.Grammar.{fields_of}
use Rattle.ra_history_lines.specs.FieldBytes.{number_in_field, only_number}
use Rattle.ra_history_lines.specs.ListBytes.{EndsNumber}
use Rattle.ra_history_lines.specs.Reading.{Rest, next_digit_read, number_read, number_first, delivery_read}
use Rattle.ra_history_lines.proofs.ListBytes.{on_value, number_with, number_of_piece}
use Rattle.ra_history_lines.proofs.Pieces.{some_piece}

-- ---- the number of the first field

-- the number of the first field, which follows a number so far
abbrev of_fields : Option ℕ → List (List ℕ) → Option (Rest ℕ)
of_fields so_far [] = None
of_fields so_far (field ∷ fields) = option_map (λ n. (n, fields)) (number_with so_far field)

of_all_fields : (fields : List (List ℕ)) → of_fields None fields ≡ number_first fields
of_all_fields [] = refl
of_all_fields (field ∷ fields) = ap (option_map (λ n. (n, fields))) (number_of_piece field)

through : (f : ℕ → Rest ℕ) (field : List ℕ) (o : Option ℕ)
    → option_and_then (λ n. option_map f (number_with (Some n) field)) o
    ≡ option_map f (option_and_then (λ n. number_with (Some n) field) o)
through f field None = refl
through f field (Some n) = refl

of_longer_field : (so_far : Option ℕ) (byte : ℕ) (fields : List (List ℕ)) → (fields ≡ [] → ⊥)
    → option_and_then (λ n. of_fields (Some n) fields) (next_digit_read so_far byte)
    ≡ of_fields so_far (onto_first byte fields)
of_longer_field so_far byte [] some = absurd (some refl)
of_longer_field so_far byte (field ∷ fields) some = through (λ n. (n, fields)) field (next_digit_read so_far byte)

by_fields : (so_far : Option ℕ) (bytes : List ℕ) → number_in_field so_far bytes ≡ of_fields so_far (fields_of bytes)
by_fields None [] = refl
by_fields (Some n) [] = refl
by_fields so_far (byte ∷ bytes) =
    elim (cases_Bool (eqb byte 32)) [
      | inl space ↦ rw space refl
      | inr other ↦
          rw other
          (on_value (λ n. number_in_field (Some n) bytes) (λ n. of_fields (Some n) (fields_of bytes))
          (next_digit_read so_far byte) (λ n read. by_fields (Some n) bytes)
          ∙ of_longer_field so_far byte (fields_of bytes) (some_piece 32 bytes))
    ]

-- read byte by byte, a line has the number of its first field
pub of_first : (bytes : List ℕ) → number_in_field None bytes ≡ number_first (fields_of bytes)
of_first bytes = by_fields None bytes ∙ of_all_fields (fields_of bytes)

-- ---- the digits of the number

-- ---- what follows the number

pub first_by_bytes : (bytes : List ℕ) (read : Option (Rest ℕ)) → number_in_field None bytes ≡ read
    → number_first (fields_of bytes) ≡ read
first_by_bytes bytes read is = sym (of_first bytes) ∙ is

-- without its first byte
rest_of : (byte : ℕ) (bytes : List ℕ) → take (length (byte ∷ bytes) - 1) bytes ≡ bytes
rest_of byte bytes =
    let less : length (byte ∷ bytes) - 1 ≡ length bytes = omega arith in
    ap (λ k. take k bytes) less ∙ take-length bytes

pub at_space : (n : ℕ) (behind : List ℕ) → 1 ≤ length behind → get_or behind 0 0 ≡ 32
    → number_in_field (Some n) behind ≡ Some (n, fields_of (take (length behind - 1) (drop 1 behind)))
at_space n [] some is = absurd (omega (arith, some))
at_space n (byte ∷ bytes) some is =
    rw (eq-eqb byte 32 is, rest_of byte bytes) refl

pub at_another : (n : ℕ) (behind : List ℕ) → 1 ≤ length behind → get_or behind 0 0 ≢ 32 → EndsNumber n behind
    → number_in_field (Some n) behind ≡ None
at_another n [] some other ends = absurd (omega (arith, some))
at_another n (byte ∷ bytes) some other ends =
    let stops : next_digit_read (Some n) byte ≡ None = ends in
    rw (ne_eqb byte 32 other, stops) refl

-- ---- a field that is the only one

abbrev pub if_none : ℕ → List (List ℕ) → Option ℕ
if_none n [] = Some n
if_none n (field ∷ fields) = None

-- the number, if no field is behind it
abbrev pub alone : Option (Rest ℕ) → Option ℕ
alone o = option_and_then (λ r. if_none r.0 r.1) o

alone_mapped : (o : Option ℕ) → o ≡ alone (option_map (λ n. (n, [])) o)
alone_mapped None = refl
alone_mapped (Some n) = refl

never_alone : (field : List ℕ) (fields : List (List ℕ)) (o : Option ℕ)
    → None ≡ alone (option_map (λ n. (n, field ∷ fields)) o)
never_alone field fields None = refl
never_alone field fields (Some n) = refl

alone_first : (fields : List (List ℕ)) → only_number fields ≡ alone (number_first fields)
alone_first [] = refl
alone_first (field ∷ []) = alone_mapped (number_read field)
alone_first (field ∷ another ∷ more) = never_alone another more (number_read field)

pub only_in : (bytes : List ℕ) → only_number (fields_of bytes) ≡ alone (number_in_field None bytes)
only_in bytes = alone_first (fields_of bytes) ∙ ap alone (sym (of_first bytes))

not_only : (n : ℕ) (fields : List (List ℕ)) → (fields ≡ [] → ⊥) → if_none n fields ≡ None
not_only n [] some = absurd (some refl)
not_only n (field ∷ fields) some = refl

-- a number that other bytes follow is not the only field
pub none_with_more : (n : ℕ) (behind : List ℕ) → 0 < length behind → EndsNumber n behind
    → alone (number_in_field (Some n) behind) ≡ None
none_with_more n [] some ends = absurd (omega (arith, some))
none_with_more n (byte ∷ bytes) some ends =
    elim (cases_Bool (eqb byte 32)) [
      | inl space ↦ rw space (not_only n (fields_of bytes) (some_piece 32 bytes))
      | inr other ↦
          let stops : next_digit_read (Some n) byte ≡ None = ends in
          rw (other, stops) refl
    ]

pub delivery_only : (replica : ℕ) (fields : List (List ℕ))
    → delivery_read replica fields ≡ option_map (λ label. Deliver replica label) (only_number fields)
delivery_only replica [] = refl
delivery_only replica (field ∷ []) = refl
delivery_only replica (field ∷ another ∷ more) = refl
