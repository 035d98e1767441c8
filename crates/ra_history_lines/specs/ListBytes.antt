-- How a list is parsed, byte by byte. Lemmas state that it has the numbers of the list's pieces.
use Rattle.std.specs.Prelude.{◌≡◌, ℕ, ◌^◌, ◌==◌, nat_lt, List, [], ◌∷◌, Option, Some, None, option_map, option_and_then, if◌then◌else◌, ⊤}
use Rattle.ra_history_lines.specs.Reading.{next_digit_read}

-- the numbers of a list's remaining bytes, behind the number so far, if there is one
abbrev pub numbers_with : Option ℕ → List ℕ → Option (List ℕ)
numbers_with so_far [] = option_map (λ n. n ∷ []) so_far
numbers_with so_far (byte ∷ bytes) =
    if byte == 44 then option_and_then (λ n. option_map (λ ns. n ∷ ns) (numbers_with None bytes)) so_far
    else option_and_then (λ n. numbers_with (Some n) bytes) (next_digit_read so_far byte)

-- the same behind a number that may be too large
abbrev pub numbers_behind : ℕ → List ℕ → Option (List ℕ)
numbers_behind n bytes = if nat_lt n (2 ^ 32) then numbers_with (Some n) bytes else None

-- holds if no digit can be appended to the number
abbrev pub EndsNumber : ℕ → List ℕ → Type 0
EndsNumber n [] = ⊤
EndsNumber n (byte ∷ bytes) = next_digit_read (Some n) byte ≡ None
