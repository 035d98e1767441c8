-- Lemmas on the number of bytes of numbers and lists.
use Rattle.std.proofs.Common.{◌≡◌, ℕ, ◌+◌, ◌/◌, ◌%◌, ◌^◌, ◌<◌, ◌≤◌, List, [], ◌∷◌, length, take, get_or, sym, ap, arith}
use Rattle.std.specs.Prelude.{decimal}
use Rattle.std.proofs.lemmas.Fmt.{decimal_digit, decimal_step, length-decimal-le}
use Rattle.std.proofs.lemmas.List.{length-append, take_more}
use Rattle.ra_history_lines.specs.Grammar.{list_word}
use Rattle.ra_history_writer.specs.Spelling.{commas}
use Rattle.ra_history_writer.proofs.PutBytes.{commas-append, joined}

-- ---- numbers

pub size_step : (n size : ℕ) → 10 ≤ n → n < 2 ^ 64 → size ≡ length (decimal (n / 10)) → size + 1 ≡ length (decimal n)
size_step n size large small before =
    omega (arith, before, ap length (decimal_step n large small), length-append (decimal (n / 10)) ((48 + n % 10) ∷ []))

pub size_one : (n : ℕ) → n < 10 → 1 ≡ length (decimal n)
size_one n small = sym (ap length (decimal_digit n small))

pub ten_digits : (n size : ℕ) → n < 2 ^ 32 → size ≡ length (decimal n) → size ≤ 10
ten_digits n size small exact =
    omega (arith, exact, length-decimal-le 10 n (omega arith) (omega (arith, small)) (omega (arith, small)))

-- ---- lists

pub size_more : (xs : List ℕ) (i size one : ℕ) → i < length xs → size ≡ length (commas (take i xs))
    → one ≡ length (decimal (get_or xs i 0))
    → size + (1 + one) ≡ length (commas (take (i + 1) xs))
size_more xs i size one there before here =
    let x : ℕ = get_or xs i 0 in
    omega (
      arith,
      before,
      here,
      ap (λ (ys : List ℕ). length (commas ys)) (take_more xs i 0 there),
      ap length (commas-append (take i xs) (x ∷ [])),
      length-append (commas (take i xs)) (commas (x ∷ [])),
      length-append (decimal x) [],
    )

pub size_list : (x : ℕ) (xs list : List ℕ) (first more : ℕ) → list ≡ x ∷ xs → first ≡ length (decimal x)
    → more ≡ length (commas xs)
    → first + more ≡ length (list_word list)
size_list x xs list first more is here later =
    omega (
      arith,
      here,
      later,
      ap (λ (ys : List ℕ). length (list_word ys)) is,
      ap length (joined x xs),
      length-append (decimal x) (commas xs),
    )
