-- The smaller of two numbers, the first of which may be missing.
use Rattle.std.specs.Prelude.{ℕ, min, Option, Some, None}

abbrev pub lesser_of : Option ℕ → ℕ → ℕ
lesser_of None n = n
lesser_of (Some m) n = min m n
