-- Numbers on a page.
use Rattle.std.specs.Prelude.{ℕ, ◌+◌, List, min, decimal, slice_get}
use Rattle.std.specs.Option.{option_map_or}

-- the number of the line with the entry at this position of the log: lines count from 1, and two precede the commands
abbrev pub line_number : ℕ → ℕ
line_number place = min (place + 3) 4294967295

-- a length in 32 bits
abbrev pub size_word : ℕ → List ℕ
size_word size = decimal (min size 4294967295)

-- the number of the line with label n, given the labels' positions; 0 if there is no such label
abbrev pub label_line : List ℕ → ℕ → ℕ
label_line places n = option_map_or line_number (slice_get places n) 0
