-- Vocabulary of the theorems about late insertions into an RGA.
use Rattle.std.specs.Prelude.{ℕ, ◌==◌, Bool, true, List, [], ◌∷◌, filter, if◌then◌else◌}

-- the list with x inserted, shown, before the first entry that x is not below
abbrev pub insert_past_greater : (ℕ → ℕ → Bool) → ℕ → List (ℕ × Bool) → List (ℕ × Bool)
insert_past_greater below x [] = (x, true) ∷ []
insert_past_greater below x (entry ∷ list) =
    if below x entry.0 then entry ∷ insert_past_greater below x list else (x, true) ∷ entry ∷ list

-- the list with x inserted, shown, after the anchor and after the entries directly behind it that x is below
abbrev pub insert_late_after : (ℕ → ℕ → Bool) → ℕ → ℕ → List (ℕ × Bool) → List (ℕ × Bool)
insert_late_after below anchor x [] = []
insert_late_after below anchor x (entry ∷ list) =
    if anchor == entry.0
    then entry ∷ insert_past_greater below x list
    else entry ∷ insert_late_after below anchor x list

-- the entries of the elements that are kept
abbrev pub kept_entries : (ℕ → Bool) → List (ℕ × Bool) → List (ℕ × Bool)
kept_entries keep list = filter (λ entry. keep entry.0) list
