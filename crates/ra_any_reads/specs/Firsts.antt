-- The first reads, each with the counts of the updates that it saw.
use Rattle.std.specs.Prelude.{ℕ, List, [], ◌∷◌, map, All, Option, Some, None, if◌then◌else◌}
use Rattle.ra_any_reads.specs.declared.first.First.{First}
use Rattle.ra_any_reads.specs.Counts.{have_same_counts, IsTrimmed}

-- the first read that saw the updates with these counts; none if none did
abbrev pub first_in : List (List ℕ × First) → List ℕ → Option First
first_in [] counts = None
first_in (entry ∷ entries) counts =
    if have_same_counts counts entry.0 then Some entry.1 else first_in entries counts

abbrev pub first_of : ℕ → ℕ → First
first_of value label = record { value = value; label = label }

-- the entries of a map, with their keys as lists
abbrev pub entries_of : {K X : Type 0} → List (K × X) → (K → List ℕ) → List (List ℕ × X)
entries_of entries counts_of = map (λ entry. (counts_of entry.0, entry.1)) entries

-- holds if the counts of no entry end in 0
abbrev pub AllTrimmed : {X : Type 0} → List (List ℕ × X) → Type 0
AllTrimmed entries = All (λ entry. IsTrimmed entry.0) entries
