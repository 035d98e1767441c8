-- What a pass leaves open: updates that were not delivered to every replica.
use Rattle.std.specs.Prelude.{ℕ, ◌==◌, Bool, min, List, [], ◌∷◌, ◌++◌, filter, length, take, drop, is_some, codes, decimal, if◌then◌else◌}
use Rattle.std.specs.Option.{option_map_or}
use Rattle.ra_history_writer.specs.Spelling.{name_of}
use Rattle.ra_explain.specs.declared.explanation.Explanation.{Explanation}
use Rattle.ra_explain.specs.declared.undelivered.Undelivered.{Undelivered}
use Rattle.ra_explain_text.specs.Quotes.{with_label}
use Rattle.ra_explain_text.specs.Rows.{row}

abbrev pub updates_words : ℕ → List ℕ
updates_words count = decimal count
    ++ (if count == 1 then codes " update was not delivered, " else codes " updates were not delivered, the oldest ")

-- the replica, and the number of the updates that it lacks
abbrev pub lack_front : List (List ℕ) → Undelivered → List ℕ
lack_front names lack = name_of names lack.replica ++ (codes ": " ++ updates_words (min lack.updates 4294967295))

-- the same with the oldest of them
abbrev pub oldest_words : List (List ℕ) → Explanation → Undelivered → ℕ → List ℕ
oldest_words names e lack oldest = with_label names e.log.items e.places (lack_front names lack) oldest []

-- what the replica lacks, or that it lacks nothing
abbrev pub lack_words : List (List ℕ) → Explanation → Undelivered → List ℕ
lack_words names e lack = option_map_or (oldest_words names e lack) lack.oldest
    (name_of names lack.replica ++ codes ": every update was delivered")

abbrev pub lack_rows : List (List ℕ) → Explanation → List Undelivered → List ℕ
lack_rows names e [] = []
lack_rows names e (lack ∷ lacks) = row (codes "at the end") (lack_words names e lack) ++ lack_rows names e lacks

abbrev pub lacks_some : Undelivered → Bool
lacks_some lack = is_some lack.oldest

-- the number of the other replicas that lack updates
abbrev pub others_lacking : ℕ → List ℕ
others_lacking count = if count == 0 then []
    else row [] (decimal count
    ++ (if count == 1 then codes " more replica misses updates" else codes " more replicas miss updates"))

-- a row for each of the first ten replicas, and one for the others
abbrev pub undelivered_rows : List (List ℕ) → Explanation → List ℕ
undelivered_rows names e = lack_rows names e (take 10 e.undelivered.items)
    ++ others_lacking (min (length (filter lacks_some (drop 10 e.undelivered.items))) 4294967295)
