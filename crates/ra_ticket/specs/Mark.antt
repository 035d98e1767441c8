-- The word `mark`: the number of calls in a log and the number of its fault, in one word.
use Rattle.std.specs.Prelude.{◌≡◌, ℕ, ◌+◌, ◌*◌, ◌^◌, ◌<◌, List, length, Option, Some, None, IfSome}
use Rattle.ra_journal.specs.declared.entry.Entry.{Entry}
use Rattle.ra_journal.specs.Log.{Readings}

-- one more than the number of the fault, or 0 without a fault
abbrev pub fault_part : Option ℕ → ℕ
fault_part None = 0
fault_part (Some f) = f + 1

abbrev pub mark_of : ℕ → Option ℕ → ℕ
mark_of calls fault = calls * 2 ^ 32 + fault_part fault

-- holds if one more than the number of the fault fits in half a word
abbrev pub IsNumbered : Option ℕ → Type 0
IsNumbered fault = IfSome fault (λ f. f + 1 < 2 ^ 32)

-- holds if this is the mark of a log under a setup, and it can be decoded
pub record IsMarkOf {M C R S : Type 0} (j : Readings M C R S) (setup : S) (log : List (Entry C R)) (mark : ℕ) : Type 0
  where
    pub marked : mark ≡ mark_of (length log) (j.fault_of setup log)
    pub short : length log < 2 ^ 32
    pub below : IfSome (j.fault_of setup log) (λ f. f < length log)
