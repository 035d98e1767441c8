-- How the program ends, and what it writes to the error writer.
use Rattle.std.specs.Prelude.{◌≡◌, ◌⊎◌, ℕ, true, List, [], ◌∷◌, ◌++◌, Option}
use Rattle.std.specs.Io.KnownBytes.{Appends}
use Rattle.ra_history_text.specs.declared.fault.CheckFault.{CheckFault}
use Rattle.ra_history_text.specs.Faults.{check_fault_words}
use Rattle.ra_history_text.specs.Written.{StopsLine}
use Rattle.ra_cli_common.specs.declared.ending.Ending.{Ending}

-- the ending with this status and nothing to report
abbrev pub ends_silently : ℕ → Ending
ends_silently code = record { status = code; told = true }

-- Holds if the program ends with this status and, if it could report these words, the error writer's bytes grew by them
-- and a line feed.
pub record EndsTelling (code : ℕ) (ending : Ending) (old new : Option (List ℕ)) (words : List ℕ) : Type 0 where
  pub status : ending.status ≡ code
  pub line : ending.told ≡ true → Appends old new (words ++ 10 ∷ [])

-- holds if the program stops with status 2 and reports these words
abbrev pub StopsProgram : Ending → (old new : Option (List ℕ)) → (words : List ℕ) → Type 0
StopsProgram = EndsTelling 2

-- Holds if the line is written, nothing is reported, and the program ends with this status; or the line could not be
-- made or written, and that is reported.
abbrev pub EndsWithLine : (line : List ℕ) → (code : ℕ) → Ending → (old new err_old err_new : Option (List ℕ)) → Type 0
EndsWithLine line code ending old new err_old err_new =
    ((ending ≡ ends_silently code) × Appends old new line × (err_new ≡ err_old))
    ⊎ ((fault : CheckFault) × StopsLine line old new fault
    × StopsProgram ending err_old err_new (check_fault_words fault))
