-- Bytes that are written in part, and a line that is not written completely.
use Rattle.std.specs.Prelude.{◌≡◌, ℕ, ◌<◌, List, length, ◌++◌, Option}
use Rattle.std.specs.Io.KnownBytes.{Appends}
use Rattle.ra_history_text.specs.declared.fault.CheckFault.{CheckFault}
use Rattle.ra_history_text.specs.declared.fault.CheckFault.TheVariants as fault

-- holds if a prefix of the bytes is written, and this rest is left
pub record HasWritten (old new : Option (List ℕ)) (bytes rest : List ℕ) : Type 0 where
  pub prefix : List ℕ
  pub parts : bytes ≡ prefix ++ rest
  pub appends : Appends old new prefix

-- the condition for each fault with which the line is not written: nothing is written, or a part and not all
abbrev pub StopsLine : (line : List ℕ) → (old new : Option (List ℕ)) → CheckFault → Type 0
StopsLine line old new fault.NoMemory = new ≡ old
StopsLine line old new fault.Write = (rest : List ℕ) × (0 < length rest) × HasWritten old new line rest
StopsLine line old new _ = ⊥
