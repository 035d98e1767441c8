-- The lines of a text, one after another, and the item that each one yields.
use Rattle.std.specs.Prelude.{◌≡◌, ℕ, ◌≤◌, true, false, List, [], ◌∷◌, ◌++◌, length, string_bytes}
use Rattle.ra_labels.specs.declared.command.Command.{Command}
use Rattle.ra_labels.specs.TheoremTerms.{is_join}
use Rattle.ra_history_lines.specs.declared.limits.TheConstants.{LONGEST_LINE}
use Rattle.ra_history_lines.specs.declared.format.Format.{Format}
use Rattle.ra_history_lines.specs.declared.reading.Header.{Header}
use Rattle.ra_history_lines.specs.declared.reading.Header.TheVariants.{Nothing, OfKind, OfNames}
use Rattle.ra_history_lines.specs.declared.reading.Item.{Item}
use Rattle.ra_history_lines.specs.declared.reading.Item.TheVariants.{KindLine, NamesLine, CommandLine, JoinLine}
use Rattle.ra_history_lines.specs.Grammar.{first_line, new_name, ListsNames, Spells}

-- holds if after this header the line spells the item, and `next` is the header after the line
abbrev pub SpellsItem : Header → List ℕ → Item → Header → Type 0
SpellsItem Nothing line (KindLine kind) next =
    (format : Format) × (line ≡ first_line format kind) × (next ≡ OfKind format kind)
SpellsItem (OfKind format kind) line (NamesLine count) next =
    (names : List (List ℕ)) × ListsNames format line names × (count ≡ length names) × (next ≡ OfNames format kind names)
SpellsItem (OfNames format kind names) line (CommandLine command) next =
    Spells format kind names line command × (is_join command ≡ false) × (next ≡ OfNames format kind names)
SpellsItem (OfNames format kind names) line (JoinLine command name) next =
    Spells format kind names line command × (is_join command ≡ true) × (string_bytes name ≡ new_name line)
    × (next ≡ OfNames format kind names)
SpellsItem header line item next = ⊥

-- holds if the item is that of this command on this line
abbrev pub IsItemOf : Command → List ℕ → Item → Type 0
IsItemOf command line (CommandLine told) = (told ≡ command) × (is_join command ≡ false)
IsItemOf command line (JoinLine told name) =
    (told ≡ command) × (is_join command ≡ true) × (string_bytes name ≡ new_name line)
IsItemOf command line item = ⊥

-- holds if the line spells the item and is not too long
pub record Gives (header : Header) (line : List ℕ) (item : Item) (next : Header) : Type 0 where
  pub short : length line ≤ LONGEST_LINE
  pub spells : SpellsItem header line item next

-- holds if both lines before the commands were read
abbrev pub HasNames : Header → Type 0
HasNames (OfNames format kind names) = Unit {0}
HasNames header = ⊥

-- the names that were read, and those that were added
abbrev pub names_in : Header → List (List ℕ)
names_in (OfNames format kind names) = names
names_in header = []

-- the header with one more name
abbrev pub with_name : Header → List ℕ → Header
with_name (OfNames format kind names) name = OfNames format kind (names ++ name ∷ [])
with_name header name = header
