-- The four faults of a text, in terms of lines and of the grammar. The definition that the code follows reads a text
-- byte by byte (Text); theorems of `theorems` show that both agree.
use Rattle.std.specs.Prelude.{◌≡◌, ◌≢◌, ◌⊎◌, ℕ, ◌+◌, ◌<◌, ◌≤◌, List, [], ◌∷◌, ◌++◌, length, All}
use Rattle.std.specs.List.{AllByRecursion}
use Rattle.ra_labels.specs.declared.kind.Kind.{Kind}
use Rattle.ra_labels.specs.declared.command.Command.{Command}
use Rattle.ra_history_lines.specs.declared.format.Format.{Format}
use Rattle.ra_history_lines.specs.declared.limits.TheConstants.{LONGEST_LINE, MOST_COMMANDS}
use Rattle.ra_history_lines.specs.Grammar.{IsLine, bytes_of, first_line, ListsNames, Spells, SpellEach}
use Rattle.ra_history_text.specs.Text.{Said, Nothing, OfKind, OfHistory}

-- Holds if these lines begin a text and have this content: no lines have none, a first line gives the format and the
-- kind, and a line of names followed by lines of commands gives a history.
abbrev pub LinesSay : List (List ℕ) → Said → Type 0
LinesSay [] Nothing = Unit {0}
LinesSay (head ∷ []) (OfKind format kind) = head ≡ first_line format kind
LinesSay (head ∷ second ∷ lines) (OfHistory format kind first joined commands) =
    (head ≡ first_line format kind) × ListsNames format second first
    × SpellEach format kind first [] [] lines commands joined × (length commands ≤ MOST_COMMANDS)
LinesSay _ _ = ⊥

-- Holds if after lines with this content the line is invalid: no first line, no line of names, or no command.
abbrev pub SpellsNothing : Said → List ℕ → Type 0
SpellsNothing Nothing line = (format : Format) (kind : Kind) → line ≡ first_line format kind → ⊥
SpellsNothing (OfKind format kind) line = (names : List (List ℕ)) → ListsNames format line names → ⊥
SpellsNothing (OfHistory format kind first joined commands) line =
    (command : Command) → Spells format kind (first ++ joined) line command → ⊥

-- Holds if the lines have as many commands as allowed and this line spells another one.
abbrev pub SpellsOneTooMany : Said → List ℕ → Type 0
SpellsOneTooMany (OfHistory format kind first joined commands) line =
    (length commands ≡ MOST_COMMANDS) × ((command : Command) × Spells format kind (first ++ joined) line command)
SpellsOneTooMany _ line = ⊥

-- Holds if the text is whole lines with this content and then the rest, which begins the line with this number, from 1.
pub record HasLinesBefore (text : List ℕ) (said : Said) (number : ℕ) (rest : List ℕ) : Type 0 where
  pub lines : List (List ℕ)
  pub are_lines : AllByRecursion IsLine lines
  pub say : LinesSay lines said
  pub whole : text ≡ bytes_of lines ++ rest
  pub numbered : number ≡ length lines + 1

-- syntax fault: the next line is complete, and spells nothing that can follow
pub record HasSyntaxFault (text : List ℕ) (said : Said) (number : ℕ) : Type 0 where
  pub line : List ℕ
  pub behind : List ℕ
  pub before : HasLinesBefore text said number (line ++ 10 ∷ behind)
  pub is_line : IsLine line
  pub nothing : SpellsNothing said line

-- truncated: the text ends inside the next line, or before the end of its first two lines
pub record IsTruncated (text : List ℕ) (said : Said) (number : ℕ) : Type 0 where
  pub rest : List ℕ
  pub before : HasLinesBefore text said number rest
  pub is_line : IsLine rest
  pub early : (0 < length rest) ⊎ (number ≤ 2)

-- line too long: the next line has one byte more than the longest line before any line feed
pub record HasLongLine (text : List ℕ) (said : Said) (number : ℕ) : Type 0 where
  pub line : List ℕ
  pub behind : List ℕ
  pub before : HasLinesBefore text said number (line ++ behind)
  pub one : All (λ byte. byte ≢ 10) line
  pub long : length line ≡ LONGEST_LINE + 1

-- full: the next line is complete, and spells one command more than a text can have
pub record HasCommandTooMany (text : List ℕ) (said : Said) (number : ℕ) : Type 0 where
  pub line : List ℕ
  pub behind : List ℕ
  pub before : HasLinesBefore text said number (line ++ 10 ∷ behind)
  pub is_line : IsLine line
  pub one_more : SpellsOneTooMany said line
