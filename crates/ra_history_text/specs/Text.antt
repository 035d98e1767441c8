-- A text from its first byte to its last: the content of its lines, and how it ends, both computed from the bytes.
use Rattle.std.specs.Prelude.{ℕ, ◌+◌, ◌==◌, nat_lt, Bool, true, false, ◌&&◌, List, [], ◌∷◌, ◌++◌, length, Option, Some, None, option_map, Result, Ok, Err, is_ok, if◌then◌else◌}
use Rattle.ra_labels.specs.declared.kind.Kind.{Kind}
use Rattle.ra_labels.specs.declared.command.Command.{Command}
use Rattle.ra_labels.specs.Records.{Records}
use Rattle.ra_labels.specs.Answer.{records_after_all}
use Rattle.ra_history_lines.specs.declared.format.Format.{Format}
use Rattle.ra_history_lines.specs.declared.limits.TheConstants.{LONGEST_LINE, MOST_COMMANDS}
use Rattle.ra_history_lines.specs.Grammar.{fields_of, names_behind}
use Rattle.ra_history_lines.specs.Reading.{head_read, names_read, command_read}

-- ---- the content of lines

-- the content of the lines so far
pub data Said : Type 0 where
  -- no line yet
  Nothing : Said
  -- the first line: the format and the kind
  OfKind : Format → Kind → Said
  -- the line of names as well, and then commands, oldest first: the initial names, and those that joined
  OfHistory : Format → Kind → List (List ℕ) → List (List ℕ) → List Command → Said

-- the number of the next line, from 1
abbrev pub next_line : Said → ℕ
next_line Nothing = 1
next_line (OfKind format kind) = 2
next_line (OfHistory format kind first joined commands) = length commands + 3

-- the records after the commands of a history with these initial names
abbrev pub records_in : Kind → List (List ℕ) → List Command → Records
records_in kind first commands = records_after_all kind (length first) [] commands

-- a history with one more command, which this line spells
abbrev pub with_command : Format → Kind → List (List ℕ) → List (List ℕ) → List Command → List ℕ → Command → Said
with_command format kind first joined commands line command =
    OfHistory format kind first
    (names_behind kind (length first) (records_in kind first commands) joined line command) (commands ++ command ∷ [])

abbrev pub of_head : Format × Kind → Said
of_head head = OfKind head.0 head.1

-- the content with one more line; none if the line spells nothing that is allowed there
abbrev pub said_behind : Said → List ℕ → Option Said
said_behind Nothing line = option_map of_head (head_read line)
said_behind (OfKind format kind) line =
    option_map (λ names. OfHistory format kind names [] []) (names_read format line)
said_behind (OfHistory format kind first joined commands) line =
    option_map (with_command format kind first joined commands line)
    (command_read format kind (first ++ joined) (fields_of line))

-- `true` if there are as many commands as allowed
abbrev pub is_full : Said → Bool
is_full Nothing = false
is_full (OfKind format kind) = false
is_full (OfHistory format kind first joined commands) = length commands == MOST_COMMANDS

-- `true` if both lines before the commands were read
abbrev pub has_names : Said → Bool
has_names Nothing = false
has_names (OfKind format kind) = false
has_names (OfHistory format kind first joined commands) = true

-- ---- how a text ends

-- how a text ends: regularly, or with a fault at the line with this number
pub data Ending : Type 0 where
  Regular : Ending
  Syntax : ℕ → Ending
  Truncated : ℕ → Ending
  LineTooLong : ℕ → Ending
  Full : ℕ → Ending

-- ---- byte by byte

-- how far a text is read: the content of its whole lines, and the bytes of the next one so far
pub record Progress : Type 0 where
  pub said : Said
  pub partial : List ℕ

-- where a text stops: why, and the content of the lines before
pub record Stop : Type 0 where
  pub ending : Ending
  pub said : Said

-- the progress at the beginning of a line
abbrev pub line_start : Said → Progress
line_start said = record { said = said; partial = [] }

-- the progress before the first byte of a text
abbrev pub text_start : Progress
text_start = line_start Nothing

abbrev pub stop_at : Said → Ending → Stop
stop_at said ending = record { ending = ending; said = said }

-- the result of a line that leads to this content: a fault if there is none or if it is one command too many
abbrev pub line_taken_as : Said → Option Said → Result Progress Stop
line_taken_as said None = Err (stop_at said (Syntax (next_line said)))
line_taken_as said (Some next) =
    if is_full said then Err (stop_at said (Full (next_line said))) else Ok (line_start next)

-- the result of a whole line: the progress after it, or why the text stops there
abbrev pub line_taken : Said → List ℕ → Result Progress Stop
line_taken said line = line_taken_as said (said_behind said line)

-- The result of one byte: a line feed (byte 10) completes the line; any other byte is appended to the line if it may
-- have one more.
abbrev pub byte_taken : Progress → ℕ → Result Progress Stop
byte_taken progress byte =
    if byte == 10 then line_taken progress.said progress.partial
    else if nat_lt (length progress.partial) LONGEST_LINE
    then Ok (record { said = progress.said; partial = progress.partial ++ byte ∷ [] })
    else Err (stop_at progress.said (LineTooLong (next_line progress.said)))

-- the result of going on, unless the text stopped
abbrev pub unless_stopped : Result Progress Stop → (Progress → Result Progress Stop) → Result Progress Stop
unless_stopped (Ok progress) later = later progress
unless_stopped (Err stop) later = Err stop

-- the result of these bytes, one after another
abbrev pub taken : Progress → List ℕ → Result Progress Stop
taken progress [] = Ok progress
taken progress (byte ∷ bytes) = unless_stopped (byte_taken progress byte) (λ next. taken next bytes)

-- ---- the whole text

-- how a text ends that ends at this progress
abbrev pub ending_at : Progress → Ending
ending_at progress =
    if has_names progress.said && length progress.partial == 0 then Regular else Truncated (next_line progress.said)

abbrev pub end_of : Result Progress Stop → Stop
end_of (Ok progress) = stop_at progress.said (ending_at progress)
end_of (Err stop) = stop

-- how the text ends: regularly, or with its first fault
abbrev pub ending_of : List ℕ → Ending
ending_of text = (end_of (taken text_start text)).ending

-- the content of its lines: all of them, or those before the fault
abbrev pub said_by : List ℕ → Said
said_by text = (end_of (taken text_start text)).said

-- `true` if no line of the text stops it, and the bytes after its last line feed are not too long for a line
abbrev pub does_not_stop : List ℕ → Bool
does_not_stop text = is_ok (taken text_start text)
