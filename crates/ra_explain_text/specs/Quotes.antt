-- Quoted lines of a history.
use Rattle.std.specs.Prelude.{ℕ, ◌-◌, nat_lt, nat_le, min, List, [], ◌++◌, length, take, slice_get, codes, decimal, if◌then◌else◌}
use Rattle.std.specs.Char.{is_ascii_whitespace}
use Rattle.std.specs.List.{suffix_len}
use Rattle.std.specs.Option.{option_map_or}
use Rattle.ra_labels.specs.declared.command.Command.{Command}
use Rattle.ra_history_writer.specs.Spelling.{line_of}
use Rattle.ra_monitor.specs.Monitor.{MonitorEntry}
use Rattle.ra_explain_text.specs.Numbers.{line_number}

-- the line of the entry at this position of the log
abbrev pub line_words : ℕ → List ℕ
line_words place = codes "line " ++ decimal (line_number place)

-- the line, or the first 72 bytes of a longer one
abbrev pub shortened : List ℕ → List ℕ
shortened line = if nat_lt 72 (length line) then take 72 line ++ codes " .." else line

-- the line of the command, or its beginning
abbrev pub act_words : List (List ℕ) → Command → List ℕ
act_words names command = shortened (line_of names command)

-- the bytes without the spaces at their end
abbrev pub trimmed : List ℕ → List ℕ
trimmed bytes = take (length bytes - suffix_len is_ascii_whitespace bytes) bytes

-- the beginning of a line, in at most this number of bytes; nothing if that is less than eight
abbrev pub beginning : ℕ → List ℕ → List ℕ
beginning most line = if nat_lt most 8 then [] else codes ": " ++ (trimmed (take most line) ++ codes " ..")

-- the line behind a colon, or its beginning, in this room, three bytes of which are for the colon and a parenthesis
abbrev pub quote_in : ℕ → List ℕ → List ℕ
quote_in room line =
    if nat_le (length line) (min (room - 3) 72) then codes ": " ++ line else beginning (min (room - 3 - 3) 72) line

-- the text with what the entry at this position says, as far as there is room before the further bytes
abbrev pub with_quote : List (List ℕ) → List MonitorEntry → ℕ → ℕ → List ℕ → List ℕ
with_quote names log place further text = text
    ++ option_map_or (λ entry. quote_in (84 - length text - further) (line_of names entry.command))
    (slice_get log place) []

-- the text with the line of the entry at this position and what it says, in parentheses
abbrev pub with_place : List (List ℕ) → List MonitorEntry → ℕ → ℕ → List ℕ → List ℕ
with_place names log place further text =
    with_quote names log place further (text ++ (codes " (" ++ line_words place)) ++ codes ")"

-- the text with the label of this number, its line and what the line says, and then these words
abbrev pub with_label : List (List ℕ) → List MonitorEntry → List ℕ → List ℕ → ℕ → List ℕ → List ℕ
with_label names log places text n words =
    let head = text ++ (codes "label " ++ decimal n) in
    option_map_or (λ place. with_place names log place (length words) head) (slice_get places n) head ++ words
