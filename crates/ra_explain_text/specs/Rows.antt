-- The rows of a page.
use Rattle.std.specs.Prelude.{ℕ, nat_lt, nat_le, Bool, true, false, ◌&&◌, ◌||◌, List, [], ◌∷◌, ◌++◌, length, take, drop, codes, if◌then◌else◌}
use Rattle.ra_explain_text.specs.declared.notes.Head.{Head}
use Rattle.ra_explain_text.specs.declared.notes.Head.TheVariants as head
use Rattle.ra_explain_text.specs.declared.notes.Note.{Note}

-- the word, and spaces up to the column at which the facts of a page begin
abbrev pub padded : List ℕ → List ℕ
padded word = word ++ drop (length word) (codes "                ")

-- the first 98 bytes and two dots of a line longer than 100 bytes
abbrev pub cut_line : List ℕ → List ℕ
cut_line line = if nat_lt 100 (length line) then take 98 line ++ codes ".." else line

-- a line with this word at its head
abbrev pub row : List ℕ → List ℕ → List ℕ
row word text = cut_line (padded word ++ text) ++ 10 ∷ []

-- ---- notes

abbrev pub head_word : Head → List ℕ
head_word head.More = []
head_word head.Differs = codes "differs"
head_word head.GotThere = codes "got there"
head_word head.ExpectedThere = codes "expected there"
head_word head.Missing = codes "missing"
head_word head.Unexpected = codes "unexpected"
head_word head.ItSees = codes "it sees"
head_word head.ButNot = codes "but not"
head_word head.ButSees = codes "but sees"
head_word head.Rule = codes "rule"
head_word head.NotPossible = codes "not possible"
head_word head.Duplicate = codes "duplicate"
head_word head.Sees = codes "sees"
head_word head.NotDelivered = codes "not delivered"
head_word head.LeftOut = codes "left out"
head_word head.Shows = codes "shows"
head_word head.Repeats = codes "repeats"
head_word head.Names = codes "names"
head_word head.Cycle = codes "cycle"
head_word head.So = codes "so"
head_word head.Holds = codes "one that holds"
head_word head.Removed = codes "removed"
head_word head.Pairs = codes "pairs"
head_word head.Because = codes "because"
head_word head.And = codes "and"
head_word head.OneList = codes "one list"
head_word head.Possible = codes "possible"

-- `true` if the head is a word, and not that of a further line
abbrev pub has_word : Head → Bool
has_word head.More = false
has_word other = true

-- `true` if the byte is a space or a visible character of ASCII
abbrev pub is_printable : ℕ → Bool
is_printable byte = nat_le 32 byte && nat_le byte 126

-- the bytes before the first that is not printable
abbrev pub printable : List ℕ → List ℕ
printable [] = []
printable (byte ∷ bytes) = if is_printable byte then byte ∷ printable bytes else []

abbrev pub note_bytes : Note → List ℕ
note_bytes note = row (head_word note.head) (printable note.text.items)

abbrev pub note_if : Bool → Note → List ℕ
note_if true note = note_bytes note
note_if false note = []

-- the lines of these notes, given whether one has a word; further lines before such a line are left out
abbrev pub notes_from : Bool → List Note → List ℕ
notes_from is_begun [] = []
notes_from is_begun (note ∷ notes) =
    note_if (is_begun || has_word note.head) note ++ notes_from (is_begun || has_word note.head) notes

-- the lines of these notes, the first of which has a word
abbrev pub notes_bytes : List Note → List ℕ
notes_bytes notes = notes_from false notes
