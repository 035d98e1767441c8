-- How a history is written: the line of each command, and the whole text.
use Rattle.std.specs.Prelude.{◌≡◌, ℕ, ◌<◌, ◌≤◌, true, List, [], ◌∷◌, ◌++◌, length, map, slice_get, unwrap_or, IfSome, codes, decimal}
use Rattle.ra_labels.specs.declared.kind.Kind.{Kind}
use Rattle.ra_labels.specs.declared.command.Command.{Command}
use Rattle.ra_labels.specs.declared.command.Command.TheVariants.{Operate, Deliver, Join, Verdict}
use Rattle.std.specs.List.{AllByRecursion}
use Rattle.ra_labels.specs.declared.reply.Reply.{Reply}
use Rattle.ra_labels.specs.declared.reply.Reply.TheVariants.{Joined}
use Rattle.ra_labels.specs.Records.{Records, replica_count}
use Rattle.ra_labels.specs.Answer.{answer_of, records_after, records_after_all}
use Rattle.ra_history_lines.specs.declared.limits.TheConstants.{LONGEST_LINE}
use Rattle.ra_history_lines.specs.declared.format.Format.{Format}
use Rattle.ra_history_lines.specs.declared.format.Format.TheVariants.{Rah2}
use Rattle.ra_history_lines.specs.Grammar.{bytes_of, first_line, operation_fields, clock_fields, has_words, HasSmallNumbers, IsSmall}

-- each field with a space (byte 32) before it
abbrev pub spaced : List (List ℕ) → List ℕ
spaced [] = []
spaced (field ∷ fields) = 32 ∷ (field ++ spaced fields)

-- each number with a comma (byte 44) before it
abbrev pub commas : List ℕ → List ℕ
commas [] = []
commas (x ∷ xs) = 44 ∷ (decimal x ++ commas xs)

-- the name of a replica
abbrev pub name_of : List (List ℕ) → ℕ → List ℕ
name_of names replica = unwrap_or (slice_get names replica) []

-- the line of a command
abbrev pub line_of : List (List ℕ) → Command → List ℕ
line_of names Verdict = codes "verdict"
line_of names (Deliver replica label) = name_of names replica ++ spaced (codes "got" ∷ decimal label ∷ [])
line_of names (Operate replica op clock) = name_of names replica ++ spaced (operation_fields op ++ clock_fields clock)
line_of names (Join replica from) = codes "join" ++ spaced (name_of names replica ∷ name_of names from ∷ [])

-- the second line
abbrev pub names_line : List (List ℕ) → List ℕ
names_line names = codes "replicas" ++ spaced names

-- The text of a history with these commands, oldest first, whose replicas have these initial names and these names that
-- joined.
abbrev pub text_of : Format → Kind → List (List ℕ) → List (List ℕ) → List Command → List ℕ
text_of format kind first joined commands =
    bytes_of (first_line format kind ∷ names_line first ∷ map (line_of (first ++ joined)) commands)

-- holds if the numbers on the command's line fit in 32 bits
abbrev pub AreSmall : Command → Type 0
AreSmall Verdict = Unit {0}
AreSmall (Deliver replica label) = IsSmall label
AreSmall (Operate replica op clock) = HasSmallNumbers op × IfSome clock IsSmall
AreSmall (Join replica from) = Unit {0}

-- Holds if a line can spell the command in a history of this kind with this number of replicas: it is of one of them,
-- and the kind can spell its operation; a join is of the next replica, and in RAH 2.
abbrev pub HasLine : Format → Kind → ℕ → Command → Type 0
HasLine format kind replicas Verdict = Unit {0}
HasLine format kind replicas (Deliver replica label) = replica < replicas
HasLine format kind replicas (Operate replica op clock) = (replica < replicas) × (has_words op kind ≡ true)
HasLine format kind replicas (Join replica from) = (format ≡ Rah2) × (replica ≡ replicas) × (from < replicas)

-- holds if, for a join, there is a name for the new replica
abbrev pub HasNewName : List (List ℕ) → Command → Type 0
HasNewName later (Join replica from) = 0 < length later
HasNewName later command = Unit {0}

-- holds if a join is answered `joined` with its replica
abbrev pub IsJoined : Command → Reply → Type 0
IsJoined (Join replica from) answer = answer ≡ Joined replica
IsJoined command answer = Unit {0}

-- Holds if each of the commands, given one after another after these records, can be spelled when it comes, and each
-- join is accepted.
abbrev pub HaveLines : Format → Kind → ℕ → Records → List Command → Type 0
HaveLines format kind replicas records [] = Unit {0}
HaveLines format kind replicas records (command ∷ commands) =
    HasLine format kind (replica_count replicas records) command
    × IsJoined command (answer_of kind replicas records command)
    × HaveLines format kind replicas (records_after kind replicas records command) commands

-- holds if there are as many names as replicas after the commands
abbrev pub NameEach : Kind → List (List ℕ) → List (List ℕ) → List Command → Type 0
NameEach kind first joined commands = length (first ++ joined)
    ≡ replica_count (length first) (records_after_all kind (length first) [] commands)

-- holds if the line of the command is not too long
abbrev pub IsShort : List (List ℕ) → Command → Type 0
IsShort names command = length (line_of names command) ≤ LONGEST_LINE

-- holds if no line of the commands is too long
abbrev pub AreShort : List (List ℕ) → List Command → Type 0
AreShort names commands = AllByRecursion (IsShort names) commands
