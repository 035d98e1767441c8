-- What is written of a history, and the faults of writing it.
use Rattle.std.specs.Prelude.{◌≡◌, ℕ, ◌<◌, nat_lt, ◌||◌, List, ◌∷◌, ◌++◌, length, take, drop, reverse, Option, Some, None, if◌then◌else◌}
use Rattle.std.specs.Io.KnownBytes.{Appends, Keeps}
use Rattle.std.specs.List.{list_any}
use Rattle.ra_labels.specs.declared.command.Command.{Command}
use Rattle.ra_labels.specs.TheoremTerms.{is_join}
use Rattle.ra_labels.specs.Records.{replica_count}
use Rattle.ra_monitor.specs.Monitor.{Monitor, records_of}
use Rattle.ra_history_writer.specs.declared.fault.WriteFault.{WriteFault}
use Rattle.ra_history_writer.specs.declared.fault.WriteFault.TheVariants.{BadNames, LineTooLong, Write, NoMemory}
use Rattle.ra_history_lines.specs.declared.limits.TheConstants.{LONGEST_LINE, MOST_NAMES_IN_RAH_1}
use Rattle.ra_history_lines.specs.declared.format.Format.{Format}
use Rattle.ra_history_lines.specs.declared.format.Format.TheVariants.{Rah1, Rah2}
use Rattle.ra_history_writer.specs.Spelling.{line_of, AreShort}
use Rattle.ra_history_text.specs.Text.{OfHistory, Regular, ending_of, said_by}

-- holds if the command at this position, from 0, is the first whose line is too long
pub record IsFirstTooLong (names : List (List ℕ)) (commands : List Command) (at : ℕ) : Type 0 where
  pub before : List Command
  pub command : Command
  pub later : List Command
  pub parts : commands ≡ before ++ command ∷ later
  pub place : at ≡ length before
  pub short : AreShort names before
  pub long : LONGEST_LINE < length (line_of names command)

-- holds if this is the position of the first command whose line is too long, or none if there is no such command
abbrev pub ReturnsFirstTooLong : List (List ℕ) → List Command → Option ℕ → Type 0
ReturnsFirstTooLong names commands None = AreShort names commands
ReturnsFirstTooLong names commands (Some at) = IsFirstTooLong names commands at

-- the accepted operations, deliveries and joins of a monitor, oldest first
abbrev pub records_in_order : Monitor → List Command
records_in_order monitor = reverse (records_of monitor.setup monitor.log)

-- RAH 2 if a replica joined, or if there are more initial replicas than RAH 1 has names for; otherwise RAH 1
abbrev pub format_of : Monitor → Format
format_of monitor =
    if list_any is_join (records_of monitor.setup monitor.log) || nat_lt MOST_NAMES_IN_RAH_1 monitor.setup.replicas
    then Rah2 else Rah1

-- Holds if this text has a regular end, and its content is the monitor's kind and accepted commands, in order. The
-- names are those of the initial replicas, followed by those that joined.
pub record SaysHistory (monitor : Monitor) (names : List (List ℕ)) (text : List ℕ) : Type 0 where
  pub ends : ending_of text ≡ Regular
  pub says : said_by text ≡ OfHistory (format_of monitor) monitor.setup.kind (take monitor.setup.replicas names)
      (drop monitor.setup.replicas names) (records_in_order monitor)

-- holds if such a text was written
abbrev pub WritesHistory : Monitor → List (List ℕ) → Option (List ℕ) → Option (List ℕ) → Type 0
WritesHistory monitor names old new = (text : List ℕ) × SaysHistory monitor names text × Appends old new text

-- holds if a part of such a text was written, and not all of it
abbrev pub WritesPartOfHistory : Monitor → List (List ℕ) → Option (List ℕ) → Option (List ℕ) → Type 0
WritesPartOfHistory monitor names old new =
    (part : List ℕ) × (more : List ℕ) × SaysHistory monitor names (part ++ more)
    × (0 < length more) × Appends old new part

-- holds if there are currently as many names as replicas
abbrev pub AreAsMany : Monitor → List (List ℕ) → Type 0
AreAsMany monitor names =
    length names ≡ replica_count monitor.setup.replicas (records_of monitor.setup monitor.log)

-- the condition for each fault with which a history is not written, and what was written of it
abbrev pub StopsWriting : Monitor → List (List ℕ) → Option (List ℕ) → Option (List ℕ) → WriteFault → Type 0
StopsWriting monitor names old new BadNames = (AreAsMany monitor names → ⊥) × Keeps old new
StopsWriting monitor names old new (LineTooLong at) =
    AreAsMany monitor names × IsFirstTooLong names (records_in_order monitor) at × Keeps old new
StopsWriting monitor names old new NoMemory =
    AreAsMany monitor names × AreShort names (records_in_order monitor) × Keeps old new
StopsWriting monitor names old new Write =
    AreAsMany monitor names × AreShort names (records_in_order monitor) × WritesPartOfHistory monitor names old new
