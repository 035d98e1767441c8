-- A recorded history, as contracts describe it: the format, the kind, the names, and the commands so far.
use Rattle.std.specs.Prelude.{◌≡◌, ℕ, ◌+◌, ◌<◌, ◌≤◌, List, [], ◌∷◌, ◌++◌, length, ⊤}
use Rattle.ra_labels.specs.declared.kind.Kind.{Kind}
use Rattle.ra_history_lines.specs.declared.format.Format.{Format}
use Rattle.ra_labels.specs.declared.command.Command.{Command}
use Rattle.ra_labels.specs.declared.reply.Reply.{Reply}
use Rattle.ra_labels.specs.Records.{replica_count}
use Rattle.ra_labels.specs.Answer.{answer_of}
use Rattle.ra_journal.specs.declared.journal.StepFault.{StepFault}
use Rattle.ra_journal.specs.declared.journal.StepFault.TheVariants as handed
use Rattle.ra_history_text.specs.declared.fault.CheckFault.{CheckFault}
use Rattle.ra_history_text.specs.declared.fault.CheckFault.TheVariants.{NoMemory, Full}
use Rattle.ra_history_lines.specs.declared.limits.TheConstants.{MOST_COMMANDS}
use Rattle.ra_history_lines.specs.Grammar.{joined_by}
use Rattle.ra_history_text.specs.Text.{Said, OfHistory, records_in}

pub record Recording : Type 0 where
  pub format : Format
  pub kind : Kind
  -- the initial names, and those that joined
  pub first : List (List ℕ)
  pub joined : List (List ℕ)
  -- oldest first
  pub commands : List Command

-- the content of the lines of a text with this history
abbrev pub said_of : Recording → Said
said_of history = OfHistory history.format history.kind history.first history.joined history.commands

-- the current number of replicas
abbrev pub replicas_of : Recording → ℕ
replicas_of history =
    replica_count (length history.first) (records_in history.kind history.first history.commands)

-- Holds if there are no more names than replicas: the name of a joined replica is missing if its allocation failed.
abbrev pub HasFewNames : Recording → Type 0
HasFewNames history = length (history.first ++ history.joined) ≤ replicas_of history

-- holds if at least one replica has no name yet
abbrev pub LacksName : Recording → Type 0
LacksName history = length (history.first ++ history.joined) < replicas_of history

-- the history in which a joined replica has this name
abbrev pub with_name : Recording → List ℕ → Recording
with_name history name = record history { joined = history.joined ++ name ∷ [] }

-- the reply to the next command
abbrev pub next_answer : Recording → Command → Reply
next_answer history command =
    answer_of history.kind (length history.first) (records_in history.kind history.first history.commands) command

-- holds if the command is recorded and answered with this reply
pub record RecordsCommand (old new : Recording) (command : Command) (reply : Reply) : Type 0 where
  pub room : length old.commands < MOST_COMMANDS
  pub recorded : new ≡ record old { commands = old.commands ++ command ∷ [] }
  pub answered : reply ≡ next_answer old command

-- holds if the command is recorded and answered, and a replica that joins by it receives the new name of its line
pub record TakesCommand (old new : Recording) (line : List ℕ) (command : Command) (reply : Reply) : Type 0 where
  pub room : length old.commands < MOST_COMMANDS
  pub taken : new ≡ record old {
    joined = joined_by reply old.joined line;
    commands = old.commands ++ command ∷ [];
  }
  pub answered : reply ≡ next_answer old command

-- the condition for each fault with which a command is not answered
abbrev pub StopsAnswering : Recording → CheckFault → Type 0
StopsAnswering old (Full line) = (line ≡ length old.commands + 3) × (length old.commands ≡ MOST_COMMANDS)
StopsAnswering old NoMemory = ⊤
StopsAnswering old _ = ⊥

-- the fault of a text if the monitor returns the command of this line to its caller
abbrev pub fault_at : ℕ → StepFault Command → CheckFault
fault_at line (handed.Full command) = Full line
fault_at line (handed.NoMemory command) = NoMemory
