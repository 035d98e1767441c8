-- The situation: what was accepted so far, and what comes next.
use Rattle.std.specs.Prelude.{◌≡◌, ℕ, [], ◌∷◌, Option, None}
use Rattle.ra_labels.specs.declared.kind.Kind.{Kind}
use Rattle.ra_labels.specs.declared.operation.Op.{Op}
use Rattle.ra_labels.specs.declared.label.Label.{Label}
use Rattle.ra_labels.specs.declared.command.Command.{Command}
use Rattle.ra_labels.specs.declared.command.Command.TheVariants.{Operate}
use Rattle.ra_labels.specs.Records.{Records, replica_count, next_label}
use Rattle.ra_labels.specs.Answer.{refusal_of}

-- the history so far: its kind, its initial replicas and what was accepted
pub record History : Type 0 where
  pub kind : Kind
  -- the number of initial replicas
  pub initial_replicas : ℕ
  pub records : Records

abbrev pub history_of : Kind → ℕ → Records → History
history_of kind initial_replicas records =
    record { kind = kind; initial_replicas = initial_replicas; records = records }

-- the history in which nothing is accepted yet
abbrev pub empty_history : Kind → ℕ → History
empty_history kind initial_replicas = history_of kind initial_replicas []

-- the current number of replicas
abbrev pub replicas_of : History → ℕ
replicas_of past = replica_count past.initial_replicas past.records

-- the past with one more accepted command
abbrev pub history_with : History → Command → History
history_with past command = history_of past.kind past.initial_replicas (command ∷ past.records)

-- holds if no reason to reject the command applies
abbrev pub IsAccepted : History → Command → Type 0
IsAccepted past command = refusal_of past.kind past.initial_replicas past.records command ≡ None

-- the operation that comes next, with its replica and its clock if it has one
pub record NextOperation : Type 0 where
  pub by : ℕ
  pub op : Op
  pub clock : Option ℕ

abbrev pub next_operation : ℕ → Op → Option ℕ → NextOperation
next_operation by op clock = record { by = by; op = op; clock = clock }

abbrev pub operate : NextOperation → Command
operate next = Operate next.by next.op next.clock

-- the label that the next operation becomes
abbrev pub label_of : Records → NextOperation → Label
label_of records next = next_label records next.by next.op next.clock
