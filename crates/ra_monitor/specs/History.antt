-- The past that the fields of a history represent.
use Rattle.std.specs.Prelude.{◌≡◌, ℕ, ◌<◌, ◌∷◌, Option, Some, None, vec_len}
use Rattle.std.specs.Global as global
use Rattle.ra_labels.specs.declared.edge.Edge.{Edge}
use Rattle.ra_labels.specs.declared.kind.Kind.{Kind}
use Rattle.ra_labels.specs.declared.command.Command.{Command}
use Rattle.ra_labels.specs.declared.command.Command.TheVariants.{Join}
use Rattle.ra_labels.specs.declared.refusal.Refusal.{Refusal}
use Rattle.ra_labels.specs.declared.reply.Reply.{Reply}
use Rattle.ra_labels.specs.declared.reply.Fault.{Fault}
use Rattle.ra_labels.specs.declared.label.Label.{Label}
use Rattle.ra_labels.specs.Records.{Records, label_count}
use Rattle.ra_labels.specs.Visibility.{IsCausal}
use Rattle.ra_labels.specs.Fault.{fault_of, records_before_fault}
use Rattle.ra_labels.specs.Answer.{form_refusal, answer_of, records_after}
use Rattle.ra_labels.specs.HistorySoFar.{History, history_of, replicas_of, history_with, IsAccepted, NextOperation, operate, label_of}
use Rattle.ra_visibility.specs.Tracked.{IsVisibilityOf}
use Rattle.ra_visibility.specs.declared.limits.TheConstants.{MOST_LABELS}
use Rattle.ra_witness.specs.Failure.{ShowsCycle}
use Rattle.ra_witness.specs.Witness.{IsWitnessOf}
use Rattle.ra_monitor.specs.declared.setup.Setup.{Setup}
use Rattle.ra_monitor.specs.declared.history.TrackedHistory.{TrackedHistory}
use Rattle.ra_monitor.specs.Order.{IsOrderOf}
use Rattle.ra_monitor.specs.declared.used_keys.unique_key.UniqueKey.{UniqueKey}
use Rattle.ra_monitor.specs.UsedKeys.{HasRoom, key_of, AreUsedKeysOf}

-- the past of a history with this setup
abbrev pub history_in : Setup → Records → History
history_in setup records = history_of setup.kind setup.replicas records

-- the past after a command
abbrev pub history_after : History → Command → History
history_after past command =
    history_of past.kind past.initial_replicas (records_after past.kind past.initial_replicas past.records command)

-- holds if the command is added to the records
abbrev pub JoinsRecords : History → Command → Type 0
JoinsRecords past command = records_after past.kind past.initial_replicas past.records command ≡ command ∷ past.records

-- the past before its fault
abbrev pub before_fault : History → History
before_fault past = history_of past.kind past.initial_replicas (records_before_fault past.kind past.records)

-- Holds if a cycle is given exactly if the kind is a list and there is a fault whose cause is the order. Its edges are
-- among those that the labels require.
abbrev pub KeepsCycle : Kind → Records → Option Fault → Option (global.Vec Edge) → Type 0
KeepsCycle kind records None cycle = cycle ≡ None
KeepsCycle kind records (Some fault) cycle = ShowsCycle kind records fault.cause cycle

-- holds if the history represents the past
pub record Represents (history : TrackedHistory) (past : History) : Type 0 where
  -- what was delivered to each replica, and what each label sees
  pub tracker : IsVisibilityOf history.tracker.now past
  pub causal : IsCausal past.records
  pub labels : history.labels ≡ label_count past.records
  pub replicas : history.replicas ≡ replicas_of past
  -- the labels before the fault in their order, and the state of each replica after its updates before the fault
  pub witness : IsWitnessOf IsOrderOf history.witness (before_fault past)
  -- the unique keys of those labels: stamps and identifiers
  pub taken : AreUsedKeysOf (records_before_fault past.kind past.records) history.taken
  -- clocks are kept for each replica
  pub places : vec_len history.taken.clocks ≡ replicas_of past
  pub fault : history.fault ≡ fault_of past.kind past.records
  pub cycle : KeepsCycle past.kind past.records history.fault history.cycle

-- holds if the reply is the answer to the command, and the history represents the past after the command
abbrev pub IsAnswered : TrackedHistory → History → Command → Reply → Type 0
IsAnswered history past command reply =
    (reply ≡ answer_of past.kind past.initial_replicas past.records command)
    × Represents history (history_after past command)

-- Holds if the label comes next after a past without a fault and is accepted: the tracker has it already, and the label
-- count, the witness and the set of unique keys do not have it yet.
pub record HasNewest (history : TrackedHistory) (past : History) (next : NextOperation) (label : Label)
    (brought : UniqueKey)
    : Type 0 where
  pub tracker : IsVisibilityOf history.tracker.now (history_with past (operate next))
  pub causal : IsCausal past.records
  pub labels : history.labels ≡ label_count past.records
  pub replicas : history.replicas ≡ replicas_of past
  pub witness : IsWitnessOf IsOrderOf history.witness past
  pub taken : AreUsedKeysOf past.records history.taken
  pub places : vec_len history.taken.clocks ≡ replicas_of past
  pub fault : history.fault ≡ None
  pub cycle : history.cycle ≡ None
  pub none : fault_of past.kind past.records ≡ None
  pub accepted : IsAccepted past (operate next)
  pub becomes : label ≡ label_of past.records next
  pub brings : brought ≡ key_of next

-- holds if the history represents some past of this setup with fewer labels than the limit
pub record IsOfFew (history : TrackedHistory) (setup : Setup) : Type 0 where
  pub records : Records
  pub stands : Represents history (history_in setup records)
  pub few : label_count records < MOST_LABELS

-- holds if the history represents some past without a fault
pub record IsFaultless (history : TrackedHistory) : Type 0 where
  pub past : History
  pub stands : Represents history past
  pub none : fault_of past.kind past.records ≡ None

-- Holds if the history represents some past without a fault and with fewer labels than the limit, and `misfit` is the
-- first reason to reject the operation for its form, if there is one.
pub record MayOperate (history : TrackedHistory) (next : NextOperation) (misfit : Option Refusal) : Type 0 where
  pub past : History
  pub stands : Represents history past
  pub few : label_count past.records < MOST_LABELS
  pub none : fault_of past.kind past.records ≡ None
  pub misfit_is : misfit ≡ form_refusal past.kind (operate next)

-- Holds if the history represents some past without a fault and with fewer labels than the limit, after which the
-- operation is accepted, and `brought` is its unique key.
pub record MayAccept (history : TrackedHistory) (next : NextOperation) (brought : UniqueKey) : Type 0 where
  pub past : History
  pub stands : Represents history past
  pub few : label_count past.records < MOST_LABELS
  pub none : fault_of past.kind past.records ≡ None
  pub accepted : IsAccepted past (operate next)
  pub brings : brought ≡ key_of next

-- holds if the history represents some past without a fault, after which the next replica can join from this one
pub record MayJoin (history : TrackedHistory) (from : ℕ) : Type 0 where
  pub past : History
  pub stands : Represents history past
  pub none : fault_of past.kind past.records ≡ None
  pub accepted : IsAccepted past (Join (replicas_of past) from)

-- Holds if the label is the newest one after some past with fewer labels than the limit, and there is room for its
-- unique key.
pub record MayAnswer (history : TrackedHistory) (label : Label) (brought : UniqueKey) : Type 0 where
  pub past : History
  pub next : NextOperation
  pub newest : HasNewest history past next label brought
  pub few : label_count past.records < MOST_LABELS
  pub room : HasRoom history.taken next.by
