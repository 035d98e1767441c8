-- What a report to a monitor returns, by whichever call: over the monitor before and after it, the pass and the ticket
-- of its entry, the command and the result.
use Rattle.std.specs.Prelude.{◌≡◌, ℕ, ◌+◌, ◌<◌, ◌≤◌, ◌++◌, ◌∷◌, [], ◌↔◌, length, IsTrue, IfOk, IfErr, IsOk, OnErr, OnOk}
use Rattle.std.specs.declared.result.Result.{Result}
use Rattle.std.specs.declared.result.Result.TheVariants.{Err}
use Rattle.ra_journal.specs.declared.journal.StepFault.{StepFault}
use Rattle.ra_journal.specs.declared.journal.StepFault.TheVariants.{Full}
use Rattle.ra_journal.specs.Log.{entry, unstepped}
use Rattle.ra_labels.specs.declared.command.Command.{Command}
use Rattle.ra_labels.specs.declared.reply.Reply.{Reply}
use Rattle.ra_labels.specs.Answer.{records_after}
use Rattle.ra_theorems.specs.AnyOrder.{is_of_any_order}
use Rattle.ra_monitor.specs.Monitor.{Monitor, records_of, answer_after, IsLegalLog, IsRaLinearizable, IsNoAtFault, IsFinalNo}
use Rattle.ra_monitor.specs.Replies.{is_yes}

pub record IsStep (old new : Monitor) (by at : ℕ) (command : Command) (result : Result Reply (StepFault Command))
    : Type 0 where
  -- The reply is the single-threaded monitor's answer to the command after the records of the log.
  pub reply : IfOk result (λ reply. reply ≡ answer_after old.setup old.log command)
  -- A successful call appends exactly one entry: the pass, the ticket, the command and the reply.
  pub logged : IfOk result (λ reply. new.log ≡ old.log ++ entry by at command reply ∷ [])
  -- The setup never changes.
  pub same_setup : new.setup ≡ old.setup
  -- The log is legal after the call: each reply is the single-threaded monitor's answer after the entries before it.
  pub legal : IsLegalLog new.setup new.log
  -- If the reply is `Ok` or `Yes`, some sequence is an RA-linearization of the records up to and with this command.
  pub yes : IfOk result (λ reply. IsTrue (is_yes reply) → IsRaLinearizable new.setup new.log)
  -- The reply is `No` with a label and a cause exactly if these are the fault of the records up to and with this
  -- command.
  pub no : IfOk result (IsNoAtFault new.setup new.log)
  -- For the kinds that do not go by timestamps a reply `No` is final: no sequence is an RA-linearization of the records
  -- up to its label, not even one that only extends visibility.
  pub final_no : IfOk result (λ reply. IsTrue (is_of_any_order new.setup.kind) → IsFinalNo new.setup new.log reply)
  -- `Full` is returned exactly if the log has as many entries as its limit.
  pub full : (result ≡ Err (Full command)) ↔ (length old.log ≡ old.setup.limit)
  -- After an error, the log is unchanged.
  pub unchanged : OnErr result (new.log ≡ old.log)
  -- An error returns the command to the caller.
  pub handed_back : IfErr result (λ fault. unstepped fault ≡ command)
  -- With room left, a command that leaves the records unchanged is answered, and never fails for lack of memory. Such
  -- replies are a rejection, a `Yes`, and the `No` of an earlier label.
  pub settled : 0 < old.room
      → records_after old.setup.kind old.setup.replicas (records_of old.setup old.log) command
      ≡ records_of old.setup old.log
      → IsOk result
  -- With room left, each answer uses the room of exactly one entry.
  pub spent : 0 < old.room → OnOk result (old.room ≡ new.room + 1)
  -- After an error, the room is at least what it was.
  pub kept_room : OnErr result (old.room ≤ new.room)
