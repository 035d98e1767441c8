-- What a report returns, whether it waits or not: over the reporter before and after it, the command and the result.
use Rattle.std.specs.Prelude.{◌≡◌, ◌≢◌, ◌+◌, ◌<◌, ◌⊎◌, length, IsTrue, IfOk, IfErr}
use Rattle.std.specs.declared.result.Result.{Result}
use Rattle.ra_journal.specs.Log.{BeginsWith}
use Rattle.ra_labels.specs.declared.command.Command.{Command}
use Rattle.ra_labels.specs.declared.reply.Reply.{Reply}
use Rattle.ra_theorems.specs.AnyOrder.{is_of_any_order}
use Rattle.ra_monitor.specs.Monitor.{answer_after, IsLegalLog, IsRaLinearizable, IsNoAtFault, IsFinalNo}
use Rattle.ra_monitor.specs.Replies.{is_yes}
use Rattle.ra_ticket.specs.Faults.{unserved, IsWorn, IsFull, IsNoMemory}
use Rattle.ra_ticket.specs.declared.draw.TheConstants.{GREATEST_TICKET}
use Rattle.ra_ticket.specs.declared.fault.CallFault.{CallFault}
use Rattle.ra_desk.specs.declared.reporter.DeskReporter.{DeskReporter}
use Rattle.ra_desk.specs.Reports.{number_of, setup_of, log_of, drawn_of, served_of, reports_of, before_last, IsSameReporter, EndsWith, IsReportedOnce}

pub record IsReport (old new : DeskReporter) (command : Command) (result : Result Reply (CallFault Command))
    : Type 0 where
  -- It is the same reporter of the same desk with the same setup, and it knows no less of the log and of the tickets
  -- than before.
  pub same : IsSameReporter old new
  -- If the log that the reporter had seen was legal, the log that it has then seen is legal, even after an error.
  pub legal_still : IsLegalLog (setup_of old) (log_of old) → IsLegalLog (setup_of new) (log_of new)
  -- After a reply, the log that the reporter has seen ends with this report and its reply.
  pub logged : IfOk result (EndsWith (log_of new) (number_of old) command)
  -- Before this entry, that log begins with all that the reporter had seen before the call.
  pub not_before : IfOk result (λ reply. BeginsWith (before_last (log_of new)) (log_of old))
  -- After a reply, the reporter's own reports are those before and this one, once.
  pub mine : IfOk result (IsReportedOnce old new command)
  -- After a reply, the log that the reporter has seen is legal: each reply in it is the single-threaded monitor's
  -- answer after the entries before it.
  pub legal : IfOk result (λ reply. IsLegalLog (setup_of new) (log_of new))
  -- The reply is the single-threaded monitor's answer after the entries before it.
  pub answer : IfOk result (λ reply. reply ≡ answer_after (setup_of new) (before_last (log_of new)) command)
  -- If the reply is `Ok` or `Yes`, some sequence is an RA-linearization of the records up to and with this report.
  pub yes : IfOk result (λ reply. IsTrue (is_yes reply) → IsRaLinearizable (setup_of new) (log_of new))
  -- The reply is `No` with a label and a cause exactly if these are the fault of the records up to and with this
  -- report.
  pub no : IfOk result (IsNoAtFault (setup_of new) (log_of new))
  -- For the kinds that do not go by timestamps a reply `No` is final: no sequence is an RA-linearization of the records
  -- up to its label, not even one that only extends visibility.
  pub final_no : IfOk result (λ reply. IsTrue (is_of_any_order (setup_of new).kind)
      → IsFinalNo (setup_of new) (log_of new) reply)
  -- An error returns the command to the caller.
  pub handed_back : IfErr result (λ fault. unserved fault ≡ command)
  -- After an error, the reporter's own reports are those before.
  pub mine_still : IfErr result (λ fault. reports_of new ≡ reports_of old)
  -- After `Full`, the log that the reporter has seen has as many entries as the setup allows.
  pub full_at_the_limit : IfErr result (λ fault. IsFull fault → length (log_of new) ≡ (setup_of new).limit)
  -- After `NoMemory`, the log that the reporter has seen is not at the limit.
  pub no_memory_below_the_limit : IfErr result (λ fault. IsNoMemory fault → length (log_of new) ≢ (setup_of new).limit)
  -- `Worn` is returned only if all 18,446,744,073,709,551,615 tickets are drawn.
  pub worn_at_the_end : IfErr result (λ fault. IsWorn fault → drawn_of new ≡ GREATEST_TICKET + 1)
  -- After `Full` or `NoMemory`, more tickets are served than the reporter knew of before the call.
  pub served : IfErr result (λ fault. IsFull fault ⊎ IsNoMemory fault → served_of old < served_of new)
