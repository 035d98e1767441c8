-- Lemmas on a legal log with one more entry.
use Rattle.std.proofs.Common.{◌≡◌, ℕ, ◌+◌, true, cond, None, Option, List, [], ◌∷◌, ◌++◌, sym, ap, ◌∙◌, subst, append_assoc}
use Rattle.std.proofs.lemmas.List.{map-append, append-nil}
use Rattle.std.proofs.lemmas.List.Sums.{sum_by_push}
use Rattle.ra_labels.specs.declared.kind.Kind.{Kind}
use Rattle.ra_labels.specs.declared.command.Command.{Command}
use Rattle.ra_labels.specs.declared.reply.Reply.{Reply}
use Rattle.ra_labels.specs.declared.reply.Reply.TheVariants.{Ok, Got, Joined, Yes, No, Refused}
use Rattle.ra_labels.specs.declared.reply.Fault.{Fault}
use Rattle.ra_labels.specs.Records.{Records}
use Rattle.ra_labels.specs.NamedOrder.{named_sequence}
use Rattle.ra_labels.specs.Fault.{fault_of, fault_at}
use Rattle.ra_labels.specs.Answer.{answer_of, records_after, records_after_all}
use Rattle.ra_labels.specs.TheoremTerms.{ReplyMeaning}
use Rattle.ra_theorems.specs.AnyOrder.{is_of_any_order}
use Rattle.ra_theorems.proofs.TheoremIndex.{fault_none_implies_holds}
use Rattle.ra_theorems.proofs.TheoremIndex.{reply_meaning, no_iff_fault, answers_append-records}
use Rattle.ra_theorems.proofs.TheoremIndex.{violation_is_final, identifiers_unique-all}
use Rattle.ra_monitor.specs.declared.setup.Setup.{Setup}
use Rattle.ra_journal.specs.Log.{MayFollow, IsLegalAfter}
use Rattle.ra_monitor.specs.Replies.{is_yes, is_refused}
use Rattle.ra_monitor.specs.Monitor.{MonitorEntry, commands_of, records_of, refused_count, fault_in, IsRaLinearizable, IsNoAtFault, IsFinalFault, IsFinalNo}

pub legal-push : (answer : List MonitorEntry → Command → Reply) (before log : List MonitorEntry) (entry : MonitorEntry)
    → IsLegalAfter answer before log → MayFollow answer (before ++ log) entry → IsLegalAfter answer before (log ++ entry ∷ [])
legal-push answer before [] entry legal follows =
    (subst (λ (l : List MonitorEntry). MayFollow answer l entry) (append-nil before) follows, tt)
legal-push answer before (first ∷ log) entry legal follows = (
  legal.0,
  legal-push answer (before ++ first ∷ []) log entry legal.1
      (subst (λ (l : List MonitorEntry). MayFollow answer l entry) (sym (append_assoc before (first ∷ []) log)) follows),
)

-- the records of a log with one more entry
pub records_of-push : (setup : Setup) (log : List MonitorEntry) (entry : MonitorEntry)
    → records_of setup (log ++ entry ∷ []) ≡ records_after setup.kind setup.replicas (records_of setup log) entry.command
records_of-push setup log entry =
    ap (λ commands. records_after_all setup.kind setup.replicas [] commands) (map-append (λ (e : MonitorEntry). e.command) log (entry ∷ []))
    ∙ answers_append-records setup.kind setup.replicas [] (commands_of log) (entry.command ∷ [])

pub refused_count-push : (log : List MonitorEntry) (entry : MonitorEntry) → refused_count (log ++ entry ∷ []) ≡ refused_count log + cond (is_refused entry.reply) 1 0
refused_count-push log entry = sum_by_push (λ (e : MonitorEntry). cond (is_refused e.reply) 1 0) log entry

-- after a reply that is a pass the records have no fault
no_fault_after : (kind : Kind) (replicas : ℕ) (records : Records) (command : Command) (reply : Reply)
    → ReplyMeaning kind replicas records command reply → is_yes reply ≡ true → fault_of kind (records_after kind replicas records command) ≡ None
no_fault_after kind replicas records command (Ok n) says said = ap (fault_of kind) says.1 ∙ says.2
no_fault_after kind replicas records command (Yes n) says said = ap (fault_of kind) says.1 ∙ says.2
no_fault_after kind replicas records command (Got n) says said = absurd (cc (said))
no_fault_after kind replicas records command (Joined n) says said = absurd (cc (said))
no_fault_after kind replicas records command (No n why) says said = absurd (cc (said))
no_fault_after kind replicas records command (Refused why) says said = absurd (cc (said))

-- a pass implies that the log is RA-linearizable
pub linearizable_after : (setup : Setup) (log : List MonitorEntry) (entry : MonitorEntry)
    → entry.reply ≡ answer_of setup.kind setup.replicas (records_of setup log) entry.command
    → is_yes entry.reply ≡ true → IsRaLinearizable setup (log ++ entry ∷ [])
linearizable_after setup log entry answered said =
    let records = records_of setup log in
    let says = subst (ReplyMeaning setup.kind setup.replicas records entry.command) (sym answered) (reply_meaning setup.kind setup.replicas records entry.command) in
    let none : fault_of setup.kind (records_of setup (log ++ entry ∷ [])) ≡ None =
    ap (fault_of setup.kind) (records_of-push setup log entry) ∙ no_fault_after setup.kind setup.replicas records entry.command entry.reply says said in
    (named_sequence setup.kind (records_of setup (log ++ entry ∷ [])), fault_none_implies_holds setup.kind (records_of setup (log ++ entry ∷ [])) none)

-- a violation is reported exactly at the fault
pub no_after : (setup : Setup) (log : List MonitorEntry) (entry : MonitorEntry)
    → entry.reply ≡ answer_of setup.kind setup.replicas (records_of setup log) entry.command
    → IsNoAtFault setup (log ++ entry ∷ []) entry.reply
no_after setup log entry answered label why =
    let records = records_of setup log in
    let both = no_iff_fault setup.kind setup.replicas records entry.command (fault_at label why) in
    let pushed = ap (fault_of setup.kind) (records_of-push setup log entry) in
    (λ is. pushed ∙ both.1 (sym answered ∙ is), λ at. answered ∙ both.0 (sym pushed ∙ at))

-- a fault is final for a kind of any order, since identifiers are unique in the records of a log
pub final_fault : (setup : Setup) (log : List MonitorEntry) → is_of_any_order setup.kind ≡ true
    → IsFinalFault setup log (fault_in setup log)
final_fault setup log any label why is =
    violation_is_final setup.kind (records_of setup log) (fault_at label why) any
    (identifiers_unique-all setup.kind setup.replicas (commands_of log)) is

-- and so is a violation, which is reported at the fault
pub final_no : (setup : Setup) (log : List MonitorEntry) (reply : Reply) → IsNoAtFault setup log reply
    → is_of_any_order setup.kind ≡ true → IsFinalNo setup log reply
final_no setup log reply at_fault any label why is = final_fault setup log any label why ((at_fault label why).0 is)

pub final_kept : (setup : Setup) (log : List MonitorEntry) (fault : Option Fault) → fault ≡ fault_in setup log
    → is_of_any_order setup.kind ≡ true → IsFinalFault setup log fault
final_kept setup log fault same any label why is = final_fault setup log any label why (sym same ∙ is)
