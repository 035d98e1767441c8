-- Lemmas on the monitor's invariant after an entry is appended to its log.
use Rattle.std.proofs.Common.{◌≡◌, ℕ, ◌+◌, ◌<◌, ◌≤◌, cond, [], ◌∷◌, ◌++◌, length, sym, ap, ◌∙◌, arith, length-append}
use Rattle.ra_labels.specs.Answer.{answer_of, records_after}
use Rattle.ra_monitor.specs.declared.parts.Parts.{Parts}
use Rattle.ra_monitor.specs.Replies.{is_refused}
use Rattle.ra_monitor.specs.Monitor.{MonitorEntry, answer_after, records_of, refused_count, IsLegalLog, IsNextTicket}
use Rattle.ra_monitor.specs.History.{Represents, history_in}
use Rattle.ra_monitor.specs.Limits.{AreReplicas}
use Rattle.ra_monitor.specs.Kept.{monitor_of, MonitorKept}
use Rattle.ra_monitor.proofs.Legal.{legal-push, records_of-push, refused_count-push}

-- the log stays legal
pub legal_after : (m : Parts) (entry : MonitorEntry) → MonitorKept m → IsNextTicket (monitor_of m) entry.ticket
    → entry.reply ≡ answer_of m.setup.kind m.setup.replicas (records_of m.setup m.log.items) entry.command
    → IsLegalLog m.setup (m.log.items ++ entry ∷ [])
legal_after m entry kept next answered = legal-push (answer_after m.setup) [] m.log.items entry kept.legal (answered, next)

pub kept_after : (m n : Parts) (entry : MonitorEntry) → MonitorKept m → IsNextTicket (monitor_of m) entry.ticket → length m.log.items < m.setup.limit
    → entry.reply ≡ answer_of m.setup.kind m.setup.replicas (records_of m.setup m.log.items) entry.command
    → n.setup ≡ m.setup → n.log.items ≡ m.log.items ++ entry ∷ []
    → Represents n.history (history_in m.setup (records_after m.setup.kind m.setup.replicas (records_of m.setup m.log.items) entry.command))
    → n.history.labels ≤ m.history.labels + 1
    → (AreReplicas m.history.replicas → AreReplicas n.history.replicas)
    → n.refused ≡ m.refused + cond (is_refused entry.reply) 1 0
    → MonitorKept n
kept_after m n entry kept next room answered setup log stands labels replicas refused =
    let grown : length n.log.items ≡ length m.log.items + 1 = ap length log ∙ length-append m.log.items (entry ∷ []) in
    record {
      replicas = rw setup kept.replicas;
      joined = replicas kept.joined;
      limit = rw setup kept.limit;
      fits = rw setup (omega (arith, grown));
      legal = rw (setup, log) (legal_after m entry kept next answered);
      history = rw (setup, log, records_of-push m.setup m.log.items entry) stands;
      labels = omega (arith, grown, kept.labels, labels);
      refused = refused ∙ ap (λ (k : ℕ). k + cond (is_refused entry.reply) 1 0) kept.refused ∙ sym (refused_count-push m.log.items entry) ∙ ap refused_count (sym log);
    }
