-- Lemmas on the invariant of a recorded history, step by step.
use Rattle.std.proofs.Common.{◌≡◌, ℕ, zero, suc, ◌+◌, ◌-◌, ◌<◌, ◌≤◌, Bool, true, false, ltb, List, [], ◌∷◌, ◌++◌, length, map, take}
use Rattle.std.proofs.Common.{Result, Ok, Err, Some, refl, sym, ap, subst, ◌∙◌, arith, inl, inr}
use Rattle.std.specs.Prelude.{◌↔◌, ◌||◌, is_some, option_map, slice_get, if◌then◌else◌}
use Rattle.std.proofs.lemmas.Bool.{cases_eq, and_parts, and_from, ltb-true, lt-ltb}
use Rattle.std.proofs.lemmas.List.{length_push, map_push}
use Rattle.ra_labels.specs.declared.kind.Kind.{Kind}
use Rattle.ra_labels.specs.declared.command.Command.{Command}
use Rattle.ra_labels.specs.declared.command.Command.TheVariants.{Join}
use Rattle.ra_labels.specs.declared.reply.Reply.{Reply}
use Rattle.ra_labels.specs.Records.{Records, replica_count}
use Rattle.ra_labels.specs.Fault.{fault_of}
use Rattle.ra_labels.specs.Answer.{answer_of, refusal_of, records_after, records_after_all, with_accepted}
use Rattle.ra_theorems.proofs.TheoremIndex.{answers_append-records}
use Rattle.ra_monitor.specs.declared.setup.Setup.{Setup}
use Rattle.ra_journal.specs.Log.{IsAboveLast, unstepped}
use Rattle.ra_journal.specs.declared.journal.StepFault.{StepFault}
use Rattle.ra_journal.specs.declared.journal.StepFault.TheVariants as handed
use Rattle.ra_monitor.specs.Monitor.{Monitor, MonitorEntry, commands_of, records_of}
use Rattle.ra_history_text.specs.declared.recording.Recording.TheInside.{Inside}
use Rattle.ra_history_lines.specs.declared.limits.TheConstants.{MOST_COMMANDS}
use Rattle.ra_history_text.specs.Recording.{Recording, StopsAnswering, fault_at}
use Rattle.ra_history_text.proofs.ReplyLines.{answers_push}
use Rattle.ra_history_text.specs.RecordingKept.{RecordingKept, first_names_of, are_tickets_below}
use Rattle.ra_history_text.specs.Output.{answers_in}

-- an entry's ticket is less than the number of entries
below_at : (count i : ℕ) (log : List MonitorEntry) (ticket : ℕ) → are_tickets_below count log ≡ true
    → option_map (λ (e : MonitorEntry). e.ticket) (slice_get log i) ≡ Some ticket → ticket < count
below_at count i [] ticket below is = absurd (cc (is))
below_at count zero (entry ∷ log) ticket below is =
    let here = ltb-true entry.ticket count (and_parts (ltb entry.ticket count) (are_tickets_below count log) below).0 in
    let same : entry.ticket ≡ ticket = cc (is) in
    omega (arith, here, same)
below_at count (suc i) (entry ∷ log) ticket below is =
    below_at count i log ticket (and_parts (ltb entry.ticket count) (are_tickets_below count log) below).1 is

-- so the number of entries may be the next ticket
pub next_ticket : (count : ℕ) (log : List MonitorEntry) → are_tickets_below count log ≡ true → IsAboveLast log count
next_ticket count log below = λ ticket is. below_at count (length log - 1) log ticket below is

tickets_push : (count : ℕ) (log : List MonitorEntry) (entry : MonitorEntry) → are_tickets_below count log ≡ true
    → entry.ticket ≡ count → are_tickets_below (count + 1) (log ++ entry ∷ []) ≡ true
tickets_push count [] entry below is =
    and_from (ltb entry.ticket (count + 1)) true (lt-ltb entry.ticket (count + 1) (omega arith)) refl
tickets_push count (first ∷ log) entry below is =
    let parts = and_parts (ltb first.ticket count) (are_tickets_below count log) below in
    let here : first.ticket < count + 1 = omega (arith, ltb-true first.ticket count parts.0) in
    and_from (ltb first.ticket (count + 1)) (are_tickets_below (count + 1) (log ++ entry ∷ []))
    (lt-ltb first.ticket (count + 1) here) (tickets_push count log entry parts.1 is)

-- ---- the number of replicas

-- the number of replicas does not decrease, whichever records a test selects
chosen_count : (n : ℕ) (records : Records) (c : Command) (b : Bool)
    → replica_count n records ≤ replica_count n (if b then records else with_accepted records c)
chosen_count n records c true = omega arith
chosen_count n records (Join replica from) false = omega arith
chosen_count n records _ false = omega arith

pub counts_grow : (kind : Kind) (n : ℕ) (records : Records) (commands : List Command)
    → replica_count n records ≤ replica_count n (records_after_all kind n records commands)
counts_grow kind n records [] = omega arith
counts_grow kind n records (c ∷ commands) = omega (
  arith,
  chosen_count n records c (is_some (fault_of kind records) || is_some (refusal_of kind n records c)),
  counts_grow kind n (records_after kind n records c) commands,
)

-- the initial names stay
first_same : (h : Inside) (m : Monitor) → RecordingKept h → m.setup ≡ h.monitor.setup
    → m.setup.replicas ≡ length (take m.setup.replicas h.names)
first_same h m kept setup =
    subst (λ (n : ℕ). n ≡ length (take n h.names)) (sym (ap (λ s. s.replicas) setup)) kept.replicas

-- the number of replicas, for the same log and for one with one more entry
count_same : (h : Inside) (m : Monitor) → m.log ≡ h.monitor.log → m.setup ≡ h.monitor.setup
    → replica_count m.setup.replicas (records_of m.setup m.log)
    ≡ replica_count h.monitor.setup.replicas (records_of h.monitor.setup h.monitor.log)
count_same h m log setup =
    ap (λ (s : Setup). replica_count s.replicas (records_of s m.log)) setup
    ∙ ap (λ (l : List MonitorEntry). replica_count h.monitor.setup.replicas (records_of h.monitor.setup l)) log

count_grows : (h : Inside) (m : Monitor) (entry : MonitorEntry) → m.log ≡ h.monitor.log ++ entry ∷ []
    → m.setup ≡ h.monitor.setup
    → replica_count h.monitor.setup.replicas (records_of h.monitor.setup h.monitor.log)
    ≤ replica_count m.setup.replicas (records_of m.setup m.log)
count_grows h m entry log setup =
    let own : Setup = h.monitor.setup in
    let n : ℕ = own.replicas in
    let records : Records = records_of own h.monitor.log in
    let more : replica_count n (records_of own (h.monitor.log ++ entry ∷ []))
    ≡ replica_count n (records_after_all own.kind n records (entry.command ∷ [])) =
    ap (λ (cs : List Command). replica_count n (records_after_all own.kind n [] cs))
    (map_push (λ (e : MonitorEntry). e.command) h.monitor.log entry)
    ∙ ap (replica_count n)
    (answers_append-records own.kind n [] (commands_of h.monitor.log) (entry.command ∷ [])) in
    omega (
      arith,
      ap (λ (s : Setup). replica_count s.replicas (records_of s m.log)) setup,
      ap (λ (l : List MonitorEntry). replica_count n (records_of own l)) log,
      more,
      counts_grow own.kind n records (entry.command ∷ []),
    )

-- the unchanged history
pub kept_same : (h : Inside) (m : Monitor) → RecordingKept h → m.log ≡ h.monitor.log → m.setup ≡ h.monitor.setup
    → RecordingKept (record { format = h.format; kind = h.kind; names = h.names; monitor = m })
kept_same h m kept log setup = record {
  kind = ap (λ s. s.kind) setup ∙ kept.kind;
  replicas = first_same h m kept setup;
  few = omega (arith, kept.few, count_same h m log setup);
  limit = ap (λ s. s.limit) setup ∙ kept.limit;
  fits = rw log kept.fits;
  tickets = rw log kept.tickets;
  answered =
      subst (λ (n : ℕ). map (λ (e : MonitorEntry). e.reply) m.log
      ≡ answers_in h.kind (take n h.names) (commands_of m.log))
      (sym (ap (λ s. s.replicas) setup)) (rw log kept.answered);
}

-- a command was answered and logged
pub kept_next : (h : Inside) (m : Monitor) (entry : MonitorEntry) → RecordingKept h → m.log ≡ h.monitor.log ++ entry ∷ []
    → m.setup ≡ h.monitor.setup
    → entry.ticket ≡ length h.monitor.log → length h.monitor.log < 1048576
    → entry.reply ≡ answer_of h.monitor.setup.kind h.monitor.setup.replicas
    (records_of h.monitor.setup h.monitor.log) entry.command
    → RecordingKept (record { format = h.format; kind = h.kind; names = h.names; monitor = m })
kept_next h m entry kept log setup ticket room reply = record {
  kind = ap (λ s. s.kind) setup ∙ kept.kind;
  replicas = first_same h m kept setup;
  few = omega (arith, kept.few, count_grows h m entry log setup);
  limit = ap (λ s. s.limit) setup ∙ kept.limit;
  fits = omega (arith, ap length log, length_push h.monitor.log entry);
  tickets =
      let len : length m.log ≡ length h.monitor.log + 1 = ap length log ∙ length_push h.monitor.log entry in
      rw (len, log) (tickets_push (length h.monitor.log) h.monitor.log entry kept.tickets ticket);
  answered =
      let replies : map (λ (e : MonitorEntry). e.reply) m.log ≡ map (λ (e : MonitorEntry). e.reply) h.monitor.log
      ++ entry.reply ∷ [] =
      ap (map (λ (e : MonitorEntry). e.reply)) log ∙ map_push (λ (e : MonitorEntry). e.reply) h.monitor.log entry in
      let commands : commands_of m.log ≡ commands_of h.monitor.log ++ entry.command ∷ [] =
      ap commands_of log ∙ map_push (λ (e : MonitorEntry). e.command) h.monitor.log entry in
      let first : List (List ℕ) = first_names_of h in
      let answer : entry.reply ≡ answer_of h.kind (length first)
      (records_after_all h.kind (length first) [] (commands_of h.monitor.log)) entry.command =
      reply ∙ ap (λ (k : Kind). answer_of k h.monitor.setup.replicas
      (records_after_all k h.monitor.setup.replicas [] (commands_of h.monitor.log)) entry.command) kept.kind
      ∙ ap (λ (n : ℕ). answer_of h.kind n (records_after_all h.kind n [] (commands_of h.monitor.log)) entry.command)
      kept.replicas in
      let same : map (λ (e : MonitorEntry). e.reply) m.log ≡ answers_in h.kind first (commands_of m.log) =
      replies ∙ ap (λ (rs : List Reply). rs ++ entry.reply ∷ []) kept.answered
      ∙ ap (λ (r : Reply). answers_in h.kind first (commands_of h.monitor.log) ++ r ∷ []) answer
      ∙ sym (answers_push h.kind (length first) [] (commands_of h.monitor.log) entry.command)
      ∙ ap (answers_in h.kind first) (sym commands) in
      subst (λ (n : ℕ). map (λ (e : MonitorEntry). e.reply) m.log
      ≡ answers_in h.kind (take n h.names) (commands_of m.log))
      (sym (ap (λ s. s.replicas) setup)) same;
}

-- a log that is not full is below its limit
pub has_room : {T E : Type 0} (r : Result T E) (x : T) (e : E) (count limit : ℕ) → r ≡ Ok x
    → ((r ≡ Err e) ↔ (count ≡ limit)) → count ≤ 1048576 → limit ≡ 1048576 → count < 1048576
has_room r x e count limit is full fits most =
    elim (cases_eq count limit) [
      | inl same ↦ let failed : r ≡ Err e = full.1 same in absurd (let both = sym is ∙ failed in cc)
      | inr apart ↦ omega (arith, apart)
    ]

-- the command that the monitor returns with its fault stops the text accordingly
pub stops_answering : (old : Recording) (line : ℕ) (command : Command) (fault : StepFault Command)
    → line ≡ length old.commands + 3
    → (fault ≡ handed.Full command → length old.commands ≡ MOST_COMMANDS) → unstepped fault ≡ command
    → StopsAnswering old (fault_at line fault)
stops_answering old line command (handed.Full other) is full back = (is, full (ap handed.Full back))
stops_answering old line command (handed.NoMemory other) is full back = tt
