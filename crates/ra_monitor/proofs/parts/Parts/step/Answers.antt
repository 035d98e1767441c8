use Rattle.std.proofs.Common.{rules, ◌≡◌, ℕ, suc, ◌+◌, ◌<◌, ◌∷◌, ◌++◌, [], List, length, refl, sym, ap, ◌∙◌, subst, length-append, arith}
use Rattle.ra_labels.specs.declared.command.Command.{Command}
use Rattle.ra_labels.specs.Records.{Records}
use Rattle.ra_labels.specs.Answer.{answer_of, records_after}
use Rattle.ra_monitor.specs.Monitor.{MonitorEntry, records_of, IsRaLinearizable, IsNoAtFault, IsFinalNo}
use Rattle.ra_monitor.specs.Kept.{room_in}
use Rattle.ra_monitor.proofs.Legal.{linearizable_after, no_after, final_no}
use Rattle.ra_monitor.proofs.NewEntries.{legal_after, kept_after}
use Rattle.ra_monitor.proofs.parts.Parts.step.Goals as goal

-- the entry that is appended to the log for this command
abbrev entry_with : goal.After-append → Command → MonitorEntry
entry_with c command = record { pass = c.args.pass; ticket = c.args.ticket; command = command; reply = c.in-Ok.reply }

-- its command is the one that was given, since the callee returns it
abbrev entry_of : goal.After-append → MonitorEntry
entry_of c = entry_with c c.args.command

log_is : (c : goal.After-append) → c.append.new.log.items ≡ c.args.self.now.log.items ++ entry_of c ∷ []
log_is c =
    c.append.ensures.items
    ∙ ap (λ (l : List MonitorEntry). l ++ entry_with c c.answer.new.command ∷ []) c.reserve_one.ensures.items
    ∙ ap (λ (command : Command). c.args.self.now.log.items ++ entry_with c command ∷ []) c.answer.ensures.command

answered : (c : goal.After-append)
    → c.in-Ok.reply ≡ answer_of c.args.self.now.setup.kind c.args.self.now.setup.replicas (records_of c.args.self.now.setup c.args.self.now.log.items) c.args.command
answered c = (c.in-Ok.ensures.taken (records_of c.args.self.now.setup c.args.self.now.log.items) c.requires.kept.history).0

pub returns-in-Ok-clause-kept : goal.returns-in-Ok-clause-kept
returns-in-Ok-clause-kept c =
    let m = c.args.self.now in
    let stands = (c.in-Ok.ensures.taken (records_of m.setup m.log.items) c.requires.kept.history).1 in
    let room : length m.log.items < m.setup.limit = omega (arith, c.requires.kept.fits, c.len.ensures, c.if-len-self.false, m.log.ok.0) in
    kept_after m _ (entry_of c) c.requires.kept c.requires.next room (answered c) refl (log_is c) stands c.in-Ok.ensures.one c.answer.ensures.replicas (ap (λ (k : ℕ). m.refused + k) c.refusals.ensures)

-- with room left, the entry uses the room of one
spent_one : (c : goal.After-append) → let m = c.args.self.now in 0 < room_in m.setup.limit m.log
    → room_in m.setup.limit m.log ≡ room_in m.setup.limit c.append.new.log + 1
spent_one c some =
    let m = c.args.self.now in
    let same = c.reserve_one.ensures.there (omega (arith, some)) in
    let longer = ap length (log_is c) ∙ length-append m.log.items (entry_of c ∷ []) in
    omega (arith, some, same.1, c.append.ensures.capacity, longer)

pub returns-in-Ok-clause-step : goal.returns-in-Ok-clause-step
returns-in-Ok-clause-step c =
    let setup = c.args.self.now.setup in
    let log = c.args.self.now.log.items in
    record {
      reply = search rules;
      logged = search rules;
      same_setup = search rules;
      legal = rw (log_is c) (legal_after c.args.self.now (entry_of c) c.requires.kept c.requires.next (answered c));
      yes = λ said. subst (IsRaLinearizable setup) (sym (log_is c)) (linearizable_after setup log (entry_of c) (answered c) said);
      no = subst (λ (l : List MonitorEntry). IsNoAtFault setup l c.in-Ok.reply) (sym (log_is c)) (no_after setup log (entry_of c) (answered c));
      final_no = λ any. subst (λ (l : List MonitorEntry). IsFinalNo setup l c.in-Ok.reply) (sym (log_is c))
          (final_no setup (log ++ entry_of c ∷ []) c.in-Ok.reply (no_after setup log (entry_of c) (answered c)) any);
      full = search rules;
      unchanged = search rules;
      handed_back = search rules;
      settled = search rules;
      spent = spent_one c;
      kept_room = search rules;
    }

-- the call failed, so the command would have been added to the records
joins_records : (c : goal.In-Err) → let m = c.args.self.now in let records = records_of m.setup m.log.items in
    records_after m.setup.kind m.setup.replicas records c.args.command ≡ records → ⊥
joins_records c stays =
    let m = c.args.self.now in
    let records = records_of m.setup m.log.items in
    let joins = c.in-Err.ensures.joins records c.requires.kept.history in
    let longer : suc (length records) ≡ length records = ap (λ (r : Records). length r) (sym joins ∙ stays) in
    omega (arith, longer)

pub returns-in-Err-clause-step : goal.returns-in-Err-clause-step
returns-in-Err-clause-step c = record {
  reply = search rules;
  logged = search rules;
  same_setup = search rules;
  legal = search rules;
  yes = search rules;
  no = search rules;
  final_no = search rules;
  full = search rules;
  unchanged = search rules;
  handed_back = search rules;
  settled = λ room stays. absurd (joins_records c stays);
  spent = search rules;
  kept_room = search rules;
}

-- the call failed, and the monitor is unchanged
pub returns-in-Err-clause-kept : goal.returns-in-Err-clause-kept
returns-in-Err-clause-kept c =
    let m = c.args.self.now in
    let kept = c.requires.kept in
    let same : c.reserve_one.new.log.items ≡ m.log.items = c.reserve_one.ensures.items in
    let records = records_of m.setup m.log.items in
    record {
      replicas = kept.replicas;
      joined = c.answer.ensures.replicas kept.joined;
      limit = kept.limit;
      fits = rw same kept.fits;
      legal = rw same kept.legal;
      history = rw same (c.in-Err.ensures.err records kept.history);
      labels = rw (same, c.in-Err.ensures.kept) kept.labels;
      refused = rw same kept.refused;
    }
