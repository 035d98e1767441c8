use Rattle.std.proofs.Common.{◌≡◌, ◌+◌, Err, length, sym, ap, ◌∙◌, subst}
use Rattle.std.proofs.lemmas.List.{length-map}
use Rattle.ra_monitor.specs.Monitor.{MonitorEntry}
use Rattle.ra_history_text.specs.Recording.{Recording, StopsAnswering, fault_at}
use Rattle.ra_history_text.specs.RecordingKept.{recording_of}
use Rattle.ra_history_text.proofs.Histories.{next_ticket, kept_same, kept_next, has_room, stops_answering}
use Rattle.ra_history_text.proofs.recording.Recording.answer.Goals as goal
use Rattle.ra_history_text.proofs.recording.Recording.answer.Goals.{in-Ok, in-Err}

pub step-requires : goal.step-requires
step-requires c = rw (ap length c.log.ensures.entries)
    (next_ticket (length c.self.inside.monitor.log) c.self.inside.monitor.log c.self.invariant.tickets)

pub invariant_of-self : goal.invariant_of-self
invariant_of-self c = elim c.match-step.branch [
  | in-Ok w ↦
      let room = has_room c.step.result w.in-Ok.reply _ (length c.self.inside.monitor.log)
      c.self.inside.monitor.setup.limit w.in-Ok.is c.step.ensures.step.full c.self.invariant.fits
      c.self.invariant.limit in
      kept_next c.self.inside c.step.new.self _ c.self.invariant w.in-Ok.ensures.step.logged w.in-Ok.ensures.step.same_setup
      (ap length c.log.ensures.entries) room w.in-Ok.ensures.step.reply
  | in-Err w ↦
      kept_same c.self.inside c.step.new.self c.self.invariant w.in-Err.ensures.step.unchanged w.in-Err.ensures.step.same_setup
]

pub returns-clause-full : goal.returns-clause-full
returns-clause-full c =
    let inside = c.self.inside in
    let old : Recording = recording_of inside in
    let counted = λ (same : length inside.monitor.log ≡ inside.monitor.setup.limit).
    length-map inside.monitor.log (λ (e : MonitorEntry). e.command) ∙ same ∙ c.self.invariant.limit in
    let line : c.line-number.result ≡ length old.commands + 3 = c.line-number.ensures
    ∙ ap (λ (r : Recording). length r.commands + 3) (sym c.self.view_is) in
    elim c.match-step.branch [
      | in-Ok w ↦ rw w.result-is tt
      | in-Err w ↦
          let stops = stops_answering old c.line-number.result c.args.command w.in-Err.fault line
          (λ is. counted (c.step.ensures.step.full.0 (w.in-Err.is ∙ ap Err is))) w.in-Err.ensures.step.handed_back in
          rw (w.result-is, w.fault_at.ensures)
          (subst (λ (r : Recording). StopsAnswering r (fault_at c.line-number.result w.in-Err.fault))
          c.self.view_is stops)
    ]
