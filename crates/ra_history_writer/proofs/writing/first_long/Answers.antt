use Rattle.std.proofs.Common.{true, false, ◌≡◌, ◌<◌, List, length, refl, ap, subst, sym, ◌∙◌, arith}
use Rattle.std.specs.Prelude.{◌||◌}
use Rattle.std.proofs.lemmas.List.{drop_all}
use Rattle.ra_labels.specs.declared.command.Command.{Command}
use Rattle.ra_accepted_commands.specs.Accepted.{accepted_in, is_no}
use Rattle.ra_history_writer.specs.Spelling.{line_of, AreShort}
use Rattle.ra_history_writer.specs.Writing.{IsFirstTooLong}
use Rattle.ra_history_writer.proofs.Entries.{measured_next, measured_all, measured_long, cut_entry}
use Rattle.ra_history_writer.proofs.WholeTexts.{in_order}
use Rattle.ra_history_writer.proofs.writing.first_long.Goals as goal
use Rattle.ra_history_writer.proofs.writing.first_long.Goals.{then-is_accepting_reply+else-line_size, else-is_accepting_reply, then-failed, else-failed}

pub returns-then-line_size : goal.returns-then-line_size
returns-then-line_size c =
    let long : 1048576 < length (line_of c.args.names.now c.entry-item.result.command) =
    omega (arith, c.line_size.ensures, c.if-line_size.true) in
    subst (λ (cs : List Command). IsFirstTooLong c.args.names.now cs c.loop-entry.place)
    (ap (accepted_in false) c.log-log.ensures.entries ∙ in_order c.args.monitor.now c.log-log.ensures.legal)
    (measured_long _ _ _ _ _ _ _ c.loop-entry.invariant
    (cut_entry _ _ _ c.loop-entry-test.true c.entry-item.is)
    (sym c.is_accepting_reply.ensures ∙ c.if-is_accepting_reply.true) long)

pub loop-entry-preserved : goal.loop-entry-preserved
loop-entry-preserved c =
    let cut = cut_entry _ _ _ c.loop-entry-test.true c.entry-item.is in
    let told : c.if-failed.failed ≡ (c.loop-entry.failed || is_no c.entry-item.result.reply) =
    elim c.if-failed.branch [
      | then-failed w ↦ rw w.if-failed.true (w.failed-is ∙ w.if-failed.true)
      | else-failed w ↦ rw w.if-failed.false (w.failed-is ∙ w.is_no-failed.ensures)
    ] in
    elim c.if-is_accepting_reply.branch [
      | then-is_accepting_reply+else-line_size w ↦
          rw w.place-is
          (measured_next _ _ _ _ _ _ _ true _ _ c.loop-entry.invariant cut
          (sym c.is_accepting_reply.ensures ∙ w.if-is_accepting_reply.true)
          (omega (arith, w.line_size.ensures, w.if-line_size.false), tt) refl told)
      | else-is_accepting_reply w ↦
          rw w.place-is
          (measured_next _ _ _ _ _ _ _ false _ _ c.loop-entry.invariant cut
          (sym c.is_accepting_reply.ensures ∙ w.if-is_accepting_reply.false) tt (omega arith) told)
    ]

pub returns : goal.returns
returns c =
    subst (AreShort c.args.names.now)
    (ap (accepted_in false) c.log-log.ensures.entries ∙ in_order c.args.monitor.now c.log-log.ensures.legal)
    (measured_all _ _ _ _ _ c.loop-entry.invariant
    (drop_all c.loop-entry.entry-index c.log-log.result.now (omega (arith, c.loop-entry-test.false))))
