use Rattle.std.proofs.Common.{◌≡◌, ◌∙◌}
use Rattle.std.specs.Prelude.{◌||◌}
use Rattle.ra_accepted_commands.specs.Accepted.{is_no}
use Rattle.ra_history_writer.proofs.Entries.{put_next, cut_entry}
use Rattle.ra_history_writer.proofs.writing.put_entries.Goals as goal
use Rattle.ra_history_writer.proofs.writing.put_entries.Goals.{then-failed, else-failed}

pub loop-entry-preserved : goal.loop-entry-preserved
loop-entry-preserved c =
    let cut = cut_entry _ _ _ c.loop-entry-test.true c.entry-item.is in
    let told : c.if-failed.failed ≡ (c.loop-entry.failed || is_no c.entry-item.result.reply) =
    elim c.if-failed.branch [
      | then-failed w ↦ rw w.if-failed.true (w.failed-is ∙ w.if-failed.true)
      | else-failed w ↦ rw w.if-failed.false (w.failed-is ∙ w.is_no-failed.ensures)
    ] in
    put_next _ _ _ _ _ _ _ _ _ _ c.loop-entry.invariant cut c.in_ok-put_entry.ensures.put
    c.in_ok-put_entry.ensures.small told
