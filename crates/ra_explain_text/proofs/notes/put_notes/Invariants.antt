use Rattle.std.proofs.Common.{◌≡◌, ◌++◌, drop, false}
use Rattle.ra_explain_text.specs.Rows.{notes_from}
use Rattle.ra_explain_text.proofs.notes.put_notes.Given as goal

-- the notes so far are written
abbrev pub invariant-loop-note : goal.invariant-loop-note
invariant-loop-note l = l.out.items ++ notes_from l.is_begun (drop l.note-index l.notes)
    ≡ l.initial.out.items ++ notes_from false l.notes
