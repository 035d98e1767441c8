use Rattle.std.proofs.Common.{◌≡◌, ◌++◌, drop}
use Rattle.ra_explain_text.specs.Rejections.{rows_at_each}
use Rattle.ra_explain_text.proofs.rejected.put_rejected.Given as goal

-- the rows so far are written
abbrev pub invariant-loop-place : goal.invariant-loop-place
invariant-loop-place l =
    l.out.items ++ rows_at_each l.view.names.now l.view.explanation.now (drop l.place-index l.places)
    ≡ l.initial.out.items ++ rows_at_each l.view.names.now l.view.explanation.now l.places
