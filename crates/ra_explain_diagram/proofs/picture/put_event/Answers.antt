use Rattle.std.proofs.Common.{ℕ, List, ap, inr, ◌∙◌}
use Rattle.std.proofs.lemmas.Result.{on_ok_weaker}
use Rattle.ra_explain_diagram.specs.Pictures.{picture_line}
use Rattle.ra_explain_diagram.proofs.picture.put_event.Goals as goal

pub returns-in_ok-columns-in-Some : goal.returns-in_ok-columns-in-Some
returns-in_ok-columns-in-Some c =
    let event = c.in-Some.event in
    let drawn = rw c.in-Some.is at c.in_ok-event.ensures.drawn in
    let columns = c.deref-in-Some.result.now in
    let shown = c.in_ok-columns-in-Some.ensures in
    let same = ap (λ (front : List ℕ). picture_line front columns) c.deref.ensures.value in
    on_ok_weaker c.put_line_with.result
    (λ s. (
      picture_line c.deref.result.now columns,
      inr (event, columns, drawn, (shown.0, c.deref-in-Some.ensures.value ∙ shown.1), same),
      s,
    )) c.put_line_with.ensures
