use Rattle.std.proofs.Common.{inr, refl}
use Rattle.std.proofs.lemmas.Result.{on_ok_weaker}
use Rattle.ra_explain_diagram.specs.Tables.{table_row}
use Rattle.ra_explain_diagram.proofs.html.put_row.Goals as goal

pub returns-in-Some : goal.returns-in-Some
returns-in-Some c =
    let event = c.in-Some.event in
    let drawn = rw c.in-Some.is at c.in_ok-event.ensures.drawn in
    on_ok_weaker c.put_cells.result
    (λ s. (table_row c.args.view.now.names.now c.args.row event, inr (event, drawn, refl), s)) c.put_cells.ensures
