use Rattle.std.proofs.Common.{◌+◌, drop}
use Rattle.ra_explain_diagram.specs.Pictures.{ShowsRow}
use Rattle.ra_explain_diagram.proofs.ShownRows.{none_left, rest_of, shown_all, shown_next}
use Rattle.ra_explain_diagram.proofs.picture.rows_of.Goals as goal

pub loop-row-preserved : goal.loop-row-preserved
loop-row-preserved c =
    let shows = ShowsRow c.args.view.now.names.now c.args.view.now.explanation.now c.args.violation.now in
    let rows = c.args.picture.now.rows.items in
    let i = c.loop-row.row-index in
    let next = c.in_ok-put_row.ensures in
    shown_next shows rows (drop (i + 1) rows) (drop i rows) _ c.loop-row.out.items c.put_row.new.out.items next.0
    (rest_of c.deref-row-items.result.now rows i _ c.deref-row-items.ensures.value c.loop-row-test.true)
    c.loop-row.invariant next.1 next.2

pub returns : goal.returns
returns c =
    let shows = ShowsRow c.args.view.now.names.now c.args.view.now.explanation.now c.args.violation.now in
    let rows = c.args.picture.now.rows.items in
    let i = c.loop-row.row-index in
    shown_all shows rows (drop i rows) c.loop-row.out.items
    (none_left c.deref-row-items.result.now rows i c.deref-row-items.ensures.value c.loop-row-test.false)
    c.loop-row.invariant
