use Rattle.std.proofs.Common.{◌≡◌, ◌++◌, drop}
use Rattle.ra_explain_diagram.specs.Arrows.{order_cell}
use Rattle.ra_explain_diagram.proofs.order_column.order_cell.Given as goal

-- with the lines of the claims that are left, the lines so far are those of all claims
abbrev pub invariant-loop-claim : goal.invariant-loop-claim
invariant-loop-claim l =
    l.cell.items ++ order_cell l.view.explanation.now.places l.violation.place l.row
    (drop l.claim-index l.view.explanation.now.certificate.items)
    ≡ order_cell l.view.explanation.now.places l.violation.place l.row l.view.explanation.now.certificate.items
