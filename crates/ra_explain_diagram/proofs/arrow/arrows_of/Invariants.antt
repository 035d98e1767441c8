use Rattle.std.proofs.Common.{◌≡◌, ◌++◌, drop}
use Rattle.ra_explain_diagram.specs.Arrows.{arrows_in}
use Rattle.ra_explain_diagram.proofs.arrow.arrows_of.Given as goal

-- with the arrows of the claims that are left, the arrows so far are those of all claims
abbrev pub invariant-loop-claim : goal.invariant-loop-claim
invariant-loop-claim l =
    l.found.items ++ arrows_in l.view.explanation.now.places l.violation.place l.rows
    (drop l.claim-index l.view.explanation.now.certificate.items)
    ≡ arrows_in l.view.explanation.now.places l.violation.place l.rows l.view.explanation.now.certificate.items
