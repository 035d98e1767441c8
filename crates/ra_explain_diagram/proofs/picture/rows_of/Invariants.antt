use Rattle.std.proofs.Common.{ℕ, List, ◌++◌, drop}
use Rattle.ra_explain_diagram.specs.Pictures.{ShowsRows}
use Rattle.ra_explain_diagram.proofs.picture.rows_of.Given as goal

-- with lines for the rows that are left, the lines so far show all rows
abbrev pub invariant-loop-row : goal.invariant-loop-row
invariant-loop-row l = (more : List ℕ)
    → ShowsRows l.view.names.now l.view.explanation.now l.violation (drop l.row-index l.picture.rows.items) more
    → ShowsRows l.view.names.now l.view.explanation.now l.violation l.picture.rows.items (l.out.items ++ more)
