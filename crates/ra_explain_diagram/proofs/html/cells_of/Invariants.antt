use Rattle.std.proofs.Common.{ℕ, List, ◌++◌, drop}
use Rattle.ra_explain_diagram.specs.Pictures.{ShowEach}
use Rattle.ra_explain_diagram.specs.Tables.{IsTableRow}
use Rattle.ra_explain_diagram.proofs.html.cells_of.Given as goal

-- with rows for those that are left, the rows so far are the table
abbrev pub invariant-loop-row : goal.invariant-loop-row
invariant-loop-row l =
    let shows = IsTableRow l.view.names.now l.view.explanation.now l.violation in
    (more : List ℕ) → ShowEach shows (drop l.row-index l.picture.rows.items) more
    → ShowEach shows l.picture.rows.items (l.out.items ++ more)
