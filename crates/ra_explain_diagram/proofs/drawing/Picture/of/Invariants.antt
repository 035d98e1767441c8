use Rattle.std.proofs.Common.{◌≤◌, All}
use Rattle.ra_explain_diagram.specs.Drawn.{IsHelpful, LeadTo}
use Rattle.ra_explain_diagram.proofs.drawing.Picture.of.Given as goal

-- the rows so far lead to the next entry, and none is for a change that is no remedy
abbrev pub invariant-loop-at : goal.invariant-loop-at
invariant-loop-at l = record {
  helpful : All (IsHelpful l.view.explanation.now.remedies) l.rows.items;
  lead : LeadTo l.violation.place l.next l.rows.items;
  within : l.next ≤ l.violation.place;
}
