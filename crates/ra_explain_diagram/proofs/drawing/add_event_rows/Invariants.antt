use Rattle.std.proofs.Common.{◌≡◌, ◌+◌, All, Some}
use Rattle.ra_explain_diagram.specs.Drawn.{IsHelpful, LeadTo, led_by}
use Rattle.ra_explain_diagram.proofs.drawing.add_event_rows.Given as goal

-- the rows so far lead to the entry, and its own row behind it; none is for a change that is no remedy
abbrev pub invariant-loop-change : goal.invariant-loop-change
invariant-loop-change l = record {
  helpful : All (IsHelpful l.view.explanation.now.remedies) l.rows.items;
  own : IsHelpful l.view.explanation.now.remedies l.row;
  lead : LeadTo l.violation.place l.at l.rows.items;
  last : led_by l.violation.place l.at l.row ≡ Some (l.at + 1);
}
