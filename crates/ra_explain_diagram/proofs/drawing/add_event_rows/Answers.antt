use Rattle.ra_explain_diagram.proofs.drawing.add_event_rows.Goals as goal

pub loop-change-init : goal.loop-change-init
loop-change-init c = record {
  helpful = c.requires.helpful;
  own = c.row_of-row.ensures.own c.args.view.now.explanation.now.remedies;
  lead = c.requires.lead;
  last = c.row_of-row.ensures.lead;
}
