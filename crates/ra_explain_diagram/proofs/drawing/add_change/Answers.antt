use Rattle.std.proofs.Common.{List, Some, None, ◌==◌, ◌&&◌, refl, sym, subst}
use Rattle.std.specs.Prelude.{nat_le}
use Rattle.std.proofs.lemmas.Bool.{and_from, cond-true, eq-eqb, le-leb}
use Rattle.ra_explain_diagram.specs.declared.drawing.Row.{Row}
use Rattle.ra_explain_diagram.specs.declared.drawing.Row.TheVariants as row
use Rattle.ra_explain_diagram.specs.Drawn.{LeadTo}
use Rattle.ra_explain_diagram.proofs.Leads.{lead_more}
use Rattle.ra_explain_diagram.proofs.drawing.add_change.Goals as goal

pub returns-in_ok-push-in-Gets-clause-lead : goal.returns-in_ok-push-in-Gets-clause-lead
returns-in_ok-push-in-Gets-clause-lead c =
    let asked = c.args.asked in
    let here = c.args.at in
    let leads = cond-true (here == asked) (Some here) None (eq-eqb here asked c.if-at-asked.true) in
    subst (λ (rows : List Row). LeadTo asked here rows) (sym c.in_ok-push-in-Gets.ensures.items)
    (lead_more asked here here c.args.rows.now.items (row.With c.in-Gets.label) c.requires.lead leads)

pub returns-in_ok-push-in-ComesBefore-clause-lead : goal.returns-in_ok-push-in-ComesBefore-clause-lead
returns-in_ok-push-in-ComesBefore-clause-lead c =
    let asked = c.args.asked in
    let here = c.args.at in
    let within = and_from (here == here) (nat_le here asked) (eq-eqb here here refl)
    (le-leb here asked c.requires.within) in
    let leads = cond-true ((here == here) && nat_le here asked) (Some here) None within in
    subst (λ (rows : List Row). LeadTo asked here rows) (sym c.in_ok-push-in-ComesBefore.ensures.items)
    (lead_more asked here here c.args.rows.now.items (row.Before here) c.requires.lead leads)
