use Rattle.std.proofs.Common.{sym, subst, ◌∙◌}
use Rattle.ra_precedence.specs.Lasts.{count_of}
use Rattle.ra_any_order.specs.Situation.{operations_in}
use Rattle.ra_any_order.specs.Standings.{IsStanding, standing_by}
use Rattle.ra_any_order.proofs.SortedElements.{uncontested_standing, asked_standing}
use Rattle.ra_any_order.proofs.standings.standing_of.Goals as goal

pub returns-then-not-is_contested-clause-standing : goal.returns-then-not-is_contested-clause-standing
returns-then-not-is_contested-clause-standing c =
    let ops = operations_in c.args.operations.now in
    let solver = c.args.solver.now in
    subst (IsStanding ops (count_of solver) solver.conditions.items c.args.newest.now c.args.is_asked c.args.element)
    (sym c.standing_by.ensures)
    (uncontested_standing ops (count_of solver) solver.conditions.items c.args.newest.now c.args.is_asked c.args.element
    (sym c.is_contested.ensures ∙ c.if-not-is_contested.true))

pub returns-clause-standing : goal.returns-clause-standing
returns-clause-standing c =
    let ops = operations_in c.args.operations.now in
    let solver = c.args.solver.now in
    let newest = c.args.newest.now in
    let x = c.args.element in
    let count = count_of solver in
    let conditions = solver.conditions.items in
    let lasts = c.in_ok-lasts.lasts.items in
    subst (IsStanding ops count conditions newest c.args.is_asked x) (sym c.standing_by-2.ensures)
    (subst (λ xs. IsStanding ops count conditions newest c.args.is_asked x (standing_by ops xs x))
    (sym c.deref.ensures.value)
    (asked_standing ops count conditions newest c.args.is_asked x lasts c.in_ok-lasts.ensures.lasts
    (sym c.is_contested.ensures ∙ c.if-not-is_contested.false)))
