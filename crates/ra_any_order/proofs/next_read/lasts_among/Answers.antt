use Rattle.std.proofs.Common.{◌<◌, sym, subst}
use Rattle.ra_precedence.specs.Lasts.{AreLasts, count_of}
use Rattle.ra_any_order.proofs.NamedLabels.{names_only}
use Rattle.ra_any_order.proofs.next_read.lasts_among.Goals as goal

pub new-requires : goal.new-requires
new-requires c = names_only c.args.count c.args.conditions.items c.requires.named

pub last_of-requires-clause-below : goal.last_of-requires-clause-below
last_of-requires-clause-below c = λ b there.
    subst (λ k. b < k) (sym c.in_ok-solver.ensures.count) (c.requires.below b there)

pub returns : goal.returns
returns c =
    subst (λ k. AreLasts k c.args.conditions.items c.args.labels.now c.in_ok-lasts.lasts.items) c.in_ok-solver.ensures.count
    (subst (λ cs. AreLasts (count_of c.in_ok-solver.solver) cs c.args.labels.now c.in_ok-lasts.lasts.items)
    c.in_ok-solver.ensures.conditions c.in_ok-lasts.ensures.lasts)
