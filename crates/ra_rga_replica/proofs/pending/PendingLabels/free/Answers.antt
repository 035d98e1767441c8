use Rattle.std.proofs.Common.{None, ap, ◌∙◌}
use Rattle.std.proofs.lemmas.Option.{none-some}
use Rattle.ra_rga_replica.specs.PendingLabels.{labels_under}
use Rattle.ra_rga_replica.proofs.Entries.{under_now, under_other, none_empty}
use Rattle.ra_rga_replica.proofs.pending.PendingLabels.free.Goals as goal

pub invariant_of-self : goal.invariant_of-self
invariant_of-self c =
    none_empty c.self.inside.under.entries c.remove.new.self.entries c.args.number None c.remove.ensures.updates.0
    c.self.invariant (λ v is empty. none-some v is)

pub returns-clause-freed : goal.returns-clause-freed
returns-clause-freed c =
    under_now c.self.inside.under.entries c.remove.new.self.entries c.args.number None c.remove.ensures.updates.0

pub returns-clause-others : goal.returns-clause-others
returns-clause-others c = λ other differs.
    under_other c.self.inside.under.entries c.remove.new.self.entries c.args.number None c.remove.ensures.updates.0
    other differs
    ∙ ap (λ w. labels_under w other) c.self.view_is
