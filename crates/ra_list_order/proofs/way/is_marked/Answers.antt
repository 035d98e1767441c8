use Rattle.std.proofs.Common.{ap, sym, ◌∙◌}
use Rattle.std.specs.Prelude.{◌||◌}
use Rattle.std.specs.List.{list_any}
use Rattle.std.proofs.lemmas.Bool.{ne_eqb}
use Rattle.ra_list_order.proofs.Ways.{ends}
use Rattle.ra_list_order.proofs.way.is_marked.Goals as goal

pub returns-else-element-start : goal.returns-else-element-start
returns-else-element-start c =
    c.is_end.ensures
    ∙ sym (ap (λ b. b || list_any (ends c.args.element) c.args.walked.now)
    (ne_eqb c.args.element c.args.start c.if-element-start.false))
