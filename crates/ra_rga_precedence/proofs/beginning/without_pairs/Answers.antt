use Rattle.ra_rga_precedence.proofs.Conclusions.{names_only}
use Rattle.ra_rga_precedence.proofs.beginning.without_pairs.Goals as goal

pub order_of-requires : goal.order_of-requires
order_of-requires c = names_only c.args.count c.args.conditions.now c.requires
