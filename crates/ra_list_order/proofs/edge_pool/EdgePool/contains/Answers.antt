use Rattle.std.specs.BTreeMap.{get}
use Rattle.ra_list_order.specs.EdgePool.{pair_cmp}
use Rattle.ra_list_order.proofs.EdgeCounts.{contains_read}
use Rattle.ra_list_order.proofs.edge_pool.EdgePool.contains.Goals as goal

pub returns : goal.returns
returns c =
    contains_read (get pair_cmp c.self.inside.counts) c.self.inside.edges.items c.args.self.now c.args.before
    c.args.after
    c.count_of.result c.self.invariant.counted c.self.view_is c.count_of.ensures
