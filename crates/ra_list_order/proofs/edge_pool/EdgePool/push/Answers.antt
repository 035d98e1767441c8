use Rattle.std.proofs.Common.{◌≡◌, ◌+◌, ◌++◌, ◌∷◌, [], ◌∙◌, length, ap}
use Rattle.ra_list_order.specs.Numbers.{number_in}
use Rattle.ra_list_order.proofs.EdgeCounts.{counts_pushed}
use Rattle.ra_list_order.proofs.EdgePools.{pool_pushed}
use Rattle.ra_list_order.proofs.EdgesInto.{into_pushed}
use Rattle.ra_list_order.proofs.edge_pool.EdgePool.push.Goals as goal

pub invariant_of-self-2 : goal.invariant_of-self-2
invariant_of-self-2 c =
    let edges = c.self.inside.edges.items in
    let number : c.in_ok-number.field-0 + 1 ≡ length edges + 1 =
    ap (λ n. n + 1) (c.in_ok-number.ensures.index ∙ c.len.ensures ∙ c.self.inside.edges.ok.0) in
    record {
      linked = pool_pushed (number_in c.self.inside.lasts.items) (number_in c.extend_to.new.numbers.items)
          (number_in c.set_number.new.numbers.items) edges c.reserve.new.self.items c.push_reserved-3.new.self.items
          c.args.edge c.self.inside.links.items c.reserve-2.new.self.items c.push_reserved.new.self.items _
          c.number_at-link.result c.self.invariant.linked c.in_ok-reserve.ensures.items
          c.in_ok-reserve-2.ensures.items number c.extend_to.ensures.same c.set_number.ensures.set
          c.number_at-link.ensures c.push_reserved-3.ensures.items c.push_reserved.ensures.items;
      linked_into = into_pushed (number_in c.self.inside.lasts_into.items)
          (number_in c.extend_to-2.new.numbers.items) (number_in c.set_number-2.new.numbers.items) edges
          c.reserve.new.self.items c.push_reserved-3.new.self.items c.args.edge c.self.inside.links_into.items
          c.reserve-3.new.self.items c.push_reserved-2.new.self.items _ c.number_at-link_into.result
          c.self.invariant.linked_into c.in_ok-reserve.ensures.items c.in_ok-reserve-3.ensures.items number
          c.extend_to-2.ensures.same c.set_number-2.ensures.set c.number_at-link_into.ensures
          c.push_reserved-3.ensures.items c.push_reserved-2.ensures.items;
      counted = counts_pushed c.self.inside.counts c.insert.new.self edges c.push_reserved-3.new.self.items c.args.edge
          c.count_of-count.result c.self.invariant.counted c.count_of-count.ensures c.in_ok-insert.ensures.updates
          (c.push_reserved-3.ensures.items ∙ ap (λ es. es ++ c.args.edge ∷ []) c.in_ok-reserve.ensures.items);
    }
