use Rattle.std.proofs.Common.{◌≡◌, ◌-◌, ◌<◌, Some, length, get_or, take, ap, ◌∙◌, arith}
use Rattle.std.proofs.lemmas.List.{length-map}
use Rattle.ra_list_order.specs.EdgePool.{no_edge, edge_at, flipped}
use Rattle.ra_list_order.specs.Numbers.{number_in}
use Rattle.ra_list_order.proofs.EdgeCounts.{counts_popped}
use Rattle.ra_list_order.proofs.EdgePools.{last_within, pool_popped, popped_last}
use Rattle.ra_list_order.proofs.EdgesInto.{into_popped, last_into_within}
use Rattle.ra_list_order.proofs.edge_pool.EdgePool.pop.Goals as goal

pub set_number-requires : goal.set_number-requires
set_number-requires c =
    let edges = c.self.inside.edges.items in
    let long = c.self.inside.edges.ok.0 in
    let fewer = c.in-Some.ensures.cases in
    let there : 0 < length edges = omega (arith, long, fewer) in
    let last : c.in-Some.edge ≡ edge_at edges (length edges - 1) =
    popped_last edges _ _ _ c.in-Some.is (c.pop.ensures.value no_edge (omega (arith, long, there))) long in
    let low = last_within c.self.inside.lasts.items edges c.in-Some.edge c.self.inside.links.items
    c.self.invariant.linked there last in
    let size = c.self.inside.lasts.ok.0 in
    omega (arith, low, size)

pub set_number-requires-2 : goal.set_number-requires-2
set_number-requires-2 c =
    let edges = c.self.inside.edges.items in
    let long = c.self.inside.edges.ok.0 in
    let fewer = c.in-Some.ensures.cases in
    let there : 0 < length edges = omega (arith, long, fewer) in
    let last : c.in-Some.edge ≡ edge_at edges (length edges - 1) =
    popped_last edges _ _ _ c.in-Some.is (c.pop.ensures.value no_edge (omega (arith, long, there))) long in
    let low = last_into_within c.self.inside.lasts_into.items edges c.in-Some.edge
    c.self.inside.links_into.items c.self.invariant.linked_into there last in
    let size = c.self.inside.lasts_into.ok.0 in
    omega (arith, low, size)

pub invariant_of-self-2 : goal.invariant_of-self-2
invariant_of-self-2 c =
    let edges = c.self.inside.edges.items in
    let long = c.self.inside.edges.ok.0 in
    let fewer = c.in-Some.ensures.cases in
    let there : 0 < length edges = omega (arith, long, fewer) in
    let last : c.in-Some.edge ≡ edge_at edges (length edges - 1) =
    popped_last edges _ _ _ c.in-Some.is (c.pop.ensures.value no_edge (omega (arith, long, there))) long in
    let links = c.self.inside.links.items in
    let long_links = c.self.inside.links.ok.0 in
    let many = c.self.invariant.linked.as_many in
    let into = c.self.inside.links_into.items in
    let long_into = c.self.inside.links_into.ok.0 in
    let many_into = c.self.invariant.linked_into.as_many in
    let size = length-map edges flipped in
    record {
      linked = pool_popped (number_in c.self.inside.lasts.items) (number_in c.set_number.new.numbers.items)
          edges c.pop.new.self.items c.in-Some.edge links c.pop-2.new.self.items _ _ c.self.invariant.linked there last
          (c.pop-2.ensures.value 0 (omega (arith, long_links, many, there))
          ∙ ap (λ n. Some (get_or links (n - 1) 0)) long_links)
          c.unwrap_or-link.ensures c.set_number.ensures.set
          (c.pop.ensures.rest ∙ ap (λ n. take (n - 1) edges) long)
          (c.pop-2.ensures.rest ∙ ap (λ n. take (n - 1) links) long_links);
      linked_into = into_popped (number_in c.self.inside.lasts_into.items) (number_in c.set_number-2.new.numbers.items)
          edges c.pop.new.self.items c.in-Some.edge into c.pop-3.new.self.items _ _ c.self.invariant.linked_into there last
          (c.pop-3.ensures.value 0 (omega (arith, long_into, many_into, size, there))
          ∙ ap (λ n. Some (get_or into (n - 1) 0)) long_into)
          c.unwrap_or-link_into.ensures c.set_number-2.ensures.set
          (c.pop.ensures.rest ∙ ap (λ n. take (n - 1) edges) long)
          (c.pop-3.ensures.rest ∙ ap (λ n. take (n - 1) into) long_into);
      counted = counts_popped c.self.inside.counts c.insert.new.self edges c.pop.new.self.items c.in-Some.edge
          c.count_of-count.result c.insert.result c.self.invariant.counted there last c.count_of-count.ensures
          c.insert.ensures.updates c.insert.ensures.absent
          (c.pop.ensures.rest ∙ ap (λ n. take (n - 1) edges) long);
    }
