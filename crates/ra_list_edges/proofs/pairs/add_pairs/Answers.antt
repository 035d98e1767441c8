use Rattle.std.proofs.Common.{get_or, arith, ◌-◌}
use Rattle.std.proofs.lemmas.List.Elements.{Contains-get_or}
use Rattle.std.proofs.lemmas.List.Sorted.{IsPermutation-trans, Contains-permutation}
use Rattle.ra_list_edges.proofs.PairEdges.{pair_among, some_more, all_more, cycle_wider}
use Rattle.ra_list_edges.proofs.pairs.add_pairs.Goals as goal

pub add_edge-requires-clause-before : goal.add_edge-requires-clause-before
add_edge-requires-clause-before c =
    let list = c.args.list.now in
    let i = c.loop-i.i in
    Contains-permutation c.args.order.now.order c.loop-i.order.order (get_or list (i - 1) 0) c.loop-i.invariant.elements
    (c.requires (get_or list (i - 1) 0) (Contains-get_or list (i - 1) 0 (omega arith)))

pub add_edge-requires-clause-after : goal.add_edge-requires-clause-after
add_edge-requires-clause-after c =
    let list = c.args.list.now in
    let i = c.loop-i.i in
    Contains-permutation c.args.order.now.order c.loop-i.order.order (get_or list i 0) c.loop-i.invariant.elements
    (c.requires (get_or list i 0) (Contains-get_or list i 0 (omega arith)))

pub returns-in_err-cycle-clause-elements : goal.returns-in_err-cycle-clause-elements
returns-in_err-cycle-clause-elements c =
    IsPermutation-trans c.args.order.now.order c.loop-i.order.order c.add_edge.new.order.order
    c.loop-i.invariant.elements c.add_edge.ensures.elements

pub returns-in_err-cycle-clause-some : goal.returns-in_err-cycle-clause-some
returns-in_err-cycle-clause-some c =
    let list = c.args.list.now in
    let i = c.loop-i.i in
    some_more c.args.label list c.args.order.now.edges c.loop-i.order.edges c.add_edge.new.order.edges _
    (pair_among c.args.label list i (omega arith) (omega arith)) c.loop-i.invariant.some c.add_edge.ensures.some

pub returns-in-Some-clause-elements : goal.returns-in-Some-clause-elements
returns-in-Some-clause-elements c =
    IsPermutation-trans c.args.order.now.order c.loop-i.order.order c.add_edge.new.order.order
    c.loop-i.invariant.elements c.add_edge.ensures.elements

pub returns-in-Some-clause-some : goal.returns-in-Some-clause-some
returns-in-Some-clause-some c =
    let list = c.args.list.now in
    let i = c.loop-i.i in
    some_more c.args.label list c.args.order.now.edges c.loop-i.order.edges c.add_edge.new.order.edges _
    (pair_among c.args.label list i (omega arith) (omega arith)) c.loop-i.invariant.some c.add_edge.ensures.some

pub returns-in-Some-clause-answer : goal.returns-in-Some-clause-answer
returns-in-Some-clause-answer c =
    let list = c.args.list.now in
    let i = c.loop-i.i in
    let found = rw c.in-Some.is at c.in_ok-cycle.ensures.answer in
    cycle_wider c.args.label list c.args.order.now.edges c.loop-i.order.edges _ _
    (pair_among c.args.label list i (omega arith) (omega arith)) c.loop-i.invariant.some found

pub loop-i-preserved : goal.loop-i-preserved
loop-i-preserved c =
    let list = c.args.list.now in
    let i = c.loop-i.i in
    let has = rw c.in_default.is at c.in_ok-cycle.ensures.answer in
    record {
      elements = IsPermutation-trans c.args.order.now.order c.loop-i.order.order c.add_edge.new.order.order
          c.loop-i.invariant.elements c.add_edge.ensures.elements;
      some = some_more c.args.label list c.args.order.now.edges c.loop-i.order.edges c.add_edge.new.order.edges _
          (pair_among c.args.label list i (omega arith) (omega arith)) c.loop-i.invariant.some c.add_edge.ensures.some;
      all = all_more c.args.label list i c.loop-i.order.edges c.add_edge.new.order.edges (omega arith) (omega arith)
          c.loop-i.invariant.all c.add_edge.ensures.some has;
    }
