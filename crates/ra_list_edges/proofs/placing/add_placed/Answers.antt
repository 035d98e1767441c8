use Rattle.std.proofs.Common.{Some, None, subst}
use Rattle.ra_list_edges.specs.Pairs.{AddsSome}
use Rattle.ra_list_edges.proofs.PlacedElements.{placed_is}
use Rattle.ra_list_edges.proofs.placing.add_placed.Goals as goal

pub returns-in-None-None-clause-some : goal.returns-in-None-None-clause-some
returns-in-None-None-clause-some c =
    let placed = placed_is c.args.placement None None c.in-None-None.is-0 c.in-None-None.is-1 in
    subst (λ xs. AddsSome c.args.label xs c.args.order.now.edges c.add_pairs.new.order.edges) placed
    c.add_pairs.ensures.some

pub returns-in-None-Some-clause-some : goal.returns-in-None-Some-clause-some
returns-in-None-Some-clause-some c =
    let placed = placed_is c.args.placement None (Some c.in-None-Some.right) c.in-None-Some.is-0 c.in-None-Some.is-1 in
    subst (λ xs. AddsSome c.args.label xs c.args.order.now.edges c.add_pairs-in-None-Some.new.order.edges) placed
    c.add_pairs-in-None-Some.ensures.some

pub returns-in-Some-None-clause-some : goal.returns-in-Some-None-clause-some
returns-in-Some-None-clause-some c =
    let placed = placed_is c.args.placement (Some c.in-Some-None.left) None c.in-Some-None.is-0 c.in-Some-None.is-1 in
    subst (λ xs. AddsSome c.args.label xs c.args.order.now.edges c.add_pairs-in-Some-None.new.order.edges) placed
    c.add_pairs-in-Some-None.ensures.some

pub returns-in-Some-Some-clause-some : goal.returns-in-Some-Some-clause-some
returns-in-Some-Some-clause-some c =
    let placed = placed_is c.args.placement (Some c.in-Some-Some.left) (Some c.in-Some-Some.right) c.in-Some-Some.is-0
    c.in-Some-Some.is-1 in
    subst (λ xs. AddsSome c.args.label xs c.args.order.now.edges c.add_pairs-in-Some-Some.new.order.edges) placed
    c.add_pairs-in-Some-Some.ensures.some
