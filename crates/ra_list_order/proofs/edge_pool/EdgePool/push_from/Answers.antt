use Rattle.std.proofs.Common.{◌≡◌, ◌<◌, ◌-◌, ◌++◌, ◌∷◌, [], length, get_or, subst, ap, ◌∙◌, arith}
use Rattle.ra_labels.specs.declared.edge.Edge.{Edge}
use Rattle.ra_list_order.specs.EdgePool.{no_edge}
use Rattle.ra_list_order.specs.Numbers.{number_in}
use Rattle.ra_list_order.specs.Sweep.{PushesEdgesFrom}
use Rattle.ra_list_order.proofs.EdgePools.{walking_none, walking_more, walking_done, walking_within, walking_falls}
use Rattle.ra_list_order.proofs.Members.{read_at}
use Rattle.ra_list_order.proofs.edge_pool.EdgePool.push_from.Goals as goal

pub loop-at-init : goal.loop-at-init
loop-at-init c =
    walking_none _ _ _ _ _ _ c.self.invariant.linked c.number_at-at.ensures

within : (c : goal.After-row_known-1) → c.loop-at.at - 1 < length c.self.inside.edges.items
within c = walking_within _ _ _ _ _ c.loop-at.invariant c.loop-at-test.true

pub index-requires : goal.index-requires
index-requires c =
    let low = walking_within _ _ _ _ _ c.loop-at.invariant c.loop-at-test.true in
    let long = c.self.inside.edges.ok.0 in
    omega (arith, low, long)

pub index-requires-in-loop-at : goal.index-requires-in-loop-at
index-requires-in-loop-at c =
    let low = walking_within _ _ _ _ _ c.loop-at.invariant c.loop-at-test.true in
    let long = c.self.inside.links.ok.0 in
    let many = c.self.invariant.linked.as_many in
    omega (arith, low, long, many)

next : (c : goal.After-row_known-1) → c.index-in-loop-at.result.now ≡ get_or c.self.inside.links.items (c.loop-at.at - 1) 0
next c =
    let low = within c in
    let many = c.self.invariant.linked.as_many in
    let below : c.loop-at.at - 1 < length c.self.inside.links.items = omega (arith, low, many) in
    read_at c.self.inside.links.items (c.loop-at.at - 1) 0 _ below c.index-in-loop-at.ensures

pub loop-at-smaller : goal.loop-at-smaller
loop-at-smaller c =
    walking_falls (number_in c.self.inside.lasts.items) _ _ _ _ _ _ _ c.self.invariant.linked c.loop-at.invariant
    c.loop-at-test.true (next c)

pub loop-at-preserved : goal.loop-at-preserved
loop-at-preserved c =
    walking_more (number_in c.self.inside.lasts.items) _ _ _ _ _ _ _ _ c.self.invariant.linked c.loop-at.invariant
    c.loop-at-test.true
    (c.in_ok-push.ensures.items ∙ ap (λ (e : Edge). c.loop-at.walked.items ++ e ∷ [])
    (read_at _ _ no_edge _ (within c) c.index.ensures)) (next c)

pub returns : goal.returns
returns c =
    let none = c.loop-at-test.false in
    subst (λ es. PushesEdgesFrom c.args.element es c.args.walked.now.items c.loop-at.walked.items) c.self.view_is
    (walking_done _ _ _ _ _ c.loop-at.invariant (omega (arith, none)))
