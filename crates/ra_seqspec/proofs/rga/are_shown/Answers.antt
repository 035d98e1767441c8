use Rattle.std.proofs.Common.{◌≡◌, ◌+◌, ◌-◌, ◌<◌, ◌∷◌, length, sym, ap, ◌∙◌, subst, arith, rules}
use Rattle.std.proofs.lemmas.Bool.{false≢true}
use Rattle.ra_seqspec.specs.Rga.{node_at}
use Rattle.ra_seqspec.proofs.Walks.{Walked, walked_start, walked_below, walked_hidden, walked_shown, walked_none_left}
use Rattle.ra_seqspec.proofs.Walks.{walked_other, walked_end, still, nothing_left}
use Rattle.ra_seqspec.proofs.rga.are_shown.Goals.{then-node+in-Some, else-node}
use Rattle.ra_seqspec.proofs.rga.are_shown.Goals as goal

pub loop-step-init : goal.loop-step-init
loop-step-init c =
    let start : length c.args.nodes.now ≡ length c.args.nodes.now - 0 = omega arith in
    subst (λ n. Walked c.args.nodes.now c.args.first c.args.elements.now c.args.elements.now n c.args.first) start
    (walked_start c.args.nodes.now c.args.first c.args.elements.now c.requires)

pub offset_bounds-nodes-slot : goal.offset_bounds-nodes-slot
offset_bounds-nodes-slot c =
    let below : c.loop-step.slot < length c.args.nodes.now =
    walked_below c.args.nodes.now c.args.first c.args.elements.now c.loop-step.left.now _ c.loop-step.slot
    (still c.args.nodes.now c.args.first c.args.elements.now c.loop-step.left.now c.loop-step._step c.loop-step.slot
    c.loop-step-test.true c.loop-step.invariant) in
    search rules

pub bounds-nodes-slot : goal.bounds-nodes-slot
bounds-nodes-slot c =
    walked_below c.args.nodes.now c.args.first c.args.elements.now c.loop-step.left.now _ c.loop-step.slot
    (still c.args.nodes.now c.args.first c.args.elements.now c.loop-step.left.now c.loop-step._step c.loop-step.slot
    c.loop-step-test.true c.loop-step.invariant)

pub returns-in_default : goal.returns-in_default
returns-in_default c =
    let walked = still c.args.nodes.now c.args.first c.args.elements.now c.loop-step.left.now c.loop-step._step
    c.loop-step.slot c.loop-step-test.true c.loop-step.invariant in (
      (λ is. absurd (false≢true is)),
      (λ all. absurd
          (walked_other c.args.nodes.now c.args.first c.args.elements.now c.loop-step.left.now c.in-Some.rest.now
          c.in-Some.element.now _ c.loop-step.slot walked c.if-node.true c.in-Some.ensures.cases.0
          c.if-element-node.false all)),
    )

pub returns-in_default-2 : goal.returns-in_default-2
returns-in_default-2 c =
    let walked = still c.args.nodes.now c.args.first c.args.elements.now c.loop-step.left.now c.loop-step._step
    c.loop-step.slot c.loop-step-test.true c.loop-step.invariant in
    let empty : length c.loop-step.left.now ≡ 0 = search rules in (
      (λ is. absurd (false≢true is)),
      (λ all. absurd
          (walked_none_left c.args.nodes.now c.args.first c.args.elements.now c.loop-step.left.now _ c.loop-step.slot
          walked c.if-node.true (nothing_left c.loop-step.left.now empty) all)),
    )

pub loop-step-preserved : goal.loop-step-preserved
loop-step-preserved c =
    let walked = still c.args.nodes.now c.args.first c.args.elements.now c.loop-step.left.now c.loop-step._step
    c.loop-step.slot c.loop-step-test.true c.loop-step.invariant in
    elim c.if-node.branch [
      | then-node+in-Some w ↦
          subst (λ left. Walked c.args.nodes.now c.args.first c.args.elements.now left
          (length c.args.nodes.now - (c.loop-step._step + 1)) (node_at c.args.nodes.now c.loop-step.slot).next)
          (ap (λ left. left.now) (sym w.left-is))
          (walked_shown c.args.nodes.now c.args.first c.args.elements.now c.loop-step.left.now w.in-Some.rest.now _
          c.loop-step.slot walked w.if-node.true
          (w.in-Some.ensures.cases.0 ∙ ap (λ x. x ∷ w.in-Some.rest.now) w.if-element-node.true))
      | else-node w ↦
          subst (λ left. Walked c.args.nodes.now c.args.first c.args.elements.now left
          (length c.args.nodes.now - (c.loop-step._step + 1)) (node_at c.args.nodes.now c.loop-step.slot).next)
          (ap (λ left. left.now) (sym w.left-is))
          (walked_hidden c.args.nodes.now c.args.first c.args.elements.now c.loop-step.left.now _ c.loop-step.slot
          walked w.if-node.false)
    ]

pub returns : goal.returns
returns c = walked_end c.args.nodes.now c.args.first c.args.elements.now c.loop-step.left.now c.loop-step._step
    c.loop-step.slot c.is_empty.result c.loop-step-test.false c.loop-step.invariant c.is_empty.ensures
