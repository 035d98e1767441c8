use Rattle.std.proofs.Common.{◌-◌, ◌+◌, ◌++◌, [], ◌<◌, length, List, ℕ, ap, sym, subst, ◌∙◌, rules}
use Rattle.ra_seqspec.specs.Rga.{node_at}
use Rattle.ra_seqspec.proofs.Walks.{Walked, taken_shown, taken_end, still, walked_below, walked_hidden}
use Rattle.ra_seqspec.proofs.rga.shown_elements.Goals.{then-node+in_ok-push, else-node}
use Rattle.ra_seqspec.proofs.rga.shown_elements.Goals as goal

pub offset_bounds-nodes-slot : goal.offset_bounds-nodes-slot
offset_bounds-nodes-slot c =
    let below : c.loop-step.slot < length c.args.nodes.now =
    walked_below c.args.nodes.now c.args.first (c.loop-step.elements.items ++ []) [] _ c.loop-step.slot
    (still c.args.nodes.now c.args.first (c.loop-step.elements.items ++ []) [] c.loop-step._step c.loop-step.slot
    c.loop-step-test.true (c.loop-step.invariant [])) in
    search rules

pub bounds-nodes-slot : goal.bounds-nodes-slot
bounds-nodes-slot c =
    walked_below c.args.nodes.now c.args.first (c.loop-step.elements.items ++ []) [] _ c.loop-step.slot
    (still c.args.nodes.now c.args.first (c.loop-step.elements.items ++ []) [] c.loop-step._step c.loop-step.slot
    c.loop-step-test.true (c.loop-step.invariant []))

pub loop-step-preserved : goal.loop-step-preserved
loop-step-preserved c =
    let nodes = c.args.nodes.now in
    let first = c.args.first in
    let slot = c.loop-step.slot in
    let taken = c.loop-step.elements.items in
    let n = length nodes - (c.loop-step._step + 1) in
    let walked = λ (rest : List ℕ). still nodes first (taken ++ rest) rest c.loop-step._step slot c.loop-step-test.true
    (c.loop-step.invariant rest) in
    elim c.if-node.branch [
      | then-node+in_ok-push w ↦ λ left.
          subst (λ items. Walked nodes first (items ++ left) left n (node_at nodes slot).next)
          (sym (ap (λ elements. elements.items) w.elements-is ∙ w.in_ok-push.ensures.items))
          (taken_shown nodes first taken left n slot walked w.if-node.true)
      | else-node w ↦ λ left.
          subst (λ items. Walked nodes first (items ++ left) left n (node_at nodes slot).next)
          (sym (ap (λ elements. elements.items) w.elements-is))
          (walked_hidden nodes first (taken ++ left) left n slot (walked left) w.if-node.false)
    ]

pub returns : goal.returns
returns c =
    c.new.ensures
    ∙ taken_end c.args.nodes.now c.args.first c.loop-step.elements.items c.loop-step._step c.loop-step.slot
    c.loop-step-test.false c.loop-step.invariant
