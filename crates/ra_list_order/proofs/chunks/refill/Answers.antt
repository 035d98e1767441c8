use Rattle.std.proofs.Common.{◌+◌, ◌≤◌, length, arith, rules}
use Rattle.ra_list_order.proofs.Moves.{read_within, new_done, new_filled, new_rest, new_groups}
use Rattle.ra_list_order.proofs.chunks.refill.Goals as goal

pub overflow_add-end : goal.overflow_add-end
overflow_add-end c =
    let low : c.loop-place.done + length c.elements.result.now ≤ length c.args.elements.now =
    read_within c.args.chunks.now c.loop-place.chunks c.args.elements.now c.loop-place.place c.loop-place.done
    c.loop-place-test.true c.requires c.loop-place.invariant.done c.loop-place.invariant.filled
    c.loop-place.invariant.rest c.loop-place.invariant.groups
    c.index-chunks-place.result c.elements.result.now c.elements.ensures in
    search rules

pub offset_bounds-elements-done : goal.offset_bounds-elements-done
offset_bounds-elements-done c =
    let low : c.loop-place.done + length c.elements.result.now ≤ length c.args.elements.now =
    read_within c.args.chunks.now c.loop-place.chunks c.args.elements.now c.loop-place.place c.loop-place.done
    c.loop-place-test.true c.requires c.loop-place.invariant.done c.loop-place.invariant.filled
    c.loop-place.invariant.rest c.loop-place.invariant.groups
    c.index-chunks-place.result c.elements.result.now c.elements.ensures in
    let first : c.loop-place.done ≤ length c.args.elements.now = omega (arith, low) in
    search rules

pub slice_bounds-overwrite-end : goal.slice_bounds-overwrite-end
slice_bounds-overwrite-end c =
    let low : c.loop-place.done + length c.elements.result.now ≤ length c.args.elements.now =
    read_within c.args.chunks.now c.loop-place.chunks c.args.elements.now c.loop-place.place c.loop-place.done
    c.loop-place-test.true c.requires c.loop-place.invariant.done c.loop-place.invariant.filled
    c.loop-place.invariant.rest c.loop-place.invariant.groups
    c.index-chunks-place.result c.elements.result.now c.elements.ensures in
    search rules

pub loop-place-preserved : goal.loop-place-preserved
loop-place-preserved c = record {
  done = new_done c.args.chunks.now c.loop-place.chunks c.args.elements.now c.loop-place.place c.loop-place.done
      c.loop-place-test.true c.requires c.loop-place.invariant.done c.loop-place.invariant.filled
      c.loop-place.invariant.rest c.loop-place.invariant.groups c.index-chunks-place.result
      c.index-chunks-place-in-loop-place.result c.overwrite.new.self c.elements.result.now c.elements.ensures
      c.overwrite.ensures.elements c.overwrite.ensures.group;
  filled = new_filled c.args.chunks.now c.loop-place.chunks c.args.elements.now c.loop-place.place c.loop-place.done
      c.loop-place-test.true c.requires c.loop-place.invariant.done c.loop-place.invariant.filled
      c.loop-place.invariant.rest c.loop-place.invariant.groups c.index-chunks-place.result
      c.index-chunks-place-in-loop-place.result c.overwrite.new.self c.elements.result.now c.elements.ensures
      c.overwrite.ensures.elements c.overwrite.ensures.group;
  rest = new_rest c.args.chunks.now c.loop-place.chunks c.args.elements.now c.loop-place.place c.loop-place.done
      c.loop-place-test.true c.requires c.loop-place.invariant.done c.loop-place.invariant.filled
      c.loop-place.invariant.rest c.loop-place.invariant.groups c.index-chunks-place.result
      c.index-chunks-place-in-loop-place.result c.overwrite.new.self c.elements.result.now c.elements.ensures
      c.overwrite.ensures.elements c.overwrite.ensures.group;
  groups = new_groups c.args.chunks.now c.loop-place.chunks c.args.elements.now c.loop-place.place c.loop-place.done
      c.loop-place-test.true c.requires c.loop-place.invariant.done c.loop-place.invariant.filled
      c.loop-place.invariant.rest c.loop-place.invariant.groups c.index-chunks-place.result
      c.index-chunks-place-in-loop-place.result c.overwrite.new.self c.elements.result.now c.elements.ensures
      c.overwrite.ensures.elements c.overwrite.ensures.group;
}
