use Rattle.std.proofs.Common.{get_or, take, arith}
use Rattle.std.proofs.lemmas.List.Elements.{Contains-get_or}
use Rattle.ra_list_order.specs.Chunks.{group_in}
use Rattle.ra_list_order.proofs.GroupNumbers.{number_set}
use Rattle.ra_list_order.proofs.Moves.{known_within, moved_more, still_known}
use Rattle.ra_list_order.proofs.groups.move_to.Goals as goal

pub set_number-requires : goal.set_number-requires
set_number-requires c =
    let elements = c.args.elements.now in
    let i = c.loop-element.element-index in
    let x = get_or elements i 0 in
    let low = known_within c.loop-element.groups.items x
    (still_known (take i elements) c.args.group (group_in c.args.groups.now.items)
    (group_in c.loop-element.groups.items) x c.loop-element.invariant
    (c.requires.known x (Contains-get_or elements i 0 c.loop-element-test.true))) in
    let size = c.loop-element.groups.ok.0 in
    omega (arith, low, size)

pub loop-element-preserved : goal.loop-element-preserved
loop-element-preserved c =
    let elements = c.args.elements.now in
    let i = c.loop-element.element-index in
    moved_more elements i c.args.group (group_in c.args.groups.now.items) (group_in c.loop-element.groups.items)
    (group_in c.set_number.new.numbers.items) c.loop-element-test.true c.loop-element.invariant
    (number_set c.loop-element.groups.items c.set_number.new.numbers.items (get_or elements i 0) c.args.group
    c.set_number.ensures.set)
