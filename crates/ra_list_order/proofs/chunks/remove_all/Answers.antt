use Rattle.std.proofs.Common.{◌<◌, ◌∙◌, length, get_or, ap, arith}
use Rattle.std.proofs.lemmas.List.Elements.{Contains-get_or}
use Rattle.ra_list_order.specs.Chunks.{Chunk, no_chunk, group_in}
use Rattle.ra_labels.specs.Listing.{without}
use Rattle.ra_list_order.proofs.Members.{read_at}
use Rattle.ra_list_order.proofs.Removals.{removed_none, removed_more, only_place}
use Rattle.ra_list_order.proofs.Spans.{has_group, place_read}
use Rattle.ra_list_order.proofs.chunks.remove_all.Goals as goal

pub loop-element-init : goal.loop-element-init
loop-element-init c = removed_none c.args.chunks.now.items

pub group_of-requires : goal.group_of-requires
group_of-requires c =
    let x = get_or c.args.elements.now c.loop-element.element-index 0 in
    has_group (group_in c.args.groups.now.items) c.args.chunks.now.items c.args.places.now.items x c.requires.grouped
    (c.requires.known x (Contains-get_or c.args.elements.now c.loop-element.element-index 0 c.loop-element-test.true))

pub index-place-requires : goal.index-place-requires
index-place-requires c =
    let x = get_or c.args.elements.now c.loop-element.element-index 0 in
    let read = place_read (group_in c.args.groups.now.items) c.args.chunks.now.items c.args.places.now.items
    c.requires.grouped x c.group_of.result
    (c.requires.known x (Contains-get_or c.args.elements.now c.loop-element.element-index 0 c.loop-element-test.true))
    c.group_of.ensures in
    let low = read.0 in
    let long = c.args.places.now.ok.0 in
    omega (arith, low, long)

pub index_mut-requires : goal.index_mut-requires
index_mut-requires c =
    let x = get_or c.args.elements.now c.loop-element.element-index 0 in
    let read = place_read (group_in c.args.groups.now.items) c.args.chunks.now.items c.args.places.now.items
    c.requires.grouped x c.group_of.result
    (c.requires.known x (Contains-get_or c.args.elements.now c.loop-element.element-index 0 c.loop-element-test.true))
    c.group_of.ensures in
    let low = read.1 in
    let is = read_at c.args.places.now.items c.group_of.result 0 c.index-place.result.now read.0 c.index-place.ensures in
    let many = c.loop-element.invariant.groups.as_many in
    let long = c.loop-element.chunks.ok.0 in
    omega (arith, low, is, many, long)

pub loop-element-preserved : goal.loop-element-preserved
loop-element-preserved c =
    let x = get_or c.args.elements.now c.loop-element.element-index 0 in
    let read = place_read (group_in c.args.groups.now.items) c.args.chunks.now.items c.args.places.now.items
    c.requires.grouped x c.group_of.result
    (c.requires.known x (Contains-get_or c.args.elements.now c.loop-element.element-index 0 c.loop-element-test.true))
    c.group_of.ensures in
    let is = read_at c.args.places.now.items c.group_of.result 0 c.index-place.result.now read.0 c.index-place.ensures in
    let there : c.index-place.result.now < length c.args.chunks.now.items = let low = read.1 in omega (arith, low, is) in
    let now_there : c.index-place.result.now < length c.loop-element.chunks.items =
    let many = c.loop-element.invariant.groups.as_many in omega (arith, many, there) in
    let same = read_at c.loop-element.chunks.items c.index-place.result.now no_chunk c.index_mut.result.now now_there
    c.index_mut.ensures.value in
    removed_more c.args.chunks.now.items c.loop-element.chunks.items c.args.elements.now c.loop-element.element-index
    c.index-place.result.now c.remove.new.self c.loop-element-test.true there c.loop-element.invariant
    (λ j low mine. is ∙ only_place (group_in c.args.groups.now.items) c.args.chunks.now.items c.args.places.now.items x
    c.group_of.result j c.requires.grouped c.group_of.ensures low mine)
    (c.remove.ensures.group ∙ ap (λ (h : Chunk). h.group) same)
    (c.remove.ensures.elements ∙ ap (λ (h : Chunk). without x h.elements) same)
