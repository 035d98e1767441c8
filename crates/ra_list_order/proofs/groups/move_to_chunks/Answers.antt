use Rattle.std.proofs.Common.{◌∙◌, ap, subst, take}
use Rattle.std.specs.Prelude.{Contains}
use Rattle.ra_list_order.specs.Chunks.{Chunk, no_chunk, AreMovedTo, group_in}
use Rattle.ra_list_order.proofs.JoinedChunks.{in_joined}
use Rattle.ra_list_order.proofs.Members.{read_at}
use Rattle.ra_list_order.proofs.Moves.{chunks_more, chunks_known}
use Rattle.ra_list_order.proofs.groups.move_to_chunks.Goals as goal

pub move_to-requires-clause-known : goal.move_to-requires-clause-known
move_to-requires-clause-known c = λ x among.
    let chunks = c.args.chunks.now in
    let k = c.loop-chunk.chunk-index in
    let is = read_at chunks k no_chunk c.chunk-item.result c.loop-chunk-test.true c.chunk-item.is in
    chunks_known (take k chunks) (group_in c.args.groups.now.items) (group_in c.loop-chunk.groups.items) x
    c.loop-chunk.invariant
    (c.requires.known x (in_joined chunks k x c.loop-chunk-test.true
    (subst (λ xs. Contains xs x) (c.elements.ensures ∙ ap (λ (h : Chunk). h.elements) is) among)))

pub loop-chunk-preserved : goal.loop-chunk-preserved
loop-chunk-preserved c =
    let chunks = c.args.chunks.now in
    let k = c.loop-chunk.chunk-index in
    let is = read_at chunks k no_chunk c.chunk-item.result c.loop-chunk-test.true c.chunk-item.is in
    chunks_more chunks k c.chunk-item.result (group_in c.args.groups.now.items) (group_in c.loop-chunk.groups.items)
    (group_in c.move_to.new.groups.items) c.loop-chunk-test.true is c.requires.once c.loop-chunk.invariant
    (subst (λ xs. AreMovedTo xs c.chunk-item.result.group (group_in c.loop-chunk.groups.items)
    (group_in c.move_to.new.groups.items))
    c.elements.ensures
    (subst (λ g. AreMovedTo c.elements.result.now g (group_in c.loop-chunk.groups.items)
    (group_in c.move_to.new.groups.items))
    c.group.ensures.group c.move_to.ensures))
