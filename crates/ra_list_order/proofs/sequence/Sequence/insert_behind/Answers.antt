use Rattle.std.proofs.Common.{◌≡◌, ◌+◌, ◌<◌, ◌∙◌, Some, None, length, get_or, ap, sym, subst}
use Rattle.ra_labels.proofs.Results.{on_ok}
use Rattle.ra_list_order.specs.ListOrder.{IsPut}
use Rattle.ra_list_order.specs.Chunks.{Chunk, no_chunk, chunk_at, joined, IsInsertedAt}
use Rattle.ra_list_order.proofs.Members.{read_at}
use Rattle.ra_list_order.proofs.Insertions.{put_behind_in}
use Rattle.ra_list_order.proofs.sequence.Sequence.insert_behind.Goals as goal

pub returns-clause-put : goal.returns-clause-put
returns-clause-put c =
    let chunks = c.make_room.new.self in
    let k = c.place_of-place.result in
    let there = c.place_of-place.ensures.within in
    let mine : c.elements.result.now ≡ (chunk_at chunks k).elements = c.elements.ensures
    ∙ ap (λ (h : Chunk). h.elements)
    (read_at c.self.inside.chunks.items k no_chunk c.index.result.now
    (subst (λ cs. k < length cs) (sym c.self.view_is) there) c.index.ensures
    ∙ ap (λ cs. chunk_at cs k) c.self.view_is) in
    on_ok c.insert_at.result c.insert_at.ensures.inserted (λ (made : IsInsertedAt chunks k
    (c.position_of-position.result + 1)
    c.args.element c.insert_at.new.self). subst (λ xs. IsPut xs (Some c.args.left) None c.args.element
    (joined c.insert_at.new.self)) c.make_room.ensures.joined
    (put_behind_in chunks c.insert_at.new.self k c.position_of-position.result c.args.left c.args.element None there
    (subst (λ xs. c.position_of-position.result < length xs) mine c.position_of-position.ensures.within)
    (subst (λ xs. get_or xs c.position_of-position.result 0 ≡ c.args.left) mine c.position_of-position.ensures.there)
    made))
