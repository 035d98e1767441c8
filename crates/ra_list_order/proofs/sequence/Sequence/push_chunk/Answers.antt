use Rattle.std.proofs.Common.{◌++◌, ◌∷◌, [], ◌∙◌, ap, sym, subst, length}
use Rattle.ra_list_order.specs.Chunks.{AreGrouped, group_in}
use Rattle.ra_list_order.proofs.Spans.{grouped_pushed}
use Rattle.ra_list_order.proofs.sequence.Sequence.push_chunk.Goals as goal

pub invariant_of-self-2 : goal.invariant_of-self-2
invariant_of-self-2 c =
    let chunks = c.self.inside.chunks.items in
    let places = c.self.inside.places.items in
    let chunks_is = c.push_reserved-2.ensures.items
    ∙ ap (λ cs. cs ++ c.new-chunk.result ∷ []) c.in_ok-reserve-2.ensures.items in
    let places_is = c.push_reserved.ensures.items ∙ ap (λ ps. ps ++ c.len-2.result ∷ []) c.in_ok-reserve.ensures.items
    ∙ ap (λ n. places ++ n ∷ []) (c.len-2.ensures ∙ c.reserve-2.new.self.ok.0
    ∙ ap length c.in_ok-reserve-2.ensures.items) in
    subst (λ ps. AreGrouped (group_in c.self.inside.groups.items) c.push_reserved-2.new.self.items ps) (sym places_is)
    (subst (λ cs. AreGrouped (group_in c.self.inside.groups.items) cs (places ++ length chunks ∷ [])) (sym chunks_is)
    (grouped_pushed (group_in c.self.inside.groups.items) chunks places c.new-chunk.result c.self.invariant
    (c.new-chunk.ensures.group ∙ c.in_ok-next_index.ensures.index ∙ c.len.ensures ∙ c.reserve.new.self.ok.0 ∙ ap length c.in_ok-reserve.ensures.items)
    c.new-chunk.ensures.elements))
