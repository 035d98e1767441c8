use Rattle.std.proofs.Common.{◌<◌, ◌∙◌, length, sym, ap, subst}
use Rattle.std.proofs.lemmas.Bool.{eqb-true}
use Rattle.ra_list_order.specs.Chunks.{Chunk, no_chunk, chunk_at}
use Rattle.ra_labels.specs.Edges.{IsBefore}
use Rattle.ra_list_order.proofs.Members.{read_at}
use Rattle.ra_list_order.proofs.Spans.{before_by_chunks, before_in_chunk, span_is}
use Rattle.ra_list_order.proofs.sequence.Sequence.span.Goals as goal
use Rattle.ra_list_order.proofs.sequence.Sequence.span.Goals.{then-last-first-via-then-last-first, then-last-first-via-else-last-first+then-is_before, then-last-first-2, else-last-first-2}

pub returns-then-last-first : goal.returns-then-last-first
returns-then-last-first c =
    let chunks = c.args.self.now in
    let first = c.place_of-first.result in
    elim c.then-last-first.branch [
      | then-last-first-via-then-last-first w ↦
          before_by_chunks chunks c.place_of-last.result first c.args.other c.args.one w.if-last-first.true
          c.place_of-first.ensures.within c.place_of-last.ensures.there c.place_of-first.ensures.there
      | then-last-first-via-else-last-first+then-is_before w ↦ elim w.if-last-first-2.branch [
        | then-last-first-2 v ↦
            let there = c.place_of-first.ensures.within in
            let mine = v.elements.ensures ∙ ap (λ (h : Chunk). h.elements)
            (read_at c.self.inside.chunks.items first no_chunk v.index.result.now
            (subst (λ cs. first < length cs) (sym c.self.view_is) there) v.index.ensures
            ∙ ap (λ cs. chunk_at cs first) c.self.view_is) in
            before_in_chunk chunks first c.args.other c.args.one there
            (subst (λ xs. IsBefore xs c.args.other c.args.one) mine
            (v.is_before.ensures (sym v.value-is ∙ w.if-is_before.true)))
        | else-last-first-2 v ↦ absurd (v.if-last-first-2.false (eqb-true c.place_of-last.result first
            (sym v.value-is ∙ w.if-is_before.true)))
      ]
    ]

pub returns : goal.returns
returns c =
    span_is c.args.self.now c.place_of-first.result c.place_of-last.result c.args.one c.args.other
    c.if-last-first.false c.place_of-last.ensures.within c.place_of-first.ensures.there c.place_of-last.ensures.there
