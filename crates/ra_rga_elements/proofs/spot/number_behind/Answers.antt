use Rattle.std.proofs.Common.{arith, ap, ◌∙◌}
use Rattle.std.proofs.lemmas.List.{get_or_read}
use Rattle.ra_rga_elements.specs.Entries.{entry_at}
use Rattle.ra_rga_elements.specs.Chunk.{Chunk}
use Rattle.ra_rga_elements.specs.Chunks.{no_chunk}
use Rattle.ra_rga_elements.proofs.JoinedChunks.{offset_last}
use Rattle.ra_rga_elements.proofs.GreaterStamps.{at_end, number_within, number_between}
use Rattle.ra_rga_elements.proofs.spot.number_behind.Goals as goal

pub returns-then-spot-len : goal.returns-then-spot-len
returns-then-spot-len c =
    let its = get_or_read _ _ _ c.requires.there c.index-chunks-spot-then-spot-len.is no_chunk in
    number_within _ _ _ _ c.requires.there
    (omega (arith, c.if-spot-len.true, at_end _ _ _ _ c.requires.there c.index-chunks-spot.is c.len.ensures))
    (c.number.ensures ∙ ap (λ (h : Chunk). (entry_at h.entries c.args.spot.position).number) its)

pub returns-then-spot-chunks : goal.returns-then-spot-chunks
returns-then-spot-chunks c =
    let its = get_or_read _ _ _ c.if-spot-chunks.true c.index-chunks-spot-then-spot-chunks.is no_chunk in
    let len = at_end _ _ _ _ c.requires.there c.index-chunks-spot.is c.len.ensures in
    number_between _ _ _ _ c.requires.there (omega (arith, c.if-spot-len.false, c.requires.among, len))
    c.if-spot-chunks.true c.requires.filled
    (c.number-then-spot-chunks.ensures ∙ ap (λ (h : Chunk). (entry_at h.entries 0).number) its)

pub returns : goal.returns
returns c =
    let last = offset_last c.args.chunks.now _ c.requires.there (omega (arith, c.if-spot-chunks.false)) in
    let len = at_end _ _ _ _ c.requires.there c.index-chunks-spot.is c.len.ensures in
    omega (arith, last, c.if-spot-len.false, c.requires.among, len)
