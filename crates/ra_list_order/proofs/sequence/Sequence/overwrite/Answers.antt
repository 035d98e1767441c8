use Rattle.std.proofs.Common.{◌≤◌, ◌∙◌, sym, ap, subst, length}
use Rattle.std.specs.List.{between}
use Rattle.std.specs.List.Sorted.{IsPermutation}
use Rattle.std.proofs.lemmas.List.Sorted.{length_permutation}
use Rattle.ra_list_order.specs.Chunks.{joined, AreGrouped, group_in}
use Rattle.ra_list_order.proofs.Spans.{read_once, read_known, read_grouped}
use Rattle.ra_list_order.proofs.sequence.Sequence.overwrite.Goals as goal

pub refill-requires : goal.refill-requires
refill-requires c =
    let i = c.args.span.first in
    let j = c.args.span.end in
    length_permutation (joined (between i j c.args.self.now)) c.args.elements.now c.requires.same
    ∙ ap (λ cs. length (joined (between i j cs))) (sym (c.deref_mut.ensures.value ∙ c.self.view_is))

pub move_to_chunks-requires-clause-once : goal.move_to_chunks-requires-clause-once
move_to_chunks-requires-clause-once c =
    let i = c.args.span.first in
    let j = c.args.span.end in
    read_once (group_in c.self.inside.groups.items) c.self.inside.chunks.items c.deref_mut.result.now c.refill.new.chunks
    c.deref.result.now c.self.inside.places.items i j c.self.inside.chunks.len c.args.elements.now c.requires.ordered
    (subst (λ cs. j ≤ length cs) (sym c.self.view_is) c.requires.within) c.self.invariant
    (subst (λ cs. IsPermutation (joined (between i j cs)) c.args.elements.now) (sym c.self.view_is) c.requires.same)
    c.deref_mut.ensures.value c.self.inside.chunks.ok.0 c.refill.ensures.elements c.refill.ensures.groups
    c.deref.ensures.value

pub move_to_chunks-requires-clause-known : goal.move_to_chunks-requires-clause-known
move_to_chunks-requires-clause-known c =
    let i = c.args.span.first in
    let j = c.args.span.end in
    read_known (group_in c.self.inside.groups.items) c.self.inside.chunks.items c.deref_mut.result.now c.refill.new.chunks
    c.deref.result.now c.self.inside.places.items i j c.self.inside.chunks.len c.args.elements.now c.requires.ordered
    (subst (λ cs. j ≤ length cs) (sym c.self.view_is) c.requires.within) c.self.invariant
    (subst (λ cs. IsPermutation (joined (between i j cs)) c.args.elements.now) (sym c.self.view_is) c.requires.same)
    c.deref_mut.ensures.value c.self.inside.chunks.ok.0 c.refill.ensures.elements c.refill.ensures.groups
    c.deref.ensures.value

pub invariant_of-self : goal.invariant_of-self
invariant_of-self c =
    let i = c.args.span.first in
    let j = c.args.span.end in
    subst (λ cs. AreGrouped (group_in c.move_to_chunks.new.groups.items) cs c.self.inside.places.items)
    c.deref.ensures.value
    (read_grouped (group_in c.self.inside.groups.items) c.self.inside.chunks.items c.deref_mut.result.now
    c.refill.new.chunks c.deref.result.now c.self.inside.places.items i j c.self.inside.chunks.len c.args.elements.now
    c.requires.ordered (subst (λ cs. j ≤ length cs) (sym c.self.view_is) c.requires.within) c.self.invariant
    (subst (λ cs. IsPermutation (joined (between i j cs)) c.args.elements.now) (sym c.self.view_is) c.requires.same)
    c.deref_mut.ensures.value c.self.inside.chunks.ok.0 c.refill.ensures.elements c.refill.ensures.groups
    c.deref.ensures.value (group_in c.move_to_chunks.new.groups.items) c.move_to_chunks.ensures)
