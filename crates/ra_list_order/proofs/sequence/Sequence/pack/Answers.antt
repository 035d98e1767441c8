use Rattle.std.proofs.Common.{◌∙◌, ℕ, sym, ap, subst}
use Rattle.std.specs.Prelude.{Contains, IsSome}
use Rattle.ra_list_order.specs.Chunks.{joined, AreMovedToChunks, group_in}
use Rattle.ra_labels.specs.Edges.{EachOnce}
use Rattle.ra_list_order.proofs.Packings.{packed_once, packed_known, grouped_packed}
use Rattle.ra_list_order.proofs.sequence.Sequence.pack.Goals as goal

pub move_to_chunks-requires-clause-once : goal.move_to_chunks-requires-clause-once
move_to_chunks-requires-clause-once c =
    subst (λ cs. EachOnce (joined cs)) (sym c.deref-3.ensures.value)
    (packed_once (group_in c.self.inside.groups.items) c.self.inside.chunks.items c.in-Ok-packed.chunks.items
    c.self.inside.places.items c.in-Ok-packed.places.items c.deref-2.result.now c.self.invariant c.in-Ok-packed.ensures
    (c.deref-2.ensures.value ∙ c.in-Ok.ensures ∙ ap joined c.deref.ensures.value))

pub move_to_chunks-requires-clause-known : goal.move_to_chunks-requires-clause-known
move_to_chunks-requires-clause-known c =
    subst (λ cs. (x : ℕ) → Contains (joined cs) x → IsSome (group_in c.self.inside.groups.items x))
    (sym c.deref-3.ensures.value)
    (packed_known (group_in c.self.inside.groups.items) c.self.inside.chunks.items c.in-Ok-packed.chunks.items
    c.self.inside.places.items c.in-Ok-packed.places.items c.deref-2.result.now c.self.invariant c.in-Ok-packed.ensures
    (c.deref-2.ensures.value ∙ c.in-Ok.ensures ∙ ap joined c.deref.ensures.value))

pub invariant_of-self : goal.invariant_of-self
invariant_of-self c =
    grouped_packed (group_in c.self.inside.groups.items) (group_in c.move_to_chunks.new.groups.items)
    c.self.inside.chunks.items c.in-Ok-packed.chunks.items c.self.inside.places.items c.in-Ok-packed.places.items
    c.deref-2.result.now c.self.invariant c.in-Ok-packed.ensures
    (c.deref-2.ensures.value ∙ c.in-Ok.ensures ∙ ap joined c.deref.ensures.value)
    (subst (λ cs. AreMovedToChunks cs (group_in c.self.inside.groups.items) (group_in c.move_to_chunks.new.groups.items))
    c.deref-3.ensures.value c.move_to_chunks.ensures)
