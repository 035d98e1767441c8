use Rattle.std.proofs.Common.{◌<◌, ◌∙◌, ℕ, length, sym, ap, subst}
use Rattle.std.specs.Prelude.{Contains}
use Rattle.ra_list_order.specs.Chunks.{joined, group_in}
use Rattle.ra_list_order.specs.Gathering.{gathered, left_of, right_of}
use Rattle.ra_list_order.proofs.Removals.{read_joined, read_grouped}
use Rattle.ra_list_order.proofs.Spans.{has_group}
use Rattle.ra_list_order.proofs.sequence.Sequence.gather.Goals as goal

pub remove_all-requires-clause-known : goal.remove_all-requires-clause-known
remove_all-requires-clause-known c =
    subst (λ cs. (x : ℕ) → Contains c.args.moved.now x → Contains (joined cs) x) (sym c.self.view_is) c.requires.known

pub move_to-requires-clause-known : goal.move_to-requires-clause-known
move_to-requires-clause-known c = λ x there.
    has_group (group_in c.self.inside.groups.items) c.self.inside.chunks.items c.self.inside.places.items x
    c.self.invariant
    (subst (λ cs. Contains (joined cs) x) (sym c.self.view_is) (c.requires.known x there))

pub invariant_of-self : goal.invariant_of-self
invariant_of-self c =
    read_grouped (group_in c.self.inside.groups.items) (group_in c.move_to.new.groups.items) c.self.inside.chunks.items
    c.remove_all.new.chunks.items c.self.inside.places.items c.args.moved.now c.args.cut.chunk c.args.cut.index
    c.group-group.result c.index.result.now c.replace.new.self c.index_mut.result.now c.index-2.result.now
    c.elements.result.now c.in_ok-all.all.items c.self.invariant
    (subst (λ cs. c.args.cut.chunk < length cs) (sym c.self.view_is) c.requires.chunk) c.index.ensures c.elements.ensures
    c.in_ok-all.ensures c.remove_all.ensures c.index_mut.ensures.value c.replace.ensures.group c.replace.ensures.elements
    c.index-2.ensures c.group-group.ensures.group
    (subst (λ cs. (x : ℕ) → Contains c.args.moved.now x → Contains (joined cs) x) (sym c.self.view_is) c.requires.known)
    c.requires.once c.move_to.ensures

pub returns-then-len-self-clause-gathered : goal.returns-then-len-self-clause-gathered
returns-then-len-self-clause-gathered c =
    c.pack.ensures ∙ c.spread.ensures ∙
    (read_joined (group_in c.self.inside.groups.items) (group_in c.move_to.new.groups.items) c.self.inside.chunks.items
    c.remove_all.new.chunks.items c.self.inside.places.items c.args.moved.now c.args.cut.chunk c.args.cut.index
    c.group-group.result c.index.result.now c.replace.new.self c.index_mut.result.now c.index-2.result.now
    c.elements.result.now c.in_ok-all.all.items c.self.invariant
    (subst (λ cs. c.args.cut.chunk < length cs) (sym c.self.view_is) c.requires.chunk) c.index.ensures c.elements.ensures
    c.in_ok-all.ensures c.remove_all.ensures c.index_mut.ensures.value c.replace.ensures.group c.replace.ensures.elements
    c.index-2.ensures c.group-group.ensures.group
    (subst (λ cs. (x : ℕ) → Contains c.args.moved.now x → Contains (joined cs) x) (sym c.self.view_is) c.requires.known)
    c.requires.once c.move_to.ensures
    ∙ ap (λ cs. gathered (left_of cs c.args.cut.chunk c.args.cut.index) c.args.moved.now
    (right_of cs c.args.cut.chunk c.args.cut.index)) c.self.view_is)

pub returns-else-len-self-clause-gathered : goal.returns-else-len-self-clause-gathered
returns-else-len-self-clause-gathered c =
    c.spread.ensures ∙
    (read_joined (group_in c.self.inside.groups.items) (group_in c.move_to.new.groups.items) c.self.inside.chunks.items
    c.remove_all.new.chunks.items c.self.inside.places.items c.args.moved.now c.args.cut.chunk c.args.cut.index
    c.group-group.result c.index.result.now c.replace.new.self c.index_mut.result.now c.index-2.result.now
    c.elements.result.now c.in_ok-all.all.items c.self.invariant
    (subst (λ cs. c.args.cut.chunk < length cs) (sym c.self.view_is) c.requires.chunk) c.index.ensures c.elements.ensures
    c.in_ok-all.ensures c.remove_all.ensures c.index_mut.ensures.value c.replace.ensures.group c.replace.ensures.elements
    c.index-2.ensures c.group-group.ensures.group
    (subst (λ cs. (x : ℕ) → Contains c.args.moved.now x → Contains (joined cs) x) (sym c.self.view_is) c.requires.known)
    c.requires.once c.move_to.ensures
    ∙ ap (λ cs. gathered (left_of cs c.args.cut.chunk c.args.cut.index) c.args.moved.now
    (right_of cs c.args.cut.chunk c.args.cut.index)) c.self.view_is)
