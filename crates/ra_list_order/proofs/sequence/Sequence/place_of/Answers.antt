use Rattle.std.proofs.Common.{◌<◌, length, sym, subst, arith}
use Rattle.std.specs.Prelude.{Contains}
use Rattle.ra_list_order.specs.Chunks.{chunk_at, joined, group_in}
use Rattle.ra_list_order.proofs.Members.{read_at}
use Rattle.ra_list_order.proofs.Spans.{has_group, place_read}
use Rattle.ra_list_order.proofs.sequence.Sequence.place_of.Goals as goal

pub group_of-requires : goal.group_of-requires
group_of-requires c =
    has_group (group_in c.self.inside.groups.items) c.self.inside.chunks.items c.self.inside.places.items c.args.element
    c.self.invariant (subst (λ cs. Contains (joined cs) c.args.element) (sym c.self.view_is) c.requires)

pub index-requires : goal.index-requires
index-requires c =
    let read = place_read (group_in c.self.inside.groups.items) c.self.inside.chunks.items c.self.inside.places.items
    c.self.invariant c.args.element c.group_of.result
    (subst (λ cs. Contains (joined cs) c.args.element) (sym c.self.view_is) c.requires) c.group_of.ensures in
    let low = read.0 in
    let long = c.self.inside.places.ok.0 in
    omega (arith, low, long)

pub returns-clause-within : goal.returns-clause-within
returns-clause-within c =
    let read = place_read (group_in c.self.inside.groups.items) c.self.inside.chunks.items c.self.inside.places.items
    c.self.invariant c.args.element c.group_of.result
    (subst (λ cs. Contains (joined cs) c.args.element) (sym c.self.view_is) c.requires) c.group_of.ensures in
    let place = read_at c.self.inside.places.items c.group_of.result 0 c.index.result.now read.0
    c.index.ensures in
    subst (λ cs. c.index.result.now < length cs) c.self.view_is
    (subst (λ k. k < length c.self.inside.chunks.items) (sym place) read.1)

pub returns-clause-there : goal.returns-clause-there
returns-clause-there c =
    let read = place_read (group_in c.self.inside.groups.items) c.self.inside.chunks.items c.self.inside.places.items
    c.self.invariant c.args.element c.group_of.result
    (subst (λ cs. Contains (joined cs) c.args.element) (sym c.self.view_is) c.requires) c.group_of.ensures in
    let place = read_at c.self.inside.places.items c.group_of.result 0 c.index.result.now read.0
    c.index.ensures in
    subst (λ cs. Contains (chunk_at cs c.index.result.now).elements c.args.element) c.self.view_is
    (subst (λ k. Contains (chunk_at c.self.inside.chunks.items k).elements c.args.element) (sym place) read.2)
