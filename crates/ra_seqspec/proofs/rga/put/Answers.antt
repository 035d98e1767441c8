use Rattle.std.proofs.Common.{◌≡◌, ℕ, Some, cond, length, ap, ◌∙◌}
use Rattle.std.specs.Prelude.{nat_eq, ◌==◌}
use Rattle.std.specs.HashMap.{get}
use Rattle.ra_seqspec.proofs.Nodes.{place_there, linked_kept, linked_entries, none_from}
use Rattle.std.proofs.lemmas.Bool.{or_parts}
use Rattle.ra_seqspec.proofs.SeveralUpdates.{place_found, where_ok}
use Rattle.ra_seqspec.proofs.rga.put.Goals as goal

pub link-requires-clause-there : goal.link-requires-clause-there
link-requires-clause-there c =
    let (anchor, is) = c.requires.place in
    place_there anchor c.args.first.now c.args.nodes.now.items (get nat_eq c.args.slots.now) c.args.place c.requires.kept
    (place_found anchor c.args.element (get nat_eq c.args.slots.now) c.args.place is).1

pub returns-clause-list : goal.returns-clause-list
returns-clause-list c = λ anchor is.
    rw (c.link.ensures.first, c.link.ensures.nodes)
    (linked_entries c.args.place c.args.first.now c.args.nodes.now.items (get nat_eq c.args.slots.now) anchor
    c.args.element c.requires.kept
    (place_found anchor c.args.element (get nat_eq c.args.slots.now) c.args.place is).1)

pub returns-clause-kept : goal.returns-clause-kept
returns-clause-kept c =
    let (anchor, is) = c.requires.place in
    let slot_of = get nat_eq c.args.slots.now in
    let found = place_found anchor c.args.element slot_of c.args.place is in
    let updated = where_ok c.insert.result (c.insert.ensures.succeeds c.requires.spare) c.insert.ensures.updates in
    let put : (y : ℕ) → get nat_eq c.insert.new.self y
    ≡ cond (c.args.element == y) (Some (length c.args.nodes.now.items)) (slot_of y) =
    λ y. updated.0 y
    ∙ ap (λ n. cond (c.args.element == y) (Some n) (slot_of y)) (c.len.ensures ∙ c.args.nodes.now.ok.0) in
    rw (c.link.ensures.first, c.link.ensures.nodes)
    (linked_kept c.args.place c.args.first.now c.args.nodes.now.items slot_of (get nat_eq c.insert.new.self)
    c.args.element c.requires.kept
    (place_there anchor c.args.first.now c.args.nodes.now.items slot_of c.args.place c.requires.kept found.1)
    (none_from (slot_of c.args.element) (or_parts (c.args.element == 0) _ found.0).1)
    put)
