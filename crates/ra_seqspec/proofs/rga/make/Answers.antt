use Rattle.std.proofs.Common.{◌≡◌, true, false, refl, ap, sym, ◌∙◌}
use Rattle.std.specs.Prelude.{nat_eq, is_some}
use Rattle.std.specs.HashMap.{get}
use Rattle.std.proofs.lemmas.Bool.{cond-true, cond-false}
use Rattle.ra_labels.specs.Lists.{insert_after}
use Rattle.ra_seqspec.specs.Rga.{may_insert, list_step, entries_of}
use Rattle.ra_seqspec.proofs.SeveralUpdates.{place_where_it_may}
use Rattle.ra_seqspec.proofs.rga.make.Goals as goal

pub returns-in-Some-clause-list : goal.returns-in-Some-clause-list
returns-in-Some-clause-list c =
    let list = entries_of c.args.first.now c.args.nodes.now.items in
    let anchor = c.in-After.anchor in
    let x = c.in-After.element in
    let may : may_insert anchor x list ≡ true =
    place_where_it_may anchor x c.args.first.now c.args.nodes.now.items (get nat_eq c.args.slots.now) list
    c.requires.kept refl ∙ ap is_some (sym c.place_for.ensures ∙ c.in-Some.is) in
    c.put.ensures.list anchor (sym c.place_for.ensures ∙ c.in-Some.is)
    ∙ sym (cond-true (may_insert anchor x list) (insert_after anchor x list) list may)
    ∙ ap (list_step list) (sym c.in-After.is)

pub returns-in_default-place_for-clause-list : goal.returns-in_default-place_for-clause-list
returns-in_default-place_for-clause-list c =
    let list = entries_of c.args.first.now c.args.nodes.now.items in
    let anchor = c.in-After.anchor in
    let x = c.in-After.element in
    let may : may_insert anchor x list ≡ false =
    place_where_it_may anchor x c.args.first.now c.args.nodes.now.items (get nat_eq c.args.slots.now) list
    c.requires.kept refl ∙ ap is_some (sym c.place_for.ensures ∙ c.in_default-place_for.is) in
    sym (cond-false (may_insert anchor x list) (insert_after anchor x list) list may)
    ∙ ap (list_step list) (sym c.in-After.is)
