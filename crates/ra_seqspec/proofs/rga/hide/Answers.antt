use Rattle.std.proofs.Common.{◌≡◌, Some, None, refl, sym, rules}
use Rattle.std.specs.Prelude.{nat_eq}
use Rattle.std.specs.HashMap.{get}
use Rattle.ra_seqspec.specs.Rga.{entries_of}
use Rattle.ra_seqspec.proofs.HiddenNodes.{hiding_kept, hiding_entries, hides, hides_none}
use Rattle.ra_seqspec.proofs.rga.hide.Goals as goal

pub hide_node-requires : goal.hide_node-requires
hide_node-requires c =
    let some : get nat_eq c.args.slots.now c.args.element ≡ Some c.in-Some.slot.now = search rules in
    (c.requires.1.there c.args.element c.in-Some.slot.now some).0

pub returns-in-Some-clause-done : goal.returns-in-Some-clause-done
returns-in-Some-clause-done c = λ first kept.
    let some : get nat_eq c.args.slots.now c.args.element ≡ Some c.in-Some.slot.now = search rules in
    sym (hides c.args.element first c.args.nodes.now.items (get nat_eq c.args.slots.now)
    (entries_of first c.args.nodes.now.items) c.in-Some.slot.now kept refl some c.if-element-eq-ROOT.false)

pub returns-in-Some-clause-list : goal.returns-in-Some-clause-list
returns-in-Some-clause-list c = λ first kept.
    let some : get nat_eq c.args.slots.now c.args.element ≡ Some c.in-Some.slot.now = search rules in
    rw c.hide_node.ensures.nodes
    (hiding_entries first c.in-Some.slot.now c.args.nodes.now.items (get nat_eq c.args.slots.now) c.args.element kept
    some)

pub returns-in-Some-clause-kept : goal.returns-in-Some-clause-kept
returns-in-Some-clause-kept c = λ first kept.
    let some : get nat_eq c.args.slots.now c.args.element ≡ Some c.in-Some.slot.now = search rules in
    rw c.hide_node.ensures.nodes
    (hiding_kept first c.in-Some.slot.now c.args.nodes.now.items (get nat_eq c.args.slots.now) kept
    (kept.there c.args.element c.in-Some.slot.now some).0)

pub returns-in-None-clause-done : goal.returns-in-None-clause-done
returns-in-None-clause-done c = λ first kept.
    let none : get nat_eq c.args.slots.now c.args.element ≡ None = search rules in
    sym (hides_none c.args.element first c.args.nodes.now.items (get nat_eq c.args.slots.now)
    (entries_of first c.args.nodes.now.items) kept refl none)
