use Rattle.std.proofs.Common.{◌≡◌, true, ap, sym, ◌∙◌, subst}
use Rattle.std.specs.Prelude.{nat_eq, is_some}
use Rattle.std.proofs.lemmas.Bool.{false≢true}
use Rattle.std.specs.HashMap.{get}
use Rattle.ra_seqspec.specs.Rga.{may_insert, RgaListKept}
use Rattle.ra_seqspec.proofs.Nodes.{kept_same}
use Rattle.ra_seqspec.proofs.SeveralUpdates.{place_where_it_may}
use Rattle.ra_seqspec.proofs.rga.RgaList.insert_after.Goals as goal

pub returns-in_default-clause-done : goal.returns-in_default-clause-done
returns-in_default-clause-done c =
    sym (place_where_it_may c.args.anchor c.args.element c.self.inside.first c.self.inside.nodes.items
    (get nat_eq c.self.inside.slots) c.args.self.now c.self.invariant c.self.view_is
    ∙ ap is_some (sym c.place_for.ensures ∙ c.in_default.is))

pub returns-in_err-reserve-clause-memory : goal.returns-in_err-reserve-clause-memory
returns-in_err-reserve-clause-memory c none =
    let may : may_insert c.args.anchor c.args.element c.args.self.now ≡ true =
    place_where_it_may c.args.anchor c.args.element c.self.inside.first c.self.inside.nodes.items
    (get nat_eq c.self.inside.slots) c.args.self.now c.self.invariant c.self.view_is
    ∙ ap is_some (sym c.place_for.ensures ∙ c.in-Some.is) in
    absurd (false≢true (sym none ∙ may))

pub returns-in_err-reserve-2-clause-memory : goal.returns-in_err-reserve-2-clause-memory
returns-in_err-reserve-2-clause-memory c none =
    let may : may_insert c.args.anchor c.args.element c.args.self.now ≡ true =
    place_where_it_may c.args.anchor c.args.element c.self.inside.first c.self.inside.nodes.items
    (get nat_eq c.self.inside.slots) c.args.self.now c.self.invariant c.self.view_is
    ∙ ap is_some (sym c.place_for.ensures ∙ c.in-Some.is) in
    absurd (false≢true (sym none ∙ may))

pub invariant_of-self-in_err-reserve-2 : goal.invariant_of-self-in_err-reserve-2
invariant_of-self-in_err-reserve-2 c =
    subst (λ nodes. RgaListKept c.self.inside.first nodes (get nat_eq c.reserve-2.new.self)) (sym c.reserve.ensures.items)
    (kept_same c.self.inside.first c.self.inside.nodes.items _ (get nat_eq c.reserve-2.new.self) c.self.invariant
    (λ x. c.reserve-2.ensures.entries.2 x))

pub put-requires-clause-kept : goal.put-requires-clause-kept
put-requires-clause-kept c =
    subst (λ nodes. RgaListKept c.self.inside.first nodes (get nat_eq c.reserve-2.new.self)) (sym c.reserve.ensures.items)
    (kept_same c.self.inside.first c.self.inside.nodes.items _ (get nat_eq c.reserve-2.new.self) c.self.invariant
    (λ x. c.reserve-2.ensures.entries.2 x))

pub returns-clause-done : goal.returns-clause-done
returns-clause-done c =
    sym (place_where_it_may c.args.anchor c.args.element c.self.inside.first c.self.inside.nodes.items
    (get nat_eq c.self.inside.slots) c.args.self.now c.self.invariant c.self.view_is
    ∙ ap is_some (sym c.place_for.ensures ∙ c.in-Some.is))
