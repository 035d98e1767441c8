use Rattle.std.proofs.Common.{Result, Ok, Err, sym, subst}
use Rattle.std.specs.Prelude.{Contains, OnOk}
use Rattle.std.proofs.lemmas.List.Sorted.{Contains-permutation}
use Rattle.ra_list_edges.proofs.PlacedElements.{kept_in_turn, only_in_turn}
use Rattle.ra_list_edges.proofs.placing.add_insertion.Goals as goal

on_ok_any : {T E : Type 0} {P : Type 0} (r : Result T E) → P → OnOk r P
on_ok_any (Ok x) p = p
on_ok_any (Err e) p = tt

pub returns-then-not-matches-clause-kept : goal.returns-then-not-matches-clause-kept
returns-then-not-matches-clause-kept c = λ x there.
    subst (λ xs. Contains xs x) (sym c.keep_edges.ensures.order)
    (kept_in_turn _ _ _ c.in_ok-place.ensures.kept c.add_placed-added.ensures.elements x there)

pub returns-then-not-matches-clause-only : goal.returns-then-not-matches-clause-only
returns-then-not-matches-clause-only c = λ x there.
    only_in_turn c.args.order.now.order _ _ c.args.placement.element c.in_ok-place.ensures.only
    c.add_placed-added.ensures.elements x (subst (λ xs. Contains xs x) c.keep_edges.ensures.order there)

pub returns-then-not-matches-clause-there : goal.returns-then-not-matches-clause-there
returns-then-not-matches-clause-there c = on_ok_any c.add_placed-added.result
    (subst (λ xs. Contains xs c.args.placement.element) (sym c.keep_edges.ensures.order)
    (Contains-permutation _ _ c.args.placement.element c.add_placed-added.ensures.elements c.in_ok-place.ensures.there))

pub returns-else-not-matches-clause-kept : goal.returns-else-not-matches-clause-kept
returns-else-not-matches-clause-kept c =
    kept_in_turn _ _ _ c.in_ok-place.ensures.kept c.add_placed-added.ensures.elements

pub returns-else-not-matches-clause-only : goal.returns-else-not-matches-clause-only
returns-else-not-matches-clause-only c =
    only_in_turn c.args.order.now.order _ _ c.args.placement.element c.in_ok-place.ensures.only
    c.add_placed-added.ensures.elements

pub returns-else-not-matches-clause-there : goal.returns-else-not-matches-clause-there
returns-else-not-matches-clause-there c = on_ok_any c.add_placed-added.result
    (Contains-permutation _ _ c.args.placement.element c.add_placed-added.ensures.elements c.in_ok-place.ensures.there)
