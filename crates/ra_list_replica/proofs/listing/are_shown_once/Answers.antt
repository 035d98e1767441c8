use Rattle.std.proofs.Common.{ap, ◌∙◌, sym, subst, take, arith, ◌≡◌, length, get_or, inl, inr}
use Rattle.std.proofs.lemmas.Bool.{cases_lt, eqb-true, eq-eqb}
use Rattle.std.proofs.lemmas.List.{take_all}
use Rattle.ra_list_replica.specs.declared.mark.Mark.TheVariants.{Shown}
use Rattle.ra_list_replica.specs.View.{mark_at}
use Rattle.ra_list_replica.specs.Listing.{AreShownInTurn, shown}
use Rattle.ra_list_replica.proofs.Turns.{in_turn_below, in_turn-at, restored, hidden_long}
use Rattle.ra_list_replica.proofs.listing.are_shown_once.Goals as goal

pub show-requires : goal.show-requires
show-requires c = λ n there.
    let old = c.args.marks.now in
    let first = take c.hide_shown-count.result c.args.numbers.now in
    let long : length c.hide_shown-count.new.marks ≡ length old =
    ap length c.hide_shown-count.ensures.hidden ∙ hidden_long old first in
    omega (arith, long, in_turn_below old first n c.hide_shown-count.ensures.shown there)

pub returns-clause-exactly : goal.returns-clause-exactly
returns-clause-exactly c =
    let old = c.args.marks.now in
    let numbers = c.args.numbers.now in
    let count = c.hide_shown-count.result in (
      (λ is.
          let whole : count ≡ length numbers = eqb-true count (length numbers) is in
          subst (AreShownInTurn old) (take_all count numbers (omega (arith, whole))) c.hide_shown-count.ensures.shown),
      (λ all. elim (cases_lt count (length numbers)) [
        | inl below ↦ absurd (c.hide_shown-count.ensures.last below
            (subst (λ ms. mark_at ms (get_or numbers count 0) ≡ Shown) (sym c.hide_shown-count.ensures.hidden)
            (in_turn-at old numbers count all below)))
        | inr past ↦ eq-eqb count (length numbers) (omega (arith, past, c.hide_shown-count.ensures.few))
      ]),
    )

pub returns-clause-same : goal.returns-clause-same
returns-clause-same c =
    let first = take c.hide_shown-count.result c.args.numbers.now in
    c.show.ensures ∙ ap (λ ms. shown ms first) c.hide_shown-count.ensures.hidden
    ∙ restored c.args.marks.now first c.hide_shown-count.ensures.shown
