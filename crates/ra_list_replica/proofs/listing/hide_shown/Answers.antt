use Rattle.std.proofs.Common.{ap, ◌∙◌, sym, subst, get_or, take, arith, ◌≡◌}
use Rattle.std.proofs.lemmas.List.{take_more}
use Rattle.ra_list_replica.specs.declared.mark.Mark.TheVariants.{Shown}
use Rattle.ra_list_replica.specs.View.{mark_at}
use Rattle.ra_list_replica.specs.Listing.{AreShownInTurn, hidden}
use Rattle.ra_list_replica.proofs.Turns.{hidden-push, in_turn-push, shown_below}
use Rattle.ra_list_replica.proofs.listing.hide_shown.Goals as goal

pub bounds-marks-number : goal.bounds-marks-number
bounds-marks-number c = shown_below c.loop-number.marks _ (c.is_shown.ensures.0 c.if-not-is_shown.false)

pub loop-number-preserved : goal.loop-number-preserved
loop-number-preserved c =
    let numbers = c.args.numbers.now in
    let old = c.args.marks.now in
    let i = c.loop-number.number-index in
    let n = get_or numbers i 0 in
    let more = take_more numbers i 0 c.loop-number-test.true in
    let known = c.loop-number.invariant in
    record {
      count = omega arith;
      hidden = rw known.hidden (sym (ap (hidden old) more ∙ hidden-push old (take i numbers) n));
      shown = subst (AreShownInTurn old) (sym more) (in_turn-push old (take i numbers) n known.shown
          (subst (λ ms. mark_at ms n ≡ Shown) known.hidden (c.is_shown.ensures.0 c.if-not-is_shown.false)));
    }
