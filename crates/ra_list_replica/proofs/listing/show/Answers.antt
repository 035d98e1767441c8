use Rattle.std.proofs.Common.{ap, ◌∙◌, sym, get_or, take, arith}
use Rattle.std.proofs.lemmas.List.{take_more}
use Rattle.std.proofs.lemmas.List.Elements.{Contains-get_or}
use Rattle.ra_list_replica.specs.Listing.{shown}
use Rattle.ra_list_replica.proofs.Turns.{shown-push}
use Rattle.ra_list_replica.proofs.listing.show.Goals as goal

pub bounds-marks-number : goal.bounds-marks-number
bounds-marks-number c =
    let there = c.requires (get_or c.args.numbers.now c.loop-number.number-index 0)
    (Contains-get_or c.args.numbers.now c.loop-number.number-index 0 c.loop-number-test.true) in
    omega (arith, there, c.loop-number.auto.marks)

pub loop-number-preserved : goal.loop-number-preserved
loop-number-preserved c =
    let numbers = c.args.numbers.now in
    let i = c.loop-number.number-index in
    rw c.loop-number.invariant (sym (ap (shown c.args.marks.now) (take_more numbers i 0 c.loop-number-test.true)
    ∙ shown-push c.args.marks.now (take i numbers) (get_or numbers i 0)))
