use Rattle.std.proofs.Common.{◌≡◌, true, false, get_or, subst, arith}
use Rattle.std.proofs.lemmas.List.Elements.{Contains-get_or}
use Rattle.ra_rga_precedence.proofs.Places.{place_of}
use Rattle.ra_rga_precedence.proofs.marks.unmarked_label.Goals as goal

pub bounds-marks-label : goal.bounds-marks-label
bounds-marks-label c =
    let i = c.loop-label.label-index in
    c.requires (get_or c.args.labels.now i 0) (Contains-get_or c.args.labels.now i 0 c.loop-label-test.true)

pub returns : goal.returns
returns c = λ m there.
    let (i, at) = place_of c.args.labels.now m there in
    let within = at.within in
    let test = c.loop-label-test.false in
    subst (λ k. get_or c.args.marks.now k false ≡ true) at.here (c.loop-label.invariant i (omega (arith, within, test)))
