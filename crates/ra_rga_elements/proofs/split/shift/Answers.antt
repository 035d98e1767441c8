use Rattle.std.proofs.Common.{ap, ◌∙◌, get_or, set, arith}
use Rattle.std.proofs.lemmas.List.{get_or_default}
use Rattle.std.proofs.lemmas.List.Edits.{map_over_more}
use Rattle.ra_rga_elements.specs.Groups.{shifted}
use Rattle.ra_rga_elements.proofs.split.shift.Goals as goal

pub loop-group-preserved : goal.loop-group-preserved
loop-group-preserved c =
    let all = c.args.places.now in
    let at = c.loop-group in
    let x = get_or at.places at.group 0 in
    ap (λ p. set at.places at.group p) c.shifted.ensures
    ∙ map_over_more (shifted c.args.at) all at.places at.group x (omega arith) at.invariant
    (get_or_default at.places at.group 0 x (omega arith))
