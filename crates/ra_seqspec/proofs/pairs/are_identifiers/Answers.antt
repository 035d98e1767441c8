use Rattle.std.proofs.Common.{◌≡◌, ap, sym, ◌∙◌}
use Rattle.ra_labels.specs.Lists.{identifiers_of}
use Rattle.ra_seqspec.specs.Pairs.{identifiers_in_front}
use Rattle.ra_seqspec.proofs.PairKeys.{identifiers_found}
use Rattle.ra_seqspec.proofs.pairs.are_identifiers.Goals as goal

pub loop-pair-init : goal.loop-pair-init
loop-pair-init c =
    let found : identifiers_in_front c.args.element c.into_iter-pair-iterator.result
    ≡ identifiers_of c.args.element c.args.pairs.now.keys =
    ap (identifiers_in_front c.args.element)
    (c.into_iter-pair-iterator.ensures.into_iter_gives ∙ c.range-pair-items.ensures.between tt)
    ∙ identifiers_found c.args.element c.args.pairs.now.keys c.range-pair-items.ensures.ordered in
    record { same = ((λ is. is ∙ sym found), (λ is. is ∙ found)) }
