use Rattle.std.proofs.Common.{ap, ◌∙◌, ◌++◌}
use Rattle.ra_seqspec.specs.Pairs.{identifiers_in_front}
use Rattle.ra_seqspec.proofs.PairKeys.{identifiers_found}
use Rattle.ra_seqspec.proofs.pairs.identifiers.Goals as goal

pub loop-pair-init : goal.loop-pair-init
loop-pair-init c =
    let x = c.args.element in
    record {
      list =
          ap (λ ids. ids ++ identifiers_in_front x c.into_iter-pair-iterator.result) c.new-ids.ensures.items
          ∙ ap (identifiers_in_front x)
          (c.into_iter-pair-iterator.ensures.into_iter_gives ∙ c.range-pair-items.ensures.between tt)
          ∙ identifiers_found x c.args.pairs.now.keys c.range-pair-items.ensures.ordered;
    }
