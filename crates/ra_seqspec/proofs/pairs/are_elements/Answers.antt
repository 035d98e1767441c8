use Rattle.std.proofs.Common.{sym, ◌∙◌, subst, None}
use Rattle.ra_seqspec.specs.Pairs.{IsRestOf}
use Rattle.ra_seqspec.proofs.DistinctElements.{all_elements, rest_at_first}
use Rattle.ra_seqspec.proofs.pairs.are_elements.Goals as goal

pub loop-element-init : goal.loop-element-init
loop-element-init c =
    let keys = c.args.pairs.now.keys in
    record {
      rest = subst (IsRestOf keys None) (sym (c.range-rest.ensures.between tt)) (rest_at_first keys);
      same = ((λ is. is ∙ sym (all_elements keys)), (λ is. is ∙ all_elements keys));
    }
