use Rattle.std.proofs.Common.{◌++◌, ap, sym, ◌∙◌, subst, None}
use Rattle.ra_seqspec.specs.Pairs.{elements_above, IsRestOf}
use Rattle.ra_seqspec.proofs.DistinctElements.{all_elements, rest_at_first}
use Rattle.ra_seqspec.proofs.pairs.elements.Goals as goal

pub loop-element-init : goal.loop-element-init
loop-element-init c =
    let keys = c.args.pairs.now.keys in
    record {
      rest = subst (IsRestOf keys None) (sym (c.range-rest.ensures.between tt)) (rest_at_first keys);
      list = ap (λ xs. xs ++ elements_above None keys) c.new-list.ensures.items ∙ all_elements keys;
    }
