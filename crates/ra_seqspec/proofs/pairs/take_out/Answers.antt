use Rattle.std.proofs.Common.{take, get_or, ap, sym, ◌∙◌, subst}
use Rattle.std.specs.BTreeMap.{is_at}
use Rattle.std.specs.List.Sorted.{IsStrictlySortedBy}
use Rattle.std.specs.Set.{remove_key}
use Rattle.std.proofs.lemmas.List.{take_more}
use Rattle.ra_labels.specs.Lists.{pair_cmp, without_pairs}
use Rattle.ra_seqspec.proofs.PairKeys.{taken_out_more, without_none}
use Rattle.ra_seqspec.proofs.pairs.take_out.Goals as goal

pub loop-id-init : goal.loop-id-init
loop-id-init c = record { left = sym (without_none c.args.element c.args.pairs.now.keys); ordered = c.requires }

pub loop-id-preserved : goal.loop-id-preserved
loop-id-preserved c =
    let id = get_or c.args.ids.now c.loop-id.id-index 0 in
    let before = take c.loop-id.id-index c.args.ids.now in
    record {
      left =
          c.remove.ensures.keys
          ∙ ap (remove_key (is_at (pair_cmp (c.args.element, id)))) c.loop-id.invariant.left
          ∙ taken_out_more c.args.element id before c.args.pairs.now.keys
          (subst (IsStrictlySortedBy pair_cmp) c.loop-id.invariant.left c.loop-id.invariant.ordered)
          ∙ ap (λ ids. without_pairs c.args.element ids c.args.pairs.now.keys)
          (sym (take_more c.args.ids.now c.loop-id.id-index 0 c.loop-id-test.true));
      ordered = c.remove.ensures.ordered;
    }
