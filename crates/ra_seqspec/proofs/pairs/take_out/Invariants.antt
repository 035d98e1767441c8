use Rattle.std.proofs.Common.{◌≡◌, take}
use Rattle.std.specs.BTreeSet.{IsOrdered}
use Rattle.ra_labels.specs.Lists.{pair_cmp, without_pairs}
use Rattle.ra_seqspec.proofs.pairs.take_out.Given as goal

abbrev pub invariant-loop-id : goal.invariant-loop-id
invariant-loop-id l = record {
  left : l.pairs.keys ≡ without_pairs l.element (take l.id-index l.ids) l.fn.pairs.keys;
  ordered : IsOrdered pair_cmp l.pairs;
}
