use Rattle.std.proofs.Common.{◌≡◌, ◌++◌}
use Rattle.ra_labels.specs.Lists.{identifiers_of}
use Rattle.ra_seqspec.specs.Pairs.{identifiers_in_front}
use Rattle.ra_seqspec.proofs.pairs.identifiers.Given as goal

abbrev pub invariant-loop-pair : goal.invariant-loop-pair
invariant-loop-pair l = record {
  list : l.ids.items ++ identifiers_in_front l.element l.pair-iterator ≡ identifiers_of l.element l.pairs.keys;
}
