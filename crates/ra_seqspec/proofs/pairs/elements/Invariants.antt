use Rattle.std.proofs.Common.{◌≡◌, ◌++◌, length}
use Rattle.ra_seqspec.specs.Pairs.{distinct_elements, elements_above, IsRestOf}
use Rattle.ra_seqspec.proofs.pairs.elements.Given as goal

abbrev pub invariant-loop-element : goal.invariant-loop-element
invariant-loop-element l = record {
  rest : IsRestOf l.pairs.keys l.last l.rest;
  list : l.list.items ++ elements_above l.last l.pairs.keys ≡ distinct_elements l.pairs.keys;
}

abbrev pub decreases-loop-element : goal.decreases-loop-element
decreases-loop-element l = length (elements_above l.last l.pairs.keys)
