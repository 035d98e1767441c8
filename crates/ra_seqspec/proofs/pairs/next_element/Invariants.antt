use Rattle.ra_seqspec.specs.Pairs.{IsRestOf}
use Rattle.ra_seqspec.proofs.pairs.next_element.Given as goal

abbrev pub invariant-loop : goal.invariant-loop
invariant-loop l = record {
  can : (goal.iterator-loop).can_next l.rest;
  ends : (goal.iterator-loop).is_finite l.rest;
  rest : IsRestOf l.pairs.keys l.last l.rest;
}

abbrev pub invariant-loop-pair : goal.invariant-loop-pair
invariant-loop-pair l = record {
  can : (goal.iterator-loop-pair).can_next l.rest;
  ends : (goal.iterator-loop-pair).is_finite l.rest;
  rest : IsRestOf l.pairs.keys l.last l.rest;
}
