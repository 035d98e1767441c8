use Rattle.std.proofs.Common.{refl}
use Rattle.std.proofs.lemmas.List.Sorted.{IsPermutation-refl, IsPermutation-reverse}
use Rattle.ra_labels.specs.Linearization.{parts_in}
use Rattle.ra_theorems.specs.Worked.{two_increments}
use Rattle.ra_theorems.proofs.worked.finals.two_unseen_increments_stand_in_either_order.Goals as goal

pub returns-clause-newest_first : goal.returns-clause-newest_first
returns-clause-newest_first c = record {
  each_once = IsPermutation-refl (parts_in two_increments);
  visibility = refl;
}

pub returns-clause-oldest_first : goal.returns-clause-oldest_first
returns-clause-oldest_first c = record {
  each_once = IsPermutation-reverse (parts_in two_increments);
  visibility = refl;
}

pub returns-clause-first_alone : goal.returns-clause-first_alone
returns-clause-first_alone c = record {
  each_once = IsPermutation-refl _;
  visibility = refl;
}
