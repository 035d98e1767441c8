use Rattle.std.proofs.Common.{refl}
use Rattle.std.proofs.lemmas.Bool.{false≢true}
use Rattle.std.proofs.lemmas.List.Sorted.{IsPermutation-refl}
use Rattle.ra_labels.specs.Linearization.{parts_in}
use Rattle.ra_theorems.specs.Worked.{read_and_incremented}
use Rattle.ra_theorems.proofs.worked.finals.visibility_leaves_a_read_and_a_later_increment_free.Goals as goal

pub returns-clause-one_by_visibility : goal.returns-clause-one_by_visibility
returns-clause-one_by_visibility c = record {
  each_part_once = IsPermutation-refl (parts_in read_and_incremented);
  visibility = refl;
  updates = refl;
  queries = refl;
  explained = refl;
}

pub returns-clause-none_by_the_replicas_order : goal.returns-clause-none_by_the_replicas_order
returns-clause-none_by_the_replicas_order c linearizes = false≢true linearizes.visibility
