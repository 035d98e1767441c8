use Rattle.std.proofs.Common.{reverse, refl}
use Rattle.std.proofs.lemmas.List.Sorted.{IsPermutation-reverse}
use Rattle.ra_labels.specs.declared.kind.Kind.TheVariants.{Register}
use Rattle.ra_labels.specs.Linearization.{parts_in, IsRaLinearization}
use Rattle.ra_theorems.specs.WorkedTimestamps.{records_that_fall}
use Rattle.ra_theorems.proofs.TheoremIndex.{final_excludes_linearization}
use Rattle.ra_theorems.proofs.worked.finals.another_order_explains_clocks_that_fall.Goals as goal

-- the other order is an RA-linearization
other : IsRaLinearization Register records_that_fall (reverse (parts_in records_that_fall))
other = record {
  each_part_once = IsPermutation-reverse (parts_in records_that_fall);
  visibility = refl;
  updates = refl;
  queries = refl;
  explained = refl;
}

pub returns-clause-other : goal.returns-clause-other
returns-clause-other c = other

pub returns-clause-not_final : goal.returns-clause-not_final
returns-clause-not_final c final =
    final_excludes_linearization Register records_that_fall 1 (reverse (parts_in records_that_fall)) final
    other
