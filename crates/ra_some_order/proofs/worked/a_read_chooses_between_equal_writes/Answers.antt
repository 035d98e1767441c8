use Rattle.std.proofs.Common.{[], ◌∷◌, refl}
use Rattle.ra_labels.specs.declared.kind.Kind.TheVariants.{Register}
use Rattle.ra_some_order.specs.Worked.{two_of_one_value, three_reads}
use Rattle.ra_some_order.proofs.WorkedTests.{explained_by, excluded_by}
use Rattle.ra_some_order.proofs.worked.a_read_chooses_between_equal_writes.Goals as goal

pub returns-clause-chosen : goal.returns-clause-chosen
returns-clause-chosen c = explained_by Register two_of_one_value (0 ∷ 2 ∷ 1 ∷ []) refl refl refl refl refl

pub returns-clause-none : goal.returns-clause-none
returns-clause-none c = excluded_by Register three_reads (0 ∷ 1 ∷ 2 ∷ []) refl refl
