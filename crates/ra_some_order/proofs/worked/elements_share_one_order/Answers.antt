use Rattle.std.proofs.Common.{[], ◌∷◌, refl}
use Rattle.ra_labels.specs.declared.kind.Kind.TheVariants.{LwwSet}
use Rattle.ra_some_order.specs.Worked.{crossed}
use Rattle.ra_some_order.proofs.WorkedTests.{explained_by, excluded_by}
use Rattle.ra_some_order.proofs.worked.elements_share_one_order.Goals as goal

pub returns-clause-one : goal.returns-clause-one
returns-clause-one c = explained_by LwwSet (crossed (4 ∷ [])) (2 ∷ 3 ∷ 0 ∷ 1 ∷ []) refl refl refl refl refl

pub returns-clause-both : goal.returns-clause-both
returns-clause-both c = excluded_by LwwSet (crossed (4 ∷ 5 ∷ [])) (0 ∷ 1 ∷ 2 ∷ 3 ∷ []) refl refl
