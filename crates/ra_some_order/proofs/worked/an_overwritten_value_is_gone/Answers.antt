use Rattle.std.proofs.Common.{[], ◌∷◌, refl}
use Rattle.ra_labels.specs.declared.kind.Kind.TheVariants.{Register}
use Rattle.ra_some_order.specs.Worked.{overwritten}
use Rattle.ra_some_order.proofs.WorkedTests.{explained_by, excluded_by}
use Rattle.ra_some_order.proofs.worked.an_overwritten_value_is_gone.Goals as goal

pub returns-clause-newer : goal.returns-clause-newer
returns-clause-newer c = explained_by Register (overwritten 9) (0 ∷ 1 ∷ []) refl refl refl refl refl

pub returns-clause-older : goal.returns-clause-older
returns-clause-older c = excluded_by Register (overwritten 7) (0 ∷ 1 ∷ []) refl refl
