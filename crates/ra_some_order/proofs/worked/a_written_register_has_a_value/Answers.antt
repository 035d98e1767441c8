use Rattle.std.proofs.Common.{refl, arith}
use Rattle.ra_labels.specs.declared.kind.Kind.TheVariants.{Register}
use Rattle.ra_some_order.specs.Worked.{read_of_nothing}
use Rattle.ra_some_order.proofs.Linearizations.{plain_final}
use Rattle.ra_some_order.proofs.worked.a_written_register_has_a_value.Goals as goal

pub returns : goal.returns
returns c =
    plain_final Register read_of_nothing refl
    (λ possible. possible _ (0, omega arith, refl) 7 (_, (0, omega arith, refl), refl))
