use Rattle.std.proofs.Common.{refl}
use Rattle.ra_labels.specs.declared.kind.Kind.TheVariants.{Counter}
use Rattle.ra_labels.specs.declared.reply.Cause.TheVariants.{Query}
use Rattle.ra_labels.specs.Fault.{fault_at}
use Rattle.ra_theorems.specs.Worked.{records_of_three, nothing_was_delivered}
use Rattle.ra_theorems.proofs.TheoremIndex.{violation_is_final, identifiers_unique-all}
use Rattle.ra_theorems.proofs.worked.finals.no_order_explains_what_was_read_too_soon.Goals as goal

pub returns-clause-none : goal.returns-clause-none
returns-clause-none c = violation_is_final Counter (records_of_three nothing_was_delivered) (fault_at 1 Query)
    refl (identifiers_unique-all Counter 3 nothing_was_delivered) refl
