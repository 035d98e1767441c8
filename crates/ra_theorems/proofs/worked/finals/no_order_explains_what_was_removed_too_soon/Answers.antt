use Rattle.std.proofs.Common.{[], refl}
use Rattle.ra_labels.specs.declared.kind.Kind.TheVariants.{OrSet}
use Rattle.ra_labels.specs.declared.reply.Cause.TheVariants.{Query}
use Rattle.ra_labels.specs.Fault.{fault_at}
use Rattle.ra_labels.specs.Answer.{records_after_all}
use Rattle.ra_theorems.specs.WorkedOrSets.{removed_unseen}
use Rattle.ra_theorems.proofs.TheoremIndex.{violation_is_final, identifiers_unique-all}
use Rattle.ra_theorems.proofs.worked.finals.no_order_explains_what_was_removed_too_soon.Goals as goal

pub returns-clause-none : goal.returns-clause-none
returns-clause-none c = violation_is_final OrSet (records_after_all OrSet 3 [] removed_unseen) (fault_at 1 Query)
    refl (identifiers_unique-all OrSet 3 removed_unseen) refl
