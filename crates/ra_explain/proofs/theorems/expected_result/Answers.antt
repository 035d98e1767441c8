use Rattle.std.proofs.Common.{Some, ap}
use Rattle.std.specs.Prelude.{option_map, if◌then◌else◌}
use Rattle.ra_labels.specs.declared.operation.Query.TheVariants as query
use Rattle.ra_labels.specs.declared.list_operation.ListQuery.TheVariants as question
use Rattle.ra_labels.specs.FreeList.{shown_in}
use Rattle.ra_explain.specs.Expected.{asking}
use Rattle.ra_explain.proofs.theorems.expected_result.Goals as goal

pub returns-clause-list : goal.returns-clause-list
returns-clause-list c state told wrong =
    ap (λ b. option_map asking (option_map query.List
    (if b then Some (question.Read told) else Some (question.Read (shown_in state))))) wrong
