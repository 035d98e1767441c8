use Rattle.std.proofs.Common.{◌<◌, ◌∙◌, ap, subst, sym, arith}
use Rattle.std.specs.Prelude.{IsSome}
use Rattle.ra_list_order.specs.Chunks.{group_of_number}
use Rattle.ra_list_order.proofs.GroupNumbers.{some_number, number_says}
use Rattle.ra_list_order.proofs.groups.group_of.Goals as goal

some : (c : goal.After-number_at) → 0 < c.number_at.result
some c =
    some_number c.number_at.result
    (subst (λ m. IsSome (group_of_number m)) (sym c.number_at.ensures) c.requires)

pub overflow_sub-result : goal.overflow_sub-result
overflow_sub-result c = let low = some c in omega (arith, low)

pub returns : goal.returns
returns c = ap group_of_number (sym c.number_at.ensures) ∙ number_says c.number_at.result (some c)
