use Rattle.std.proofs.Common.{◌∙◌, ◌++◌, ◌∷◌, [], ap}
use Rattle.ra_any_order.specs.Reading.{order_condition}
use Rattle.ra_any_order.proofs.next_read.with_order.Goals as goal

pub returns : goal.returns
returns c =
    let old = c.args.conditions.items in
    let before = c.in_ok-extend_from_slice.ensures.items ∙ ap (λ xs. xs ++ c.args.newest.now) c.new-before.ensures.items in
    c.in_ok-push.ensures.items ∙ ap (λ o. old ++ o ∷ []) c.in_ok-order_condition.ensures
    ∙ ap (λ xs. old ++ order_condition xs c.args.previous c.args.read ∷ []) before
