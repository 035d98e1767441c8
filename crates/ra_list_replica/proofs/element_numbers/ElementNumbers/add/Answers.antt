use Rattle.std.proofs.Common.{◌++◌, ◌∷◌, [], ap, sym, ◌∙◌, subst, Some, arith}
use Rattle.std.specs.BTreeMap.{Updates}
use Rattle.std.specs.Ordering.{nat_cmp}
use Rattle.std.specs.Prelude.{Contains}
use Rattle.ra_list_replica.proofs.StoredNumbers.{stored_more}
use Rattle.ra_list_replica.proofs.element_numbers.ElementNumbers.add.Goals as goal

pub invariant_of-self-2 : goal.invariant_of-self-2
invariant_of-self-2 c =
    let xs = c.self.inside.elements.items in
    let x = c.args.element in
    stored_more c.self.inside.numbers c.insert.new.self xs c.push_reserved.new.self.items x c.self.invariant
    (subst (λ ys. ¬ Contains ys x) (sym c.self.view_is) c.requires.new) (subst (λ k. Updates nat_cmp c.self.inside.numbers c.insert.new.self x (Some k))
    (omega (arith, c.len.ensures, c.in_ok-reserve.ensures.len, c.self.inside.elements.ok.0)) c.in_ok-insert.ensures.updates)
    (c.push_reserved.ensures.items ∙ ap (λ ys. ys ++ x ∷ []) c.in_ok-reserve.ensures.items)
