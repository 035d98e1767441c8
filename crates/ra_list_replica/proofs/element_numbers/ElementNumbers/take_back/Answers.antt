use Rattle.std.proofs.Common.{ap, ◌-◌, ◌∙◌, take}
use Rattle.ra_list_replica.proofs.StoredNumbers.{stored_less}
use Rattle.ra_list_replica.proofs.element_numbers.ElementNumbers.take_back.Goals as goal

pub invariant_of-self : goal.invariant_of-self
invariant_of-self c =
    let xs = c.self.inside.elements.items in
    stored_less c.self.inside.numbers c.remove.new.self xs c.pop.new.self.items c.in-Some.element c.self.invariant
    c.in-Some.ensures.items (c.pop.ensures.rest ∙ ap (λ n. take (n - 1) xs) c.self.inside.elements.ok.0)
    c.remove.ensures.updates
