use Rattle.std.proofs.Common.{subst}
use Rattle.std.specs.BTreeMap.{get}
use Rattle.std.specs.Ordering.{nat_cmp}
use Rattle.ra_list_replica.specs.Numbers.{HasOneNumberEach}
use Rattle.ra_list_replica.proofs.StoredNumbers.{one_number}
use Rattle.ra_list_replica.proofs.element_numbers.ElementNumbers.invariant.Goals as goal

pub returns : goal.returns
returns c = subst HasOneNumberEach c.self.view_is
    (one_number (get nat_cmp c.self.inside.numbers) c.self.inside.elements.items c.self.invariant)
