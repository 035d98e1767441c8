use Rattle.ra_list_replica.proofs.StoredNumbers.{has_number}
use Rattle.ra_list_replica.proofs.element_numbers.ElementNumbers.contains.Goals as goal

pub returns : goal.returns
returns c = rw c.is_some.ensures (has_number c.number_of.result c.args.self.now c.args.element c.number_of.ensures)
