use Rattle.std.proofs.Common.{refl}
use Rattle.ra_rga_elements.proofs.element_list.ElementList.marked_before.Goals as goal

pub is_before-requires-clause-there : goal.is_before-requires-clause-there
is_before-requires-clause-there c = ((c.in_ok-number.ensures c.in_ok-number.number).0 refl).0
