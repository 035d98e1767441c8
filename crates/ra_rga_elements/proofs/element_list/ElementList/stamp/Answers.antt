use Rattle.std.proofs.Common.{ap}
use Rattle.ra_rga_elements.specs.ElementList.{Arrival, ElementList}
use Rattle.ra_rga_elements.proofs.ElementNumbers.{read_as}
use Rattle.ra_rga_elements.proofs.element_list.ElementList.stamp.Goals as goal

pub returns : goal.returns
returns c = ap (λ (a : Arrival). a.stamp) (read_as c.self.inside.elements.items _ _ _
    (ap (λ (l : ElementList). l.arrivals) c.self.view_is) c.requires c.index.ensures)
