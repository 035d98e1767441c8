use Rattle.std.proofs.Common.{ap}
use Rattle.ra_rga_elements.specs.ElementList.{Arrival, ElementList}
use Rattle.ra_rga_elements.proofs.ElementNumbers.{known_as, read_as}
use Rattle.ra_rga_elements.proofs.AnchoredElements.{anchor_behind}
use Rattle.ra_rga_elements.proofs.element_list.ElementList.anchor.Goals as goal

pub returns-clause-behind : goal.returns-clause-behind
returns-clause-behind c = λ some all same.
    let arrived = ap (λ (l : ElementList). l.arrivals) c.self.view_is in
    anchor_behind _ _ _ _ _ _ c.self.invariant.numbers c.self.invariant.chunks_kept some
    (known_as _ _ _ arrived c.requires) _ _ (ap (λ (l : ElementList). l.elements) c.self.view_is)
    arrived all same

pub returns-clause-anchor : goal.returns-clause-anchor
returns-clause-anchor c = ap (λ (a : Arrival). a.anchor) (read_as c.self.inside.elements.items _ _ _
    (ap (λ (l : ElementList). l.arrivals) c.self.view_is) c.requires c.index.ensures)
