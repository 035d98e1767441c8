use Rattle.std.proofs.Common.{◌≡◌, ap, rules}
use Rattle.std.specs.Prelude.{nat_eq}
use Rattle.std.specs.HashMap.{get}
use Rattle.ra_rga_elements.specs.ElementList.{ElementList}
use Rattle.ra_rga_elements.proofs.NewLists.{numbers_exactly}
use Rattle.ra_rga_elements.proofs.element_list.ElementList.number_of.Goals as goal

pub returns : goal.returns
returns c = λ n.
    let is : c.copied.result ≡ get nat_eq c.self.inside.numbers c.args.element = search rules in
    numbers_exactly _ _ _ _ _ c.self.invariant.numbers (ap (λ (l : ElementList). l.arrivals) c.self.view_is) is n
