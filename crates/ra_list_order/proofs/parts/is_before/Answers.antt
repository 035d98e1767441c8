use Rattle.std.proofs.lemmas.Bool.{ltb-true}
use Rattle.ra_list_order.proofs.Befores.{before_by_places}
use Rattle.ra_list_order.proofs.parts.is_before.Goals as goal

pub returns : goal.returns
returns c = λ is. before_by_places c.args.elements.now c.position_of.result c.position_of-2.result c.args.one
    c.args.other
    (ltb-true c.position_of.result c.position_of-2.result is) c.position_of-2.ensures.within c.position_of.ensures.there
    c.position_of-2.ensures.there
