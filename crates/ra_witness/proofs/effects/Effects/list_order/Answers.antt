use Rattle.ra_witness.proofs.CommutingKinds.{is_list}
use Rattle.ra_witness.proofs.effects.Effects.list_order.Goals as goal

pub returns-in_ok-list_order-in-List : goal.returns-in_ok-list_order-in-List
returns-in_ok-list_order-in-List c = λ past stands.
    let known = is_list c.args.self.now past stands c.in-List.kept c.in-List.is in
    (known.0, c.in_ok-list_order-in-List.ensures past.initial_replicas past.records known.1)
