use Rattle.ra_labels.specs.HistorySoFar.{replicas_of}
use Rattle.ra_labels.proofs.Results.{on_ok}
use Rattle.ra_witness.proofs.OfferedLabels.{may_join, is_joined, joined}
use Rattle.ra_witness.proofs.witness.Witness.join.Goals as goal

pub returns-clause-joined : goal.returns-clause-joined
returns-clause-joined g c = λ past stands accepted.
    let joins = is_joined g.O.LabelOrder.stands_for c.args.self.now past c.args.from stands accepted in
    on_ok c.join.result (c.join.ensures.joined past stands.kept joins)
    (joined g.O.LabelOrder.stands_for c.args.self.now _ past c.args.from stands accepted
    ((g.met.O.LabelOrder g.world.𝓛 g.world.𝓜 g.world.𝓡 ((λ s x. x), (λ x. x), (λ x. x), λ x. x)).keeps_joined c.args.self.now.order past (replicas_of past) c.args.from stands.order
    (may_join past c.args.from accepted).1))
