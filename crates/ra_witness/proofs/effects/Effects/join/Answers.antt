use Rattle.ra_labels.proofs.Results.{on_ok}
use Rattle.ra_witness.proofs.CommutingKinds.{is_commuting, is_overriding, on_ok_two}
use Rattle.ra_witness.proofs.Joins.{commuting_joined, overriding_joined}
use Rattle.ra_witness.proofs.effects.Effects.join.Goals as goal

pub returns-in-Commuting-clause-joined : goal.returns-in-Commuting-clause-joined
returns-in-Commuting-clause-joined c = λ past stands joins.
    let kept = c.in-Commuting.kept in
    let known = is_commuting c.args.self.now past stands kept c.in-Commuting.is in
    on_ok c.join.result c.join.ensures.states (λ states. record {
      few = stands.few;
      form = commuting_joined kept c.join.new.self past c.args.from known joins c.join.ensures.updates states;
    })

pub returns-in-Overriding-clause-joined : goal.returns-in-Overriding-clause-joined
returns-in-Overriding-clause-joined c = λ past stands joins.
    let kept = c.in-Overriding.kept in
    let known = is_overriding c.args.self.now past stands kept c.in-Overriding.is in
    let left = c.join-in-Overriding.ensures in
    on_ok_two c.join-in-Overriding.result left.states left.lasts (λ states lasts. record {
      few = stands.few;
      form = overriding_joined kept c.join-in-Overriding.new.self past c.args.from known joins left.writes left.numbers states lasts;
    })
