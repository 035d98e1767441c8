use Rattle.std.proofs.Common.{arith}
use Rattle.ra_witness.proofs.OfferedLabels.{is_told, delivered}
use Rattle.ra_witness.proofs.witness.Witness.deliver.Goals as goal

pub deliver-requires : goal.deliver-requires
deliver-requires g c =
    let may = c.requires in record {
      past = may.past;
      stands = may.stands.kept;
      told = is_told g.O.LabelOrder.stands_for c.args.self.now may.past c.args.replica c.args.label may.stands may.accepted;
    }

pub returns-clause-delivered : goal.returns-clause-delivered
returns-clause-delivered g c = λ past stands accepted.
    let told = is_told g.O.LabelOrder.stands_for c.args.self.now past c.args.replica c.args.label stands accepted in
    delivered g.O.LabelOrder.stands_for c.args.self.now _ past c.args.replica c.args.label stands accepted
    ((g.met.O.LabelOrder g.world.𝓛 g.world.𝓜 g.world.𝓡 ((λ s x. x), (λ x. x), (λ x. x), λ x. x)).keeps c.args.self.now.order past c.args.replica c.args.label stands.order)
    (c.in_ok-steps.ensures.delivered past stands.kept told)

pub returns-clause-few_steps : goal.returns-clause-few_steps
returns-clause-few_steps g c = λ past before behind it stands accepted is number.
    let told = is_told g.O.LabelOrder.stands_for c.args.self.now past c.args.replica c.args.label stands accepted in
    let few = c.in_ok-steps.ensures.few_steps past before behind it stands.kept told is number in
    omega (arith, few, c.saturating_add-self.ensures)

pub returns-clause-some_step : goal.returns-clause-some_step
returns-clause-some_step g c = λ past stands accepted none_waits few.
    let told = is_told g.O.LabelOrder.stands_for c.args.self.now past c.args.replica c.args.label stands accepted in
    let some = c.in_ok-steps.ensures.some_step past stands.kept told none_waits in
    omega (arith, some, few, c.saturating_add-self.ensures)

pub returns-clause-one_each : goal.returns-clause-one_each
returns-clause-one_each g c = λ past before behind it stands accepted is number.
    let told = is_told g.O.LabelOrder.stands_for c.args.self.now past c.args.replica c.args.label stands accepted in
    let few = c.in_ok-steps.ensures.few_steps past before behind it stands.kept told is number in
    omega (arith, few, c.saturating_add-self.ensures)

pub returns-clause-counted : goal.returns-clause-counted
returns-clause-counted g c = λ past stands accepted other few.
    let told = is_told g.O.LabelOrder.stands_for c.args.self.now past c.args.replica c.args.label stands accepted in
    let one = c.in_ok-steps.ensures.counted past stands.kept told other in
    omega (arith, one, few, c.saturating_add-self.ensures)

pub returns-clause-one_step : goal.returns-clause-one_step
returns-clause-one_step g c = λ past stands accepted none_waited none_waits few.
    let told = is_told g.O.LabelOrder.stands_for c.args.self.now past c.args.replica c.args.label stands accepted in
    let one = c.in_ok-steps.ensures.one_step past stands.kept told none_waited none_waits in
    omega (arith, one, few, c.saturating_add-self.ensures)

pub returns-clause-settled : goal.returns-clause-settled
returns-clause-settled g c = λ past stands accepted rga.
    let told = is_told g.O.LabelOrder.stands_for c.args.self.now past c.args.replica c.args.label stands accepted in
    (c.in_ok-steps.steps, c.in_ok-steps.ensures.settled past stands.kept told rga, c.saturating_add-self.ensures)
