use Rattle.std.proofs.Common.{ap, arith}
use Rattle.std.proofs.lemmas.Result.{IfOk-weaker}
use Rattle.std.specs.Prelude.{nat_eq}
use Rattle.std.specs.HashMap.{get, hash_map_len}
use Rattle.ra_labels.proofs.Results.{on_ok, if_ok_on, on_err, on_err_any}
use Rattle.ra_witness.specs.Overriding.{write_at}
use Rattle.ra_witness.proofs.Lasts.{if_some_at}
use Rattle.ra_witness.proofs.CommutingKinds.{is_commuting, is_overriding, is_rga, not_rga-commuting, not_rga-overriding, told_there, can_tell, commuting_told, if_some_use}
use Rattle.ra_witness.proofs.DoneUpdates.{told_step}
use Rattle.ra_witness.proofs.SettledUpdates.{of_rga, settled_in, few_more, some_more, one_settled}
use Rattle.ra_witness.proofs.OverridingKinds.{writes_counted, told_write, can_bring, overriding_told, overriding_same}
use Rattle.ra_theorems.proofs.TheoremIndex.{delivered_are_updates-there}
use Rattle.ra_witness.proofs.effects.Effects.deliver.Goals as goal

pub deliver-requires-clause-label : goal.deliver-requires-clause-label
deliver-requires-clause-label c =
    let may = c.requires in
    let kept = c.in-Commuting.kept in
    let known = is_commuting c.args.self.now may.past may.stands kept c.in-Commuting.is in
    omega (arith, kept.updates.ok.0, told_there kept.updates.items kept.states.items may.past known.states c.args.replica c.args.label may.told)

pub deliver-requires-clause-can : goal.deliver-requires-clause-can
deliver-requires-clause-can c =
    let may = c.requires in
    let kept = c.in-Commuting.kept in
    let known = is_commuting c.args.self.now may.past may.stands kept c.in-Commuting.is in
    can_tell kept may.past c.args.replica c.args.label may.stands.few known may.told

pub returns-in-Commuting-clause-delivered : goal.returns-in-Commuting-clause-delivered
returns-in-Commuting-clause-delivered c = λ past stands told.
    let kept = c.in-Commuting.kept in
    let known = is_commuting c.args.self.now past stands kept c.in-Commuting.is in
    on_ok c.deliver.result c.deliver.ensures.states
    (commuting_told kept c.deliver.new.self past c.args.replica c.args.label stands.few known told c.deliver.ensures.updates)

pub deliver-requires-in-Overriding-clause-label : goal.deliver-requires-in-Overriding-clause-label
deliver-requires-in-Overriding-clause-label c =
    let may = c.requires in
    let kept = c.in-Overriding.kept in
    let known = is_overriding c.args.self.now may.past may.stands kept c.in-Overriding.is in
    omega (arith, kept.writes.ok.0, writes_counted kept may.past known, delivered_are_updates-there may.past.records c.args.label may.told.update)

pub deliver-requires-in-Overriding-clause-can : goal.deliver-requires-in-Overriding-clause-can
deliver-requires-in-Overriding-clause-can c =
    let may = c.requires in
    let kept = c.in-Overriding.kept in
    let known = is_overriding c.args.self.now may.past may.stands kept c.in-Overriding.is in
    let (write, found) = told_write kept may.past c.args.label known may.told.update in
    if_some_at (write_at kept.writes.items c.args.label) write _ found
    (can_bring kept may.past known c.args.replica c.args.label may.told write found may.stands.few)

pub returns-in_ok-deliver-in-Overriding-clause-delivered : goal.returns-in_ok-deliver-in-Overriding-clause-delivered
returns-in_ok-deliver-in-Overriding-clause-delivered c = λ past stands told.
    let kept = c.in-Overriding.kept in
    let known = is_overriding c.args.self.now past stands kept c.in-Overriding.is in
    let (write, found) = told_write kept past c.args.label known told.update in
    let left = c.in_ok-deliver-in-Overriding.ensures in
    record {
      few = stands.few;
      form = overriding_told kept past known c.args.replica c.args.label told write found c.deliver-in-Overriding.new.self left.writes left.numbers left.replicas
          (if_some_use (write_at kept.writes.items c.args.label) write _ found left.states) (if_some_use (write_at kept.writes.items c.args.label) write _ found left.lasts);
    }

pub returns-in_err-deliver-in-Overriding-clause-same : goal.returns-in_err-deliver-in-Overriding-clause-same
returns-in_err-deliver-in-Overriding-clause-same c = λ past stands.
    let kept = c.in-Overriding.kept in
    let new = c.deliver-in-Overriding.new.self in
    let known = is_overriding c.args.self.now past stands kept c.in-Overriding.is in
    let left = c.in_err-deliver-in-Overriding.ensures in
    on_err_any c.from_residual.result (record {
      few = stands.few;
      form = overriding_same kept new past known (ap (λ ws. ws.items) left.writes) left.same_states left.replicas left.same_lasts
          (λ x. ap (λ ns. get nat_eq ns.numbers x) left.numbers) (ap (λ ns. hash_map_len ns.numbers) left.numbers);
    })

pub returns-in-Rga-clause-delivered : goal.returns-in-Rga-clause-delivered
returns-in-Rga-clause-delivered c = λ past stands told.
    let known = is_rga c.args.self.now past stands c.in-Rga.kept c.in-Rga.is in
    if_ok_on c.deliver-in-Rga.result (c.deliver-in-Rga.ensures.delivered past.initial_replicas past.records known.1
    (of_rga past known.0 c.args.replica c.args.label told))
    (λ steps after. record { few = stands.few; form = (known.0, after.0) })

pub returns-in-Commuting-clause-settled : goal.returns-in-Commuting-clause-settled
returns-in-Commuting-clause-settled c = λ past stands told rga.
    let known = is_commuting c.args.self.now past stands c.in-Commuting.kept c.in-Commuting.is in
    absurd (not_rga-commuting past.kind known.one rga)

pub returns-in_ok-deliver-in-Overriding-clause-settled : goal.returns-in_ok-deliver-in-Overriding-clause-settled
returns-in_ok-deliver-in-Overriding-clause-settled c = λ past stands told rga.
    let known = is_overriding c.args.self.now past stands c.in-Overriding.kept c.in-Overriding.is in
    absurd (not_rga-overriding past.kind known.one rga)

pub returns-in-Rga-clause-settled : goal.returns-in-Rga-clause-settled
returns-in-Rga-clause-settled c = λ past stands told rga.
    settled_in _ c.args.self.now past stands c.in-Rga.kept c.in-Rga.is c.args.replica c.args.label told
    c.deliver-in-Rga.result c.deliver-in-Rga.ensures.delivered (λ steps settles. settles)

pub returns-in-Rga-clause-few_steps : goal.returns-in-Rga-clause-few_steps
returns-in-Rga-clause-few_steps c = λ past before behind it stands told is number.
    let rga = (is_rga c.args.self.now past stands c.in-Rga.kept c.in-Rga.is).0 in
    settled_in _ c.args.self.now past stands c.in-Rga.kept c.in-Rga.is c.args.replica c.args.label told
    c.deliver-in-Rga.result c.deliver-in-Rga.ensures.delivered
    (λ steps settles. few_more past c.args.replica c.args.label steps rga told settles before behind it is number)

pub returns-in-Rga-clause-same : goal.returns-in-Rga-clause-same
returns-in-Rga-clause-same c = λ past stands.
    let known = is_rga c.args.self.now past stands c.in-Rga.kept c.in-Rga.is in
    on_err c.deliver-in-Rga.result (c.deliver-in-Rga.ensures.same past.initial_replicas past.records known.1)
    (λ form. record { few = stands.few; form = (known.0, form) })

pub returns-in-Commuting-clause-some_step : goal.returns-in-Commuting-clause-some_step
returns-in-Commuting-clause-some_step c = λ past stands told none_waits.
    let kept = c.in-Commuting.kept in
    let known = is_commuting c.args.self.now past stands kept c.in-Commuting.is in
    IfOk-weaker c.deliver.result _ _ (λ steps is. omega (arith, is, told_step kept.updates.items past.records c.args.label known.states.labels told.update)) c.deliver.ensures.steps

pub returns-in-Rga-clause-some_step : goal.returns-in-Rga-clause-some_step
returns-in-Rga-clause-some_step c = λ past stands told none_waits.
    let rga = (is_rga c.args.self.now past stands c.in-Rga.kept c.in-Rga.is).0 in
    settled_in _ c.args.self.now past stands c.in-Rga.kept c.in-Rga.is c.args.replica c.args.label told
    c.deliver-in-Rga.result c.deliver-in-Rga.ensures.delivered
    (λ steps settles. some_more past c.args.replica c.args.label steps rga told settles none_waits)

pub returns-in-Commuting-clause-counted : goal.returns-in-Commuting-clause-counted
returns-in-Commuting-clause-counted c = λ past stands told other.
    let kept = c.in-Commuting.kept in
    let known = is_commuting c.args.self.now past stands kept c.in-Commuting.is in
    IfOk-weaker c.deliver.result _ _
    (λ steps is. omega (arith, is, told_step kept.updates.items past.records c.args.label known.states.labels told.update))
    c.deliver.ensures.steps

pub returns-in-Rga-clause-counted : goal.returns-in-Rga-clause-counted
returns-in-Rga-clause-counted c = λ past stands told other.
    absurd (other (is_rga c.args.self.now past stands c.in-Rga.kept c.in-Rga.is).0)

pub returns-in-Commuting-clause-one_step : goal.returns-in-Commuting-clause-one_step
returns-in-Commuting-clause-one_step c = λ past stands told none_waited none_waits.
    let kept = c.in-Commuting.kept in
    let known = is_commuting c.args.self.now past stands kept c.in-Commuting.is in
    IfOk-weaker c.deliver.result _ _ (λ steps is. omega (arith, is, told_step kept.updates.items past.records c.args.label known.states.labels told.update)) c.deliver.ensures.steps

pub returns-in-Rga-clause-one_step : goal.returns-in-Rga-clause-one_step
returns-in-Rga-clause-one_step c = λ past stands told none_waited none_waits.
    let rga = (is_rga c.args.self.now past stands c.in-Rga.kept c.in-Rga.is).0 in
    settled_in _ c.args.self.now past stands c.in-Rga.kept c.in-Rga.is c.args.replica c.args.label told
    c.deliver-in-Rga.result c.deliver-in-Rga.ensures.delivered
    (λ steps settles. one_settled past c.args.replica c.args.label steps rga told settles none_waited none_waits)
