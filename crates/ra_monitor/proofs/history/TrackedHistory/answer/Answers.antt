use Rattle.std.proofs.Common.{sym, ap, ◌∙◌}
use Rattle.ra_labels.specs.Answer.{form_refusal}
use Rattle.ra_monitor.specs.History.{history_in}
use Rattle.ra_monitor.proofs.Answered.{answered_as, joins_as}
use Rattle.ra_monitor.proofs.history.TrackedHistory.answer.Goals as goal

pub operate-requires : goal.operate-requires
operate-requires c =
    let r = c.requires in record {
      past = history_in c.args.setup.now r.records;
      stands = r.stands;
      few = r.few;
      none = sym r.stands.fault ∙ c.in_default.is;
      misfit_is = c.fits-misfit.ensures ∙ ap (form_refusal c.args.setup.now.kind) c.in-Operate.is;
    }

pub deliver-requires : goal.deliver-requires
deliver-requires c =
    let r = c.requires in
    record { past = history_in c.args.setup.now r.records; stands = r.stands; none = sym r.stands.fault ∙ c.in_default.is }

pub join-requires : goal.join-requires
join-requires c =
    let r = c.requires in
    record { past = history_in c.args.setup.now r.records; stands = r.stands; none = sym r.stands.fault ∙ c.in_default.is }

pub returns-in-Operate-clause-taken : goal.returns-in-Operate-clause-taken
returns-in-Operate-clause-taken c = λ records stands.
    let past = history_in c.args.setup.now records in
    answered_as c.operate.result past _ _ c.in-Operate.is c.operate.new.self
    (c.operate.ensures.taken past stands (sym stands.fault ∙ c.in_default.is)
    (c.fits-misfit.ensures ∙ ap (form_refusal past.kind) c.in-Operate.is))

pub returns-in-Operate-clause-joins : goal.returns-in-Operate-clause-joins
returns-in-Operate-clause-joins c = λ records stands.
    let past = history_in c.args.setup.now records in
    joins_as c.operate.result past _ _ c.in-Operate.is
    (c.operate.ensures.joins past stands (sym stands.fault ∙ c.in_default.is)
    (c.fits-misfit.ensures ∙ ap (form_refusal past.kind) c.in-Operate.is))

pub returns-in-Deliver-clause-taken : goal.returns-in-Deliver-clause-taken
returns-in-Deliver-clause-taken c = λ records stands.
    let past = history_in c.args.setup.now records in
    answered_as c.deliver.result past _ _ c.in-Deliver.is c.deliver.new.self
    (c.deliver.ensures.taken past stands (sym stands.fault ∙ c.in_default.is))

pub returns-in-Deliver-clause-joins : goal.returns-in-Deliver-clause-joins
returns-in-Deliver-clause-joins c = λ records stands.
    let past = history_in c.args.setup.now records in
    joins_as c.deliver.result past _ _ c.in-Deliver.is
    (c.deliver.ensures.joins past stands (sym stands.fault ∙ c.in_default.is))

pub returns-in-Join-clause-taken : goal.returns-in-Join-clause-taken
returns-in-Join-clause-taken c = λ records stands.
    let past = history_in c.args.setup.now records in
    answered_as c.join.result past _ _ c.in-Join.is c.join.new.self
    (c.join.ensures.taken past stands (sym stands.fault ∙ c.in_default.is))

pub returns-in-Join-clause-joins : goal.returns-in-Join-clause-joins
returns-in-Join-clause-joins c = λ records stands.
    let past = history_in c.args.setup.now records in
    joins_as c.join.result past _ _ c.in-Join.is
    (c.join.ensures.joins past stands (sym stands.fault ∙ c.in_default.is))

-- a failed call leaves the history unchanged
pub returns-in-Operate-clause-err : goal.returns-in-Operate-clause-err
returns-in-Operate-clause-err c = λ records stands. c.operate.ensures.err (history_in c.args.setup.now records) stands

pub returns-in-Deliver-clause-err : goal.returns-in-Deliver-clause-err
returns-in-Deliver-clause-err c = λ records stands. c.deliver.ensures.err (history_in c.args.setup.now records) stands

pub returns-in-Join-clause-err : goal.returns-in-Join-clause-err
returns-in-Join-clause-err c = λ records stands. c.join.ensures.err (history_in c.args.setup.now records) stands
