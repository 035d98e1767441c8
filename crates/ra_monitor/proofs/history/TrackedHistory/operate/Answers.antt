use Rattle.std.proofs.Common.{refl, sym, ◌∙◌}
use Rattle.std.proofs.lemmas.Result.{IfOk-weaker}
use Rattle.ra_labels.proofs.Results.{on_err_any}
use Rattle.ra_labels.specs.declared.command.Command.TheVariants.{Operate}
use Rattle.ra_labels.specs.HistorySoFar.{next_operation}
use Rattle.ra_monitor.proofs.NewRecords.{taken_known}
use Rattle.ra_monitor.proofs.Answered.{refused, accepted, joins}
use Rattle.ra_monitor.proofs.history.TrackedHistory.operate.Goals as goal

pub accept-requires : goal.accept-requires
accept-requires c =
    let r = c.requires in record {
      past = r.past;
      stands = r.stands;
      few = r.few;
      none = r.none;
      accepted = sym (c.refusal_of.ensures r.past (next_operation c.args.replica c.args.op.now c.args.clock)
          (taken_known c.args.self.now r.past r.stands r.none) r.stands.replicas refl r.misfit_is c.by-brought.ensures) ∙ c.in-None.is;
      brings = c.by-brought.ensures;
    }

pub returns-in-Some-clause-taken : goal.returns-in-Some-clause-taken
returns-in-Some-clause-taken c = λ past stands none misfit_is.
    let self = c.args.self.now in
    refused past none (Operate c.args.replica c.args.op.now c.args.clock) self c.in-Some.refusal
    (sym (c.refusal_of.ensures past (next_operation c.args.replica c.args.op.now c.args.clock)
    (taken_known self past stands none) stands.replicas refl misfit_is c.by-brought.ensures) ∙ c.in-Some.is) stands

pub returns-in-None-clause-taken : goal.returns-in-None-clause-taken
returns-in-None-clause-taken c = λ past stands none misfit_is.
    let self = c.args.self.now in
    let is = sym (c.refusal_of.ensures past (next_operation c.args.replica c.args.op.now c.args.clock)
    (taken_known self past stands none) stands.replicas refl misfit_is c.by-brought.ensures) ∙ c.in-None.is in
    IfOk-weaker c.accept.result _ _
    (λ reply answered. accepted past none (Operate c.args.replica c.args.op.now c.args.clock) c.accept.new.self reply refl
    is answered.0 answered.1)
    (c.accept.ensures.taken past stands none is)

pub returns-in-None-clause-joins : goal.returns-in-None-clause-joins
returns-in-None-clause-joins c = λ past stands none misfit_is.
    let self = c.args.self.now in
    on_err_any c.accept.result (joins past none (Operate c.args.replica c.args.op.now c.args.clock) refl
    (sym (c.refusal_of.ensures past (next_operation c.args.replica c.args.op.now c.args.clock)
    (taken_known self past stands none) stands.replicas refl misfit_is c.by-brought.ensures) ∙ c.in-None.is))
