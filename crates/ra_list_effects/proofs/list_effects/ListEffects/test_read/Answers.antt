use Rattle.std.proofs.Common.{◌≡◌, sym, subst}
use Rattle.std.specs.Prelude.{IfOk}
use Rattle.std.specs.Result.{result_err}
use Rattle.ra_list_witness.specs.ListWitness.{view_at}
use Rattle.ra_labels.specs.declared.list_operation.ListOp.TheVariants as op
use Rattle.ra_list_effects.specs.Past.{cause_at}
use Rattle.ra_list_effects.specs.Effects.{AreEffectsOf}
use Rattle.ra_list_effects.proofs.JudgedReads.{read_right, read_wrong}
use Rattle.ra_list_effects.proofs.list_effects.ListEffects.test_read.Goals as goal
use Rattle.ra_list_effects.proofs.list_effects.ListEffects.test_read.Goals.{in-Some, in-None}

pub returns-clause-cause : goal.returns-clause-cause
returns-clause-cause c = λ past stands.
    let mine = subst (λ e. AreEffectsOf e past) (sym c.self.view_is) stands in
    let witness = c.self.inside.witness in
    let marks = (view_at witness.views c.args.replica).marks in
    elim c.match-branch-2.branch [
      | in-Some w ↦
          subst (λ r. IfOk r (λ tested. result_err tested ≡ cause_at past c.args.replica (op.Read c.args.list.now)))
          (sym w.result-is)
          (read_right witness.elements marks past c.args.replica c.args.list.now (mine.views c.args.replica)
          (rw w.in-Some.is at c.in_ok-listed.ensures.exactly))
      | in-None w ↦
          subst (λ r. IfOk r (λ tested. result_err tested ≡ cause_at past c.args.replica (op.Read c.args.list.now)))
          (sym w.result-is)
          (read_wrong witness.elements marks past c.args.replica c.args.list.now (mine.views c.args.replica)
          (rw w.in-None.is at c.in_ok-listed.ensures.exactly))
    ]
