use Rattle.std.proofs.Common.{None, Some, sym, subst}
use Rattle.ra_list_witness.specs.ListWitness.{view_at}
use Rattle.ra_list_effects.specs.Effects.{AreEffectsOf}
use Rattle.ra_list_effects.proofs.JudgedOperations.{insertion_judged}
use Rattle.ra_list_effects.proofs.list_effects.ListEffects.test_insertion.Goals as goal

pub returns-in-Ok-clause-cause : goal.returns-in-Ok-clause-cause
returns-in-Ok-clause-cause c = λ past stands.
    let mine = subst (λ e. AreEffectsOf e past) (sym c.self.view_is) stands in
    let witness = c.self.inside.witness in
    insertion_judged witness.elements (view_at witness.views c.args.replica).marks past c.args.replica c.args.insertion
    None mine.elements (mine.views c.args.replica) c.in-Ok.ensures.cause

pub returns-in-Err-clause-cause : goal.returns-in-Err-clause-cause
returns-in-Err-clause-cause c = λ past stands.
    let mine = subst (λ e. AreEffectsOf e past) (sym c.self.view_is) stands in
    let witness = c.self.inside.witness in
    insertion_judged witness.elements (view_at witness.views c.args.replica).marks past c.args.replica c.args.insertion
    (Some c.in-Err.cause) mine.elements (mine.views c.args.replica) c.in-Err.ensures.cause
