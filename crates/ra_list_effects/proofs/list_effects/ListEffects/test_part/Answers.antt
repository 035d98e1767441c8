use Rattle.std.proofs.Common.{sym, subst}
use Rattle.ra_list_witness.specs.ListWitness.{view_at}
use Rattle.ra_list_effects.specs.Effects.{AreEffectsOf}
use Rattle.ra_list_effects.proofs.JudgedReads.{part_right, part_wrong}
use Rattle.ra_list_effects.proofs.list_effects.ListEffects.test_part.Goals as goal

pub returns-in_default-clause-cause : goal.returns-in_default-clause-cause
returns-in_default-clause-cause c = λ past stands.
    let mine = subst (λ e. AreEffectsOf e past) (sym c.self.view_is) stands in
    let witness = c.self.inside.witness in
    part_wrong witness.elements (view_at witness.views c.args.replica).marks past c.args.replica c.args.list.now
    (mine.views c.args.replica) (rw c.in_default.is at c.in_ok-part.ensures.exactly)

pub returns-clause-cause : goal.returns-clause-cause
returns-clause-cause c = λ past stands.
    let mine = subst (λ e. AreEffectsOf e past) (sym c.self.view_is) stands in
    let witness = c.self.inside.witness in
    part_right witness.elements (view_at witness.views c.args.replica).marks past c.args.replica c.args.list.now
    (mine.views c.args.replica) (rw c.in-Some.is at c.in_ok-part.ensures.exactly)
