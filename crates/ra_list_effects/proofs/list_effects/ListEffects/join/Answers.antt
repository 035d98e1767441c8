use Rattle.std.proofs.Common.{sym, ap, subst, length}
use Rattle.ra_list_witness.specs.ListWitness.{mark_of}
use Rattle.ra_list_effects.specs.Effects.{AreEffectsOf}
use Rattle.ra_list_effects.proofs.AddedOperations.{same_past, after_join}
use Rattle.ra_list_effects.proofs.Outcomes.{on_ok, on_err}
use Rattle.ra_list_effects.proofs.list_effects.ListEffects.join.Goals as goal

pub returns-clause-joined : goal.returns-clause-joined
returns-clause-joined c = λ past stands.
    let mine = subst (λ e. AreEffectsOf e past) (sym c.self.view_is) stands in
    on_ok c.join.result _ _ (λ joined.
    after_join c.self.inside.witness c.join.new.self c.self.inside.changes.items past c.args.from mine c.join.ensures.same.0
    c.join.ensures.same.1 joined) c.join.ensures.joined

pub returns-clause-failed : goal.returns-clause-failed
returns-clause-failed c = λ past stands.
    let mine = subst (λ e. AreEffectsOf e past) (sym c.self.view_is) stands in
    on_err c.join.result _ _ (λ same.
    same_past c.self.inside.witness c.join.new.self c.self.inside.changes.items past mine c.join.ensures.same.0
    (record { as_many = ap length same; each = λ r n. ap (λ vs. mark_of vs r n) same }) c.join.ensures.same.1)
    c.join.ensures.failed
