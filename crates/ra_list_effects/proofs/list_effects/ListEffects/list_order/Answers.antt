use Rattle.std.proofs.Common.{sym, subst}
use Rattle.std.proofs.lemmas.Result.{IfOk-weaker}
use Rattle.ra_list_effects.specs.Effects.{AreEffectsOf}
use Rattle.ra_list_effects.proofs.AddedOperations.{effects_of}
use Rattle.ra_list_effects.proofs.KeptOrders.{order_of_past, extends_past}
use Rattle.ra_list_effects.proofs.list_effects.ListEffects.list_order.Goals as goal

pub returns-clause-whole : goal.returns-clause-whole
returns-clause-whole c = λ past stands.
    let mine = subst (λ e. AreEffectsOf e past) (sym c.self.view_is) stands in
    let effects = effects_of c.self.inside.witness c.self.inside.changes.items in
    IfOk-weaker c.list_order.result _ _ (λ order whole. order_of_past effects past mine order.items whole)
    c.list_order.ensures.whole

pub returns-clause-extends : goal.returns-clause-extends
returns-clause-extends c = λ past stands.
    let mine = subst (λ e. AreEffectsOf e past) (sym c.self.view_is) stands in
    let effects = effects_of c.self.inside.witness c.self.inside.changes.items in
    IfOk-weaker c.list_order.result _ _ (λ order extends. extends_past effects past mine order.items extends)
    c.list_order.ensures.extends
