use Rattle.std.proofs.Common.{sym, subst}
use Rattle.ra_list_effects.specs.Effects.{AreEffectsOf}
use Rattle.ra_list_effects.proofs.AddedOperations.{effects_of}
use Rattle.ra_list_effects.proofs.KeptOrders.{order_of_past, extends_past}
use Rattle.ra_list_effects.proofs.list_effects.ListEffects.invariant.Goals as goal

pub returns : goal.returns
returns c = λ past stands.
    let mine = subst (λ e. AreEffectsOf e past) (sym c.self.view_is) stands in
    let effects = effects_of c.self.inside.witness c.self.inside.changes.items in
    let (order, whole, extends) = c.invariant.ensures in
    (order, order_of_past effects past mine order whole, extends_past effects past mine order extends)
