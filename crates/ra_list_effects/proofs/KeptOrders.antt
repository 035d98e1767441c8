-- An order of the kept elements, as an order of the past's.
use Rattle.std.proofs.Common.{ℕ, List, subst}
use Rattle.ra_labels.specs.Edges.{IsBefore, Extends}
use Rattle.ra_list_witness.specs.Named.{IsOrderOf}
use Rattle.ra_list_effects.specs.Past.{Past}
use Rattle.ra_list_effects.specs.Effects.{Effects, AreEffectsOf}

module _ (effects : Effects) (past : Past) (stands : AreEffectsOf effects past) where
  pub order_of_past : (order : List ℕ) → IsOrderOf order effects.witness.elements → IsOrderOf order past.whole.inserted
  order_of_past order is = (
    is.0,
    λ x. (
      (λ there. (stands.elements x).0 ((is.1 x).0 there)),
      (λ there. (is.1 x).1 ((stands.elements x).1 there)),
    ),
  )

  pub extends_past : (order : List ℕ) → Extends order effects.witness.edges → Extends order past.edges
  extends_past order extends = λ edge there.
      let (kept, found, before, after) = stands.has edge there in
      subst (λ a. IsBefore order a edge.after) before (subst (IsBefore order kept.before) after (extends kept found))
