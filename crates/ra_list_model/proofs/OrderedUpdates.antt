-- An order decides the steps of several updates.
use Rattle.std.proofs.Common.{◌≡◌, ◌↔◌, ℕ, List, [], ◌∷◌, ◌++◌, Option, Some, None, refl, sym, ap, ◌∙◌, inl, inr}
use Rattle.std.proofs.lemmas.Option.{none-some}
use Rattle.std.proofs.lemmas.List.Elements.{Contains-append_left, Contains-append_right, Contains-append_cases}
use Rattle.ra_labels.specs.declared.edge.Edge.{Edge}
use Rattle.ra_labels.specs.Edges.{Extends}
use Rattle.ra_labels.specs.declared.list_operation.ListUpdate.{ListUpdate}
use Rattle.ra_labels.specs.ListOperations.{edges_of_update, edges_of_updates}
use Rattle.ra_labels.specs.FreeList.{ListState, empty_list, list_step, list_state_from, list_state_after}
use Rattle.ra_list_model.specs.Ordered.{list_step_at, list_state_at_from, list_state_at}
use Rattle.ra_list_model.specs.Kept.{updates_in}
use Rattle.ra_list_model.proofs.AnsweredQueries.{no_edges}
use Rattle.ra_list_model.proofs.BetweenNeighbors.{update_decided}
use Rattle.ra_list_model.proofs.AdmittedUpdates.{led_from}

stuck_at : (order : List ℕ) (updates : List ListUpdate) → list_state_at_from order None updates ≡ None
stuck_at order [] = refl
stuck_at order (update ∷ updates) = stuck_at order updates

led_at : (order : List ℕ) (o : Option ListState) (updates : List ListUpdate) (t : ListState)
    → list_state_at_from order o updates ≡ Some t
    → (s : ListState) × (o ≡ Some s) × (list_state_at_from order (Some s) updates ≡ Some t)
led_at order None updates t led = absurd (none-some t (sym (stuck_at order updates) ∙ led))
led_at order (Some s) updates t led = (s, refl, led)

-- an order extends two lists of edges exactly if it extends each
extends_both : (order : List ℕ) (one other : List Edge) → Extends order one → Extends order other
    → Extends order (one ++ other)
extends_both order one other first second = λ edge there. elim (Contains-append_cases one other edge there) [
  | inl near ↦ first edge near
  | inr far ↦ second edge far
]

from_state : (order : List ℕ) (numbered : List (ℕ × ListUpdate)) (s t : ListState)
    → (list_state_at_from order (Some s) (updates_in numbered) ≡ Some t)
    ↔ ((list_state_from (Some s) (updates_in numbered) ≡ Some t) × Extends order (edges_of_updates numbered))
from_state order [] s t = ((λ led. (led, no_edges order)), (λ both. both.0))
from_state order ((n, update) ∷ numbered) s t = (
  (λ led.
      let (r, step, on) = led_at order (list_step_at order s update) (updates_in numbered) t led in
      let first = (update_decided order s r update n).0 step in
      let rest = (from_state order numbered r t).0 on in (
        ap (λ o. list_state_from o (updates_in numbered)) first.0 ∙ rest.0,
        extends_both order (edges_of_update n update) (edges_of_updates numbered) first.1 rest.1,
      )),
  (λ both.
      let (r, step, on) = led_from (list_step s update) (updates_in numbered) t both.0 in
      let near : Extends order (edges_of_update n update) =
      λ edge there. both.1 edge (Contains-append_left (edges_of_update n update) (edges_of_updates numbered) edge there) in
      let far : Extends order (edges_of_updates numbered) =
      λ edge there. both.1 edge (Contains-append_right (edges_of_update n update) (edges_of_updates numbered) edge there) in
      ap (λ o. list_state_at_from order o (updates_in numbered)) ((update_decided order s r update n).1 (step, near))
      ∙ (from_state order numbered r t).1 (on, far)),
)

pub updates_decided : (order : List ℕ) (numbered : List (ℕ × ListUpdate)) (state : ListState)
    → (list_state_at order (updates_in numbered) ≡ Some state)
    ↔ ((list_state_after (updates_in numbered) ≡ Some state) × Extends order (edges_of_updates numbered))
updates_decided order numbered state = from_state order numbered empty_list state
