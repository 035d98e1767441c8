-- Lemmas on parts by the specification of a list for an order: it admits their updates and answers their queries exactly
-- if the free specification does and the order extends their edges.
use Rattle.std.proofs.Common.{◌≡◌, ℕ, true, List, [], ◌∷◌, Option, Some, None, refl, sym, ap, ◌∙◌, subst, inl, inr}
use Rattle.std.specs.Prelude.{◌↔◌, is_some, fold, option_map, option_and_then, Contains}
use Rattle.std.specs.List.{cons_option}
use Rattle.std.specs.Option.{option_map_or}
use Rattle.std.proofs.lemmas.Bool.{false≢true}
use Rattle.std.proofs.lemmas.Option.{none-some}
use Rattle.ra_labels.specs.declared.kind.Kind.TheVariants as kinds
use Rattle.ra_labels.specs.declared.operation.Update.{Update}
use Rattle.ra_labels.specs.declared.operation.Update.TheVariants as updates
use Rattle.ra_labels.specs.declared.operation.Query.{Query}
use Rattle.ra_labels.specs.declared.operation.Query.TheVariants as queries
use Rattle.ra_labels.specs.Edges.{Extends}
use Rattle.ra_labels.specs.FreeList.{ListState, empty_list, list_step}
use Rattle.ra_labels.specs.Rewriting.{Part, Act, Does, Asks, update_of, query_of, updates_of}
use Rattle.ra_labels.specs.Specification.{State, Listing, answers, state_after, is_answered_after}
use Rattle.ra_labels.proofs.Members.{head_or_behind, at_head, behind_head, none_there}
use Rattle.ra_list_model.specs.Ordered.{list_step_at, IsOrderFor}
use Rattle.ra_list_model.proofs.AnsweredQueries.{query_decided}
use Rattle.ra_list_model.proofs.BetweenNeighbors.{update_decided}
use Rattle.ra_theorems.specs.OrderedLists.{step_at, answers_at, state_after_at, is_answered_at}
use Rattle.ra_theorems.proofs.States.{state_from, stuck}
use Rattle.ra_theorems.proofs.Meanings.{answered}
use Rattle.ra_theorems.proofs.ListUpdates.{changes_lead}
use Rattle.ra_theorems.proofs.PartEdges.{edges_of_act}

-- the state that updates lead to from a given state, for an order
abbrev state_from_at : List ℕ → Option State → List Update → Option State
state_from_at order state us = fold (λ state update. option_and_then (λ s. step_at order s update) state) state us

stuck_at : (order : List ℕ) (us : List Update) → state_from_at order None us ≡ None
stuck_at order [] = refl
stuck_at order (u ∷ us) = stuck_at order us

-- updates that lead on lead from a state
led_at : (order : List ℕ) (o : Option ListState) (us : List Update) (last : State)
    → state_from_at order (option_map Listing o) us ≡ Some last
    → (r : ListState) × (o ≡ Some r) × (state_from_at order (Some (Listing r)) us ≡ Some last)
led_at order None us last led = absurd (none-some last (sym (stuck_at order us) ∙ led))
led_at order (Some r) us last led = (r, refl, led)

led_from : (o : Option ListState) (us : List Update) (last : State)
    → state_from (option_map Listing o) us ≡ Some last
    → (r : ListState) × (o ≡ Some r) × (state_from (Some (Listing r)) us ≡ Some last)
led_from None us last led = absurd (none-some last (sym (stuck us) ∙ led))
led_from (Some r) us last led = (r, refl, led)

-- ---- updates

-- holds if the order extends the edges of the act, if it is an update
abbrev ExtendsUpdate : List ℕ → ℕ → Act → Type 0
ExtendsUpdate order n act = is_some (update_of act) ≡ true → Extends order (edges_of_act n act)

-- holds if the order extends the edges of each update among the parts
abbrev pub ExtendsUpdates : List ℕ → List Part → Type 0
ExtendsUpdates order parts = (part : Part) → Contains parts part → ExtendsUpdate order part.label.number part.act

-- holds if the updates lead from the state to the last one for the order exactly if they do so at all, and more holds
abbrev LeadsExactly : List ℕ → ListState → List Update → State → Type 0 → Type 0
LeadsExactly order s us last More =
    (state_from_at order (Some (Listing s)) us ≡ Some last)
    ↔ ((state_from (Some (Listing s)) us ≡ Some last) × More)

one_more : (order : List ℕ) (act : Act) (n : ℕ) (us : List Update) (last : State) (More : Type 0) (s : ListState)
    → ((r : ListState) → LeadsExactly order r us last More)
    → LeadsExactly order s (cons_option (update_of act) us) last (ExtendsUpdate order n act × More)
one_more order (Asks query) n us last More s rest = (
  (λ led. let known = (rest s).0 led in (known.0, ((λ some. absurd (false≢true some)), known.1))),
  (λ known. (rest s).1 (known.0, known.1.1)),
)
one_more order (Does (updates.List change)) n us last More s rest = (
  (λ led.
      let (r, step, on) = led_at order (list_step_at order s change) us last led in
      let first = (update_decided order s r change n).0 step in
      let known = (rest r).0 on in
      (ap (λ o. state_from (option_map Listing o) us) first.0 ∙ known.0, ((λ some. first.1), known.1))),
  (λ known.
      let (r, step, on) = led_from (list_step s change) us last known.0 in
      ap (λ o. state_from_at order (option_map Listing o) us) ((update_decided order s r change n).1 (step, known.1.0 refl))
      ∙ (rest r).1 (on, known.1.1)),
)
one_more order (Does _) n us last More s rest = (
  (λ led. absurd (none-some last (sym (stuck_at order us) ∙ led))),
  (λ known. absurd (none-some last (sym (stuck us) ∙ known.0))),
)

parts_decided : (order : List ℕ) (parts : List Part) (last : State) (s : ListState)
    → LeadsExactly order s (updates_of parts) last (ExtendsUpdates order parts)
parts_decided order [] last s = ((λ led. (led, λ part there. absurd (none_there part there))), (λ known. known.0))
parts_decided order (part ∷ parts) last s =
    let one = one_more order part.act part.label.number (updates_of parts) last (ExtendsUpdates order parts) s
    (parts_decided order parts last) in (
      (λ led.
          let known = one.0 led in (
            known.0,
            λ other there. elim (head_or_behind part parts other there) [
              | inl here ↦ subst (λ (p : Part). ExtendsUpdate order p.label.number p.act) here known.1.0
              | inr further ↦ known.1.1 other further
            ],
          )),
      (λ known. one.1 (
        known.0,
        (
          known.1 part (at_head part parts part refl),
          λ other there. known.1 other (behind_head part parts other there),
        ),
      )),
    )

-- the updates of parts lead to a state for the order exactly if they do so at all and the order extends their edges
pub updates_decided : (order : List ℕ) (parts : List Part) (state : State)
    → (state_after_at order (updates_of parts) ≡ Some state)
    ↔ ((state_after kinds.List (updates_of parts) ≡ Some state) × ExtendsUpdates order parts)
updates_decided order parts state = parts_decided order parts state empty_list

-- ---- queries

answer_decided : (order : List ℕ) (n : ℕ) (s : ListState) (query : Query) → IsOrderFor order s
    → (answers_at order (Listing s) query ≡ true)
    ↔ ((answers (Listing s) query ≡ true) × Extends order (edges_of_act n (Asks query)))
answer_decided order n s (queries.List question) is = query_decided order s question n is
answer_decided order n s _ is = ((λ wrong. absurd (false≢true wrong)), (λ known. absurd (false≢true known.0)))

-- holds if the order is one of the elements of each state that the updates of the parts lead to
abbrev pub IsOrderAfter : List ℕ → List Part → Type 0
IsOrderAfter order parts =
    (s : ListState) → state_after kinds.List (updates_of parts) ≡ Some (Listing s) → IsOrderFor order s

-- where the order extends the edges of the updates that a query's label sees, it decides the query
pub act_decided : (order : List ℕ) (n : ℕ) (act : Act) (seen : List Part) → ExtendsUpdates order seen
    → IsOrderAfter order seen
    → (option_map_or (is_answered_at order (updates_of seen)) (query_of act) true ≡ true)
    ↔ ((option_map_or (is_answered_after kinds.List (updates_of seen)) (query_of act) true ≡ true)
    × (is_some (query_of act) ≡ true → Extends order (edges_of_act n act)))
act_decided order n (Does update) seen extends is =
    ((λ pass. (refl, λ some. absurd (false≢true some))), (λ known. refl))
act_decided order n (Asks query) seen extends is =
    let free : State → _ = λ state. answers state query in
    let for_order : State → _ = λ state. answers_at order state query in
    let led_free = state_after kinds.List (updates_of seen) in
    let led = state_after_at order (updates_of seen) in (
      (λ pass.
          let (state, leads, right) = (answered for_order led).0 pass in
          let leads_free = ((updates_decided order seen state).0 leads).0 in
          let (s, same, after) = changes_lead (updates_of seen) state leads_free in
          let known = (answer_decided order n s query (is s (leads_free ∙ ap Some same))).0
          (subst (λ t. for_order t ≡ true) same right) in (
            (answered free led_free).1 (Listing s, leads_free ∙ ap Some same, known.0),
            λ some. known.1,
          )),
      (λ known.
          let (state, leads_free, right) = (answered free led_free).0 known.0 in
          let (s, same, after) = changes_lead (updates_of seen) state leads_free in
          let listing = leads_free ∙ ap Some same in
          (answered for_order led).1 (
            Listing s,
            (updates_decided order seen (Listing s)).1 (listing, extends),
            (answer_decided order n s query (is s listing)).1
                (subst (λ t. free t ≡ true) same right, known.1 refl),
          )),
    )
