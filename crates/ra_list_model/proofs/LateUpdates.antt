-- A late update has the effect of the last one.
use Rattle.std.proofs.Common.{◌≡◌, ◌↔◌, List, [], ◌∷◌, ◌++◌, Option, Some, sym, ap, ◌∙◌, inl, inr}
use Rattle.std.specs.Prelude.{Contains, option_and_then}
use Rattle.std.proofs.lemmas.List.Sums.{fold-append}
use Rattle.std.proofs.lemmas.List.Elements.{Contains-append_left, Contains-append_right, Contains-append_cases}
use Rattle.ra_labels.proofs.Members.{head_or_behind, at_head, behind_head, none_there}
use Rattle.ra_labels.specs.declared.list_operation.ListUpdate.{ListUpdate}
use Rattle.ra_labels.specs.FreeList.{ListState, empty_list, list_step, list_state_from, list_state_after}
use Rattle.ra_list_model.proofs.AdmittedUpdates.{led_from, step_inserted, inserted_from}
use Rattle.ra_list_model.proofs.KeptUpdates.{inserts_new, no_second, step_again}
use Rattle.ra_list_model.proofs.RisingStates.{same_updates_same}

-- updates one after another
pub in_parts : (first later : List ListUpdate) (o : Option ListState)
    → list_state_from o (first ++ later) ≡ list_state_from (list_state_from o first) later
in_parts first later o = fold-append (λ o u. option_and_then (λ r. list_step r u) o) o first later

-- one more update
pub step_behind : (updates : List ListUpdate) (update : ListUpdate) (s t : ListState)
    → list_state_after updates ≡ Some s → list_step s update ≡ Some t
    → list_state_after (updates ++ update ∷ []) ≡ Some t
step_behind updates update s t led step =
    in_parts updates (update ∷ []) (Some empty_list) ∙ ap (λ o. list_state_from o (update ∷ [])) led ∙ step

-- a late update is admitted behind the later ones
admitted_last : (later : List ListUpdate) (update : ListUpdate) (s r state kept : ListState)
    → list_step s update ≡ Some r → list_state_from (Some r) later ≡ Some state
    → list_state_from (Some s) later ≡ Some kept → (v : ListState) × (list_step kept update ≡ Some v)
admitted_last later update s r state kept step led also =
    step_again s r kept update step
    (λ x needs there. (inserted_from later s kept x also).1 (inl there))
    (λ x puts there. elim ((inserted_from later s kept x also).0 there) [
      | inl before ↦ inserts_new s r update x step puts before
      | inr again ↦ no_second later r state x led ((step_inserted s r update x step).1 (inl puts)) again
    ])

-- the updates are the same ones with the late one at the end
same_at_end : (first later : List ListUpdate) (update u : ListUpdate)
    → Contains (first ++ update ∷ later) u ↔ Contains ((first ++ later) ++ update ∷ []) u
same_at_end first later update u = (
  (λ there. elim (Contains-append_cases first (update ∷ later) u there) [
    | inl before ↦ Contains-append_left (first ++ later) (update ∷ []) u (Contains-append_left first later u before)
    | inr behind ↦ elim (head_or_behind update later u behind) [
      | inl here ↦ Contains-append_right (first ++ later) (update ∷ []) u (at_head update [] u here)
      | inr further ↦
          Contains-append_left (first ++ later) (update ∷ []) u (Contains-append_right first later u further)
    ]
  ]),
  (λ there. elim (Contains-append_cases (first ++ later) (update ∷ []) u there) [
    | inl among ↦ elim (Contains-append_cases first later u among) [
      | inl before ↦ Contains-append_left first (update ∷ later) u before
      | inr behind ↦ Contains-append_right first (update ∷ later) u (behind_head update later u behind)
    ]
    | inr last ↦ elim (head_or_behind update [] u last) [
      | inl here ↦ Contains-append_right first (update ∷ later) u (at_head update later u here)
      | inr none ↦ absurd (none_there u none)
    ]
  ]),
)

-- if it is admitted there, it leads to the state of all updates
leads_to_same : (first later : List ListUpdate) (update : ListUpdate) (state kept last : ListState)
    → list_state_after (first ++ update ∷ later) ≡ Some state → list_state_after (first ++ later) ≡ Some kept
    → list_step kept update ≡ Some last → list_step kept update ≡ Some state
leads_to_same first later update state kept last led also step =
    step ∙ ap Some (sym (same_updates_same (first ++ update ∷ later) ((first ++ later) ++ update ∷ []) state last led
    (step_behind (first ++ later) update kept last also step) (same_at_end first later update)))

pub late_is_last : (first later : List ListUpdate) (update : ListUpdate) (state kept : ListState)
    → list_state_after (first ++ update ∷ later) ≡ Some state → list_state_after (first ++ later) ≡ Some kept
    → list_step kept update ≡ Some state
late_is_last first later update state kept led also =
    let (s, before, on) = led_from (list_state_after first) (update ∷ later) state
    (sym (in_parts first (update ∷ later) (Some empty_list)) ∙ led) in
    let (r, step, rest) = led_from (list_step s update) later state on in
    let without : list_state_from (Some s) later ≡ Some kept =
    sym (ap (λ o. list_state_from o later) before) ∙ sym (in_parts first later (Some empty_list)) ∙ also in
    let (last, leads) = admitted_last later update s r state kept step rest without in
    leads_to_same first later update state kept last led also leads
