-- Updates of an RGA are admitted if each of them is after those before it.
use Rattle.std.proofs.Common.{◌≡◌, ℕ, Bool, true, false, List, [], ◌∷◌, ◌++◌, Option, Some, None, refl, sym, ap, ◌∙◌, subst, inl, inr}
use Rattle.std.specs.Prelude.{◌⊎◌, is_some, option_and_then}
use Rattle.std.proofs.lemmas.Bool.{false≢true}
use Rattle.std.proofs.lemmas.List.{append_assoc, append-nil}
use Rattle.ra_labels.specs.declared.kind.Kind.TheVariants.{Rga}
use Rattle.ra_labels.specs.declared.operation.Update.{Update}
use Rattle.ra_labels.specs.declared.operation.Update.TheVariants.{After, RgaRemove}
use Rattle.ra_labels.specs.Specification.{State, Listed, step_of, state_after}
use Rattle.ra_labels.specs.TheoremTerms.{WasInserted}
use Rattle.ra_theorems.proofs.TheoremIndex.{state_after_snoc, state_kind, insertion_after_present_anchor-admitted, removal_of_present_element-admitted, rga_contents-elements}
use Rattle.ra_rga_forks.proofs.ListedOrders.{listed_state}

-- holds if the update is admitted after those before it
abbrev pub IsAdmittedAfter : List Update → Update → Type 0
IsAdmittedAfter before (After anchor x) =
    ((anchor ≡ 0) ⊎ WasInserted anchor before) × (¬ (x ≡ 0)) × (¬ WasInserted x before)
IsAdmittedAfter before (RgaRemove x) = (¬ (x ≡ 0)) × WasInserted x before
IsAdmittedAfter before _ = ⊥

-- then the state before admits it
step_there : (before : List Update) (list : List (ℕ × Bool)) → state_after Rga before ≡ Some (Listed list)
    → (u : Update) → IsAdmittedAfter before u → is_some (step_of (Listed list) u) ≡ true
step_there before list is (After anchor x) (anchored, apart, new) =
    (insertion_after_present_anchor-admitted list anchor x).1 (
      (rga_contents-elements before list anchor is).1 anchored,
      λ there. elim ((rga_contents-elements before list x is).0 there) [
        | inl root ↦ apart root
        | inr again ↦ new again
      ],
    )
step_there before list is (RgaRemove x) (apart, inserted) =
    (removal_of_present_element-admitted list x).1 ((rga_contents-elements before list x is).1 (inr inserted), apart)
step_there before list is _ admitted = absurd admitted

-- the state after a step that is there
next_state : (us : List Update) (o : Option State) → state_after Rga us ≡ o → is_some o ≡ true
    → (list : List (ℕ × Bool)) × (state_after Rga us ≡ Some (Listed list))
next_state us None is some = absurd (false≢true some)
next_state us (Some state) is some =
    let (list, same) = listed_state state (state_kind Rga us state is) in
    (list, is ∙ ap Some same)

-- holds if each of the updates is admitted after those before it
abbrev pub AllAdmitted : List Update → List Update → Type 0
AllAdmitted before us = (first rest : List Update) (u : Update) → us ≡ first ++ u ∷ rest → IsAdmittedAfter (before ++ first) u

admitted_from : (before us : List Update) (list : List (ℕ × Bool)) → state_after Rga before ≡ Some (Listed list)
    → AllAdmitted before us → (next : List (ℕ × Bool)) × (state_after Rga (before ++ us) ≡ Some (Listed next))
admitted_from before [] list is all = (list, ap (state_after Rga) (append-nil before) ∙ is)
admitted_from before (u ∷ us) list is all =
    let step = step_there before list is u (subst (λ vs. IsAdmittedAfter vs u) (append-nil before) (all [] us u refl)) in
    let after = state_after_snoc Rga before u ∙ ap (λ o. option_and_then (λ s. step_of s u) o) is in
    let (now, now_is) = next_state (before ++ u ∷ []) (step_of (Listed list) u) after step in
    let (next, next_is) = admitted_from (before ++ u ∷ []) us now now_is (λ first rest v split.
    subst (λ vs. IsAdmittedAfter vs v) (sym (append_assoc before (u ∷ []) first))
    (all (u ∷ first) rest v (ap (λ vs. u ∷ vs) split))) in
    (next, ap (state_after Rga) (sym (append_assoc before (u ∷ []) us)) ∙ next_is)

-- updates of which each is admitted after those before it lead to a list
pub all_admitted : (us : List Update) → AllAdmitted [] us
    → (list : List (ℕ × Bool)) × (state_after Rga us ≡ Some (Listed list))
all_admitted us all = admitted_from [] us ((0, false) ∷ []) refl all
