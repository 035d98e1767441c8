-- Lemmas on the elements of an LWW set that are found by their standings: which possible lists have them.
use Rattle.std.proofs.Common.{◌≡◌, ℕ, Bool, true, false, List, sym, subst, refl, inl, inr, ◌∙◌}
use Rattle.std.specs.Prelude.{Contains}
use Rattle.std.proofs.lemmas.Bool.{cases_Bool, false≢true}
use Rattle.ra_labels.specs.declared.operation.Op.{Op}
use Rattle.ra_labels.specs.Lists.{is_among}
use Rattle.ra_labels.specs.Records.{Records}
use Rattle.ra_labels.proofs.InLists.{among-exactly}
use Rattle.ra_labels.proofs.Members.{none_there}
use Rattle.ra_precedence.specs.Conditions.{Condition, HasEachBelow}
use Rattle.ra_precedence.specs.Lasts.{IsOrderFor}
use Rattle.ra_any_order.specs.declared.next_elements.PossibleElements.{PossibleElements}
use Rattle.ra_any_order.specs.declared.seen_updates.SeenUpdates.{SeenUpdates}
use Rattle.ra_any_order.specs.declared.standings.Standing.{Standing}
use Rattle.ra_any_order.specs.declared.standings.Standing.TheVariants.{Listed, Undecided, Unlisted, Unasked}
use Rattle.ra_any_order.specs.Elements.{leads, AreNewestOf}
use Rattle.ra_any_order.specs.PossibleElements.{IsPossibleList, IsInEach, IsInNone, IsInSomeOnly}
use Rattle.ra_any_order.specs.Reading.{passes_at}
use Rattle.ra_any_order.specs.Standings.{CanBeLast, SomeLeads, AreStandings, elements_with}
use Rattle.ra_any_order.proofs.ElementLasts.{AreListedLast, not_both}
use Rattle.ra_any_order.proofs.LastMembers.{is_last, find_last}

-- an update leads to one side only
same_side : (operations : List Op) (x w : ℕ) (first second : Bool)
    → passes_at operations (leads first x) w ≡ true → passes_at operations (leads second x) w ≡ true → first ≡ second
same_side operations x w true true one other = refl
same_side operations x w true false one other = absurd (not_both operations x true w one other)
same_side operations x w false true one other = absurd (not_both operations x false w one other)
same_side operations x w false false one other = refl

module _ (before : Records) (by count : ℕ) (operations : List Op) (conditions : List Condition) (seen : SeenUpdates)
    (from_order : (order : List ℕ) → IsOrderFor count conditions order
    → (list : List ℕ) × IsPossibleList before by list × AreListedLast operations seen order list)
    (from_list : (list : List ℕ) → IsPossibleList before by list
    → (order : List ℕ) × IsOrderFor count conditions order × AreListedLast operations seen order list)
    (in_order : (x : ℕ) (newest : List ℕ) → AreNewestOf seen.newest x seen.replicas newest → (order : List ℕ)
    → HasEachBelow count order → (m : ℕ) → Contains newest m → Contains order m)
    (updated : (list : List ℕ) → IsPossibleList before by list → (x : ℕ) → Contains list x
    → Contains seen.elements.items x × ((newest : List ℕ) → AreNewestOf seen.newest x seen.replicas newest
    → (m : ℕ) × Contains newest m)) (asked : ℕ → Bool) (found : PossibleElements)
    (sorted : AreStandings operations count conditions seen asked seen.elements.items found) where
  -- the update that decides whether a possible list has the element
  deciding : (list : List ℕ) → IsPossibleList before by list → (x : ℕ) (newest : List ℕ)
      → AreNewestOf seen.newest x seen.replicas newest → (m : ℕ) → Contains newest m
      → (w : ℕ) × CanBeLast count conditions newest w × (passes_at operations (leads (is_among x list) x) w ≡ true)
  deciding list possible x newest of m among =
      let (order, is_for, decides) = from_list list possible in
      let there = in_order x newest of order is_for.0 in
      let last = find_last order newest is_for.0.once there m among in
      let is = is_last order newest is_for.0.once there last in
      (last.last, (order, is_for, is), decides x newest of last.last is)

  pub listed_in_each : (x : ℕ) → Contains found.listed.items x → IsInEach before by x
  listed_in_each x there list possible =
      let (newest, of, ((m, among, adds), none)) = sorted.each Listed x there in
      elim (cases_Bool (is_among x list)) [
        | inl is_there ↦ (among-exactly x list).0 is_there
        | inr not_there ↦
            let (w, can_be, leads_it) = deciding list possible x newest of m among in
            absurd (none (w, can_be, subst (λ side. passes_at operations (leads side x) w ≡ true) not_there leads_it))
      ]

  -- an update that can be the last one gives a possible list
  list_of_last : (x : ℕ) (newest : List ℕ) → AreNewestOf seen.newest x seen.replicas newest → (side : Bool)
      → SomeLeads operations side x (CanBeLast count conditions newest)
      → (list : List ℕ) × IsPossibleList before by list × (is_among x list ≡ side)
  list_of_last x newest of side (w, (order, is_for, is), leads_it) =
      let (list, possible, decides) = from_order order is_for in
      (list, possible, same_side operations x w (is_among x list) side (decides x newest of w is) leads_it)

  pub undecided_in_some : ((order : List ℕ) × IsOrderFor count conditions order) → (x : ℕ)
      → Contains found.undecided.items x → IsInSomeOnly before by x
  undecided_in_some some x there =
      let (newest, of, both) = sorted.each Undecided x there in
      let (adds, removes_it) = both some in
      let (with_it, possible, is_there) = list_of_last x newest of true adds in
      let (without_it, also, not_there) = list_of_last x newest of false removes_it in (
        (with_it, possible, (among-exactly x with_it).0 is_there),
        (without_it, also, λ among. false≢true (sym not_there ∙ (among-exactly x without_it).1 among)),
      )

  pub others_in_none : (x : ℕ) → ¬ Contains found.listed.items x → ¬ Contains found.undecided.items x
      → ¬ Contains found.unasked.items x → IsInNone before by x
  others_in_none x not_listed not_undecided not_unasked list possible there =
      let (element, members) = updated list possible x there in
      elim (sorted.all x element) [
        | inl (standing, its) ↦ nowhere standing its
        | inr (newest, of, none) ↦
            let (m, among) = members newest of in
            let (w, can_be, leads_it) = deciding list possible x newest of m among in
            none (
              w,
              can_be,
              subst (λ side. passes_at operations (leads side x) w ≡ true) ((among-exactly x list).1 there) leads_it,
            )
      ]
    where
      nowhere : (standing : Standing) → ¬ Contains (elements_with found standing) x
      nowhere Listed its = not_listed its
      nowhere Undecided its = not_undecided its
      nowhere Unlisted its = none_there x its
      nowhere Unasked its = not_unasked its
