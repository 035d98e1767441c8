-- A state has strictly increasing lists, so admitted updates that are the same ones lead to the same state.
use Rattle.std.proofs.Common.{◌≡◌, ◌↔◌, true, List, [], ◌∷◌, Some, refl, ap, subst, inl, inr, Ordering, ◌∙◌}
use Rattle.std.specs.Prelude.{ℕ, Contains, All}
use Rattle.std.specs.List.Sorted.{IsStrictlySortedBy}
use Rattle.std.specs.Ordering.{nat_cmp, match_ordering, ordering_reverse}
use Rattle.std.specs.declared.cmp.Ordering.TheVariants.{Less, Equal, Greater}
use Rattle.std.specs.BTreeSet.{insert_key}
use Rattle.std.proofs.lemmas.Cmp.{nat_cmp_total}
use Rattle.std.proofs.lemmas.List.Elements.{All-weaker, All-cons, All-from_recursion, recursion_from_All}
use Rattle.std.proofs.lemmas.Map.Views.{All-insert_key}
use Rattle.std.proofs.lemmas.Option.{same_Some}
use Rattle.ra_labels.specs.Lists.{rises}
use Rattle.ra_labels.proofs.InLists.{rises-to_sorted, sorted-to_rises, same-exactly, rising_same}
use Rattle.ra_labels.specs.declared.list_operation.ListUpdate.{ListUpdate}
use Rattle.ra_labels.specs.declared.list_operation.ListUpdate.TheVariants.{Put, Hide}
use Rattle.ra_labels.specs.FreeList.{ListState, empty_list, can_insert, list_step, list_state_from, list_state_after}
use Rattle.ra_labels.specs.Lists.{is_among}
use Rattle.ra_list_model.proofs.BetweenNeighbors.{chosen}
use Rattle.ra_list_model.proofs.AdmittedUpdates.{led_from, inserted_from, removed_from}

-- a strictly increasing list is still one with a key inserted at its position
insert_sorted : (k : ℕ) (ks : List ℕ) → IsStrictlySortedBy nat_cmp ks
    → IsStrictlySortedBy nat_cmp (insert_key nat_cmp ks k)
unfolding IsStrictlySortedBy
insert_sorted k [] sorted = (tt, tt)
insert_sorted k (x ∷ xs) sorted = by (nat_cmp k x) refl (insert_sorted k xs sorted.1)
  where
    above : All (λ y. nat_cmp x y ≡ Less) xs
    above = All-from_recursion (λ y. nat_cmp x y ≡ Less) xs sorted.0

    by : (o : Ordering) → nat_cmp k x ≡ o → IsStrictlySortedBy nat_cmp (insert_key nat_cmp xs k)
        → IsStrictlySortedBy nat_cmp (match_ordering o (k ∷ x ∷ xs) (x ∷ xs) (x ∷ insert_key nat_cmp xs k))
    by Less is rest = (
      recursion_from_All (λ y. nat_cmp k y ≡ Less) (x ∷ xs)
          (All-cons (λ y. nat_cmp k y ≡ Less) x xs is
          (All-weaker (λ y. nat_cmp x y ≡ Less) (λ y. nat_cmp k y ≡ Less)
          (λ y less. nat_cmp_total.trans k x y is less) xs above)),
      sorted,
    )
    by Equal is rest = sorted
    by Greater is rest =
        let below : nat_cmp x k ≡ Less = nat_cmp_total.antisymm x k ∙ ap ordering_reverse is in (
          recursion_from_All (λ y. nat_cmp x y ≡ Less) (insert_key nat_cmp xs k)
              (All-insert_key nat_cmp k (λ y. nat_cmp x y ≡ Less) xs above below),
          rest,
        )

rises_with : (k : ℕ) (ks : List ℕ) → rises ks ≡ true → rises (insert_key nat_cmp ks k) ≡ true
rises_with k ks up = sorted-to_rises (insert_key nat_cmp ks k) (insert_sorted k ks (rises-to_sorted ks up))

-- holds if both lists of the state are strictly increasing
abbrev IsRising : ListState → Type 0
IsRising s = (rises s.inserted ≡ true) × (rises s.removed ≡ true)

step_rises : (s t : ListState) (update : ListUpdate) → list_step s update ≡ Some t → IsRising s → IsRising t
step_rises s t (Put insertion) led up =
    let (can, is) = chosen (can_insert s insertion) _ t led in
    subst IsRising (same_Some _ t is) (rises_with insertion.element s.inserted up.0, up.1)
step_rises s t (Hide x) led up =
    let (can, is) = chosen (is_among x s.inserted) _ t led in
    subst IsRising (same_Some _ t is) (up.0, rises_with x s.removed up.1)

state_rises : (updates : List ListUpdate) (s t : ListState) → list_state_from (Some s) updates ≡ Some t → IsRising s
    → IsRising t
state_rises [] s t led up = subst IsRising (same_Some s t led) up
state_rises (update ∷ updates) s t led up =
    let (r, step, on) = led_from (list_step s update) updates t led in
    state_rises updates r t on (step_rises s r update step up)

-- rising states with the same elements are equal
same_lists : (s t : ListState) → s.inserted ≡ t.inserted → s.removed ≡ t.removed → s ≡ t
same_lists s t inserted removed =
    ap (λ xs. record { inserted = xs; removed = s.removed }) inserted
    ∙ ap (λ xs. record { inserted = t.inserted; removed = xs }) removed

rising_states : (s t : ListState) → IsRising s → IsRising t
    → ((x : ℕ) → Contains s.inserted x ↔ Contains t.inserted x)
    → ((x : ℕ) → Contains s.removed x ↔ Contains t.removed x) → s ≡ t
rising_states s t up also inserted removed = same_lists s t
    (rising_same s.inserted t.inserted up.0 also.0 ((same-exactly s.inserted t.inserted).1 inserted))
    (rising_same s.removed t.removed up.1 also.1 ((same-exactly s.removed t.removed).1 removed))

-- what other updates insert and remove that have each of these
some_inserted : (updates others : List ListUpdate) (s t : ListState) → list_state_after updates ≡ Some s
    → list_state_after others ≡ Some t → ((u : ListUpdate) → Contains updates u → Contains others u)
    → (x : ℕ) → Contains s.inserted x → Contains t.inserted x
some_inserted updates others s t led also fewer x there =
    (inserted_from others empty_list t x also).1
    (elim ((inserted_from updates empty_list s x led).0 there) [
      | inl none ↦ inl none
      | inr (insertion, found, is) ↦ inr (insertion, fewer (Put insertion) found, is)
    ])

some_removed : (updates others : List ListUpdate) (s t : ListState) → list_state_after updates ≡ Some s
    → list_state_after others ≡ Some t → ((u : ListUpdate) → Contains updates u → Contains others u)
    → (x : ℕ) → Contains s.removed x → Contains t.removed x
some_removed updates others s t led also fewer x there =
    (removed_from others empty_list t x also).1
    (elim ((removed_from updates empty_list s x led).0 there) [
      | inl none ↦ inl none
      | inr found ↦ inr (fewer (Hide x) found)
    ])

pub same_updates_same : (updates others : List ListUpdate) (state other : ListState)
    → list_state_after updates ≡ Some state → list_state_after others ≡ Some other
    → ((u : ListUpdate) → Contains updates u ↔ Contains others u) → state ≡ other
same_updates_same updates others state other led also same =
    let to : (u : ListUpdate) → Contains updates u → Contains others u = λ u. (same u).0 in
    let from : (u : ListUpdate) → Contains others u → Contains updates u = λ u. (same u).1 in
    rising_states state other (state_rises updates empty_list state led (refl, refl))
    (state_rises others empty_list other also (refl, refl))
    (λ x. (
      some_inserted updates others state other led also to x,
      some_inserted others updates other state also led from x,
    ))
    (λ x. (
      some_removed updates others state other led also to x,
      some_removed others updates other state also led from x,
    ))
