-- What is in the state after updates, and that some of the updates are admitted alone.
use Rattle.std.proofs.Common.{◌≡◌, ◌↔◌, ℕ, ◌<◌, true, List, [], ◌∷◌, Option, Some, None, Ordering, refl, sym, ap, ◌∙◌, subst, inl, inr}
use Rattle.std.specs.Prelude.{◌⊎◌, Contains}
use Rattle.std.specs.Ordering.{MatchOrdering, nat_cmp, match_ordering}
use Rattle.std.specs.declared.cmp.Ordering.TheVariants.{Less, Equal, Greater}
use Rattle.std.specs.BTreeSet.{insert_key}
use Rattle.std.proofs.lemmas.Cmp.{ranked}
use Rattle.std.proofs.lemmas.Option.{none-some, same_Some}
use Rattle.ra_labels.specs.Lists.{is_among}
use Rattle.ra_labels.proofs.InLists.{among-exactly}
use Rattle.ra_labels.proofs.Members.{head_or_behind, at_head, behind_head, none_there}
use Rattle.ra_labels.specs.declared.list_operation.ListUpdate.{ListUpdate}
use Rattle.ra_labels.specs.declared.list_operation.ListUpdate.TheVariants.{Put, Hide}
use Rattle.ra_labels.specs.FreeList.{ListState, empty_list, can_insert, list_step, list_state_from, list_state_after}
use Rattle.ra_list_model.specs.Kept.{Puts}
use Rattle.ra_list_model.proofs.BetweenNeighbors.{chosen}

-- an element is in the set with one more exactly if it is that one or was there
placed : (y x z : ℕ) (zs rest : List ℕ) (o : Ordering) → MatchOrdering o (x < z) (x ≡ z) (z < x)
    → Contains rest y ↔ ((y ≡ x) ⊎ Contains zs y)
    → Contains (match_ordering o (x ∷ z ∷ zs) (z ∷ zs) (z ∷ rest)) y ↔ ((y ≡ x) ⊎ Contains (z ∷ zs) y)
placed y x z zs rest Less known is = (
  (λ there. elim (head_or_behind x (z ∷ zs) y there) [
    | inl here ↦ inl (sym here)
    | inr further ↦ inr further
  ]),
  (λ either. elim either [
    | inl here ↦ at_head x (z ∷ zs) y (sym here)
    | inr further ↦ behind_head x (z ∷ zs) y further
  ]),
)
placed y x z zs rest Equal known is = (
  (λ there. inr there),
  (λ either. elim either [
    | inl here ↦ at_head z zs y (sym (here ∙ known))
    | inr further ↦ further
  ]),
)
placed y x z zs rest Greater known is = (
  (λ there. elim (head_or_behind z rest y there) [
    | inl here ↦ inr (at_head z zs y here)
    | inr further ↦ elim (is.0 further) [
      | inl new ↦ inl new
      | inr old ↦ inr (behind_head z zs y old)
    ]
  ]),
  (λ either. elim either [
    | inl new ↦ behind_head z rest y (is.1 (inl new))
    | inr old ↦ elim (head_or_behind z zs y old) [
      | inl here ↦ at_head z rest y here
      | inr further ↦ behind_head z rest y (is.1 (inr further))
    ]
  ]),
)

pub in_set : (y x : ℕ) (xs : List ℕ) → Contains (insert_key nat_cmp xs x) y ↔ ((y ≡ x) ⊎ Contains xs y)
in_set y x [] = (
  (λ there. elim (head_or_behind x [] y there) [
    | inl here ↦ inl (sym here)
    | inr further ↦ inr further
  ]),
  (λ either. elim either [
    | inl here ↦ at_head x [] y (sym here)
    | inr further ↦ absurd (none_there y further)
  ]),
)
in_set y x (z ∷ zs) = placed y x z zs (insert_key nat_cmp zs x) (nat_cmp x z) (ranked x z _ refl) (in_set y x zs)

-- what one update changes
abbrev pub PutsOne : ListUpdate → ℕ → Type 0
PutsOne (Put insertion) x = insertion.element ≡ x
PutsOne (Hide y) x = ⊥

abbrev HidesOne : ListUpdate → ℕ → Type 0
HidesOne (Put insertion) x = ⊥
HidesOne (Hide y) x = y ≡ x

pub step_inserted : (s t : ListState) (update : ListUpdate) (x : ℕ) → list_step s update ≡ Some t
    → Contains t.inserted x ↔ (PutsOne update x ⊎ Contains s.inserted x)
step_inserted s t (Put insertion) x led =
    let (can, is) = chosen (can_insert s insertion) _ t led in
    let inserted : insert_key nat_cmp s.inserted insertion.element ≡ t.inserted = ap (λ r. r.inserted) (same_Some _ t is) in
    let set = in_set x insertion.element s.inserted in (
      (λ there. elim (set.0 (subst (λ xs. Contains xs x) (sym inserted) there)) [
        | inl here ↦ inl (sym here)
        | inr old ↦ inr old
      ]),
      (λ either. subst (λ xs. Contains xs x) inserted (set.1 (elim either [
        | inl here ↦ inl (sym here)
        | inr old ↦ inr old
      ]))),
    )
step_inserted s t (Hide y) x led =
    let (can, is) = chosen (is_among y s.inserted) _ t led in
    let inserted : s.inserted ≡ t.inserted = ap (λ r. r.inserted) (same_Some _ t is) in (
      (λ there. inr (subst (λ xs. Contains xs x) (sym inserted) there)),
      (λ either. elim either [
        | inl none ↦ absurd none
        | inr old ↦ subst (λ xs. Contains xs x) inserted old
      ]),
    )

step_removed : (s t : ListState) (update : ListUpdate) (x : ℕ) → list_step s update ≡ Some t
    → Contains t.removed x ↔ (HidesOne update x ⊎ Contains s.removed x)
step_removed s t (Put insertion) x led =
    let (can, is) = chosen (can_insert s insertion) _ t led in
    let removed : s.removed ≡ t.removed = ap (λ r. r.removed) (same_Some _ t is) in (
      (λ there. inr (subst (λ xs. Contains xs x) (sym removed) there)),
      (λ either. elim either [
        | inl none ↦ absurd none
        | inr old ↦ subst (λ xs. Contains xs x) removed old
      ]),
    )
step_removed s t (Hide y) x led =
    let (can, is) = chosen (is_among y s.inserted) _ t led in
    let removed : insert_key nat_cmp s.removed y ≡ t.removed = ap (λ r. r.removed) (same_Some _ t is) in
    let set = in_set x y s.removed in (
      (λ there. elim (set.0 (subst (λ xs. Contains xs x) (sym removed) there)) [
        | inl here ↦ inl (sym here)
        | inr old ↦ inr old
      ]),
      (λ either. subst (λ xs. Contains xs x) removed (set.1 (elim either [
        | inl here ↦ inl (sym here)
        | inr old ↦ inr old
      ]))),
    )

-- no state leads to none
stuck : (updates : List ListUpdate) → list_state_from None updates ≡ None
stuck [] = refl
stuck (update ∷ updates) = stuck updates

-- updates that lead on lead from a state
pub led_from : (o : Option ListState) (updates : List ListUpdate) (t : ListState) → list_state_from o updates ≡ Some t
    → (s : ListState) × (o ≡ Some s) × (list_state_from (Some s) updates ≡ Some t)
led_from None updates t led = absurd (none-some t (sym (stuck updates) ∙ led))
led_from (Some s) updates t led = (s, refl, led)

-- the updates that insert an element
pub puts_head : (update : ListUpdate) (updates : List ListUpdate) (x : ℕ) → PutsOne update x → Puts x (update ∷ updates)
puts_head (Put insertion) updates x is =
    (insertion, at_head (Put insertion) updates (Put insertion) refl, is)
puts_head (Hide y) updates x is = absurd is

pub puts_behind : (update : ListUpdate) (updates : List ListUpdate) (x : ℕ) → Puts x updates → Puts x (update ∷ updates)
puts_behind update updates x (insertion, there, is) =
    (insertion, behind_head update updates (Put insertion) there, is)

pub puts_cases : (update : ListUpdate) (updates : List ListUpdate) (x : ℕ) → Puts x (update ∷ updates)
    → PutsOne update x ⊎ Puts x updates
puts_cases update updates x (insertion, there, is) = elim (head_or_behind update updates (Put insertion) there) [
  | inl here ↦ inl (subst (λ u. PutsOne u x) (sym here) is)
  | inr further ↦ inr (insertion, further, is)
]

hides_cases : (update : ListUpdate) (updates : List ListUpdate) (x : ℕ) → Contains (update ∷ updates) (Hide x)
    → HidesOne update x ⊎ Contains updates (Hide x)
hides_cases update updates x there = elim (head_or_behind update updates (Hide x) there) [
  | inl here ↦ inl (subst (λ u. HidesOne u x) (sym here) refl)
  | inr further ↦ inr further
]

hides_head : (update : ListUpdate) (updates : List ListUpdate) (x : ℕ) → HidesOne update x
    → Contains (update ∷ updates) (Hide x)
hides_head (Put insertion) updates x is = absurd is
hides_head (Hide y) updates x is = at_head (Hide y) updates (Hide x) (ap Hide is)

pub inserted_from : (updates : List ListUpdate) (s t : ListState) (x : ℕ) → list_state_from (Some s) updates ≡ Some t
    → Contains t.inserted x ↔ (Contains s.inserted x ⊎ Puts x updates)
inserted_from [] s t x led =
    let same : s ≡ t = same_Some s t led in (
      (λ there. inl (subst (λ r. Contains r.inserted x) (sym same) there)),
      (λ either. elim either [
        | inl old ↦ subst (λ r. Contains r.inserted x) same old
        | inr (insertion, there, is) ↦ absurd (none_there (Put insertion) there)
      ]),
    )
inserted_from (update ∷ updates) s t x led =
    let (r, step, on) = led_from (list_step s update) updates t led in
    let rest = inserted_from updates r t x on in
    let one = step_inserted s r update x step in (
      (λ there. elim (rest.0 there) [
        | inl before ↦ elim (one.0 before) [
          | inl here ↦ inr (puts_head update updates x here)
          | inr old ↦ inl old
        ]
        | inr later ↦ inr (puts_behind update updates x later)
      ]),
      (λ either. rest.1 (elim either [
        | inl old ↦ inl (one.1 (inr old))
        | inr puts ↦ elim (puts_cases update updates x puts) [
          | inl here ↦ inl (one.1 (inl here))
          | inr later ↦ inr later
        ]
      ])),
    )

pub removed_from : (updates : List ListUpdate) (s t : ListState) (x : ℕ) → list_state_from (Some s) updates ≡ Some t
    → Contains t.removed x ↔ (Contains s.removed x ⊎ Contains updates (Hide x))
removed_from [] s t x led =
    let same : s ≡ t = same_Some s t led in (
      (λ there. inl (subst (λ r. Contains r.removed x) (sym same) there)),
      (λ either. elim either [
        | inl old ↦ subst (λ r. Contains r.removed x) same old
        | inr there ↦ absurd (none_there (Hide x) there)
      ]),
    )
removed_from (update ∷ updates) s t x led =
    let (r, step, on) = led_from (list_step s update) updates t led in
    let rest = removed_from updates r t x on in
    let one = step_removed s r update x step in (
      (λ there. elim (rest.0 there) [
        | inl before ↦ elim (one.0 before) [
          | inl here ↦ inr (hides_head update updates x here)
          | inr old ↦ inl old
        ]
        | inr later ↦ inr (behind_head update updates (Hide x) later)
      ]),
      (λ either. rest.1 (elim either [
        | inl old ↦ inl (one.1 (inr old))
        | inr hides ↦ elim (hides_cases update updates x hides) [
          | inl here ↦ inl (one.1 (inl here))
          | inr later ↦ inr later
        ]
      ])),
    )

-- from the empty list
pub inserted_exactly : (updates : List ListUpdate) (state : ListState) (x : ℕ) → list_state_after updates ≡ Some state
    → (is_among x state.inserted ≡ true) ↔ Puts x updates
inserted_exactly updates state x led =
    let known = inserted_from updates empty_list state x led in (
      (λ is. elim (known.0 ((among-exactly x state.inserted).0 is)) [
        | inl none ↦ absurd (none_there x none)
        | inr puts ↦ puts
      ]),
      (λ puts. (among-exactly x state.inserted).1 (known.1 (inr puts))),
    )

pub removed_exactly : (updates : List ListUpdate) (state : ListState) (x : ℕ) → list_state_after updates ≡ Some state
    → (is_among x state.removed ≡ true) ↔ Contains updates (Hide x)
removed_exactly updates state x led =
    let known = removed_from updates empty_list state x led in (
      (λ is. elim (known.0 ((among-exactly x state.removed).0 is)) [
        | inl none ↦ absurd (none_there x none)
        | inr hides ↦ hides
      ]),
      (λ hides. (among-exactly x state.removed).1 (known.1 (inr hides))),
    )
