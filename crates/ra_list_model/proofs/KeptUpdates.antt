-- Of admitted updates, some are admitted alone if they have what they need.
use Rattle.std.proofs.Common.{◌≡◌, ℕ, Bool, true, false, List, [], ◌∷◌, ◌++◌, Some, None, refl, sym, ap, ◌∙◌, subst, inl, inr, append_assoc}
use Rattle.std.specs.Prelude.{◌==◌, ◌&&◌, not, Contains, option_and_then}
use Rattle.std.proofs.lemmas.Bool.{false≢true, cases_Bool, cond-true, cond-false, and_parts, and_from, eqb-true, eqb-false, or_cases, or_left, or_right, not-true, not_from_false, false_from_ne_true}
use Rattle.std.proofs.lemmas.List.{map-append, append-nil}
use Rattle.std.proofs.lemmas.List.Sums.{fold-append}
use Rattle.std.proofs.lemmas.List.Elements.{filter-append, Contains-append_right, Contains-append_cases}
use Rattle.ra_labels.specs.Lists.{is_among}
use Rattle.ra_labels.proofs.InLists.{among-exactly}
use Rattle.ra_labels.proofs.Members.{at_head, none_there, kept-there, there-kept, reached, from_where}
use Rattle.ra_labels.specs.declared.insertion.Insertion.{Insertion}
use Rattle.ra_labels.specs.declared.list_operation.ListUpdate.{ListUpdate}
use Rattle.ra_labels.specs.declared.list_operation.ListUpdate.TheVariants.{Put, Hide}
use Rattle.ra_labels.specs.FreeList.{ListState, empty_list, is_neighbor, are_neighbors, can_insert, list_step, list_state_from, list_state_after}
use Rattle.ra_list_model.specs.Kept.{Puts, Needs, KeepsWhatIsNeeded, kept_by, updates_in}
use Rattle.ra_list_model.proofs.BetweenNeighbors.{chosen}
use Rattle.ra_list_model.proofs.AdmittedUpdates.{PutsOne, led_from, puts_cases, step_inserted, inserted_from}

pub three : (a b c : Bool) → (a && b && c) ≡ true → (a ≡ true) × (b ≡ true) × (c ≡ true)
three false b c is = absurd (false≢true is)
three true false c is = absurd (false≢true is)
three true true false is = absurd (false≢true is)
three true true true is = (refl, refl, refl)

pub all_three : (a b c : Bool) → a ≡ true → b ≡ true → c ≡ true → (a && b && c) ≡ true
all_three true true true a b c = refl
all_three false _ _ a b c = absurd (false≢true a)
all_three true false _ a b c = absurd (false≢true b)
all_three true true false a b c = absurd (false≢true c)

-- what an insertion that is admitted has
admitted_parts : (s t : ListState) (insertion : Insertion) → list_step s (Put insertion) ≡ Some t
    → (not (insertion.element == 0) ≡ true) × (not (is_among insertion.element s.inserted) ≡ true)
    × (are_neighbors s insertion ≡ true)
admitted_parts s t insertion led =
    three (not (insertion.element == 0)) (not (is_among insertion.element s.inserted)) (are_neighbors s insertion)
    (chosen (can_insert s insertion) _ t led).0

-- an element that is there is not inserted again
pub inserts_new : (s t : ListState) (update : ListUpdate) (x : ℕ) → list_step s update ≡ Some t → PutsOne update x
    → ¬ Contains s.inserted x
inserts_new s t (Put insertion) x led is there =
    let parts = admitted_parts s t insertion led in
    false≢true (sym (not-true (is_among insertion.element s.inserted) parts.1)
    ∙ (among-exactly insertion.element s.inserted).1 (subst (Contains s.inserted) (sym is) there))
inserts_new s t (Hide y) x led is there = is

pub no_second : (updates : List ListUpdate) (s t : ListState) (x : ℕ) → list_state_from (Some s) updates ≡ Some t
    → Contains s.inserted x → ¬ Puts x updates
no_second [] s t x led there (insertion, found, is) = none_there (Put insertion) found
no_second (update ∷ updates) s t x led there puts =
    let (r, step, on) = led_from (list_step s update) updates t led in
    elim (puts_cases update updates x puts) [
      | inl here ↦ inserts_new s r update x step here there
      | inr later ↦ no_second updates r t x on ((step_inserted s r update x step).1 (inr there)) later
    ]

-- a neighbour that is needed is there, and so the step is admitted in a state with fewer elements
neighbor_still : (s t : ListState) (x : ℕ) → is_neighbor s x ≡ true
    → (¬ (x ≡ 0) → Contains s.inserted x → Contains t.inserted x) → is_neighbor t x ≡ true
neighbor_still s t x was needs = elim (cases_Bool (x == 0)) [
  | inl none ↦ or_left (x == 0) (is_among x t.inserted) none
  | inr some ↦ elim (or_cases (x == 0) (is_among x s.inserted) was) [
    | inl none ↦ absurd (false≢true (sym some ∙ none))
    | inr there ↦ or_right (x == 0) (is_among x t.inserted)
        ((among-exactly x t.inserted).1 (needs (eqb-false x 0 some) ((among-exactly x s.inserted).0 there)))
  ]
]

-- so the step is admitted in any state that has what it needs and not the element that it inserts
pub step_again : (s r t : ListState) (update : ListUpdate) → list_step s update ≡ Some r
    → ((x : ℕ) → Needs update x → Contains s.inserted x → Contains t.inserted x)
    → ((x : ℕ) → PutsOne update x → ¬ Contains t.inserted x)
    → (v : ListState) × (list_step t update ≡ Some v)
step_again s r t (Put insertion) led needs absent =
    let x = insertion.element in
    let parts = admitted_parts s r insertion led in
    let near = and_parts (is_neighbor s insertion.left) (is_neighbor s insertion.right) parts.2 in
    let still : are_neighbors t insertion ≡ true =
    and_from (is_neighbor t insertion.left) (is_neighbor t insertion.right)
    (neighbor_still s t insertion.left near.0 (λ some there. needs insertion.left (some, inl refl) there))
    (neighbor_still s t insertion.right near.1 (λ some there. needs insertion.right (some, inr refl) there)) in
    let new : not (is_among x t.inserted) ≡ true =
    not_from_false (is_among x t.inserted) (false_from_ne_true (is_among x t.inserted) (λ is.
    absent x refl ((among-exactly x t.inserted).0 is))) in (
      _,
      cond-true (can_insert t insertion) _ None
          (all_three (not (x == 0)) (not (is_among x t.inserted)) (are_neighbors t insertion) parts.0 new still),
    )
step_again s r t (Hide y) led needs absent =
    let (can, is) = chosen (is_among y s.inserted) _ r led in (
      _,
      cond-true (is_among y t.inserted) _ None ((among-exactly y t.inserted).1
          (needs y refl ((among-exactly y s.inserted).0 can))),
    )

step_still : (s r t : ListState) (update : ListUpdate) → list_step s update ≡ Some r
    → ((x : ℕ) → Needs update x → Contains s.inserted x → Contains t.inserted x)
    → ((x : ℕ) → Contains t.inserted x → Contains s.inserted x)
    → (v : ListState) × (list_step t update ≡ Some v)
step_still s r t update led needs fewer =
    step_again s r t update led needs (λ x is there. inserts_new s r update x led is (fewer x there))

-- an update that is admitted needs only elements that are there
pub needs_there : (s r : ListState) (update : ListUpdate) (x : ℕ) → list_step s update ≡ Some r → Needs update x
    → Contains s.inserted x
needs_there s r (Put insertion) x led (some, which) =
    let parts = admitted_parts s r insertion led in
    let near = and_parts (is_neighbor s insertion.left) (is_neighbor s insertion.right) parts.2 in
    elim which [
      | inl left ↦ neighbor_there (subst (λ y. is_neighbor s y ≡ true) left near.0)
      | inr right ↦ neighbor_there (subst (λ y. is_neighbor s y ≡ true) right near.1)
    ]
  where
    neighbor_there : is_neighbor s x ≡ true → Contains s.inserted x
    neighbor_there is = elim (or_cases (x == 0) (is_among x s.inserted) is) [
      | inl none ↦ absurd (some (eqb-true x 0 none))
      | inr there ↦ (among-exactly x s.inserted).0 there
    ]
needs_there s r (Hide y) x led is =
    let (can, same) = chosen (is_among y s.inserted) _ r led in
    subst (Contains s.inserted) is ((among-exactly y s.inserted).0 can)

-- the numbered updates and their updates
put_there : (numbered : List (ℕ × ListUpdate)) (n : ℕ) (update : ListUpdate) → Contains numbered (n, update)
    → Contains (updates_in numbered) update
put_there numbered n update there = reached (λ (entry : ℕ × ListUpdate). entry.1) numbered (n, update) there

kept_puts : (keep : ℕ → Bool) (numbered : List (ℕ × ListUpdate)) (x : ℕ) → Puts x (updates_in (kept_by keep numbered))
    → Puts x (updates_in numbered)
kept_puts keep numbered x (insertion, there, is) =
    let (entry, found, same) = from_where (λ (e : ℕ × ListUpdate). e.1) (kept_by keep numbered) (Put insertion) there in
    let kept = there-kept (λ (e : ℕ × ListUpdate). keep e.0) numbered entry found in
    (insertion, subst (Contains (updates_in numbered)) same (reached (λ (e : ℕ × ListUpdate). e.1) numbered entry kept.0), is)

-- one more numbered update
one_after : (numbered : List (ℕ × ListUpdate)) (n : ℕ) (update : ListUpdate) (s : ListState)
    → list_state_after (updates_in numbered) ≡ Some s
    → list_state_after (updates_in (numbered ++ (n, update) ∷ [])) ≡ list_step s update
one_after numbered n update s led =
    ap list_state_after (map-append (λ (e : ℕ × ListUpdate). e.1) numbered ((n, update) ∷ []))
    ∙ fold-append (λ o u. option_and_then (λ r. list_step r u) o) (Some empty_list) (updates_in numbered) (update ∷ [])
    ∙ ap (λ o. option_and_then (λ r. list_step r update) o) led

kept_one : (keep : ℕ → Bool) (before : List (ℕ × ListUpdate)) (n : ℕ) (update : ListUpdate) → keep n ≡ true
    → kept_by keep (before ++ (n, update) ∷ []) ≡ kept_by keep before ++ (n, update) ∷ []
kept_one keep before n update is =
    filter-append (λ (e : ℕ × ListUpdate). keep e.0) before ((n, update) ∷ [])
    ∙ ap (λ es. kept_by keep before ++ es) (cond-true (keep n) ((n, update) ∷ []) [] is)

kept_none : (keep : ℕ → Bool) (before : List (ℕ × ListUpdate)) (n : ℕ) (update : ListUpdate) → keep n ≡ false
    → kept_by keep (before ++ (n, update) ∷ []) ≡ kept_by keep before
kept_none keep before n update is =
    filter-append (λ (e : ℕ × ListUpdate). keep e.0) before ((n, update) ∷ [])
    ∙ ap (λ es. kept_by keep before ++ es) (cond-false (keep n) ((n, update) ∷ []) [] is)
    ∙ append-nil (kept_by keep before)

-- the insertion of an element that is there is among the updates so far
there_before : (keep : ℕ → Bool) (before rest : List (ℕ × ListUpdate)) (s t w : ListState) (x : ℕ)
    → list_state_after (updates_in before) ≡ Some s → list_state_after (updates_in (kept_by keep before)) ≡ Some t
    → list_state_from (Some s) (updates_in rest) ≡ Some w → Contains s.inserted x
    → (m : ℕ) × (insertion : Insertion) × Contains (before ++ rest) (m, Put insertion) × (insertion.element ≡ x) × (keep m ≡ true)
    → Contains t.inserted x
there_before keep before rest s t w x led kept on was (m, insertion, found, is, keeps) =
    elim (Contains-append_cases before rest (m, Put insertion) found) [
      | inl early ↦
          let mine = kept-there (λ (e : ℕ × ListUpdate). keep e.0) before (m, Put insertion) early keeps in
          (inserted_from (updates_in (kept_by keep before)) empty_list t x kept).1
          (inr (insertion, put_there (kept_by keep before) m (Put insertion) mine, is))
      | inr late ↦
          absurd (no_second (updates_in rest) s w x on was (insertion, put_there rest m (Put insertion) late, is))
    ]

kept_after : (keep : ℕ → Bool) (before rest : List (ℕ × ListUpdate)) (s t w : ListState)
    → list_state_after (updates_in before) ≡ Some s → list_state_after (updates_in (kept_by keep before)) ≡ Some t
    → list_state_from (Some s) (updates_in rest) ≡ Some w → KeepsWhatIsNeeded keep (before ++ rest)
    → (v : ListState) × (list_state_from (Some t) (updates_in (kept_by keep rest)) ≡ Some v)
kept_after keep before [] s t w led kept on has = (t, refl)
kept_after keep before ((n, update) ∷ rest) s t w led kept on has =
    let (r, step, further) = led_from (list_step s update) (updates_in rest) w on in
    let next = before ++ (n, update) ∷ [] in
    let still = subst (KeepsWhatIsNeeded keep) (sym (append_assoc before ((n, update) ∷ []) rest)) has in
    let now = one_after before n update s led ∙ step in
    elim (cases_Bool (keep n)) [
      | inl keeps ↦
          let fewer : (x : ℕ) → Contains t.inserted x → Contains s.inserted x = λ x there.
          (inserted_from (updates_in before) empty_list s x led).1
          (elim ((inserted_from (updates_in (kept_by keep before)) empty_list t x kept).0 there) [
            | inl none ↦ inl none
            | inr puts ↦ inr (kept_puts keep before x puts)
          ]) in
          let here : Contains (before ++ (n, update) ∷ rest) (n, update) =
          Contains-append_right before ((n, update) ∷ rest) (n, update) (at_head (n, update) rest (n, update) refl) in
          let (v, taken) = step_still s r t update step (λ x need was.
          there_before keep before ((n, update) ∷ rest) s t w x led kept on was (has n update x here keeps need)) fewer in
          let kept_now = ap (λ es. list_state_after (updates_in es)) (kept_one keep before n update keeps)
          ∙ one_after (kept_by keep before) n update t kept ∙ taken in
          let (last, leads) = kept_after keep next rest r v w now kept_now further still in (
            last,
            ap (λ es. list_state_from (Some t) (updates_in es))
                (cond-true (keep n) ((n, update) ∷ kept_by keep rest) (kept_by keep rest) keeps)
                ∙ ap (λ o. list_state_from o (updates_in (kept_by keep rest))) taken ∙ leads,
          )
      | inr drops ↦
          let kept_now = ap (λ es. list_state_after (updates_in es)) (kept_none keep before n update drops) ∙ kept in
          let (last, leads) = kept_after keep next rest r t w now kept_now further still in (
            last,
            ap (λ es. list_state_from (Some t) (updates_in es))
                (cond-false (keep n) ((n, update) ∷ kept_by keep rest) (kept_by keep rest) drops)
                ∙ leads,
          )
    ]

pub kept_admitted : (numbered : List (ℕ × ListUpdate)) (keep : ℕ → Bool) (state : ListState)
    → list_state_after (updates_in numbered) ≡ Some state → KeepsWhatIsNeeded keep numbered
    → (kept : ListState) × (list_state_after (updates_in (kept_by keep numbered)) ≡ Some kept)
kept_admitted numbered keep state led has = kept_after keep [] numbered empty_list empty_list state refl refl led has
