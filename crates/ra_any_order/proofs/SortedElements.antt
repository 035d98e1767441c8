-- Lemmas on the elements of an LWW set, sorted one by one by whether the next read lists them.
use Rattle.std.proofs.Common.{◌≡◌, ℕ, zero, suc, ◌+◌, ◌<◌, ◌≤◌, Bool, true, false, List, [], ◌∷◌, ◌++◌, length, get_or, take, refl, sym, ap, ◌∙◌, subst, inl, inr, arith}
use Rattle.std.specs.Prelude.{◌⊎◌, nat_lt, Contains, if◌then◌else◌}
use Rattle.std.specs.List.{list_all, list_any}
use Rattle.std.specs.BTreeMap.{is_at}
use Rattle.std.specs.BTreeSet.{BTreeSet, contains, Updates}
use Rattle.std.specs.Ordering.{nat_cmp}
use Rattle.std.proofs.lemmas.Bool.{cases_eq, eq-eqb, false≢true, and_parts, and_from, lt-ltb}
use Rattle.std.proofs.lemmas.List.{take_all}
use Rattle.std.proofs.lemmas.List.Elements.{Contains-append_left, Contains-append_right, Contains-append_cases}
use Rattle.ra_labels.specs.declared.operation.Op.{Op}
use Rattle.ra_labels.specs.Lists.{rises}
use Rattle.ra_labels.proofs.Comparisons.{is_at-eqb}
use Rattle.ra_labels.proofs.InLists.{list_all-contains, list_all-from_contains}
use Rattle.ra_labels.proofs.Members.{head_or_behind, at_head, behind_head, none_there, what_passes}
use Rattle.ra_labels.proofs.Ranges.{any_passes}
use Rattle.ra_labels.proofs.RisingLists.{rises-index}
use Rattle.ra_list_order.proofs.Pointed.{apart_test}
use Rattle.ra_precedence.specs.Conditions.{Condition}
use Rattle.ra_precedence.specs.Lasts.{AreLasts, IsOrderFor}
use Rattle.ra_precedence.proofs.Using.{in_more, still_in, last_in, in_take}
use Rattle.ra_any_order.specs.declared.next_elements.PossibleElements.{PossibleElements}
use Rattle.ra_any_order.specs.declared.seen_updates.SeenUpdates.{SeenUpdates}
use Rattle.ra_any_order.specs.declared.standings.Standing.{Standing}
use Rattle.ra_any_order.specs.declared.standings.Standing.TheVariants.{Listed, Undecided, Unlisted, Unasked}
use Rattle.ra_any_order.specs.Elements.{leads, AreNewestOf}
use Rattle.ra_any_order.specs.Reading.{passes_at}
use Rattle.ra_any_order.specs.Standings.{some_leads, is_contested, standing_by, CanBeLast, SomeLeads, IsStanding, HasStanding, IsUncontested, elements_with, IsAdded, AreStandings}
use Rattle.ra_any_order.proofs.ElementLasts.{same_newest}

-- ---- rising lists
pub rises_push : (xs : List ℕ) (x : ℕ) → ((y : ℕ) → Contains xs y → y < x) → rises xs ≡ true
    → rises (xs ++ x ∷ []) ≡ true
rises_push [] x below up = refl
rises_push (y ∷ ys) x below up =
    let parts = and_parts (list_all (λ z. nat_lt y z) ys) (rises ys) up in
    and_from (list_all (λ z. nat_lt y z) (ys ++ x ∷ [])) (rises (ys ++ x ∷ []))
    (list_all-from_contains (λ z. nat_lt y z) (ys ++ x ∷ []) (λ z there.
    elim (Contains-append_cases ys (x ∷ []) z there) [
      | inl older ↦ list_all-contains (λ w. nat_lt y w) ys z parts.0 older
      | inr new ↦ elim (head_or_behind x [] z new) [
        | inl here ↦ subst (λ k. nat_lt y k ≡ true) here (lt-ltb y x (below y (at_head y ys y refl)))
        | inr further ↦ absurd (none_there z further)
      ]
    ]))
    (rises_push ys x (λ z there. below z (behind_head y ys z there)) parts.1)

rises_before : (xs : List ℕ) (i y : ℕ) → rises xs ≡ true → i < length xs → Contains (take i xs) y → y < get_or xs i 0
rises_before [] i y up within there = absurd (omega (arith, within))
rises_before (x ∷ xs) zero y up within there = absurd (none_there y there)
rises_before (x ∷ xs) (suc i) y up within there = elim (head_or_behind x (take i xs) y there) [
  | inl here ↦ subst (λ k. k < get_or xs i 0) here (rises-index (x ∷ xs) up 0 (suc i) (omega arith) within)
  | inr behind ↦ rises_before xs i y (and_parts (list_all (λ z. nat_lt x z) xs) (rises xs) up).1 (omega (arith, within)) behind
]

take_wider : (k i : ℕ) (xs : List ℕ) (y : ℕ) → k ≤ i → Contains (take k xs) y → Contains (take i xs) y
take_wider zero i xs y less there = absurd (none_there y there)
take_wider (suc k) zero xs y less there = absurd (omega (arith, less))
take_wider (suc k) (suc i) [] y less there = there
take_wider (suc k) (suc i) (x ∷ xs) y less there = elim (head_or_behind x (take k xs) y there) [
  | inl here ↦ at_head x (take i xs) y here
  | inr behind ↦ behind_head x (take i xs) y (take_wider k i xs y (omega (arith, less)) behind)
]

-- ---- the standing of one element
module _ (operations : List Op) (count : ℕ) (conditions : List Condition) (newest : List ℕ) (asked : Bool) (x : ℕ) where
  abbrev Is : Standing → Type 0
  Is standing = IsStanding operations count conditions newest asked x standing

  abbrev some : Bool → List ℕ → Bool
  some side labels = some_leads operations side x labels

  what_leads : (side : Bool) (labels : List ℕ) → some side labels ≡ true → SomeLeads operations side x (Contains labels)
  what_leads side labels is = what_passes (passes_at operations (leads side x)) labels is

  none_leads : (side : Bool) (labels : List ℕ) → some side labels ≡ false
      → ¬ SomeLeads operations side x (Contains labels)
  none_leads side labels none (w, there, leads_it) =
      false≢true (sym none ∙ any_passes (passes_at operations (leads side x)) labels w there leads_it)

  abbrev by_sides : Bool → Bool → Standing
  by_sides adds removes_it = if adds then (if removes_it then Undecided else Listed) else Unlisted

  -- each of the newest updates leads to the same side
  pub uncontested_standing : is_contested operations newest x ≡ false → Is (standing_by operations newest x)
  uncontested_standing not_both = go (some true newest) (some false newest) refl refl
    where
      go : (adds removes_it : Bool) → some true newest ≡ adds → some false newest ≡ removes_it
          → Is (by_sides adds removes_it)
      go true true first second =
          absurd (false≢true (sym not_both ∙ and_from (some true newest) (some false newest) first second))
      go true false first second = (
        what_leads true newest first,
        λ (w, can_be, leads_it). none_leads false newest second (w, can_be.2.member, leads_it),
      )
      go false removes_it first second = λ (w, can_be, leads_it). none_leads true newest first (w, can_be.2.member, leads_it)

  -- the labels that can be the last one are known
  pub asked_standing : (lasts : List ℕ) → AreLasts count conditions newest lasts → is_contested operations newest x ≡ true
      → Is (standing_by operations lasts x)
  asked_standing lasts are both = go (some true lasts) (some false lasts) refl refl
    where
      none_can_be : (side : Bool) → some side lasts ≡ false → ¬ SomeLeads operations side x (CanBeLast count conditions newest)
      none_can_be side none (w, can_be, leads_it) =
          none_leads side lasts none (w, (are (can_be.0, can_be.1) w).1 can_be, leads_it)

      some_can_be : (side : Bool) → some side lasts ≡ true → ((order : List ℕ) × IsOrderFor count conditions order)
          → SomeLeads operations side x (CanBeLast count conditions newest)
      some_can_be side is an_order =
          let (w, there, leads_it) = what_leads side lasts is in (w, (are an_order w).0 there, leads_it)

      go : (adds removes_it : Bool) → some true lasts ≡ adds → some false lasts ≡ removes_it
          → Is (by_sides adds removes_it)
      go true true first second = λ an_order. (some_can_be true first an_order, some_can_be false second an_order)
      go true false first second =
          (what_leads true newest (and_parts (some true newest) (some false newest) both).0, none_can_be false second)
      go false removes_it first second = none_can_be true first

-- ---- one element more
pub none_with : (found : PossibleElements)
    → (found.listed.items ≡ []) × (found.undecided.items ≡ []) × (found.unasked.items ≡ [])
    → (standing : Standing) → elements_with found standing ≡ []
none_with found none Listed = none.0
none_with found none Undecided = none.1
none_with found none Unlisted = refl
none_with found none Unasked = none.2

change : (x : ℕ) (standing : Standing) (old new : PossibleElements) → IsAdded x standing old new → (other : Standing)
    → (elements_with new other ≡ elements_with old other)
    ⊎ ((other ≡ standing) × (elements_with new other ≡ elements_with old other ++ x ∷ []))
change x Listed old new is Listed = inr (refl, is.0)
change x Listed old new is Undecided = inl is.1
change x Listed old new is Unlisted = inl refl
change x Listed old new is Unasked = inl is.2
change x Undecided old new is Listed = inl is.0
change x Undecided old new is Undecided = inr (refl, is.1)
change x Undecided old new is Unlisted = inl refl
change x Undecided old new is Unasked = inl is.2
change x Unlisted old new is other = inl (ap (λ found. elements_with found other) is)
change x Unasked old new is Listed = inl is.0
change x Unasked old new is Undecided = inl is.1
change x Unasked old new is Unlisted = inl refl
change x Unasked old new is Unasked = inr (refl, is.2)

last_of_list : (xs ys : List ℕ) (x : ℕ) → ys ≡ xs ++ x ∷ [] → Contains ys x
last_of_list xs ys x is = subst (λ zs. Contains zs x) (sym is) (Contains-append_right xs (x ∷ []) x (at_head x [] x refl))

added_there : (x : ℕ) (standing : Standing) (old new : PossibleElements) → IsAdded x standing old new
    → Contains (elements_with new standing) x ⊎ (standing ≡ Unlisted)
added_there x Listed old new is = inl (last_of_list old.listed.items new.listed.items x is.0)
added_there x Undecided old new is = inl (last_of_list old.undecided.items new.undecided.items x is.1)
added_there x Unlisted old new is = inr refl
added_there x Unasked old new is = inl (last_of_list old.unasked.items new.unasked.items x is.2)

module _ (operations : List Op) (count : ℕ) (conditions : List Condition) (seen : SeenUpdates) (asked : ℕ → Bool) where
  pub none_sorted : (found : PossibleElements) → ((standing : Standing) → elements_with found standing ≡ [])
      → AreStandings operations count conditions seen asked [] found
  none_sorted found none = record {
    each = λ standing x there. absurd (none_there x (subst (λ xs. Contains xs x) (none standing) there));
    all = λ x there. absurd (none_there x there);
  }

  module _ (xs : List ℕ) (i x : ℕ) (within : i < length xs) (x_is : get_or xs i 0 ≡ x) (standing : Standing)
      (old new : PossibleElements) (is : IsAdded x standing old new) where
    from_new : (other : Standing) (y : ℕ) → Contains (elements_with new other) y
        → Contains (elements_with old other) y ⊎ ((other ≡ standing) × (x ≡ y))
    from_new other y there = elim (change x standing old new is other) [
      | inl same ↦ inl (subst (λ ys. Contains ys y) same there)
      | inr (its, longer) ↦
          elim (Contains-append_cases (elements_with old other) (x ∷ []) y (subst (λ ys. Contains ys y) longer there)) [
            | inl older ↦ inl older
            | inr last ↦ elim (head_or_behind x [] y last) [
              | inl here ↦ inr (its, here)
              | inr further ↦ absurd (none_there y further)
            ]
          ]
    ]

    still_there : (other : Standing) (y : ℕ) → Contains (elements_with old other) y → Contains (elements_with new other) y
    still_there other y there = elim (change x standing old new is other) [
      | inl same ↦ subst (λ ys. Contains ys y) (sym same) there
      | inr (its, longer) ↦
          subst (λ ys. Contains ys y) (sym longer) (Contains-append_left (elements_with old other) (x ∷ []) y there)
    ]

    pub one_within : ((other : Standing) (y : ℕ) → Contains (elements_with old other) y → Contains (take i xs) y)
        → (other : Standing) (y : ℕ) → Contains (elements_with new other) y → Contains (take (i + 1) xs) y
    one_within all other y there = elim (from_new other y there) [
      | inl older ↦ still_in xs i y within (all other y older)
      | inr (its, here) ↦ subst (Contains (take (i + 1) xs)) (x_is ∙ here) (last_in xs i within)
    ]

    pub one_rising : rises xs ≡ true
        → ((other : Standing) (y : ℕ) → Contains (elements_with old other) y → Contains (take i xs) y)
        → ((other : Standing) → rises (elements_with old other) ≡ true)
        → (other : Standing) → rises (elements_with new other) ≡ true
    one_rising up all rising other = elim (change x standing old new is other) [
      | inl same ↦ ap rises same ∙ rising other
      | inr (its, longer) ↦
          ap rises longer
          ∙ rises_push (elements_with old other) x
          (λ y there. subst (λ k. y < k) x_is (rises_before xs i y up within (all other y there))) (rising other)
    ]

    pub one_sorted : HasStanding operations count conditions seen asked x standing
        → AreStandings operations count conditions seen asked (take i xs) old
        → AreStandings operations count conditions seen asked (take (i + 1) xs) new
    one_sorted has are = record {
      each =
          λ other y there. elim (from_new other y there) [
            | inl older ↦ are.each other y older
            | inr (its, here) ↦
                subst (λ z. HasStanding operations count conditions seen asked z other) here
                (subst (HasStanding operations count conditions seen asked x) (sym its) has)
          ];
      all =
          λ y there. elim (in_more xs i y within there) [
            | inl before ↦ elim (are.all y before) [
              | inl (other, its) ↦ inl (other, still_there other y its)
              | inr unlisted ↦ inr unlisted
            ]
            | inr here ↦ subst (λ z. ((other : Standing) × Contains (elements_with new other) z)
                ⊎ HasStanding operations count conditions seen asked z Unlisted) (sym x_is ∙ here)
                (elim (added_there x standing old new is) [
                  | inl its ↦ inl (standing, its)
                  | inr unlisted ↦ inr (subst (HasStanding operations count conditions seen asked x) unlisted has)
                ])
          ];
    }

-- ---- the elements to ask about
pub none_in : (asked : BTreeSet ℕ) (x : ℕ) → asked.keys ≡ [] → contains nat_cmp asked x ≡ false
none_in asked x none = ap (list_any (is_at (nat_cmp x))) none

pub key_in : (asked : BTreeSet ℕ) (x : ℕ) → Contains asked.keys x → contains nat_cmp asked x ≡ true
key_in asked x there = any_passes (is_at (nat_cmp x)) asked.keys x there (is_at-eqb x x ∙ eq-eqb x x refl)

module _ (operations : List Op) (seen : SeenUpdates) where
  abbrev pub IsTaken : BTreeSet ℕ → ℕ → Type 0
  IsTaken asked x = (contains nat_cmp asked x ≡ true) ⊎ IsUncontested operations seen x

  pub insert_kept : (old new : BTreeSet ℕ) (k : ℕ) → Updates nat_cmp old new k true → (x : ℕ)
      → contains nat_cmp old x ≡ true → contains nat_cmp new x ≡ true
  insert_kept old new k updates x there = elim (cases_eq k x) [
    | inl same ↦ subst (λ y. contains nat_cmp new y ≡ true) same updates.1
    | inr other ↦ updates.2 x (apart_test k x (λ same. other (sym same))) ∙ there
  ]

  -- an element of the new set is the one that was inserted, or was in the old set
  pub inserted_cases : (old new : BTreeSet ℕ) (k : ℕ) → Updates nat_cmp old new k true → (x : ℕ)
      → contains nat_cmp new x ≡ true → (contains nat_cmp old x ≡ true) ⊎ (k ≡ x)
  inserted_cases old new k updates x there = elim (cases_eq k x) [
    | inl same ↦ inr same
    | inr other ↦ inl (sym (updates.2 x (apart_test k x (λ same. other (sym same)))) ∙ there)
  ]

  pub grown_by : (is_new : Bool) (new old : ℕ) → new ≡ old + (if is_new then 1 else 0) → new ≤ old + 1
  grown_by true new old is = omega (arith, is)
  grown_by false new old is = omega (arith, is)

  pub taken_wider : (old new : BTreeSet ℕ) → ((x : ℕ) → contains nat_cmp old x ≡ true → contains nat_cmp new x ≡ true)
      → (x : ℕ) → IsTaken old x → IsTaken new x
  taken_wider old new wider x taken = elim taken [
    | inl there ↦ inl (wider x there)
    | inr uncontested ↦ inr uncontested
  ]

  pub one_taken : (old new : BTreeSet ℕ) → ((x : ℕ) → contains nat_cmp old x ≡ true → contains nat_cmp new x ≡ true)
      → (xs : List ℕ) (i : ℕ) → i < length xs → IsTaken new (get_or xs i 0)
      → ((x : ℕ) → Contains (take i xs) x → IsTaken old x) → (x : ℕ) → Contains (take (i + 1) xs) x → IsTaken new x
  one_taken old new wider xs i within here so_far x there = elim (in_more xs i x within there) [
    | inl before ↦ taken_wider old new wider x (so_far x before)
    | inr last ↦ subst (IsTaken new) last here
  ]

  pub first_taken : (asked : BTreeSet ℕ) (xs : List ℕ) (i most : ℕ) → most ≤ i
      → ((x : ℕ) → Contains (take i xs) x → IsTaken asked x) → (x : ℕ) → Contains (take most xs) x → IsTaken asked x
  first_taken asked xs i most enough so_far x there = so_far x (take_wider most i xs x enough there)

  pub all_taken : (asked : BTreeSet ℕ) (xs : List ℕ) (i most : ℕ) → length xs ≤ i
      → ((x : ℕ) → Contains (take i xs) x → IsTaken asked x) → (x : ℕ) → Contains (take most xs) x → IsTaken asked x
  all_taken asked xs i most past so_far x there =
      so_far x (subst (λ ys. Contains ys x) (sym (take_all i xs past)) (in_take most xs x there))

  -- an element that is not asked about is not among the first ones
  pub contested_taken : (x : ℕ) (newest : List ℕ) → AreNewestOf seen.newest x seen.replicas newest
      → is_contested operations newest x ≡ true → ¬ IsUncontested operations seen x
  contested_taken x newest of both (other, its, not_both) =
      let parts = and_parts (some_leads operations true x newest) (some_leads operations false x newest) both in
      false≢true (sym not_both ∙ and_from (some_leads operations true x other) (some_leads operations false x other)
      (moved true parts.0) (moved false parts.1))
    where
      moved : (side : Bool) → some_leads operations side x newest ≡ true → some_leads operations side x other ≡ true
      moved side is =
          let (w, there, leads_it) = what_passes (passes_at operations (leads side x)) newest is in
          any_passes (passes_at operations (leads side x)) other w
          (same_newest seen.newest x seen.replicas newest other of its w there) leads_it
