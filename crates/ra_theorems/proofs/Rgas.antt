-- Lemmas on the list of an RGA.
use Rattle.std.proofs.Common.{◌≡◌, ℕ, Bool, true, false, cond, List, [], ◌∷◌, ◌++◌, filter, Some, None, refl, sym, ap, ◌∙◌, subst, inl, inr, arith}
use Rattle.std.specs.Prelude.{◌↔◌, ◌⊎◌, ◌==◌, ◌&&◌, not, map, option_and_then, is_some, Contains, if◌then◌else◌}
use Rattle.std.specs.Cmp.Lexicographic.{pointwise_decides}
use Rattle.std.specs.Cmp.{unsigned_Decides}
use Rattle.std.proofs.lemmas.Bool.{false≢true, cases_Bool, cond-true, cond-false, cond_both, and_parts, and_from}
use Rattle.std.proofs.lemmas.Bool.{or_cases, or_left, or_right, eqb-true, eq-eqb, not-true, not_from_false}
use Rattle.std.proofs.lemmas.Bool.{false_from_ne_true}
use Rattle.std.proofs.lemmas.Option.{none-some, cond_some}
use Rattle.std.proofs.lemmas.List.{map-append}
use Rattle.std.proofs.lemmas.List.Elements.{filter-append, Contains-append_right}
use Rattle.std.proofs.lemmas.List.Sums.{fold-append}
use Rattle.ra_labels.specs.declared.kind.Kind.TheVariants.{Rga}
use Rattle.ra_labels.specs.declared.operation.Update.{Update}
use Rattle.ra_labels.specs.declared.operation.Update.TheVariants.{After, RgaRemove}
use Rattle.ra_labels.specs.declared.operation.Query.TheVariants.{RgaRead}
use Rattle.ra_labels.specs.Lists.{is_in_list, insert_after, hide, shown}
use Rattle.ra_labels.specs.Specification.{State, Listed, step_of, answers, state_after}
use Rattle.ra_labels.specs.TheoremTerms.{elements_in, RootFirst, IsInsertedBehind, HasNoDuplicates, WasInserted, kind_of_state}
use Rattle.ra_labels.proofs.Members.{head_or_behind, at_head, behind_head}
use Rattle.ra_theorems.proofs.States.{state_from, stuck}

-- membership in the list
pub in-exactly : (x : ℕ) (list : List (ℕ × Bool)) → (is_in_list x list ≡ true) ↔ Contains (elements_in list) x
in-exactly x [] = (λ is. absurd (false≢true is), λ there. absurd (omega (arith, there.1)))
in-exactly x (entry ∷ list) = (
  (λ is. elim (or_cases (x == entry.0) (is_in_list x list) is) [
    | inl here ↦ at_head entry.0 (elements_in list) x (sym (eqb-true x entry.0 here))
    | inr further ↦ behind_head entry.0 (elements_in list) x ((in-exactly x list).0 further)
  ]),
  (λ there. elim (head_or_behind entry.0 (elements_in list) x there) [
    | inl here ↦ or_left (x == entry.0) (is_in_list x list) (eq-eqb x entry.0 (sym here))
    | inr further ↦ or_right (x == entry.0) (is_in_list x list) ((in-exactly x list).1 further)
  ]),
)

pub not_in : (x : ℕ) (list : List (ℕ × Bool)) → (not (is_in_list x list) ≡ true) ↔ (¬ Contains (elements_in list) x)
not_in x list = (
  (λ is there. false≢true (sym (not-true (is_in_list x list) is) ∙ (in-exactly x list).1 there)),
  (λ out. not_from_false (is_in_list x list)
      (false_from_ne_true (is_in_list x list) (λ is. out ((in-exactly x list).0 is)))),
)

some_where : {A : Type 0} (b : Bool) (x : A) → is_some (if b then Some x else None) ≡ b
some_where true x = refl
some_where false x = refl

-- when an insertion is admitted
pub after-admitted : (list : List (ℕ × Bool)) (anchor x : ℕ) → (is_some (step_of (Listed list) (After anchor x)) ≡ true)
    ↔ (Contains (elements_in list) anchor × ¬ Contains (elements_in list) x)
after-admitted list anchor x =
    let test = is_in_list anchor list && not (is_in_list x list) in
    let same = some_where test (Listed (insert_after anchor x list)) in (
      (λ is.
          let parts = and_parts (is_in_list anchor list) (not (is_in_list x list)) (sym same ∙ is) in
          ((in-exactly anchor list).0 parts.0, (not_in x list).0 parts.1)),
      (λ known. same ∙ and_from (is_in_list anchor list) (not (is_in_list x list)) ((in-exactly anchor list).1 known.0)
          ((not_in x list).1 known.1)),
    )

-- and when a removal is
pub not_root : (x : ℕ) → (not (x == 0) ≡ true) ↔ (¬ (x ≡ 0))
not_root x = (
  (λ is root. false≢true (sym (not-true (x == 0) is) ∙ eq-eqb x 0 root)),
  (λ other. not_from_false (x == 0) (false_from_ne_true (x == 0) (λ is. other (eqb-true x 0 is)))),
)

pub removed-admitted : (list : List (ℕ × Bool)) (x : ℕ) → (is_some (step_of (Listed list) (RgaRemove x)) ≡ true)
    ↔ (Contains (elements_in list) x × ¬ (x ≡ 0))
removed-admitted list x =
    let same = some_where (is_in_list x list && not (x == 0)) (Listed (hide x list)) in (
      (λ is.
          let parts = and_parts (is_in_list x list) (not (x == 0)) (sym same ∙ is) in
          ((in-exactly x list).0 parts.0, (not_root x).0 parts.1)),
      (λ known. same ∙ and_from (is_in_list x list) (not (x == 0)) ((in-exactly x list).1 known.0)
          ((not_root x).1 known.1)),
    )

-- the next list after an admitted update
pub after_is : (list next : List (ℕ × Bool)) (anchor x : ℕ) → step_of (Listed list) (After anchor x)
    ≡ Some (Listed next) → (is_in_list anchor list ≡ true) × (¬ Contains (elements_in list) x)
    × (insert_after anchor x list ≡ next)
after_is list next anchor x is =
    let known = cond_some (is_in_list anchor list && not (is_in_list x list)) (Listed (insert_after anchor x list))
    (Listed next) is in
    let parts = and_parts (is_in_list anchor list) (not (is_in_list x list)) known.0 in
    let same = known.1 in
    (parts.0, (not_in x list).0 parts.1, cc (same))

pub removed_is : (list next : List (ℕ × Bool)) (x : ℕ) → step_of (Listed list) (RgaRemove x) ≡ Some (Listed next)
    → Contains (elements_in list) x × (¬ (x ≡ 0)) × (hide x list ≡ next)
removed_is list next x is =
    let known = cond_some (is_in_list x list && not (x == 0)) (Listed (hide x list)) (Listed next) is in
    let parts = and_parts (is_in_list x list) (not (x == 0)) known.0 in
    let same = known.1 in
    ((in-exactly x list).0 parts.0, (not_root x).0 parts.1, cc (same))

-- an insertion stops behind the anchor, or goes on
pub insert_here : (anchor x : ℕ) (entry : ℕ × Bool) (list : List (ℕ × Bool)) → (anchor == entry.0) ≡ true
    → insert_after anchor x (entry ∷ list) ≡ entry ∷ (x, true) ∷ list
insert_here anchor x entry list here =
    cond-true (anchor == entry.0) (entry ∷ (x, true) ∷ list) (entry ∷ insert_after anchor x list) here

pub insert_on : (anchor x : ℕ) (entry : ℕ × Bool) (list : List (ℕ × Bool)) → (anchor == entry.0) ≡ false
    → insert_after anchor x (entry ∷ list) ≡ entry ∷ insert_after anchor x list
insert_on anchor x entry list other =
    cond-false (anchor == entry.0) (entry ∷ (x, true) ∷ list) (entry ∷ insert_after anchor x list) other

pub put_behind : (anchor x : ℕ) (list : List (ℕ × Bool)) → is_in_list anchor list ≡ true
    → IsInsertedBehind anchor x list (insert_after anchor x list)
put_behind anchor x [] there = absurd (false≢true there)
put_behind anchor x (entry ∷ list) there = elim (cases_Bool (anchor == entry.0)) [
  | inl here ↦
      let same = eqb-true anchor entry.0 here in (
        [],
        list,
        entry.1,
        (λ i. (sym same i, entry.1) ∷ list),
        insert_here anchor x entry list here
            ∙ (λ i. (sym same i, entry.1) ∷ (x, true) ∷ list),
      )
  | inr other ↦ elim (or_cases (anchor == entry.0) (is_in_list anchor list) there) [
    | inl here ↦ absurd (false≢true (sym other ∙ here))
    | inr further ↦
        let (before, behind, is_shown, was, now) = put_behind anchor x list further in (
          entry ∷ before,
          behind,
          is_shown,
          ap (λ es. entry ∷ es) was,
          insert_on anchor x entry list other
              ∙ ap (λ es. entry ∷ es) now,
        )
  ]
]

pub after-puts : (list next : List (ℕ × Bool)) (anchor x : ℕ)
    → step_of (Listed list) (After anchor x) ≡ Some (Listed next) → IsInsertedBehind anchor x list next
after-puts list next anchor x is =
    let known = after_is list next anchor x is in
    subst (IsInsertedBehind anchor x list) known.2 (put_behind anchor x list known.0)

-- a removal leaves the position of each element unchanged
pub hide-places : (x : ℕ) (list : List (ℕ × Bool)) → elements_in (hide x list) ≡ elements_in list
hide-places x [] = refl
hide-places x (entry ∷ list) = ap (λ xs. entry.0 ∷ xs) (hide-places x list)

pub removed-places : (list next : List (ℕ × Bool)) (x : ℕ) → step_of (Listed list) (RgaRemove x) ≡ Some (Listed next)
    → elements_in next ≡ elements_in list
removed-places list next x is = ap elements_in (sym (removed_is list next x is).2) ∙ hide-places x list

-- and a read returns what it returned before, without the element
hidden : (b : Bool) (y : ℕ) (rest : List ℕ) (entries : List (ℕ × Bool))
    → map (λ (entry : ℕ × Bool). entry.0) entries ≡ rest
    → map (λ (entry : ℕ × Bool). entry.0) (cond b ((y, b) ∷ entries) entries) ≡ cond b (y ∷ rest) rest
hidden true y rest entries is = ap (λ ys. y ∷ ys) is
hidden false y rest entries is = is

pub hide-shown : (x : ℕ) (list : List (ℕ × Bool)) → shown (hide x list) ≡ filter (λ y. not (x == y)) (shown list)
hide-shown x [] = refl
hide-shown x ((y, true) ∷ list) =
    hidden (not (x == y)) y (filter (λ z. not (x == z)) (shown list)) (filter (λ entry. entry.1) (hide x list))
    (hide-shown x list)
hide-shown x ((y, false) ∷ list) = hide-shown x list

pub removed-shown : (list next : List (ℕ × Bool)) (x : ℕ) → step_of (Listed list) (RgaRemove x) ≡ Some (Listed next)
    → shown next ≡ filter (λ y. not (x == y)) (shown list)
removed-shown list next x is = ap shown (sym (removed_is list next x is).2) ∙ hide-shown x list

-- what a read returns
pub shown-append : (first later : List (ℕ × Bool)) → shown (first ++ later) ≡ shown first ++ shown later
shown-append first later =
    ap (map (λ (entry : ℕ × Bool). entry.0)) (filter-append (λ (entry : ℕ × Bool). entry.1) first later)
    ∙ map-append (λ (entry : ℕ × Bool). entry.0) (filter (λ entry. entry.1) first) (filter (λ entry. entry.1) later)

pub answers-shown : (list : List (ℕ × Bool)) (asked : List ℕ) → (answers (Listed list) (RgaRead asked) ≡ true)
    ↔ (asked ≡ shown list)
answers-shown list asked = pointwise_decides unsigned_Decides asked (shown list)

-- the elements after an insertion
pub insert-only : (anchor x y : ℕ) (list : List (ℕ × Bool)) → Contains (elements_in (insert_after anchor x list)) y
    → (x ≡ y) ⊎ Contains (elements_in list) y
insert-only anchor x y [] there = inr there
insert-only anchor x y (entry ∷ list) there = elim (cases_Bool (anchor == entry.0)) [
  | inl here ↦
      elim (head_or_behind entry.0 (x ∷ elements_in list) y
      (subst (λ es. Contains (elements_in es) y) (insert_here anchor x entry list here) there)) [
        | inl first ↦ inr (at_head entry.0 (elements_in list) y first)
        | inr behind ↦ elim (head_or_behind x (elements_in list) y behind) [
          | inl new ↦ inl new
          | inr further ↦ inr (behind_head entry.0 (elements_in list) y further)
        ]
      ]
  | inr other ↦
      elim (head_or_behind entry.0 (elements_in (insert_after anchor x list)) y
      (subst (λ es. Contains (elements_in es) y) (insert_on anchor x entry list other) there)) [
        | inl first ↦ inr (at_head entry.0 (elements_in list) y first)
        | inr behind ↦ elim (insert-only anchor x y list behind) [
          | inl new ↦ inl new
          | inr further ↦ inr (behind_head entry.0 (elements_in list) y further)
        ]
      ]
]

pub insert-keeps : (anchor x y : ℕ) (list : List (ℕ × Bool)) → Contains (elements_in list) y
    → Contains (elements_in (insert_after anchor x list)) y
insert-keeps anchor x y [] there = there
insert-keeps anchor x y (entry ∷ list) there = elim (cases_Bool (anchor == entry.0)) [
  | inl here ↦ subst (λ es. Contains (elements_in es) y) (sym (insert_here anchor x entry list here))
      (elim (head_or_behind entry.0 (elements_in list) y there) [
        | inl first ↦ at_head entry.0 (x ∷ elements_in list) y first
        | inr further ↦ behind_head entry.0 (x ∷ elements_in list) y (behind_head x (elements_in list) y further)
      ])
  | inr other ↦ subst (λ es. Contains (elements_in es) y) (sym (insert_on anchor x entry list other))
      (elim (head_or_behind entry.0 (elements_in list) y there) [
        | inl first ↦ at_head entry.0 (elements_in (insert_after anchor x list)) y first
        | inr further ↦ behind_head entry.0 (elements_in (insert_after anchor x list)) y
            (insert-keeps anchor x y list further)
      ])
]

-- no element occurs twice
insert-once : (anchor x : ℕ) (list : List (ℕ × Bool)) → ¬ Contains (elements_in list) x → HasNoDuplicates (elements_in list)
    → HasNoDuplicates (elements_in (insert_after anchor x list))
insert-once anchor x [] out once = once
insert-once anchor x (entry ∷ list) out once =
    let els = elements_in list in
    let not_first : ¬ (entry.0 ≡ x) = λ same. out (at_head entry.0 els x same) in
    let not_behind : ¬ Contains els x = λ there. out (behind_head entry.0 els x there) in
    elim (cases_Bool (anchor == entry.0)) [
      | inl here ↦ subst (λ es. HasNoDuplicates (elements_in es)) (sym (insert_here anchor x entry list here)) (
        (λ there. elim (head_or_behind x els entry.0 there) [
          | inl same ↦ not_first (sym same)
          | inr further ↦ once.0 further
        ]),
        (not_behind, once.1),
      )
      | inr other ↦ subst (λ es. HasNoDuplicates (elements_in es)) (sym (insert_on anchor x entry list other)) (
        (λ there. elim (insert-only anchor x entry.0 list there) [
          | inl same ↦ not_first (sym same)
          | inr further ↦ once.0 further
        ]),
        insert-once anchor x list not_behind once.1,
      )
    ]

-- the root stands first and is not shown
insert-root : (anchor x : ℕ) (rest : List (ℕ × Bool)) → RootFirst (insert_after anchor x ((0, false) ∷ rest))
insert-root anchor x rest = elim (cases_Bool (anchor == 0)) [
  | inl here ↦ ((x, true) ∷ rest, insert_here anchor x (0, false) rest here)
  | inr other ↦ (insert_after anchor x rest, insert_on anchor x (0, false) rest other)
]

-- the two kinds of steps
abbrev pub PutsIn : List (ℕ × Bool) → Update → List (ℕ × Bool) → Type 0
PutsIn ls update next =
    (anchor x : ℕ) × (update ≡ After anchor x) × (is_in_list anchor ls ≡ true) × (¬ Contains (elements_in ls) x)
    × (insert_after anchor x ls ≡ next)

abbrev pub Removes : List (ℕ × Bool) → Update → List (ℕ × Bool) → Type 0
Removes ls update next = (x : ℕ) × (update ≡ RgaRemove x) × Contains (elements_in ls) x × (hide x ls ≡ next)

abbrev pub Steps : List (ℕ × Bool) → Update → List (ℕ × Bool) → Type 0
Steps ls update next = PutsIn ls update next ⊎ Removes ls update next

-- if updates lead to a list, the first has a step, and the others lead on from there
abbrev pub LeadsOn : List (ℕ × Bool) → Update → List Update → List (ℕ × Bool) → Type 0
LeadsOn ls update us qs =
    (next : List (ℕ × Bool)) × Steps ls update next × (state_from (Some (Listed next)) us ≡ Some (Listed qs))

pub first_step : (ls : List (ℕ × Bool)) (update : Update) (us : List Update) (qs : List (ℕ × Bool))
    → state_from (Some (Listed ls)) (update ∷ us) ≡ Some (Listed qs) → LeadsOn ls update us qs
first_step ls (After anchor x) us qs is =
    cond_both (is_in_list anchor ls && not (is_in_list x ls)) (Some (Listed (insert_after anchor x ls))) None
    (λ o. state_from o us ≡ Some (Listed qs) → LeadsOn ls (After anchor x) us qs)
    (λ passes goes.
    let parts = and_parts (is_in_list anchor ls) (not (is_in_list x ls)) passes in
    (insert_after anchor x ls, inl (anchor, x, refl, parts.0, (not_in x ls).0 parts.1, refl), goes))
    (λ fails goes. absurd (none-some (Listed qs) (sym (stuck us) ∙ goes)))
    is
first_step ls (RgaRemove x) us qs is =
    cond_both (is_in_list x ls && not (x == 0)) (Some (Listed (hide x ls))) None
    (λ o. state_from o us ≡ Some (Listed qs) → LeadsOn ls (RgaRemove x) us qs)
    (λ passes goes.
    let parts = and_parts (is_in_list x ls) (not (x == 0)) passes in
    (hide x ls, inr (x, refl, (in-exactly x ls).0 parts.0, refl), goes))
    (λ fails goes. absurd (none-some (Listed qs) (sym (stuck us) ∙ goes)))
    is
first_step ls _ us qs is = absurd (none-some (Listed qs) (sym (stuck us) ∙ is))

-- a property that each step preserves is preserved by all updates
pub kept : (P : List (ℕ × Bool) → Type 0)
    → ((ls next : List (ℕ × Bool)) (update : Update) → Steps ls update next → P ls → P next)
    → (ls : List (ℕ × Bool)) (us : List Update) (qs : List (ℕ × Bool))
    → state_from (Some (Listed ls)) us ≡ Some (Listed qs) → P ls → P qs
kept P keeps ls [] qs is before = let same : ls ≡ qs = cc (is) in subst P same before
kept P keeps ls (update ∷ us) qs is before =
    let leads = first_step ls update us qs is in
    kept P keeps leads.0 us qs leads.2 (keeps ls leads.0 update leads.1 before)

once-step : (ls next : List (ℕ × Bool)) (update : Update) → Steps ls update next → HasNoDuplicates (elements_in ls)
    → HasNoDuplicates (elements_in next)
once-step ls next update (inl (anchor, x, which, there, out, same)) once =
    subst (λ es. HasNoDuplicates (elements_in es)) same (insert-once anchor x ls out once)
once-step ls next update (inr (x, which, there, same)) once =
    subst (λ es. HasNoDuplicates (elements_in es)) same (subst HasNoDuplicates (sym (hide-places x ls)) once)

pub list-once : (updates : List Update) (list : List (ℕ × Bool)) → state_after Rga updates ≡ Some (Listed list)
    → HasNoDuplicates (elements_in list)
list-once updates list is =
    kept (λ es. HasNoDuplicates (elements_in es)) once-step ((0, false) ∷ []) updates list is
    ((λ there. absurd (omega (arith, there.1))), tt)

root-step : (ls next : List (ℕ × Bool)) (update : Update) → Steps ls update next → RootFirst ls → RootFirst next
root-step ls next update (inl (anchor, x, which, there, out, same)) (rest, first) =
    subst RootFirst same (subst (λ es. RootFirst (insert_after anchor x es)) (sym first) (insert-root anchor x rest))
root-step ls next update (inr (x, which, there, same)) (rest, first) =
    subst RootFirst same (subst (λ es. RootFirst (hide x es)) (sym first) (hide x rest, refl))

pub list-root : (updates : List Update) (list : List (ℕ × Bool)) → state_after Rga updates ≡ Some (Listed list)
    → RootFirst list
list-root updates list is = kept RootFirst root-step ((0, false) ∷ []) updates list is ([], refl)

-- an element of the list stays in it
pub there-step : (y : ℕ) (ls next : List (ℕ × Bool)) (update : Update) → Steps ls update next
    → Contains (elements_in ls) y → Contains (elements_in next) y
there-step y ls next update (inl (anchor, x, which, there, out, same)) found =
    subst (λ es. Contains (elements_in es) y) same (insert-keeps anchor x y ls found)
there-step y ls next update (inr (x, which, there, same)) found =
    subst (λ es. Contains (elements_in es) y) same (subst (λ els. Contains els y) (sym (hide-places x ls)) found)

pub is_listed : (state : State) → kind_of_state state ≡ Rga → (list : List (ℕ × Bool)) × (state ≡ Listed list)
is_listed (Listed list) is = (list, refl)
is_listed _ is = absurd (cc (is))

pub list-stays : (first later : List Update) (list next : List (ℕ × Bool)) (x : ℕ)
    → state_after Rga first ≡ Some (Listed list) → state_after Rga (first ++ later) ≡ Some (Listed next)
    → Contains (elements_in list) x → Contains (elements_in next) x
list-stays first later list next x was now there =
    let on : state_from (Some (Listed list)) later ≡ Some (Listed next) = ap (λ o. state_from o later) (sym was)
    ∙ sym (fold-append (λ state change. option_and_then (λ s. step_of s change) state)
    (Some (Listed ((0, false) ∷ []))) first later) ∙ now in
    kept (λ es. Contains (elements_in es) x) (there-step x) list later next on there

-- a removed element keeps its position
removed_there : (list next : List (ℕ × Bool)) (x : ℕ) → step_of (Listed list) (RgaRemove x) ≡ Some (Listed next)
    → Contains (elements_in next) x
removed_there list next x is = subst (λ els. Contains els x) (sym (removed-places list next x is))
    (removed_is list next x is).0

pub removed-anchor : (list next : List (ℕ × Bool)) (x y : ℕ) → step_of (Listed list) (RgaRemove x) ≡ Some (Listed next)
    → ¬ Contains (elements_in list) y → is_some (step_of (Listed next) (After x y)) ≡ true
removed-anchor list next x y is out =
    (after-admitted next x y).1 (
      removed_there list next x
          is,
      (λ there. out (subst (λ els. Contains els y) (removed-places list next x is) there)),
    )

pub removed-again : (list next : List (ℕ × Bool)) (x anchor : ℕ)
    → step_of (Listed list) (RgaRemove x) ≡ Some (Listed next)
    → is_some (step_of (Listed next) (After anchor x)) ≡ false
removed-again list next x anchor is =
    false_from_ne_true (is_some (step_of (Listed next) (After anchor x)))
    (λ admitted. ((after-admitted next anchor x).0 admitted).1 (removed_there list next x is))

pub removed-twice : (list next : List (ℕ × Bool)) (x : ℕ) → step_of (Listed list) (RgaRemove x) ≡ Some (Listed next)
    → is_some (step_of (Listed next) (RgaRemove x)) ≡ true
removed-twice list next x is = (removed-admitted next x).1 (removed_there list next x is, (removed_is list next x is).1)

-- each element of the list was in it before, or was inserted
pub came_in : (ls : List (ℕ × Bool)) (us : List Update) (qs : List (ℕ × Bool)) (y : ℕ)
    → state_from (Some (Listed ls)) us ≡ Some (Listed qs) → Contains (elements_in qs) y
    → Contains (elements_in ls) y ⊎ WasInserted y us
came_in ls [] qs y is there = let same : ls ≡ qs = cc (is) in
    inl (subst (λ es. Contains (elements_in es) y) (sym same) there)
came_in ls (update ∷ us) qs y is there =
    let leads = first_step ls update us qs is in
    elim (came_in leads.0 us qs y leads.2 there) [
      | inr (anchor, later) ↦ inr (anchor, behind_head update us (After anchor y) later)
      | inl older ↦ from_step ls leads.0 update us y leads.1 older
    ]
  where
    from_step : (ls next : List (ℕ × Bool)) (update : Update) (us : List Update) (y : ℕ) → Steps ls update next
        → Contains (elements_in next) y → Contains (elements_in ls) y ⊎ WasInserted y (update ∷ us)
    from_step ls next update us y (inl (anchor, x, which, there, out, same)) found =
        elim (insert-only anchor x y ls (subst (λ es. Contains (elements_in es) y) (sym same) found)) [
          | inl new ↦ inr (anchor, at_head update us (After anchor y) (which ∙ ap (After anchor) new))
          | inr old ↦ inl old
        ]
    from_step ls next update us y (inr (x, which, there, same)) found =
        inl (subst (λ els. Contains els y) (hide-places x ls)
        (subst (λ es. Contains (elements_in es) y) (sym same) found))

-- the element that a step inserts
pub step_puts : (ls next : List (ℕ × Bool)) (update : Update) (anchor y : ℕ) → Steps ls update next
    → update ≡ After anchor y → Contains (shown next) y × (¬ Contains (elements_in ls) y)
    × Contains (elements_in next) y
step_puts ls next update anchor y (inl (a, x, which, there, out, same)) is =
    let this : After a x ≡ After anchor y = sym which ∙ is in
    let element : x ≡ y = cc (this) in
    let (before, behind, is_shown, was, now) = put_behind a x ls there in
    let seen : Contains (shown (insert_after a x ls)) x = subst (λ es. Contains (shown es) x) (sym now)
    (subst (λ xs. Contains xs x) (sym (shown-append before ((a, is_shown) ∷ (x, true) ∷ behind)))
    (Contains-append_right (shown before) (shown ((a, is_shown) ∷ (x, true) ∷ behind)) x
    (seen_next a x is_shown behind))) in
    let put : Contains (elements_in (insert_after a x ls)) x = subst (λ es. Contains (elements_in es) x) (sym now)
    (subst (λ xs. Contains xs x)
    (sym (map-append (λ (entry : ℕ × Bool). entry.0) before ((a, is_shown) ∷ (x, true) ∷ behind)))
    (Contains-append_right (elements_in before) (a ∷ x ∷ elements_in behind) x
    (behind_head a (x ∷ elements_in behind) x (at_head x (elements_in behind) x refl)))) in (
      subst (Contains (shown next)) element (subst (λ es. Contains (shown es) x) same seen),
      subst
          (λ z. ¬ Contains (elements_in ls) z) element out,
      subst (Contains (elements_in next)) element
          (subst (λ es. Contains (elements_in es) x) same put),
    )
  where
    seen_next : (a x : ℕ) (is_shown : Bool) (behind : List (ℕ × Bool))
        → Contains (shown ((a, is_shown) ∷ (x, true) ∷ behind)) x
    seen_next a x true behind = behind_head a (x ∷ shown behind) x (at_head x (shown behind) x refl)
    seen_next a x false behind = at_head x (shown behind) x refl
step_puts ls next update anchor y (inr (x, which, there, same)) is = let this : RgaRemove x ≡ After anchor y = sym which
    ∙ is in absurd (cc (this))

pub comes_in : (ls : List (ℕ × Bool)) (us : List Update) (qs : List (ℕ × Bool)) (anchor y : ℕ)
    → state_from (Some (Listed ls)) us ≡ Some (Listed qs) → Contains us (After anchor y)
    → Contains (elements_in qs) y × ¬ Contains (elements_in ls) y
comes_in ls [] qs anchor y is put = absurd (omega (arith, put.1))
comes_in ls (update ∷ us) qs anchor y is put =
    let leads = first_step ls update us qs is in
    elim (head_or_behind update us (After anchor y) put) [
      | inl here ↦
          let known = step_puts ls leads.0 update anchor y leads.1 here in
          (kept (λ es. Contains (elements_in es) y) (there-step y) leads.0 us qs leads.2 known.2, known.1)
      | inr further ↦
          let rest = comes_in leads.0 us qs anchor y leads.2 further in
          (rest.0, (λ there. rest.1 (there-step y ls leads.0 update leads.1 there)))
    ]

pub list-exactly : (updates : List Update) (list : List (ℕ × Bool)) (x : ℕ)
    → state_after Rga updates ≡ Some (Listed list) → Contains (elements_in list) x ↔ ((x ≡ 0) ⊎ WasInserted x updates)
list-exactly updates list x is = (
  (λ there. elim (came_in ((0, false) ∷ []) updates list x is there) [
    | inl old ↦ elim (head_or_behind 0 [] x old) [
      | inl root ↦ inl (sym root)
      | inr none ↦ absurd (omega (arith, none.1))
    ]
    | inr put ↦ inr put
  ]),
  (λ known. elim known [
    | inl root ↦ kept (λ es. Contains (elements_in es) x) (there-step x) ((0, false) ∷ []) updates list is
        (at_head 0 [] x (sym root))
    | inr (anchor, put) ↦ (comes_in ((0, false) ∷ []) updates list anchor x is put).0
  ]),
)
