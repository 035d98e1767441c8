-- Lemmas on what a read of an RGA shows.
use Rattle.std.proofs.Common.{◌≡◌, ℕ, Bool, true, false, List, [], ◌∷◌, ◌++◌, filter, Some, sym, ap, ◌∙◌, subst, inl, inr, arith, refl}
use Rattle.std.specs.Prelude.{◌↔◌, ◌⊎◌, ◌==◌, not, Contains, ◌||◌, map}
use Rattle.std.proofs.lemmas.Bool.{false≢true, eqb-true, eq-eqb, not-true, not_from_false, false_from_ne_true, cases_Bool, or_left, or_right, or_from, ne_eqb}
use Rattle.std.proofs.lemmas.List.Elements.{Contains-append_left, Contains-append_right, Contains-append_cases}
use Rattle.ra_labels.specs.declared.kind.Kind.TheVariants.{Rga}
use Rattle.ra_labels.specs.declared.operation.Update.{Update}
use Rattle.ra_labels.specs.declared.operation.Update.TheVariants.{After, RgaRemove}
use Rattle.ra_labels.specs.Lists.{shown}
use Rattle.ra_labels.specs.Specification.{Listed, state_after}
use Rattle.ra_labels.specs.TheoremTerms.{elements_in, WasInserted, HasNoDuplicates}
use Rattle.ra_labels.proofs.Members.{head_or_behind, at_head, behind_head, kept-there, there-kept, from_where, reached, what_passes}
use Rattle.ra_theorems.proofs.States.{state_from}
use Rattle.ra_theorems.proofs.Rgas.{put_behind, shown-append, hide-shown, Steps, first_step, there-step, step_puts, comes_in, list-exactly, list-once}
use Rattle.std.specs.List.{list_any}
use Rattle.ra_labels.specs.Pending.{removes_element, shown_by}
use Rattle.ra_theorems.proofs.HadUpdates.{any_at}

-- an element is shown after it is inserted, until it is removed
shows-step : (y : ℕ) (ls next : List (ℕ × Bool)) (update : Update) → Steps ls update next
    → Contains (shown next) y
    ↔ ((Contains (shown ls) y ⊎ ((anchor : ℕ) × (update ≡ After anchor y))) × ¬ (update ≡ RgaRemove y))
shows-step y ls next update (inl (anchor, x, which, there, out, same)) =
    let no_removal : ¬ (update ≡ RgaRemove y) = λ is. let this : After anchor x ≡ RgaRemove y = sym which ∙ is in
    absurd (cc (this)) in
    let (before, behind, is_shown, was, now) = put_behind anchor x ls there in
    let old : shown ls ≡ shown before ++ shown ((anchor, is_shown) ∷ behind) = ap shown was
    ∙ shown-append before ((anchor, is_shown) ∷ behind) in
    let new : shown next ≡ shown before ++ shown ((anchor, is_shown) ∷ (x, true) ∷ behind) = ap shown (sym same ∙ now)
    ∙ shown-append before ((anchor, is_shown) ∷ (x, true) ∷ behind) in (
      (λ found. (
        elim (Contains-append_cases (shown before) (shown ((anchor, is_shown) ∷ (x, true) ∷ behind)) y
            (subst (λ xs. Contains xs y) new found)) [
              | inl early ↦
                  inl (subst (λ xs. Contains xs y) (sym old)
                  (Contains-append_left (shown before) (shown ((anchor, is_shown) ∷ behind)) y early))
              | inr late ↦ elim (without_next anchor x y is_shown behind late) [
                | inl this ↦ inr (anchor, which ∙ ap (After anchor) this)
                | inr other ↦
                    inl (subst (λ xs. Contains xs y) (sym old)
                    (Contains-append_right (shown before) (shown ((anchor, is_shown) ∷ behind)) y other))
              ]
            ],
        no_removal,
      )),
      (λ known. elim known.0 [
        | inl early ↦
            subst (λ xs. Contains xs y) (sym new)
            (elim (Contains-append_cases (shown before) (shown ((anchor, is_shown) ∷ behind)) y
            (subst (λ xs. Contains xs y) old early)) [
              | inl first ↦
                  Contains-append_left (shown before) (shown ((anchor, is_shown) ∷ (x, true) ∷ behind)) y first
              | inr late ↦ Contains-append_right (shown before) (shown ((anchor, is_shown) ∷ (x, true) ∷ behind)) y
                  (with_next anchor x y is_shown behind late)
            ])
        | inr (a, is) ↦ (step_puts ls next update a y (inl (anchor, x, which, there, out, same)) is).0
      ]),
    )
  where
    without_next : (anchor x y : ℕ) (is_shown : Bool) (behind : List (ℕ × Bool))
        → Contains (shown ((anchor, is_shown) ∷ (x, true) ∷ behind)) y
        → (x ≡ y) ⊎ Contains (shown ((anchor, is_shown) ∷ behind)) y
    without_next anchor x y true behind found = elim (head_or_behind anchor (x ∷ shown behind) y found) [
      | inl here ↦ inr (at_head anchor (shown behind) y here)
      | inr late ↦ elim (head_or_behind x (shown behind) y late) [
        | inl this ↦ inl this
        | inr further ↦ inr (behind_head anchor (shown behind) y further)
      ]
    ]
    without_next anchor x y false behind found = head_or_behind x (shown behind) y found

    with_next : (anchor x y : ℕ) (is_shown : Bool) (behind : List (ℕ × Bool))
        → Contains (shown ((anchor, is_shown) ∷ behind)) y
        → Contains (shown ((anchor, is_shown) ∷ (x, true) ∷ behind)) y
    with_next anchor x y true behind found = elim (head_or_behind anchor (shown behind) y found) [
      | inl here ↦ at_head anchor (x ∷ shown behind) y here
      | inr late ↦ behind_head anchor (x ∷ shown behind) y (behind_head x (shown behind) y late)
    ]
    with_next anchor x y false behind found = behind_head x (shown behind) y found
shows-step y ls next update (inr (x, which, there, same)) =
    let shows : shown next ≡ filter (λ z. not (x == z)) (shown ls) = ap shown (sym same) ∙ hide-shown x ls in (
      (λ found.
          let kept_one = there-kept (λ z. not (x == z)) (shown ls) y (subst (λ xs. Contains xs y) shows found) in (
            inl kept_one.0,
            (λ is.
                let this : RgaRemove x ≡ RgaRemove y = sym which ∙ is in
                let element : x ≡ y = cc (this) in
                false≢true (sym (not-true (x == y) kept_one.1) ∙ eq-eqb x y element)),
          )),
      (λ known. elim known.0 [
        | inl early ↦
            let other : (x == y) ≡ false =
            false_from_ne_true (x == y) (λ is. known.1 (which ∙ ap RgaRemove (eqb-true x y is))) in
            subst (λ xs. Contains xs y) (sym shows)
            (kept-there (λ z. not (x == z)) (shown ls) y early (not_from_false (x == y) other))
        | inr (a, is) ↦ let this : RgaRemove x ≡ After a y = sym which ∙ is in absurd (cc (this))
      ]),
    )

-- an inserted element can only be removed later, since it stays in the list from then on
shows : (ls : List (ℕ × Bool)) (us : List Update) (qs : List (ℕ × Bool)) (y : ℕ)
    → (Contains (shown ls) y → Contains (elements_in ls) y) → state_from (Some (Listed ls)) us ≡ Some (Listed qs)
    → Contains (shown qs) y ↔ ((Contains (shown ls) y ⊎ WasInserted y us) × ¬ Contains us (RgaRemove y))
shows ls [] qs y listed is =
    let same : ls ≡ qs = cc (is) in (
      (λ found. (
        inl
            (subst (λ es. Contains (shown es) y) (sym same) found),
        (λ there. absurd (omega (arith, there.1))),
      )),
      (λ known. elim known.0 [
        | inl old ↦ subst (λ es. Contains (shown es) y) same old
        | inr (a, put) ↦ absurd (omega (arith, put.1))
      ]),
    )
shows ls (update ∷ us) qs y listed is =
    let leads = first_step ls update us qs is in
    let step = shows-step y ls leads.0 update leads.1 in
    let rest =
    shows leads.0 us qs y (λ found. there_after ls leads.0 update y listed leads.1 (step.0 found).0) leads.2 in (
      (λ found.
          let later = rest.0 found in
          elim later.0 [
            | inl now ↦
                let before = step.0 now in (
                  elim before.0 [
                    | inl old ↦ inl old
                    | inr (a, which) ↦ inr (a, at_head update us (After a y) which)
                  ],
                  not_removed before.1 later.1,
                )
            | inr (a, put) ↦ (
              inr (a, behind_head update us (After a y) put),
              not_removed
                  (λ which. never_before ls leads.0 update us qs a y leads.1 leads.2 put which) later.1,
            )
          ]),
      (λ known.
          let never_now : ¬ (update ≡ RgaRemove y) = λ which. known.1 (at_head update us (RgaRemove y) which) in
          let never_later : ¬ Contains us (RgaRemove y) =
          λ there. known.1 (behind_head update us (RgaRemove y) there) in
          rest.1 (
            elim known.0 [
              | inl old ↦ inl (step.1 (inl old, never_now))
              | inr (a, put) ↦ elim (head_or_behind update us (After a y) put) [
                | inl here ↦ inl (step.1 (inr (a, here), never_now))
                | inr further ↦ inr (a, further)
              ]
            ],
            never_later,
          )),
    )
  where
    not_removed : ¬ (update ≡ RgaRemove y) → ¬ Contains us (RgaRemove y) → ¬ Contains (update ∷ us) (RgaRemove y)
    not_removed now later there = elim (head_or_behind update us (RgaRemove y) there) [
      | inl here ↦ now here
      | inr further ↦ later further
    ]

    there_after : (ls next : List (ℕ × Bool)) (update : Update) (y : ℕ)
        → (Contains (shown ls) y → Contains (elements_in ls) y) → Steps ls update next
        → Contains (shown ls) y ⊎ ((anchor : ℕ) × (update ≡ After anchor y)) → Contains (elements_in next) y
    there_after ls next update y listed steps (inl old) = there-step y ls next update steps (listed old)
    there_after ls next update y listed steps (inr (a, which)) = (step_puts ls next update a y steps which).2

    never_before : (ls next : List (ℕ × Bool)) (update : Update) (us : List Update) (qs : List (ℕ × Bool)) (a y : ℕ)
        → Steps ls update next → state_from (Some (Listed next)) us ≡ Some (Listed qs) → Contains us (After a y)
        → update ≡ RgaRemove y → ⊥
    never_before ls next update us qs a y (inl (anchor, x, put_now, there, out, same)) goes put which =
        let this : After anchor x ≡ RgaRemove y = sym put_now ∙ which in absurd (cc (this))
    never_before ls next update us qs a y (inr (x, removes_element, there, same)) goes put which =
        let this : RgaRemove x ≡ RgaRemove y = sym removes_element ∙ which in
        let element : x ≡ y = cc (this) in
        (comes_in next us qs a y goes put).1
        (there-step y ls next update (inr (x, removes_element, there, same))
        (subst (Contains (elements_in ls)) element there))

pub list-shown : (updates : List Update) (list : List (ℕ × Bool)) (x : ℕ) → state_after Rga updates ≡ Some (Listed list)
    → Contains (shown list) x ↔ (WasInserted x updates × ¬ Contains updates (RgaRemove x))
list-shown updates list x is =
    let both = shows ((0, false) ∷ []) updates list x (λ there. absurd (omega (arith, there.1))) is in (
      (λ found. let known = both.0 found in (
        elim known.0 [
          | inl old ↦ absurd (omega (arith, old.1))
          | inr put ↦ put
        ],
        known.1,
      )),
      (λ known. both.1 (inr known.0, known.1)),
    )

-- ---- entry by entry

-- `removes_element` in the terms of the theorems
removed_by : (x : ℕ) (u : Update) (us : List Update) → Contains us u → removes_element x u ≡ true → Contains us (RgaRemove x)
removed_by x (RgaRemove y) us found it = subst (λ z. Contains us (RgaRemove z)) (eqb-true y x it) found
removed_by x _ us found it = absurd (false≢true it)

any_removed : (x : ℕ) (us : List Update) → list_any (removes_element x) us ≡ true → Contains us (RgaRemove x)
any_removed x us some = let (u, found, it) = what_passes (removes_element x) us some in removed_by x u us found it

removed_any : (x : ℕ) (us : List Update) → Contains us (RgaRemove x) → list_any (removes_element x) us ≡ true
removed_any x us found = any_at (removes_element x) us (RgaRemove x) found (eq-eqb x x refl)

-- an element has one entry
in_elements : (list : List (ℕ × Bool)) (x : ℕ) (b : Bool) → Contains list (x, b) → Contains (elements_in list) x
in_elements list x b there = reached (λ (e : ℕ × Bool). e.0) list (x, b) there

one_entry : (list : List (ℕ × Bool)) (x : ℕ) (b c : Bool) → HasNoDuplicates (elements_in list) → Contains list (x, b)
    → Contains list (x, c) → b ≡ c
one_entry [] x b c once there also = absurd (omega (arith, there.1))
one_entry (entry ∷ list) x b c once there also = elim (head_or_behind entry list (x, b) there) [
  | inl is ↦ elim (head_or_behind entry list (x, c) also) [
    | inl is_too ↦ sym (ap (λ (e : ℕ × Bool). e.1) is) ∙ ap (λ (e : ℕ × Bool). e.1) is_too
    | inr further ↦
        absurd (once.0
        (subst (Contains (elements_in list)) (sym (ap (λ (e : ℕ × Bool). e.0) is)) (in_elements list x c further)))
  ]
  | inr further ↦ elim (head_or_behind entry list (x, c) also) [
    | inl is_too ↦
        absurd (once.0
        (subst (Contains (elements_in list)) (sym (ap (λ (e : ℕ × Bool). e.0) is_too)) (in_elements list x b further)))
    | inr further_too ↦ one_entry list x b c once.1 further further_too
  ]
]

seen : (list : List (ℕ × Bool)) (x : ℕ) → Contains list (x, true) → Contains (shown list) x
seen list x there = reached (λ (e : ℕ × Bool). e.0) _ (x, true)
    (kept-there (λ (e : ℕ × Bool). e.1) list (x, true) there refl)

seen_from : (list : List (ℕ × Bool)) (x : ℕ) → Contains (shown list) x → Contains list (x, true)
seen_from list x there =
    let (entry, found, is) = from_where (λ (e : ℕ × Bool). e.0) _ x there in
    let (in_list, it) = there-kept (λ (e : ℕ × Bool). e.1) list entry found in
    subst (Contains list) (λ i. (is i, it i)) in_list

-- its entry is shown exactly if the element is not the root and is not removed
flag : (us : List Update) (list : List (ℕ × Bool)) (x : ℕ) (b : Bool) → state_after Rga us ≡ Some (Listed list)
    → Contains list (x, b) → not (x == 0 || list_any (removes_element x) us) ≡ b
flag us list x true led there =
    let ((anchor, put), stays) = (list-shown us list x led).0 (seen list x there) in
    let new = (comes_in ((0, false) ∷ []) us list anchor x led put).1 in
    let other : (x == 0) ≡ false = ne_eqb x 0 (λ root. new (at_head 0 [] x (sym root))) in
    ap not (or_from (x == 0) (list_any (removes_element x) us) other
    (false_from_ne_true (list_any (removes_element x) us) (λ some. stays (any_removed x us some))))
flag us list x false led there = ap not (elim ((list-exactly us list x led).0 (in_elements list x false there)) [
  | inl root ↦ or_left (x == 0) (list_any (removes_element x) us) (eq-eqb x 0 root)
  | inr put ↦ or_right (x == 0) (list_any (removes_element x) us) (elim (cases_Bool (list_any (removes_element x) us)) [
    | inl removed ↦ removed
    | inr not_removed ↦
        let stays : ¬ Contains us (RgaRemove x) = λ found. false≢true (sym not_removed ∙ removed_any x us found) in
        let is_seen = (list-shown us list x led).1 (put, stays) in
        absurd (false≢true (one_entry list x false true (list-once us list led) there (seen_from list x is_seen)))
  ])
])

same_entries : (us : List Update) (list : List (ℕ × Bool)) →
    ((x : ℕ) (b : Bool) → Contains list (x, b) → not (x == 0 || list_any (removes_element x) us) ≡ b) → list ≡ shown_by us list
same_entries us [] same = refl
same_entries us ((x, b) ∷ list) same =
    λ i. (x, sym (same x b (at_head (x, b) list (x, b) refl)) i) ∷ same_entries us list
    (λ y c found. same y c (behind_head (x, b) list (y, c) found)) i

pub list-shown_by : (us : List Update) (list : List (ℕ × Bool)) → state_after Rga us ≡ Some (Listed list)
    → list ≡ shown_by us list
list-shown_by us list led = same_entries us list (λ x b found. flag us list x b led found)

-- this determines the entries from the elements
by_elements : (us : List Update) (list : List (ℕ × Bool))
    → shown_by us list ≡ map (λ x. (x, not (x == 0 || list_any (removes_element x) us))) (elements_in list)
by_elements us [] = refl
by_elements us (entry ∷ list) = ap (λ es. (entry.0, not (entry.0 == 0 || list_any (removes_element entry.0) us)) ∷ es)
    (by_elements us list)

pub shown_by-same : (us : List Update) (list others : List (ℕ × Bool)) → elements_in list ≡ elements_in others
    → shown_by us list ≡ shown_by us others
shown_by-same us list others same =
    by_elements us list ∙ ap (map (λ (x : ℕ). (x, not (x == 0 || list_any (removes_element x) us)))) same
    ∙ sym (by_elements us others)
