-- Lemmas on keeping some updates of an RGA: the list that these lead to, compared with the list of all updates.
use Rattle.std.proofs.Common.{◌≡◌, ℕ, Bool, true, false, cond, List, [], ◌∷◌, Some, refl, sym, ap, ◌∙◌, subst, inl, inr, arith}
use Rattle.std.specs.Prelude.{◌↔◌, ◌⊎◌, ◌==◌, ◌&&◌, ◌||◌, Contains}
use Rattle.std.specs.List.{list_any}
use Rattle.std.proofs.lemmas.Bool.{false≢true, cases_Bool, cond-true, cond-false, or_cases, or_left, or_right}
use Rattle.std.proofs.lemmas.Bool.{and_right, eqb-true, eq-eqb, ne_eqb, false_from_ne_true}
use Rattle.std.proofs.lemmas.Option.{none-some}
use Rattle.ra_labels.specs.declared.kind.Kind.TheVariants.{Rga}
use Rattle.ra_labels.specs.declared.operation.Update.{Update}
use Rattle.ra_labels.specs.declared.operation.Update.TheVariants.{After, RgaRemove}
use Rattle.ra_labels.specs.Lists.{insert_after, hide}
use Rattle.ra_labels.specs.Specification.{Listed, step_of, state_after}
use Rattle.ra_labels.specs.TheoremTerms.{kind_of_update, elements_in, WasInserted}
use Rattle.ra_labels.specs.Late.{kept_entries}
use Rattle.ra_labels.specs.Pending.{inserts_element, is_present_element, dependency_of}
use Rattle.ra_labels.proofs.Members.{head_or_behind, at_head, behind_head, from_where, kept-there, reached, what_passes}
use Rattle.ra_theorems.proofs.States.{state_from}
use Rattle.ra_theorems.proofs.HadUpdates.{any_at}
use Rattle.ra_theorems.proofs.Rgas.{in-exactly, after_is, removed_is, insert_here, insert_on, hide-places, comes_in, list-exactly}
use Rattle.ra_theorems.proofs.KeptEntries.{kept-inserted, kept-dropped, kept-hidden, in-kept}
use Rattle.ra_theorems.proofs.LateUpdates.{after_goes, remove_goes, one_step, stays_in}

-- `is_present_element` in the terms of the theorems
put_by : (x : ℕ) (u : Update) (us : List Update) → Contains us u → inserts_element x u ≡ true → WasInserted x us
put_by x (After anchor y) us found puts = (anchor, subst (λ z. Contains us (After anchor z)) (eqb-true y x puts) found)
put_by x _ us found puts = absurd (false≢true puts)

pub any-put : (x : ℕ) (us : List Update) → list_any (inserts_element x) us ≡ true → WasInserted x us
any-put x us some = let (u, found, puts) = what_passes (inserts_element x) us some in put_by x u us found puts

pub put-any : (x anchor : ℕ) (us : List Update) → Contains us (After anchor x) → list_any (inserts_element x) us ≡ true
put-any x anchor us found = any_at (inserts_element x) us (After anchor x) found (eq-eqb x x refl)

pub there-exactly : (x : ℕ) (us : List Update) → (is_present_element x us ≡ true) ↔ ((x ≡ 0) ⊎ WasInserted x us)
there-exactly x us = (
  (λ is. elim (or_cases (x == 0) (list_any (inserts_element x) us) is) [
    | inl root ↦ inl (eqb-true x 0 root)
    | inr some ↦ inr (any-put x us some)
  ]),
  (λ known. elim known [
    | inl root ↦ or_left (x == 0) (list_any (inserts_element x) us) (eq-eqb x 0 root)
    | inr (anchor, found) ↦ or_right (x == 0) (list_any (inserts_element x) us) (put-any x anchor us found)
  ]),
)

-- an element is present after the updates exactly if it is in their list
pub there-list : (us : List Update) (list : List (ℕ × Bool)) (x : ℕ) → state_after Rga us ≡ Some (Listed list)
    → (is_present_element x us ≡ true) ↔ Contains (elements_in list) x
there-list us list x led = (
  (λ is. (list-exactly us list x led).1 ((there-exactly x us).0 is)),
  (λ found. (there-exactly x us).1 ((list-exactly us list x led).0 found)),
)

-- a step inserts an element, or removes one
abbrev pub GoesIn : List (ℕ × Bool) → Update → List (ℕ × Bool) → Type 0
GoesIn ls u next = (anchor x : ℕ) × (u ≡ After anchor x) × Contains (elements_in ls) anchor
    × (¬ Contains (elements_in ls) x) × (insert_after anchor x ls ≡ next)

abbrev pub GoesOut : List (ℕ × Bool) → Update → List (ℕ × Bool) → Type 0
GoesOut ls u next = (x : ℕ) × (u ≡ RgaRemove x) × Contains (elements_in ls) x × (¬ (x ≡ 0)) × (hide x ls ≡ next)

pub which_step : (ls next : List (ℕ × Bool)) (u : Update) → step_of (Listed ls) u ≡ Some (Listed next)
    → GoesIn ls u next ⊎ GoesOut ls u next
which_step ls next (After anchor x) is =
    let (found, new, same) = after_is ls next anchor x is in
    inl (anchor, x, refl, (in-exactly anchor ls).0 found, new, same)
which_step ls next (RgaRemove x) is =
    let (found, other, same) = removed_is ls next x is in
    inr (x, refl, found, other, same)
which_step ls next _ is = absurd (none-some (Listed next) is)

-- an update of another kind depends on the root
pub needed-other : (u : Update) → ¬ (kind_of_update u ≡ Rga) → dependency_of u ≡ 0
needed-other (After anchor x) other = absurd (other refl)
needed-other (RgaRemove x) other = absurd (other refl)
needed-other _ other = refl

-- the element that an admitted update depends on is in the list
needed_here : (ls next : List (ℕ × Bool)) (u : Update) → GoesIn ls u next ⊎ GoesOut ls u next
    → Contains (elements_in ls) (dependency_of u)
needed_here ls next u (inl (anchor, x, which, there, new, same)) =
    subst (λ v. Contains (elements_in ls) (dependency_of v)) (sym which) there
needed_here ls next u (inr (x, which, there, other, same)) =
    subst (λ v. Contains (elements_in ls) (dependency_of v)) (sym which) there

pub needed-now : (ls next : List (ℕ × Bool)) (u : Update) → step_of (Listed ls) u ≡ Some (Listed next)
    → Contains (elements_in ls) (dependency_of u)
needed-now ls next u is = needed_here ls next u (which_step ls next u is)

pub needed-in : (ls qs : List (ℕ × Bool)) (us : List Update) (u : Update)
    → state_from (Some (Listed ls)) us ≡ Some (Listed qs) → Contains us u → Contains (elements_in qs) (dependency_of u)
needed-in ls qs [] u is there = absurd (omega (arith, there.1))
needed-in ls qs (v ∷ us) u is there =
    let (next, step, rest) = one_step ls v us qs is in
    elim (head_or_behind v us u there) [
      | inl here ↦
          subst (λ w. Contains (elements_in qs) (dependency_of w)) here
          (stays_in (dependency_of v) next us qs rest
          (stays_in (dependency_of v) ls (v ∷ []) next step (needed-now ls next v step)))
      | inr further ↦ needed-in next qs us u rest further
    ]

-- the elements after an insertion depend only on the elements before it
abbrev pub insert_in : ℕ → ℕ → List ℕ → List ℕ
insert_in anchor x [] = []
insert_in anchor x (y ∷ ys) = cond (anchor == y) (y ∷ x ∷ ys) (y ∷ insert_in anchor x ys)

pub elements-inserted : (anchor x : ℕ) (list : List (ℕ × Bool))
    → elements_in (insert_after anchor x list) ≡ insert_in anchor x (elements_in list)
elements-inserted anchor x [] = refl
elements-inserted anchor x (entry ∷ list) = elim (cases_Bool (anchor == entry.0)) [
  | inl here ↦
      ap elements_in (insert_here anchor x entry list here)
      ∙ sym (cond-true (anchor == entry.0) (entry.0 ∷ x ∷ elements_in list)
      (entry.0 ∷ insert_in anchor x (elements_in list)) here)
  | inr other ↦
      ap elements_in (insert_on anchor x entry list other)
      ∙ ap (λ es. entry.0 ∷ es) (elements-inserted anchor x list)
      ∙ sym (cond-false (anchor == entry.0) (entry.0 ∷ x ∷ elements_in list)
      (entry.0 ∷ insert_in anchor x (elements_in list)) other)
]

pub inserted-same : (anchor x : ℕ) (ls es : List (ℕ × Bool)) → elements_in ls ≡ elements_in es
    → elements_in (insert_after anchor x ls) ≡ elements_in (insert_after anchor x es)
inserted-same anchor x ls es same = elements-inserted anchor x ls ∙ ap (insert_in anchor x) same
    ∙ sym (elements-inserted anchor x es)

-- an element that is in the list and kept is in the kept list
pub kept-in : (keep : ℕ → Bool) (list : List (ℕ × Bool)) (y : ℕ) → Contains (elements_in list) y → keep y ≡ true
    → Contains (elements_in (kept_entries keep list)) y
kept-in keep list y there passes =
    let (entry, found, is) = from_where (λ (e : ℕ × Bool). e.0) list y there in
    subst (Contains (elements_in (kept_entries keep list))) is
    (reached (λ (e : ℕ × Bool). e.0) (kept_entries keep list) entry
    (kept-there (λ (e : ℕ × Bool). keep e.0) list entry found (ap keep is ∙ passes)))

-- updates, each marked with whether it is kept; all of them; and the kept ones
abbrev pub all_marked : List (Bool × Update) → List Update
all_marked [] = []
all_marked ((kept, u) ∷ marked) = u ∷ all_marked marked

abbrev pub kept_marked : List (Bool × Update) → List Update
kept_marked [] = []
kept_marked ((true, u) ∷ marked) = u ∷ kept_marked marked
kept_marked ((false, u) ∷ marked) = kept_marked marked

abbrev pub marked_as : Bool → Update → Bool × Update
marked_as kept u = (kept, u)

kept_among : (marked : List (Bool × Update)) (u : Update) → Contains (kept_marked marked) u
    → Contains (all_marked marked) u
kept_among [] u there = there
kept_among ((true, v) ∷ marked) u there = elim (head_or_behind v (kept_marked marked) u there) [
  | inl here ↦ at_head v (all_marked marked) u here
  | inr further ↦ behind_head v (all_marked marked) u (kept_among marked u further)
]
kept_among ((false, v) ∷ marked) u there = behind_head v (all_marked marked) u (kept_among marked u there)

mark_among : (marked : List (Bool × Update)) (kept : Bool) (u : Update) → Contains marked (kept, u)
    → Contains (all_marked marked) u
mark_among [] kept u there = absurd (omega (arith, there.1))
mark_among ((b, v) ∷ marked) kept u there = elim (head_or_behind (b, v) marked (kept, u) there) [
  | inl here ↦ at_head v (all_marked marked) u (ap (λ (m : Bool × Update). m.1) here)
  | inr further ↦ behind_head v (all_marked marked) u (mark_among marked kept u further)
]

any_kept : (p : Update → Bool) (b : Bool) (u : Update) (marked : List (Bool × Update))
    → list_any p (kept_marked ((b, u) ∷ marked)) ≡ (b && p u) || list_any p (kept_marked marked)
any_kept p true u marked = refl
any_kept p false u marked = refl

just : (b : Bool) → ((b && true) || false) ≡ b
just true = refl
just false = refl

-- if all updates lead to a list, the kept ones insert the element of an insertion exactly if that insertion is kept
pub marked-there : (marked : List (Bool × Update)) (als bs : List (ℕ × Bool))
    → state_from (Some (Listed als)) (all_marked marked) ≡ Some (Listed bs) → (kept : Bool) (anchor x : ℕ)
    → Contains marked (kept, After anchor x) → list_any (inserts_element x) (kept_marked marked) ≡ kept
marked-there [] als bs all kept anchor x there = absurd (omega (arith, there.1))
marked-there ((b, u) ∷ marked) als bs all kept anchor x there =
    let (next, step, rest) = one_step als u (all_marked marked) bs all in
    let others = list_any (inserts_element x) (kept_marked marked) in
    let out : (a : ℕ) → Contains (all_marked marked) (After a x) → ¬ Contains (elements_in next) x =
    λ a found. (comes_in next (all_marked marked) bs a x rest found).1 in
    let put : (a : ℕ) → u ≡ After a x → Contains (elements_in next) x =
    λ a is. (comes_in als (u ∷ []) next a x step (at_head u [] (After a x) is)).0 in
    elim (head_or_behind (b, u) marked (kept, After anchor x) there) [
      | inl here ↦
          let is : u ≡ After anchor x = ap (λ (m : Bool × Update). m.1) here in
          let puts : inserts_element x u ≡ true = ap (inserts_element x) is ∙ eq-eqb x x refl in
          let none : others ≡ false = false_from_ne_true others (λ some.
          let (a, found) = any-put x (kept_marked marked) some in
          out a (kept_among marked (After a x) found) (put anchor is)) in
          any_kept (inserts_element x) b u marked ∙ (λ i. (b && puts i) || none i) ∙ just b
          ∙ ap (λ (m : Bool × Update). m.0) here
      | inr further ↦
          let none : inserts_element x u ≡ false = false_from_ne_true (inserts_element x u) (λ puts.
          let (a, found) = put_by x u (u ∷ []) (at_head u [] u refl) puts in
          elim (head_or_behind u [] (After a x) found) [
            | inl is ↦ out anchor (mark_among marked kept (After anchor x) further) (put a is)
            | inr nothing ↦ omega (arith, nothing.1)
          ]) in
          any_kept (inserts_element x) b u marked
          ∙ ap (λ c. c || others) (and_right b (inserts_element x u) none)
          ∙ marked-there marked next bs rest kept anchor x further
    ]

-- a step of the kept updates, and a step of another update
abbrev GoesOn : (ℕ → Bool) → List (ℕ × Bool) → List (ℕ × Bool) → Update → Type 0
GoesOn keep ls next u = (more : List (ℕ × Bool)) × (step_of (Listed ls) u ≡ Some (Listed more))
    × (elements_in more ≡ elements_in (kept_entries keep next))

hidden_same : (keep : ℕ → Bool) (als next : List (ℕ × Bool)) (x : ℕ) → hide x als ≡ next
    → elements_in (kept_entries keep als) ≡ elements_in (kept_entries keep next)
hidden_same keep als next x is = sym (hide-places x (kept_entries keep als))
    ∙ ap elements_in (sym (kept-hidden keep x als) ∙ ap (kept_entries keep) is)

kept_step : (keep : ℕ → Bool) (als next ls : List (ℕ × Bool)) (u : Update) → GoesIn als u next ⊎ GoesOut als u next
    → elements_in ls ≡ elements_in (kept_entries keep als)
    → ((anchor x : ℕ) → u ≡ After anchor x → keep x ≡ true) → keep (dependency_of u) ≡ true → GoesOn keep ls next u
kept_step keep als next ls u (inl (anchor, x, which, there, new, is)) same puts needs =
    let anchored : keep anchor ≡ true = ap (λ v. keep (dependency_of v)) (sym which) ∙ needs in
    let anchor_in : Contains (elements_in ls) anchor =
    subst (λ es. Contains es anchor) (sym same) (kept-in keep als anchor there anchored) in
    let x_out : ¬ Contains (elements_in ls) x =
    λ found. new (in-kept keep als x (subst (λ es. Contains es x) same found)) in (
      insert_after anchor x ls,
      ap (step_of (Listed ls)) which ∙ after_goes ls anchor x anchor_in x_out,
      inserted-same anchor x ls (kept_entries keep als) same ∙ ap elements_in
          (sym (kept-inserted keep anchor x als anchored (puts anchor x which)) ∙ ap (kept_entries keep) is),
    )
kept_step keep als next ls u (inr (x, which, there, other, is)) same puts needs =
    let x_in : Contains (elements_in ls) x = subst (λ es. Contains es x) (sym same)
    (kept-in keep als x there (ap (λ v. keep (dependency_of v)) (sym which) ∙ needs)) in (
      hide x ls,
      ap (step_of (Listed ls)) which ∙ remove_goes ls x x_in other,
      hide-places x ls ∙ same ∙ hidden_same keep als next x is,
    )

dropped_step : (keep : ℕ → Bool) (als next : List (ℕ × Bool)) (u : Update) → GoesIn als u next ⊎ GoesOut als u next
    → ((anchor x : ℕ) → u ≡ After anchor x → keep x ≡ false)
    → elements_in (kept_entries keep als) ≡ elements_in (kept_entries keep next)
dropped_step keep als next u (inl (anchor, x, which, there, new, is)) puts =
    ap elements_in (sym (kept-dropped keep anchor x als (puts anchor x which)) ∙ ap (kept_entries keep) is)
dropped_step keep als next u (inr (x, which, there, other, is)) puts = hidden_same keep als next x is

-- if all updates lead to a list and each kept update depends on a kept element, the kept updates lead to the list of
-- the kept elements
pub kept-goes : (keep : ℕ → Bool) (marked : List (Bool × Update)) (als bs ls : List (ℕ × Bool))
    → state_from (Some (Listed als)) (all_marked marked) ≡ Some (Listed bs)
    → elements_in ls ≡ elements_in (kept_entries keep als)
    → ((kept : Bool) (anchor x : ℕ) → Contains marked (kept, After anchor x) → keep x ≡ kept)
    → ((u : Update) → Contains (kept_marked marked) u → keep (dependency_of u) ≡ true)
    → (qs : List (ℕ × Bool)) × (state_from (Some (Listed ls)) (kept_marked marked) ≡ Some (Listed qs))
    × (elements_in qs ≡ elements_in (kept_entries keep bs))
kept-goes keep [] als bs ls all same marks needs =
    let is : als ≡ bs = cc (all) in
    (ls, refl, same ∙ ap (λ es. elements_in (kept_entries keep es)) is)
kept-goes keep ((true, u) ∷ marked) als bs ls all same marks needs =
    let (next, step, rest) = one_step als u (all_marked marked) bs all in
    let (more, goes, here) = kept_step keep als next ls u (which_step als next u step) same
    (λ a x is. marks true a x (at_head (true, u) marked (true, After a x) (ap (marked_as true) is)))
    (needs u (at_head u (kept_marked marked) u refl)) in
    let (qs, led, is) = kept-goes keep marked next bs more rest here
    (λ kept a x there. marks kept a x (behind_head (true, u) marked (kept, After a x) there))
    (λ v there. needs v (behind_head u (kept_marked marked) v there)) in
    (qs, ap (λ o. state_from o (kept_marked marked)) goes ∙ led, is)
kept-goes keep ((false, u) ∷ marked) als bs ls all same marks needs =
    let (next, step, rest) = one_step als u (all_marked marked) bs all in
    let here = same ∙ dropped_step keep als next u (which_step als next u step)
    (λ a x is. marks false a x (at_head (false, u) marked (false, After a x) (ap (marked_as false) is))) in
    kept-goes keep marked next bs ls rest here
    (λ kept a x there. marks kept a x (behind_head (false, u) marked (kept, After a x) there)) needs

-- the initial list has only the root, so no inserted element is the root
pub marked-is_there : (marked : List (Bool × Update)) (bs : List (ℕ × Bool))
    → state_after Rga (all_marked marked) ≡ Some (Listed bs) → (kept : Bool) (anchor x : ℕ)
    → Contains marked (kept, After anchor x) → is_present_element x (kept_marked marked) ≡ kept
marked-is_there marked bs all kept anchor x there =
    let start : List (ℕ × Bool) = (0, false) ∷ [] in
    let new = (comes_in start (all_marked marked) bs anchor x all (mark_among marked kept (After anchor x) there)).1 in
    let other : (x == 0) ≡ false = ne_eqb x 0 (λ root. new (at_head 0 [] x (sym root))) in
    ap (λ b. b || list_any (inserts_element x) (kept_marked marked)) other
    ∙ marked-there marked start bs all kept anchor x there

pub mark-kept : (marked : List (Bool × Update)) (u : Update) → Contains marked (true, u)
    → Contains (kept_marked marked) u
mark-kept [] u there = absurd (omega (arith, there.1))
mark-kept ((true, v) ∷ marked) u there = elim (head_or_behind (true, v) marked (true, u) there) [
  | inl here ↦ at_head v (kept_marked marked) u (ap (λ (m : Bool × Update). m.1) here)
  | inr further ↦ behind_head v (kept_marked marked) u (mark-kept marked u further)
]
mark-kept ((false, v) ∷ marked) u there = elim (head_or_behind (false, v) marked (true, u) there) [
  | inl here ↦ absurd (false≢true (ap (λ (m : Bool × Update). m.0) here))
  | inr further ↦ mark-kept marked u further
]
