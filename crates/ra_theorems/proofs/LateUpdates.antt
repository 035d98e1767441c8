-- Lemmas on late updates of an RGA.
use Rattle.std.proofs.Common.{◌≡◌, ℕ, Bool, true, false, List, [], ◌∷◌, ◌++◌, Option, Some, None, refl, sym, ap, ◌∙◌, subst, inl, inr, arith}
use Rattle.std.specs.Prelude.{◌⊎◌, ◌==◌, ◌&&◌, not, Contains}
use Rattle.std.specs.List.{list_all}
use Rattle.std.proofs.lemmas.Bool.{false≢true, cases_Bool, cond-true, cond-false, and_parts, and_from, eq-eqb, ne_eqb, not-true}
use Rattle.std.proofs.lemmas.Option.{none-some}
use Rattle.std.proofs.lemmas.List.Sums.{fold-append}
use Rattle.std.proofs.Math.Bool.{and_assoc, and_comm}
use Rattle.ra_labels.specs.declared.kind.Kind.TheVariants.{Rga}
use Rattle.ra_labels.specs.declared.operation.Update.{Update}
use Rattle.ra_labels.specs.declared.operation.Update.TheVariants.{After, RgaRemove}
use Rattle.ra_labels.specs.Lists.{is_in_list, insert_after, hide}
use Rattle.ra_labels.specs.Specification.{State, Listed, step_of, state_after}
use Rattle.ra_labels.specs.TheoremTerms.{elements_in, HasNoDuplicates}
use Rattle.ra_labels.specs.Commuting.{then_step}
use Rattle.ra_labels.specs.Late.{insert_past_greater, insert_late_after}
use Rattle.ra_labels.proofs.Members.{head_or_behind, at_head, behind_head}
use Rattle.ra_theorems.proofs.StateKinds.{StepKnown, step-known}
use Rattle.ra_theorems.proofs.States.{state_from, stuck}
use Rattle.ra_theorems.proofs.Rgas.{in-exactly, not_in, not_root, after_is, removed_is, insert_here, insert_on, hide-places, kept, there-step, is_listed, comes_in}

-- an insertion that goes past greater elements stops at, or goes past, an entry
past_here : (below : ℕ → ℕ → Bool) (x : ℕ) (entry : ℕ × Bool) (list : List (ℕ × Bool)) → below x entry.0 ≡ false
    → insert_past_greater below x (entry ∷ list) ≡ (x, true) ∷ entry ∷ list
past_here below x entry list stops =
    cond-false (below x entry.0) (entry ∷ insert_past_greater below x list) ((x, true) ∷ entry ∷ list) stops

past_on : (below : ℕ → ℕ → Bool) (x : ℕ) (entry : ℕ × Bool) (list : List (ℕ × Bool)) → below x entry.0 ≡ true
    → insert_past_greater below x (entry ∷ list) ≡ entry ∷ insert_past_greater below x list
past_on below x entry list passes =
    cond-true (below x entry.0) (entry ∷ insert_past_greater below x list) ((x, true) ∷ entry ∷ list) passes

put_here : (below : ℕ → ℕ → Bool) (anchor x : ℕ) (entry : ℕ × Bool) (list : List (ℕ × Bool))
    → (anchor == entry.0) ≡ true → insert_late_after below anchor x (entry ∷ list) ≡ entry ∷ insert_past_greater below x list
put_here below anchor x entry list here =
    cond-true (anchor == entry.0) (entry ∷ insert_past_greater below x list) (entry ∷ insert_late_after below anchor x list) here

put_on : (below : ℕ → ℕ → Bool) (anchor x : ℕ) (entry : ℕ × Bool) (list : List (ℕ × Bool)) → (anchor == entry.0) ≡ false
    → insert_late_after below anchor x (entry ∷ list) ≡ entry ∷ insert_late_after below anchor x list
put_on below anchor x entry list other =
    cond-false (anchor == entry.0) (entry ∷ insert_past_greater below x list) (entry ∷ insert_late_after below anchor x list) other

-- if the element is below no entry, it stands directly behind its anchor
past_none : (below : ℕ → ℕ → Bool) (x : ℕ) (list : List (ℕ × Bool))
    → list_all (λ entry. not (below x entry.0)) list ≡ true → insert_past_greater below x list ≡ (x, true) ∷ list
past_none below x [] none = refl
past_none below x (entry ∷ list) none =
    past_here below x entry list
    (not-true (below x entry.0) (and_parts (not (below x entry.0)) (list_all (λ e. not (below x e.0)) list) none).0)

pub newest-behind : (below : ℕ → ℕ → Bool) (anchor x : ℕ) (list : List (ℕ × Bool))
    → list_all (λ entry. not (below x entry.0)) list ≡ true → insert_late_after below anchor x list ≡ insert_after anchor x list
newest-behind below anchor x [] none = refl
newest-behind below anchor x (entry ∷ list) none =
    let rest = (and_parts (not (below x entry.0)) (list_all (λ e. not (below x e.0)) list) none).1 in
    elim (cases_Bool (anchor == entry.0)) [
      | inl here ↦ put_here below anchor x entry list here ∙ ap (λ es. entry ∷ es) (past_none below x list rest)
          ∙ sym (insert_here anchor x entry list here)
      | inr other ↦ put_on below anchor x entry list other
          ∙ ap (λ es. entry ∷ es) (newest-behind below anchor x list rest) ∙ sym (insert_on anchor x entry list other)
    ]

-- a late insertion commutes with a later insertion
past_later : (below : ℕ → ℕ → Bool) (x behind y : ℕ) (list : List (ℕ × Bool)) → (behind == x) ≡ false → below x y ≡ true
    → insert_after behind y (insert_past_greater below x list) ≡ insert_past_greater below x (insert_after behind y list)
past_later below x behind y [] apart lower = insert_on behind y (x, true) [] apart
past_later below x behind y (entry ∷ list) apart lower = elim (cases_Bool (below x entry.0)) [
  | inl passes ↦ ap (insert_after behind y) (past_on below x entry list passes)
      ∙ elim (cases_Bool (behind == entry.0)) [
        | inl here ↦
            insert_here behind y entry (insert_past_greater below x list) here
            ∙ sym (ap (insert_past_greater below x) (insert_here behind y entry list here)
            ∙ past_on below x entry ((y, true) ∷ list) passes
            ∙ ap (λ es. entry ∷ es) (past_on below x (y, true) list lower))
        | inr other ↦
            insert_on behind y entry (insert_past_greater below x list) other
            ∙ ap (λ es. entry ∷ es) (past_later below x behind y list apart lower)
            ∙ sym (ap (insert_past_greater below x) (insert_on behind y entry list other)
            ∙ past_on below x entry (insert_after behind y list) passes)
      ]
  | inr stops ↦ ap (insert_after behind y) (past_here below x entry list stops)
      ∙ insert_on behind y (x, true) (entry ∷ list) apart ∙ elim (cases_Bool (behind == entry.0)) [
        | inl here ↦
            ap (λ es. (x, true) ∷ es) (insert_here behind y entry list here)
            ∙ sym (ap (insert_past_greater below x) (insert_here behind y entry list here)
            ∙ past_here below x entry ((y, true) ∷ list) stops)
        | inr other ↦
            ap (λ es. (x, true) ∷ es) (insert_on behind y entry list other)
            ∙ sym (ap (insert_past_greater below x) (insert_on behind y entry list other)
            ∙ past_here below x entry (insert_after behind y list) stops)
      ]
]

put_later : (below : ℕ → ℕ → Bool) (anchor x behind y : ℕ) (list : List (ℕ × Bool)) → (behind == x) ≡ false
    → (anchor == y) ≡ false → below x y ≡ true
    → insert_after behind y (insert_late_after below anchor x list) ≡ insert_late_after below anchor x (insert_after behind y list)
put_later below anchor x behind y [] apart new lower = refl
put_later below anchor x behind y (entry ∷ list) apart new lower = elim (cases_Bool (anchor == entry.0)) [
  | inl at ↦ ap (insert_after behind y) (put_here below anchor x entry list at)
      ∙ elim (cases_Bool (behind == entry.0)) [
        | inl here ↦
            insert_here behind y entry (insert_past_greater below x list) here
            ∙ sym (ap (insert_late_after below anchor x) (insert_here behind y entry list here)
            ∙ put_here below anchor x entry ((y, true) ∷ list) at
            ∙ ap (λ es. entry ∷ es) (past_on below x (y, true) list lower))
        | inr other ↦
            insert_on behind y entry (insert_past_greater below x list) other
            ∙ ap (λ es. entry ∷ es) (past_later below x behind y list apart lower)
            ∙ sym (ap (insert_late_after below anchor x) (insert_on behind y entry list other)
            ∙ put_here below anchor x entry (insert_after behind y list) at)
      ]
  | inr further ↦ ap (insert_after behind y) (put_on below anchor x entry list further)
      ∙ elim (cases_Bool (behind == entry.0)) [
        | inl here ↦
            insert_here behind y entry (insert_late_after below anchor x list) here
            ∙ sym (ap (insert_late_after below anchor x) (insert_here behind y entry list here)
            ∙ put_on below anchor x entry ((y, true) ∷ list) further
            ∙ ap (λ es. entry ∷ es) (put_on below anchor x (y, true) list new))
        | inr other ↦
            insert_on behind y entry (insert_late_after below anchor x list) other
            ∙ ap (λ es. entry ∷ es) (put_later below anchor x behind y list apart new lower)
            ∙ sym (ap (insert_late_after below anchor x) (insert_on behind y entry list other)
            ∙ put_on below anchor x entry (insert_after behind y list) further)
      ]
]

pub late-later : (below : ℕ → ℕ → Bool) (anchor x behind y : ℕ) (list : List (ℕ × Bool)) → ¬ (behind ≡ x)
    → ¬ (y ≡ anchor) → below x y ≡ true
    → insert_after behind y (insert_late_after below anchor x list) ≡ insert_late_after below anchor x (insert_after behind y list)
late-later below anchor x behind y list apart new lower =
    put_later below anchor x behind y list (ne_eqb behind x apart) (ne_eqb anchor y (λ is. new (sym is))) lower

-- an insertion commutes with a removal of another element
abbrev hidden : ℕ → ℕ × Bool → ℕ × Bool
hidden y entry = (entry.0, entry.1 && not (y == entry.0))

new_stays : (x y : ℕ) → (y == x) ≡ false → hidden y (x, true) ≡ (x, true)
new_stays x y other = ap (λ b. (x, not b)) other

past_hidden : (below : ℕ → ℕ → Bool) (x y : ℕ) (list : List (ℕ × Bool)) → (y == x) ≡ false
    → hide y (insert_past_greater below x list) ≡ insert_past_greater below x (hide y list)
past_hidden below x y [] other = ap (λ e. e ∷ []) (new_stays x y other)
past_hidden below x y (entry ∷ list) other = elim (cases_Bool (below x entry.0)) [
  | inl passes ↦
      ap (hide y) (past_on below x entry list passes)
      ∙ ap (λ es. hidden y entry ∷ es) (past_hidden below x y list other)
      ∙ sym (past_on below x (hidden y entry) (hide y list) passes)
  | inr stops ↦
      ap (hide y) (past_here below x entry list stops)
      ∙ ap (λ e. e ∷ hidden y entry ∷ hide y list) (new_stays x y other)
      ∙ sym (past_here below x (hidden y entry) (hide y list) stops)
]

put_hidden : (below : ℕ → ℕ → Bool) (anchor x y : ℕ) (list : List (ℕ × Bool)) → (y == x) ≡ false
    → hide y (insert_late_after below anchor x list) ≡ insert_late_after below anchor x (hide y list)
put_hidden below anchor x y [] other = refl
put_hidden below anchor x y (entry ∷ list) other = elim (cases_Bool (anchor == entry.0)) [
  | inl at ↦
      ap (hide y) (put_here below anchor x entry list at)
      ∙ ap (λ es. hidden y entry ∷ es) (past_hidden below x y list other)
      ∙ sym (put_here below anchor x (hidden y entry) (hide y list) at)
  | inr further ↦
      ap (hide y) (put_on below anchor x entry list further)
      ∙ ap (λ es. hidden y entry ∷ es) (put_hidden below anchor x y list other)
      ∙ sym (put_on below anchor x (hidden y entry) (hide y list) further)
]

pub late-hidden : (below : ℕ → ℕ → Bool) (anchor x y : ℕ) (list : List (ℕ × Bool)) → ¬ (y ≡ x)
    → hide y (insert_late_after below anchor x list) ≡ insert_late_after below anchor x (hide y list)
late-hidden below anchor x y list other = put_hidden below anchor x y list (ne_eqb y x other)

insert_hidden : (anchor x y : ℕ) (list : List (ℕ × Bool)) → (y == x) ≡ false
    → hide y (insert_after anchor x list) ≡ insert_after anchor x (hide y list)
insert_hidden anchor x y [] other = refl
insert_hidden anchor x y (entry ∷ list) other = elim (cases_Bool (anchor == entry.0)) [
  | inl at ↦
      ap (hide y) (insert_here anchor x entry list at)
      ∙ ap (λ e. hidden y entry ∷ e ∷ hide y list) (new_stays x y other)
      ∙ sym (insert_here anchor x (hidden y entry) (hide y list) at)
  | inr further ↦
      ap (hide y) (insert_on anchor x entry list further)
      ∙ ap (λ es. hidden y entry ∷ es) (insert_hidden anchor x y list other)
      ∙ sym (insert_on anchor x (hidden y entry) (hide y list) further)
]

pub inserted-hidden : (anchor x y : ℕ) (list : List (ℕ × Bool)) → ¬ (y ≡ x)
    → hide y (insert_after anchor x list) ≡ insert_after anchor x (hide y list)
inserted-hidden anchor x y list other = insert_hidden anchor x y list (ne_eqb y x other)

and_swap : (a b c : Bool) → ((a && b) && c) ≡ ((a && c) && b)
and_swap a b c = and_assoc a b c ∙ ap (λ d. a && d) (and_comm b c) ∙ sym (and_assoc a c b)

pub hidden-hidden : (x y : ℕ) (list : List (ℕ × Bool)) → hide y (hide x list) ≡ hide x (hide y list)
hidden-hidden x y [] = refl
hidden-hidden x y (entry ∷ list) =
    (λ i. (entry.0, and_swap entry.1 (not (x == entry.0)) (not (y == entry.0)) i) ∷ hidden-hidden x y list i)

-- the elements after a late insertion
past-only : (below : ℕ → ℕ → Bool) (x z : ℕ) (list : List (ℕ × Bool)) → Contains (elements_in (insert_past_greater below x list)) z
    → (x ≡ z) ⊎ Contains (elements_in list) z
past-only below x z [] there = head_or_behind x [] z there
past-only below x z (entry ∷ list) there = elim (cases_Bool (below x entry.0)) [
  | inl passes ↦
      elim (head_or_behind entry.0 (elements_in (insert_past_greater below x list)) z
      (subst (λ es. Contains (elements_in es) z) (past_on below x entry list passes) there)) [
        | inl first ↦ inr (at_head entry.0 (elements_in list) z first)
        | inr later ↦ elim (past-only below x z list later) [
          | inl new ↦ inl new
          | inr old ↦ inr (behind_head entry.0 (elements_in list) z old)
        ]
      ]
  | inr stops ↦ head_or_behind x (entry.0 ∷ elements_in list) z
      (subst (λ es. Contains (elements_in es) z) (past_here below x entry list stops) there)
]

put-only : (below : ℕ → ℕ → Bool) (anchor x z : ℕ) (list : List (ℕ × Bool))
    → Contains (elements_in (insert_late_after below anchor x list)) z → (x ≡ z) ⊎ Contains (elements_in list) z
put-only below anchor x z [] there = inr there
put-only below anchor x z (entry ∷ list) there = elim (cases_Bool (anchor == entry.0)) [
  | inl at ↦
      elim (head_or_behind entry.0 (elements_in (insert_past_greater below x list)) z
      (subst (λ es. Contains (elements_in es) z) (put_here below anchor x entry list at) there)) [
        | inl first ↦ inr (at_head entry.0 (elements_in list) z first)
        | inr later ↦ elim (past-only below x z list later) [
          | inl new ↦ inl new
          | inr old ↦ inr (behind_head entry.0 (elements_in list) z old)
        ]
      ]
  | inr further ↦
      elim (head_or_behind entry.0 (elements_in (insert_late_after below anchor x list)) z
      (subst (λ es. Contains (elements_in es) z) (put_on below anchor x entry list further) there)) [
        | inl first ↦ inr (at_head entry.0 (elements_in list) z first)
        | inr later ↦ elim (put-only below anchor x z list later) [
          | inl new ↦ inl new
          | inr old ↦ inr (behind_head entry.0 (elements_in list) z old)
        ]
      ]
]

past-keeps : (below : ℕ → ℕ → Bool) (x z : ℕ) (list : List (ℕ × Bool)) → Contains (elements_in list) z
    → Contains (elements_in (insert_past_greater below x list)) z
past-keeps below x z [] there = absurd (omega (arith, there.1))
past-keeps below x z (entry ∷ list) there = elim (cases_Bool (below x entry.0)) [
  | inl passes ↦ subst (λ es. Contains (elements_in es) z) (sym (past_on below x entry list passes))
      (elim (head_or_behind entry.0 (elements_in list) z there) [
        | inl first ↦ at_head entry.0 (elements_in (insert_past_greater below x list)) z first
        | inr later ↦ behind_head entry.0 (elements_in (insert_past_greater below x list)) z (past-keeps below x z list later)
      ])
  | inr stops ↦ subst (λ es. Contains (elements_in es) z) (sym (past_here below x entry list stops))
      (behind_head x (entry.0 ∷ elements_in list) z there)
]

put-keeps : (below : ℕ → ℕ → Bool) (anchor x z : ℕ) (list : List (ℕ × Bool)) → Contains (elements_in list) z
    → Contains (elements_in (insert_late_after below anchor x list)) z
put-keeps below anchor x z [] there = there
put-keeps below anchor x z (entry ∷ list) there = elim (cases_Bool (anchor == entry.0)) [
  | inl at ↦ subst (λ es. Contains (elements_in es) z) (sym (put_here below anchor x entry list at))
      (elim (head_or_behind entry.0 (elements_in list) z there) [
        | inl first ↦ at_head entry.0 (elements_in (insert_past_greater below x list)) z first
        | inr later ↦ behind_head entry.0 (elements_in (insert_past_greater below x list)) z (past-keeps below x z list later)
      ])
  | inr further ↦ subst (λ es. Contains (elements_in es) z) (sym (put_on below anchor x entry list further))
      (elim (head_or_behind entry.0 (elements_in list) z there) [
        | inl first ↦ at_head entry.0 (elements_in (insert_late_after below anchor x list)) z first
        | inr later ↦ behind_head entry.0 (elements_in (insert_late_after below anchor x list)) z
            (put-keeps below anchor x z list later)
      ])
]

-- the steps, given that their tests pass
pub after_goes : (list : List (ℕ × Bool)) (anchor x : ℕ) → Contains (elements_in list) anchor
    → ¬ Contains (elements_in list) x → step_of (Listed list) (After anchor x)
    ≡ Some (Listed (insert_after anchor x list))
after_goes list anchor x there out =
    cond-true (is_in_list anchor list && not (is_in_list x list)) (Some (Listed (insert_after anchor x list))) None
    (and_from (is_in_list anchor list) (not (is_in_list x list)) ((in-exactly anchor list).1 there)
    ((not_in x list).1 out))

pub remove_goes : (list : List (ℕ × Bool)) (x : ℕ) → Contains (elements_in list) x → ¬ (x ≡ 0)
    → step_of (Listed list) (RgaRemove x) ≡ Some (Listed (hide x list))
remove_goes list x there other =
    cond-true (is_in_list x list && not (x == 0)) (Some (Listed (hide x list))) None
    (and_from (is_in_list x list) (not (x == 0)) ((in-exactly x list).1 there) ((not_root x).1 other))

-- if updates lead to a list, the first has a step, and the others lead on from there
abbrev pub Onwards : List (ℕ × Bool) → Update → List Update → List (ℕ × Bool) → Type 0
Onwards ls u us qs = (next : List (ℕ × Bool)) × (step_of (Listed ls) u ≡ Some (Listed next))
    × (state_from (Some (Listed next)) us ≡ Some (Listed qs))

split_step : (ls : List (ℕ × Bool)) (u : Update) (us : List Update) (qs : List (ℕ × Bool)) (o : Option State)
    → step_of (Listed ls) u ≡ o → StepKnown (Listed ls) u o → state_from o us ≡ Some (Listed qs) → Onwards ls u us qs
split_step ls u us qs None is known goes = absurd (none-some (Listed qs) (sym (stuck us) ∙ goes))
split_step ls u us qs (Some state) is known goes =
    let (next, same) = is_listed state known.0 in
    (next, is ∙ ap Some same, ap (λ s. state_from (Some s) us) (sym same) ∙ goes)

pub one_step : (ls : List (ℕ × Bool)) (u : Update) (us : List Update) (qs : List (ℕ × Bool))
    → state_from (Some (Listed ls)) (u ∷ us) ≡ Some (Listed qs) → Onwards ls u us qs
one_step ls u us qs is = split_step ls u us qs (step_of (Listed ls) u) refl (step-known (Listed ls) u) is

pub stays_in : (z : ℕ) (ls : List (ℕ × Bool)) (us : List Update) (qs : List (ℕ × Bool))
    → state_from (Some (Listed ls)) us ≡ Some (Listed qs) → Contains (elements_in ls) z → Contains (elements_in qs) z
stays_in z ls us qs is there = kept (λ es. Contains (elements_in es) z) (there-step z) ls us qs is there

-- a later step from the list with the late element leads to the next list with the late element
step_put : (below : ℕ → ℕ → Bool) (anchor x : ℕ) (ls next : List (ℕ × Bool)) (u : Update)
    → step_of (Listed ls) u ≡ Some (Listed next) → Contains (elements_in ls) anchor → ¬ Contains (elements_in next) x
    → ((behind y : ℕ) → u ≡ After behind y → below x y ≡ true)
    → step_of (Listed (insert_late_after below anchor x ls)) u ≡ Some (Listed (insert_late_after below anchor x next))
step_put below anchor x ls next (After behind y) is there out lower =
    let (found, new, same) = after_is ls next behind y is in
    let behind_there = (in-exactly behind ls).0 found in
    let y_there : Contains (elements_in next) y = step_puts_in ls next behind y is in
    let not_x : ¬ (behind ≡ x) = λ this. out
    (subst (Contains (elements_in next)) this (stays_in behind ls (After behind y ∷ []) next is behind_there)) in
    let new_there : ¬ Contains (elements_in (insert_late_after below anchor x ls)) y =
    λ put. elim (put-only below anchor x y ls put) [
      | inl this ↦ out (subst (Contains (elements_in next)) (sym this) y_there)
      | inr old ↦ new old
    ] in
    after_goes (insert_late_after below anchor x ls) behind y (put-keeps below anchor x behind ls behind_there) new_there
    ∙ ap (λ es. Some (Listed es))
    (late-later below anchor x behind y ls not_x (λ this. new (subst (Contains (elements_in ls)) (sym this) there))
    (lower behind y refl) ∙ ap (insert_late_after below anchor x) same)
  where
    step_puts_in : (ls next : List (ℕ × Bool)) (behind y : ℕ)
        → step_of (Listed ls) (After behind y) ≡ Some (Listed next) → Contains (elements_in next) y
    step_puts_in ls next behind y is =
        (comes_in ls (After behind y ∷ []) next behind y is (at_head (After behind y) [] (After behind y) refl)).0
step_put below anchor x ls next (RgaRemove z) is there out lower =
    let (found, other, same) = removed_is ls next z is in
    let not_x : ¬ (z ≡ x) =
    λ this. out (subst (Contains (elements_in next)) this (stays_in z ls (RgaRemove z ∷ []) next is found)) in
    remove_goes (insert_late_after below anchor x ls) z (put-keeps below anchor x z ls found) other
    ∙ ap (λ es. Some (Listed es)) (late-hidden below anchor x z ls not_x ∙ ap (insert_late_after below anchor x) same)
step_put below anchor x ls next _ is there out lower = absurd (none-some (Listed next) is)

late_put : (below : ℕ → ℕ → Bool) (anchor x : ℕ) (ls : List (ℕ × Bool)) (us : List Update) (qs : List (ℕ × Bool))
    → state_from (Some (Listed ls)) us ≡ Some (Listed qs) → Contains (elements_in ls) anchor
    → ¬ Contains (elements_in qs) x → ((behind y : ℕ) → Contains us (After behind y) → below x y ≡ true)
    → state_from (Some (Listed (insert_late_after below anchor x ls))) us ≡ Some (Listed (insert_late_after below anchor x qs))
late_put below anchor x ls [] qs is there out lower = let same : ls ≡ qs = cc (is) in
    ap (λ es. Some (Listed (insert_late_after below anchor x es))) same
late_put below anchor x ls (u ∷ us) qs is there out lower =
    let (next, first, rest) = one_step ls u us qs is in
    ap (λ o. state_from o us)
    (step_put below anchor x ls next u first there (λ found. out (stays_in x next us qs rest found))
    (λ behind y this. lower behind y (at_head u us (After behind y) this)))
    ∙ late_put below anchor x next us qs rest (stays_in anchor ls (u ∷ []) next first there) out
    (λ behind y found. lower behind y (behind_head u us (After behind y) found))

pub from_first : (first later : List Update)
    → state_after Rga (first ++ later) ≡ state_from (state_after Rga first) later
from_first first later = fold-append (λ (state : Option State) (u : Update). then_step state u)
    (Some (Listed ((0, false) ∷ []))) first later

pub late-insertion : (below : ℕ → ℕ → Bool) (first later : List Update) (anchor x : ℕ) (older list : List (ℕ × Bool))
    → state_after Rga first ≡ Some (Listed older) → state_after Rga (first ++ later) ≡ Some (Listed list)
    → Contains (elements_in older) anchor → ¬ Contains (elements_in list) x
    → list_all (λ entry. not (below x entry.0)) older ≡ true
    → ((behind y : ℕ) → Contains later (After behind y) → below x y ≡ true)
    → state_after Rga (first ++ After anchor x ∷ later) ≡ Some (Listed (insert_late_after below anchor x list))
late-insertion below first later anchor x older list led on there out none lower =
    let further : state_from (Some (Listed older)) later ≡ Some (Listed list) = ap (λ o. state_from o later) (sym led)
    ∙ sym (from_first first later) ∙ on in
    from_first first (After anchor x ∷ later)
    ∙ ap (λ o. state_from o (After anchor x ∷ later)) led
    ∙ ap (λ o. state_from o later)
    (after_goes older anchor x there (λ found. out (stays_in x older later list further found))
    ∙ ap (λ es. Some (Listed es)) (sym (newest-behind below anchor x older none)))
    ∙ late_put below anchor x older later list further there out lower

-- the late element stands directly behind one element
abbrev IsOneStep : ℕ → List (ℕ × Bool) → List (ℕ × Bool) → Type 0
IsOneStep x list next = (p : ℕ) × Contains (elements_in list) p × (next ≡ insert_after p x list)

behind_first : (x : ℕ) (entry : ℕ × Bool) (list next : List (ℕ × Bool)) → HasNoDuplicates (elements_in (entry ∷ list))
    → IsOneStep x list next → IsOneStep x (entry ∷ list) (entry ∷ next)
behind_first x entry list next once (p, there, is) =
    let other : (p == entry.0) ≡ false =
    ne_eqb p entry.0 (λ this. once.0 (subst (Contains (elements_in list)) this there)) in
    (p, behind_head entry.0 (elements_in list) p there, ap (λ es. entry ∷ es) is ∙ sym (insert_on p x entry list other))

past_one : (below : ℕ → ℕ → Bool) (x : ℕ) (entry : ℕ × Bool) (list : List (ℕ × Bool))
    → HasNoDuplicates (elements_in (entry ∷ list)) → IsOneStep x (entry ∷ list) (entry ∷ insert_past_greater below x list)
past_one below x entry [] once =
    (entry.0, at_head entry.0 [] entry.0 refl, sym (insert_here entry.0 x entry [] (eq-eqb entry.0 entry.0 refl)))
past_one below x entry (k ∷ list) once = elim (cases_Bool (below x k.0)) [
  | inl passes ↦ subst (λ es. IsOneStep x (entry ∷ k ∷ list) (entry ∷ es)) (sym (past_on below x k list passes))
      (behind_first x entry (k ∷ list) (k ∷ insert_past_greater below x list) once (past_one below x k list once.1))
  | inr stops ↦ (
    entry.0,
    at_head entry.0 (k.0 ∷ elements_in list) entry.0 refl,
    ap (λ es. entry ∷ es)
        (past_here below x k list stops) ∙ sym (insert_here entry.0 x entry (k ∷ list) (eq-eqb entry.0 entry.0 refl)),
  )
]

pub late-one : (below : ℕ → ℕ → Bool) (anchor x : ℕ) (list : List (ℕ × Bool)) → HasNoDuplicates (elements_in list)
    → Contains (elements_in list) anchor → (p : ℕ) × Contains (elements_in list) p
    × (insert_late_after below anchor x list ≡ insert_after p x list)
late-one below anchor x [] once there = absurd (omega (arith, there.1))
late-one below anchor x (entry ∷ list) once there = elim (cases_Bool (anchor == entry.0)) [
  | inl at ↦ subst (IsOneStep x (entry ∷ list)) (sym (put_here below anchor x entry list at))
      (past_one below x entry list once)
  | inr further ↦ elim (head_or_behind entry.0 (elements_in list) anchor there) [
    | inl first ↦ absurd (false≢true (sym further ∙ eq-eqb anchor entry.0 (sym first)))
    | inr later ↦ subst (IsOneStep x (entry ∷ list)) (sym (put_on below anchor x entry list further))
        (behind_first x entry list (insert_late_after below anchor x list) once (late-one below anchor x list once.1 later))
  ]
]

-- a later step from the list with the element removed leads to the next list with it removed
step_hidden : (x : ℕ) (ls next : List (ℕ × Bool)) (u : Update) → step_of (Listed ls) u ≡ Some (Listed next)
    → Contains (elements_in ls) x → step_of (Listed (hide x ls)) u ≡ Some (Listed (hide x next))
step_hidden x ls next (After behind y) is there =
    let (found, new, same) = after_is ls next behind y is in
    let places = hide-places x ls in
    let not_y : ¬ (x ≡ y) = λ this. new (subst (Contains (elements_in ls)) this there) in
    after_goes (hide x ls) behind y (subst (λ els. Contains els behind) (sym places) ((in-exactly behind ls).0 found))
    (λ put. new (subst (λ els. Contains els y) places put))
    ∙ ap (λ es. Some (Listed es)) (sym (inserted-hidden behind y x ls not_y) ∙ ap (hide x) same)
step_hidden x ls next (RgaRemove z) is there =
    let (found, other, same) = removed_is ls next z is in
    remove_goes (hide x ls) z (subst (λ els. Contains els z) (sym (hide-places x ls)) found) other
    ∙ ap (λ es. Some (Listed es)) (hidden-hidden x z ls ∙ ap (hide x) same)
step_hidden x ls next _ is there = absurd (none-some (Listed next) is)

late_hidden : (x : ℕ) (ls : List (ℕ × Bool)) (us : List Update) (qs : List (ℕ × Bool))
    → state_from (Some (Listed ls)) us ≡ Some (Listed qs) → Contains (elements_in ls) x
    → state_from (Some (Listed (hide x ls))) us ≡ Some (Listed (hide x qs))
late_hidden x ls [] qs is there = let same : ls ≡ qs = cc (is) in ap (λ es. Some (Listed (hide x es))) same
late_hidden x ls (u ∷ us) qs is there =
    let (next, first, rest) = one_step ls u us qs is in
    ap (λ o. state_from o us) (step_hidden x ls next u first there)
    ∙ late_hidden x next us qs rest (stays_in x ls (u ∷ []) next first there)

pub late-removal : (first later : List Update) (x : ℕ) (older list : List (ℕ × Bool))
    → state_after Rga first ≡ Some (Listed older) → state_after Rga (first ++ later) ≡ Some (Listed list)
    → Contains (elements_in older) x → ¬ (x ≡ 0)
    → state_after Rga (first ++ RgaRemove x ∷ later) ≡ Some (Listed (hide x list))
late-removal first later x older list led on there other =
    let further : state_from (Some (Listed older)) later ≡ Some (Listed list) = ap (λ o. state_from o later) (sym led)
    ∙ sym (from_first first later) ∙ on in
    from_first first (RgaRemove x ∷ later)
    ∙ ap (λ o. state_from o (RgaRemove x ∷ later)) led
    ∙ ap (λ o. state_from o later) (remove_goes older x there other)
    ∙ late_hidden x older later list further there
