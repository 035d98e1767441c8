-- The list after admitted updates, as the order of its elements, and which insertion is the later one.
use Rattle.std.proofs.Common.{◌≡◌, ℕ, Bool, true, false, List, [], ◌∷◌, ◌++◌, reverse, refl, sym, ap, ◌∙◌, subst, inl, inr}
use Rattle.std.specs.Prelude.{Contains, ◌==◌, ◌&&◌, not, Option, Some, None, option_and_then, is_some}
use Rattle.std.proofs.lemmas.Bool.{cases_eq, cases_Bool, eq-eqb, ne_eqb, cond-true, cond-false}
use Rattle.std.proofs.lemmas.Option.{none-some}
use Rattle.std.proofs.lemmas.List.{reverse-append, append_assoc}
use Rattle.std.proofs.lemmas.List.Elements.{Contains-append_right}
use Rattle.ra_labels.specs.declared.kind.Kind.TheVariants.{Rga}
use Rattle.ra_labels.specs.declared.operation.Update.{Update}
use Rattle.ra_labels.specs.declared.operation.Update.TheVariants as updates
use Rattle.ra_labels.specs.declared.operation.Update.TheVariants.{Inc, Dec, Write, LwwAdd, LwwRemove, OrAdd, TakeOut, After, RgaRemove}
use Rattle.ra_labels.specs.Lists.{is_in_list, insert_after}
use Rattle.ra_labels.specs.Specification.{State, Number, Written, Members, Pairs, Listed, Listing, OfAny, OfMvRegister, step_of, state_after}
use Rattle.ra_labels.specs.TheoremTerms.{elements_in, kind_of_state, StandsBefore}
use Rattle.ra_labels.proofs.Members.{at_head, split_at}
use Rattle.ra_theorems.proofs.TheoremIndex.{state_after_snoc, state_kind, insertion_after_present_anchor-admitted, removal_of_present_element-admitted, removal_of_present_element-places}
use Rattle.ra_rga_forks.specs.Forks.{IsInsertedBefore}
use Rattle.ra_rga_forks.proofs.Behind.{behind}
use Rattle.ra_rga_forks.proofs.Orders.{IsOrder, IsNewer}

-- the elements of a list with one more
inserted_elements : (anchor x : ℕ) (list : List (ℕ × Bool))
    → elements_in (insert_after anchor x list) ≡ behind anchor x (elements_in list)
inserted_elements anchor x [] = refl
inserted_elements anchor x (entry ∷ list) = elim (cases_eq anchor entry.0) [
  | inl same ↦
      ap elements_in (cond-true (anchor == entry.0) (entry ∷ (x, true) ∷ list) (entry ∷ insert_after anchor x list)
      (eq-eqb anchor entry.0 same))
      ∙ sym (cond-true (anchor == entry.0) (entry.0 ∷ x ∷ elements_in list) (entry.0 ∷ behind anchor x (elements_in list))
      (eq-eqb anchor entry.0 same))
  | inr other ↦
      ap elements_in (cond-false (anchor == entry.0) (entry ∷ (x, true) ∷ list) (entry ∷ insert_after anchor x list)
      (ne_eqb anchor entry.0 other))
      ∙ ap (λ es. entry.0 ∷ es) (inserted_elements anchor x list)
      ∙ sym (cond-false (anchor == entry.0) (entry.0 ∷ x ∷ elements_in list) (entry.0 ∷ behind anchor x (elements_in list))
      (ne_eqb anchor entry.0 other))
]

-- the state after one more update
one_more : (past : List Update) (update : Update) → state_after Rga (reverse (update ∷ past))
    ≡ option_and_then (λ s. step_of s update) (state_after Rga (reverse past))
one_more past update =
    ap (state_after Rga) (reverse-append (update ∷ []) past) ∙ state_after_snoc Rga (reverse past) update

-- a state of an RGA is a list
pub listed_state : (state : State) → kind_of_state state ≡ Rga → (list : List (ℕ × Bool)) × (state ≡ Listed list)
listed_state (Listed list) is = (list, refl)
listed_state (Number n) is = let this : kind_of_state (Number n) ≡ Rga = is in absurd (cc (this))
listed_state (Written last) is = let this : kind_of_state (Written last) ≡ Rga = is in absurd (cc (this))
listed_state (Members xs) is = let this : kind_of_state (Members xs) ≡ Rga = is in absurd (cc (this))
listed_state (Pairs pairs) is = let this : kind_of_state (Pairs pairs) ≡ Rga = is in absurd (cc (this))
listed_state (Listing list) is = let this : kind_of_state (Listing list) ≡ Rga = is in absurd (cc (this))
listed_state OfAny is = let this : kind_of_state OfAny ≡ Rga = is in absurd (cc (this))
listed_state OfMvRegister is = let this : kind_of_state OfMvRegister ≡ Rga = is in absurd (cc (this))

same_list : (list next : List (ℕ × Bool)) → Some (Listed list) ≡ Some (Listed next) → list ≡ next
same_list list next is = let this = is in cc (this)

-- a step from a list
module _ (past : List Update) (before list : List (ℕ × Bool)) (order : IsOrder past (elements_in before)) where
  after_step : (update : Update) → step_of (Listed before) update ≡ Some (Listed list) → IsOrder (update ∷ past) (elements_in list)
  after_step (After anchor x) is =
      let admitted = (insertion_after_present_anchor-admitted before anchor x).0 (ap is_some is) in
      let test = is_in_list anchor before && not (is_in_list x before) in
      elim (cases_Bool test) [
        | inl both ↦ (
          elements_in before,
          order,
          admitted.0,
          admitted.1,
          ap elements_in (sym (same_list (insert_after anchor x before) list
              (sym (cond-true test (Some (Listed (insert_after anchor x before))) None both) ∙ is)))
              ∙ inserted_elements anchor x before,
        )
        | inr not_both ↦ absurd (none-some (Listed list)
            (sym (cond-false test (Some (Listed (insert_after anchor x before))) None not_both) ∙ is))
      ]
  after_step (RgaRemove x) is =
      let admitted = (removal_of_present_element-admitted before x).0 (ap is_some is) in
      subst (λ es. IsOrder past es × Contains es x × (¬ (x ≡ 0))) (sym (removal_of_present_element-places before list x is))
      (order, admitted.0, admitted.1)
  after_step Inc is = absurd (none-some (Listed list) is)
  after_step Dec is = absurd (none-some (Listed list) is)
  after_step (Write value) is = absurd (none-some (Listed list) is)
  after_step (LwwAdd x) is = absurd (none-some (Listed list) is)
  after_step (LwwRemove x) is = absurd (none-some (Listed list) is)
  after_step (OrAdd x id) is = absurd (none-some (Listed list) is)
  after_step (TakeOut x ids) is = absurd (none-some (Listed list) is)
  after_step (updates.List change) is = absurd (none-some (Listed list) is)
  after_step updates.AnyUpdate is = absurd (none-some (Listed list) is)
  after_step (updates.MvWrite value) is = absurd (none-some (Listed list) is)

-- by the state before
module _ (past : List Update) (update : Update) (list : List (ℕ × Bool))
    (earlier : (before : List (ℕ × Bool)) → state_after Rga (reverse past) ≡ Some (Listed before)
    → IsOrder past (elements_in before)) where
  by_state : (before : Option State) → state_after Rga (reverse past) ≡ before
      → option_and_then (λ s. step_of s update) before ≡ Some (Listed list) → IsOrder (update ∷ past) (elements_in list)
  by_state None is step = absurd (none-some (Listed list) step)
  by_state (Some state) is step =
      let (before, same) = listed_state state (state_kind Rga (reverse past) state is) in
      after_step past before list (earlier before (is ∙ ap Some same)) update
      (subst (λ s. step_of s update ≡ Some (Listed list)) same step)

pub listed_order : (past : List Update) (list : List (ℕ × Bool)) → state_after Rga (reverse past) ≡ Some (Listed list)
    → IsOrder past (elements_in list)
listed_order [] list is = ap elements_in (sym (same_list ((0, false) ∷ []) list is))
listed_order (update ∷ past) list is =
    by_state past update list (listed_order past) (state_after Rga (reverse past)) refl (sym (one_more past update) ∙ is)

-- of two insertions, the newer one stands first among the newest, and last among the oldest
newer_split : (past : List Update) (p q : ℕ) → IsNewer past p q
    → (a b : ℕ) × StandsBefore (After a p) (After b q) past
newer_split [] p q is = absurd is
newer_split (update ∷ past) p q (inl (a, b, same, there)) =
    let (between, after, split) = split_at past (After b q) there in
    (a, b, ([], between, after, ap (λ us. update ∷ us) split ∙ ap (λ u. u ∷ between ++ After b q ∷ after) same))
newer_split (update ∷ past) p q (inr earlier) =
    let (a, b, stands) = newer_split past p q earlier in
    let (first, between, after, split) = stands in
    (a, b, (update ∷ first, between, after, ap (λ us. update ∷ us) split))

split_newer : (first between after : List Update) (a b p q : ℕ)
    → IsNewer (first ++ After a p ∷ between ++ After b q ∷ after) p q
split_newer [] between after a b p q =
    inl (a, b, refl, Contains-append_right between (After b q ∷ after) (After b q) (at_head (After b q) after (After b q) refl))
split_newer (update ∷ first) between after a b p q = inr (split_newer first between after a b p q)

regrouped : (xs ys zs : List Update) (a b : Update) → (xs ++ b ∷ []) ++ ((ys ++ a ∷ []) ++ zs) ≡ xs ++ b ∷ ys ++ a ∷ zs
regrouped xs ys zs a b =
    append_assoc xs (b ∷ []) ((ys ++ a ∷ []) ++ zs)
    ∙ ap (λ us. xs ++ b ∷ us) (append_assoc ys (a ∷ []) zs)
    ∙ sym (append_assoc xs (b ∷ ys) (a ∷ zs))

pub split_reverse : (first between after : List Update) (a b : Update)
    → reverse (first ++ a ∷ between ++ b ∷ after) ≡ reverse after ++ b ∷ reverse between ++ a ∷ reverse first
split_reverse first between after a b =
    reverse-append (first ++ a ∷ between) (b ∷ after)
    ∙ ap (λ us. us ++ reverse (first ++ a ∷ between)) (reverse-append (b ∷ []) after)
    ∙ ap (λ us. (reverse after ++ b ∷ []) ++ us)
    (reverse-append first (a ∷ between) ∙ ap (λ us. us ++ reverse first) (reverse-append (a ∷ []) between))
    ∙ regrouped (reverse after) (reverse between) (reverse first) a b

pub newer_later : (past : List Update) (p q : ℕ) → IsNewer past p q → IsInsertedBefore (reverse past) q p
newer_later past p q newer =
    let (a, b, stands) = newer_split past p q newer in
    let (first, between, after, split) = stands in
    (b, a, (reverse after, reverse between, reverse first, ap reverse split ∙ split_reverse first between after (After a p) (After b q)))

pub later_newer : (us : List Update) (p q : ℕ) → IsInsertedBefore us q p → IsNewer (reverse us) p q
later_newer us p q (b, a, stands) =
    let (first, between, after, split) = stands in
    subst (λ past. IsNewer past p q) (sym (ap reverse split ∙ split_reverse first between after (After b q) (After a p)))
    (split_newer (reverse after) (reverse between) (reverse first) a b p q)
