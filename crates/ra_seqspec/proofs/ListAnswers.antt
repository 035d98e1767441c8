-- Lemmas on the answers of a list: each corrected answer is right.
use Rattle.std.proofs.Common.{◌≡◌, ℕ, ◌<◌, Bool, true, List, [], ◌∷◌, filter, Option, Some, refl}
use Rattle.std.proofs.Common.{sym, ◌∙◌, subst, inl, inr, arith}
use Rattle.std.specs.Prelude.{◌&&◌, not, nat_lt, IfSome, Contains}
use Rattle.std.specs.List.{list_all}
use Rattle.std.specs.List.Sorted.{IsStrictlySortedBy}
use Rattle.std.specs.Ordering.{nat_cmp}
use Rattle.std.proofs.lemmas.Bool.{cases_Bool, cond-true, cond-false, false≢true, and_parts, and_from, ltb-true}
use Rattle.std.proofs.lemmas.Bool.{not-true, not_from_false, false_from_ne_true}
use Rattle.ra_labels.specs.declared.list_operation.ListQuery.{ListQuery}
use Rattle.ra_labels.specs.declared.list_operation.ListQuery.TheVariants.{Near, Has, Read, Part}
use Rattle.ra_labels.specs.Lists.{is_among, have_same_elements, rises}
use Rattle.ra_labels.specs.FreeList.{ListState, shown_in, has_each_once, list_answers}
use Rattle.ra_labels.proofs.InLists.{among-exactly, list_all-contains, same-itself}
use Rattle.ra_labels.proofs.Members.{head_or_behind, none_there, at_head, behind_head, there-kept}
use Rattle.ra_labels.proofs.TheoremIndex.{rises_iff_sorted-sorted}
use Rattle.ra_seqspec.specs.ListElements.{shown_among, corrected}

-- a list that has x once more has each element once, if the rest has and x is not in it
once_more : (x : ℕ) (xs : List ℕ) → ¬ Contains xs x → has_each_once xs ≡ true → has_each_once (x ∷ xs) ≡ true
once_more x xs new once =
    and_from (not (is_among x xs)) (has_each_once xs)
    (not_from_false (is_among x xs) (false_from_ne_true (is_among x xs) (λ is. new ((among-exactly x xs).0 is)))) once

-- what a test keeps of a rising list has each element once
kept_once : (p : ℕ → Bool) (xs : List ℕ) → rises xs ≡ true → has_each_once (filter p xs) ≡ true
kept_once p [] up = refl
kept_once p (x ∷ xs) up =
    let parts = and_parts (list_all (λ y. nat_lt x y) xs) (rises xs) up in
    let rest = kept_once p xs parts.1 in
    elim (cases_Bool (p x)) [
      | inl keeps ↦
          subst (λ kept. has_each_once kept ≡ true) (sym (cond-true (p x) (x ∷ filter p xs) (filter p xs) keeps))
          (once_more x (filter p xs) (λ there.
          let less : x < x = ltb-true x x
          (list_all-contains (λ y. nat_lt x y) xs x parts.0 (there-kept p xs x there).0) in
          absurd (omega (arith, less))) rest)
      | inr drops ↦
          subst (λ kept. has_each_once kept ≡ true) (sym (cond-false (p x) (x ∷ filter p xs) (filter p xs) drops)) rest
    ]

-- the shown elements among these are among these
among_these : (list : ListState) (xs : List ℕ) (y : ℕ) → Contains (shown_among list xs) y → Contains xs y
among_these list [] y there = absurd (none_there y there)
among_these list (x ∷ xs) y there =
    let is = is_among x (shown_in list) && not (is_among x xs) in
    let rest = shown_among list xs in
    elim (cases_Bool is) [
      | inl keeps ↦ elim (head_or_behind x rest y
          (subst (λ these. Contains these y) (cond-true is (x ∷ rest) rest keeps) there)) [
            | inl here ↦ at_head x xs y here
            | inr further ↦ behind_head x xs y (among_these list xs y further)
          ]
      | inr drops ↦ behind_head x xs y
          (among_these list xs y (subst (λ these. Contains these y) (cond-false is (x ∷ rest) rest drops) there))
    ]

-- they answer a part
part_right : (list : ListState) (xs : List ℕ) → list_answers list (Part (shown_among list xs)) ≡ true
part_right list [] = refl
part_right list (x ∷ xs) =
    let shows = λ (y : ℕ). is_among y (shown_in list) in
    let is = shows x && not (is_among x xs) in
    let rest = shown_among list xs in
    elim (cases_Bool is) [
      | inl keeps ↦
          let parts = and_parts (shows x) (not (is_among x xs)) keeps in
          let further = and_parts (has_each_once rest) (list_all shows rest) (part_right list xs) in
          subst (λ these. list_answers list (Part these) ≡ true) (sym (cond-true is (x ∷ rest) rest keeps))
          (and_from (has_each_once (x ∷ rest)) (list_all shows (x ∷ rest))
          (once_more x rest (λ there. false≢true (sym (not-true (is_among x xs) parts.1)
          ∙ (among-exactly x xs).1 (among_these list xs x there))) further.0)
          (and_from (shows x) (list_all shows rest) parts.0 further.1))
      | inr drops ↦
          subst (λ these. list_answers list (Part these) ≡ true) (sym (cond-false is (x ∷ rest) rest drops))
          (part_right list xs)
    ]

-- the elements that are shown answer a read
read_right : (list : ListState) → IsStrictlySortedBy nat_cmp list.inserted
    → list_answers list (Read (shown_in list)) ≡ true
read_right list sorted =
    and_from (has_each_once (shown_in list)) (have_same_elements (shown_in list) (shown_in list))
    (kept_once (λ x. not (is_among x list.removed)) list.inserted ((rises_iff_sorted-sorted list.inserted).1 sorted))
    (same-itself (shown_in list))

corrected_right : (list : ListState) (query : ListQuery) → IsStrictlySortedBy nat_cmp list.inserted
    → IfSome (corrected list query) (λ it. list_answers list it ≡ true)
corrected_right list (Near insertion) sorted = tt
corrected_right list (Has x) sorted = tt
corrected_right list (Read elements) sorted = read_right list sorted
corrected_right list (Part elements) sorted = part_right list elements

-- each corrected answer is right
pub corrected_is : (list : ListState) (query answer : ListQuery) → IsStrictlySortedBy nat_cmp list.inserted
    → Some answer ≡ corrected list query → list_answers list answer ≡ true
corrected_is list query answer sorted is =
    subst (λ (o : Option ListQuery). IfSome o (λ it. list_answers list it ≡ true)) (sym is)
    (corrected_right list query sorted)
