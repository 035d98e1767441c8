-- Lemmas on rising lists, compared with a list that has the same elements.
use Rattle.std.proofs.Common.{◌≡◌, ℕ, Bool, true, List, sym, ◌∙◌}
use Rattle.std.specs.Prelude.{◌↔◌, IsTrue, Contains}
use Rattle.std.specs.Cmp.{nat_eq_equiv}
use Rattle.std.proofs.lemmas.Bool.{eqb-true}
use Rattle.std.proofs.lemmas.Map.Views.{list_any-from_Contains, Contains-from_any}
use Rattle.ra_labels.specs.Lists.{is_among, have_same_elements, rises}
use Rattle.ra_labels.proofs.TheoremIndex.{have_same_elements_iff-rising, have_same_elements_iff-elements}
use Rattle.ra_labels.proofs.InLists.{bool_same}

-- membership in a list
among_contains : (xs : List ℕ) (x : ℕ) → (is_among x xs ≡ true) ↔ Contains xs x
among_contains xs x = (Contains-from_any eqb-true x xs, list_any-from_Contains nat_eq_equiv x xs)

-- a rising list with the same elements as these is the one that has each once
pub is_once : (list once these : List ℕ) → rises list ≡ true → rises once ≡ true
    → ((x : ℕ) → is_among x once ≡ is_among x these) → have_same_elements list these ≡ true → list ≡ once
is_once list once these up also same holds =
    let both = (have_same_elements_iff-elements list these).0 holds in
    (have_same_elements_iff-rising list once up also).0
    ((have_same_elements_iff-elements list once).1 (λ x. (
      (λ there. (among_contains once x).0 (same x ∙ (among_contains these x).1 ((both x).0 there))),
      (λ there. (both x).1 ((among_contains these x).0 (sym (same x) ∙ (among_contains once x).1 there))),
    )))

-- it has the same elements exactly if it is that list
pub is_answer : (list once these : List ℕ) (r : Bool) → rises list ≡ true → rises once ≡ true
    → ((x : ℕ) → is_among x once ≡ is_among x these) → IsTrue r ↔ (list ≡ once) → r ≡ have_same_elements list these
is_answer list once these r up also same answer =
    let equal = have_same_elements_iff-rising list once up also in
    let ours = have_same_elements_iff-elements list once in
    let theirs = have_same_elements_iff-elements list these in
    bool_same r (have_same_elements list these)
    (λ holds. theirs.1 (λ x.
    let both = ours.0 (equal.1 (answer.0 holds)) x in (
      (λ there. (among_contains these x).0 (sym (same x) ∙ (among_contains once x).1 (both.0 there))),
      (λ there. both.1 ((among_contains once x).0 (same x ∙ (among_contains these x).1 there))),
    )))
    (λ holds. answer.1 (is_once list once these up also same holds))
