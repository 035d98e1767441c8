-- Lemmas on the labels of a set: each of them once, and those whose number is 1.
use Rattle.std.proofs.Common.{◌≡◌, ℕ, ◌+◌, ◌<◌, Bool, true, false, List, [], ◌∷◌, ◌++◌, length, get_or, set, length-set, take, sym, ap, ◌∙◌, subst, inl, inr, arith}
use Rattle.std.specs.Prelude.{◌↔◌, ◌==◌, Contains}
use Rattle.std.proofs.lemmas.Bool.{false≢true, cases_eq}
use Rattle.std.proofs.lemmas.List.{get_or-set_same, get_or-set_other}
use Rattle.std.proofs.lemmas.List.Elements.{Contains-append_left, Contains-append_right, Contains-append_cases}
use Rattle.ra_labels.specs.Edges.{EachOnce}
use Rattle.ra_labels.proofs.Members.{head_or_behind, at_head, none_there}
use Rattle.ra_precedence.specs.Conditions.{Condition}
use Rattle.ra_precedence.specs.Lasts.{AreLasts, AreOpenOnce}
use Rattle.ra_precedence.proofs.Times.{one_if-is, one_if-not, times_head, times_append, times_none, each_once, once_each}
use Rattle.ra_precedence.proofs.Using.{in_more, still_in, last_in}

-- ---- finding the labels of the set whose number is 1

module _ (numbers set found : List ℕ) (i : ℕ) (within : i < length set)
    (so_far : AreOpenOnce numbers (take i set) found) where
  abbrev label : ℕ
  label = get_or set i 0

  pub one_found : (now : List ℕ) → now ≡ found ++ label ∷ [] → (get_or numbers label 0 == 1) ≡ true
      → AreOpenOnce numbers (take (i + 1) set) now
  one_found now is one w = subst (λ xs. Contains xs w ↔ (Contains (take (i + 1) set) w × ((get_or numbers w 0 == 1) ≡ true)))
      (sym is) (
        (λ there. elim (Contains-append_cases found (label ∷ []) w there) [
          | inl before ↦
              let both = (so_far w).0 before in (still_in set i w within both.0, both.1)
          | inr last ↦ elim (head_or_behind label [] w last) [
            | inl here ↦
                subst (λ x. Contains (take (i + 1) set) x × ((get_or numbers x 0 == 1) ≡ true)) here
                (last_in set i within, one)
            | inr further ↦ absurd (none_there w further)
          ]
        ]),
        (λ both. elim (in_more set i w within both.0) [
          | inl before ↦ Contains-append_left found (label ∷ []) w ((so_far w).1 (before, both.1))
          | inr here ↦ Contains-append_right found (label ∷ []) w (at_head label [] w here)
        ]),
      )

  pub none_found : (get_or numbers label 0 == 1) ≡ false → AreOpenOnce numbers (take (i + 1) set) found
  none_found other w = (
    (λ there. let both = (so_far w).0 there in (still_in set i w within both.0, both.1)),
    (λ both. elim (in_more set i w within both.0) [
      | inl before ↦ (so_far w).1 (before, both.1)
      | inr here ↦ absurd (false≢true (sym other ∙ subst (λ x. (get_or numbers x 0 == 1) ≡ true) (sym here) both.1))
    ]),
  )

-- ---- each label of a set once

abbrev set_at : List Bool → ℕ → List Bool
set_at marks b = set marks b true

-- the labels are distinct, and those that are marked
pub record AreDistinct (marks : List Bool) (labels set : List ℕ) (count : ℕ) : Type 0 where
  pub marked : (b : ℕ) → (get_or marks b false ≡ true) ↔ Contains labels b
  pub once : EachOnce labels
  pub same : (b : ℕ) → Contains labels b ↔ Contains set b
  pub len : length marks ≡ count

pub distinct_none : (marks : List Bool) (count : ℕ) → ((b : ℕ) → get_or marks b false ≡ false) → length marks ≡ count
    → AreDistinct marks [] [] count
distinct_none marks count unmarked len = record {
  marked = λ b. ((λ is. absurd (false≢true (sym (unmarked b) ∙ is))), (λ there. absurd (none_there b there)));
  once = λ x. omega arith;
  same = λ b. ((λ there. there), (λ there. there));
  len = len;
}

module _ (marks : List Bool) (labels all : List ℕ) (count i : ℕ) (within : i < length all)
    (are : AreDistinct marks labels (take i all) count) where
  abbrev pub added : ℕ
  added = get_or all i 0

  pub distinct_more : added < count → get_or marks added false ≡ false
      → AreDistinct (set_at marks added) (labels ++ added ∷ []) (take (i + 1) all) count
  distinct_more low unmarked =
      let new : ¬ Contains labels added = λ there. false≢true (sym unmarked ∙ (are.marked added).1 there) in
      record {
        marked = λ b. elim (cases_eq b added) [
          | inl is ↦ (
            (λ _. Contains-append_right labels (added ∷ []) b (at_head added [] b (sym is))),
            (λ _. ap (λ k. get_or (set_at marks added) k false) is
                ∙ get_or-set_same marks added true false (let len = are.len in omega (arith, low, len))),
          )
          | inr other ↦ (
            (λ marked. Contains-append_left labels (added ∷ []) b
                ((are.marked b).0 (sym (get_or-set_other marks added b true false other) ∙ marked))),
            (λ there. get_or-set_other marks added b true false other
                ∙ (are.marked b).1 (elim (Contains-append_cases labels (added ∷ []) b there) [
                  | inl before ↦ before
                  | inr last ↦ elim (head_or_behind added [] b last) [
                    | inl here ↦ absurd (other (sym here))
                    | inr further ↦ absurd (none_there b further)
                  ]
                ])),
          )
        ];
        once = each_once (labels ++ added ∷ []) (λ b.
            let both = times_append b labels (added ∷ []) in
            let last = times_head b added [] in
            let most = once_each labels are.once b in
            elim (cases_eq added b) [
              | inl is ↦
                  let none = times_none b labels (λ there. new (subst (Contains labels) (sym is) there)) in
                  omega (arith, both, last, none, one_if-is b added is)
              | inr other ↦ omega (arith, both, last, most, one_if-not b added other)
            ]);
        same = λ b. (
          (λ there. elim (Contains-append_cases labels (added ∷ []) b there) [
            | inl before ↦ still_in all i b within ((are.same b).0 before)
            | inr last ↦ elim (head_or_behind added [] b last) [
              | inl here ↦ subst (Contains (take (i + 1) all)) here (last_in all i within)
              | inr further ↦ absurd (none_there b further)
            ]
          ]),
          (λ there. elim (in_more all i b within there) [
            | inl before ↦ Contains-append_left labels (added ∷ []) b ((are.same b).1 before)
            | inr here ↦ Contains-append_right labels (added ∷ []) b (at_head added [] b here)
          ]),
        );
        len = length-set marks added true ∙ are.len;
      }

  pub distinct_same : get_or marks added false ≡ true → AreDistinct marks labels (take (i + 1) all) count
  distinct_same marked = record {
    marked = are.marked;
    once = are.once;
    same = λ b. (
      (λ there. still_in all i b within ((are.same b).0 there)),
      (λ there. elim (in_more all i b within there) [
        | inl before ↦ (are.same b).1 before
        | inr here ↦ subst (Contains labels) here ((are.marked added).0 marked)
      ]),
    );
    len = are.len;
  }

-- whether a label is the last one of a set depends on its members alone
pub lasts_same : (count : ℕ) (conditions : List Condition) (set labels lasts : List ℕ)
    → ((b : ℕ) → Contains labels b ↔ Contains set b) → AreLasts count conditions labels lasts
    → AreLasts count conditions set lasts
lasts_same count conditions set labels lasts same are some w = (
  (λ there.
      let (order, is, last) = (are some w).0 there in (
        order,
        is,
        record {
          member = (same w).0 last.member;
          last = λ m among other. last.last m ((same m).1 among) other;
        },
      )),
  (λ found.
      let (order, is, last) = found in
      (are some w).1 (
        order,
        is,
        record {
          member = (same w).1 last.member;
          last = λ m among other. last.last m ((same m).0 among) other;
        },
      )),
)
