-- Lemmas on marks of labels, one label after another.
use Rattle.std.proofs.Common.{◌≡◌, ℕ, ◌<◌, Bool, true, false, List, [], ◌∷◌, ◌++◌, Option, Some, None, length, get_or, set, refl, sym, ap, subst, ◌∙◌, inl, inr, arith}
use Rattle.std.specs.Prelude.{◌&&◌, not, Contains}
use Rattle.std.proofs.lemmas.Bool.{cases_eq, cases_Bool, false≢true, and_parts, and_from, cond-true, cond-false, not-true, not_from_false}
use Rattle.std.proofs.lemmas.Option.{none-some, same_Some}
use Rattle.std.proofs.lemmas.List.{get_or-set_same, get_or-set_other, get_or_append_left, length-append, length-set}
use Rattle.std.proofs.lemmas.List.Elements.{Contains-push, Contains-push_cases, Contains-append_left}
use Rattle.std.proofs.Math.Seq.{get_or-append_seam}
use Rattle.ra_labels.specs.TheoremTerms.{HasNoDuplicates}
use Rattle.ra_labels.proofs.Members.{at_head, behind_head, none_there}
use Rattle.ra_visibility.specs.Seen.{Seen, is_in}
use Rattle.ra_rga_precedence.specs.Marks.{AreUnmarked, shown_label, AreShown, IsWrong}
use Rattle.ra_rga_precedence.proofs.Places.{place_of}

-- ---- the labels of a list
pub pushed_once : (xs : List ℕ) (x : ℕ) → HasNoDuplicates xs → ¬ Contains xs x → HasNoDuplicates (xs ++ x ∷ [])
pushed_once [] x once new = ((λ there. none_there x there), tt)
pushed_once (y ∷ ys) x once new = (
  (λ there. elim (Contains-push_cases ys x y there) [
    | inl older ↦ once.0 older
    | inr is ↦ new (at_head y ys x (sym is))
  ]),
  pushed_once ys x once.1 (λ there. new (behind_head y ys x there)),
)

module _ (inserter : ℕ → Option ℕ) (seen : Seen) where
  -- what is known of the label of a shown element
  abbrev IsOpenLabel : List Bool → ℕ → Option ℕ → Type 0
  IsOpenLabel marks k o = (o ≡ Some k) × (is_in seen k ≡ true) × (get_or marks k false ≡ false)

  shown_if : (marks : List Bool) (x k : ℕ) (o : Option ℕ) → inserter x ≡ o
      → shown_label (λ y. o) seen marks x ≡ Some k → IsOpenLabel marks k o
  shown_if marks x k None is shown = absurd (none-some k shown)
  shown_if marks x k (Some j) is shown = elim (cases_Bool (is_in seen j && not (get_or marks j false))) [
    | inl fits ↦
        let parts = and_parts (is_in seen j) (not (get_or marks j false)) fits in
        let same : j ≡ k = same_Some j k (sym (cond-true (is_in seen j && not (get_or marks j false)) (Some j) None fits) ∙ shown) in (
          ap Some same,
          subst (λ i. is_in seen i ≡ true) same parts.0,
          subst (λ i. get_or marks i false ≡ false) same (not-true (get_or marks j false) parts.1),
        )
    | inr not_fits ↦
        absurd (none-some k (sym (cond-false (is_in seen j && not (get_or marks j false)) (Some j) None not_fits) ∙ shown))
  ]

  pub shown_parts : (marks : List Bool) (x k : ℕ) → shown_label inserter seen marks x ≡ Some k
      → IsOpenLabel marks k (inserter x)
  shown_parts marks x k shown = shown_if marks x k (inserter x) refl shown

  pub hidden_marked : (marks : List Bool) (x k : ℕ) → shown_label inserter seen marks x ≡ None → inserter x ≡ Some k
      → is_in seen k ≡ true → get_or marks k false ≡ true
  hidden_marked marks x k none is visible = elim (cases_Bool (get_or marks k false)) [
    | inl marked ↦ marked
    | inr open_mark ↦
        let fits = and_from (is_in seen k) (not (get_or marks k false)) visible
        (not_from_false (get_or marks k false) open_mark) in
        absurd (none-some k (sym none
        ∙ ap (λ o. shown_label (λ y. o) seen marks x) is
        ∙ cond-true (is_in seen k && not (get_or marks k false)) (Some k) None fits))
  ]

  module _ (marks : List Bool) (list labels : List ℕ) (now : List Bool)
      (are : AreShown inserter seen marks list labels now) where
    pub shown_more : (k : ℕ) → shown_label inserter seen now (get_or list (length labels) 0) ≡ Some k → k < length now
        → AreShown inserter seen marks list (labels ++ k ∷ []) (set now k true)
    shown_more k shown within =
        let (inserts, visible, free) = shown_parts now (get_or list (length labels) 0) k shown in
        let long = length-append labels (k ∷ []) in
        let here = get_or-set_same now k true false within in
        let keeps = λ (j : ℕ) (marked : get_or now j false ≡ true).
        elim (cases_eq j k) as (λ b. get_or (set now k true) j false ≡ true) [
          | inl same ↦ ap (λ i. get_or (set now k true) i false) same ∙ here
          | inr other ↦ get_or-set_other now k j true false other ∙ marked
        ] in
        record {
          each =
              λ i below. elim (cases_eq i (length labels)) [
                | inl same ↦
                    ap (λ j. inserter (get_or list j 0)) same ∙ inserts
                    ∙ ap Some (sym (ap (λ j. get_or (labels ++ k ∷ []) j 0) same ∙ get_or-append_seam labels k [] 0))
                | inr other ↦
                    let less : i < length labels = omega (arith, below, long, other) in
                    are.each i less ∙ ap Some (sym (get_or_append_left labels (k ∷ []) 0 i less))
              ];
          shown =
              λ j there. elim (Contains-push_cases labels k j there) [
                | inl older ↦ are.shown j older
                | inr same ↦ (
                  subst (λ i. is_in seen i ≡ true) same visible,
                  subst (λ i. get_or marks i false ≡ false) same (elim (cases_Bool (get_or marks k false)) [
                    | inl marked ↦ absurd (false≢true (sym free ∙ are.kept k marked))
                    | inr open_mark ↦ open_mark
                  ]),
                )
              ];
          once = pushed_once labels k are.once (λ there. false≢true (sym free ∙ are.marked k there));
          kept = λ j marked. keeps j (are.kept j marked);
          marked =
              λ j there. elim (Contains-push_cases labels k j there) [
                | inl older ↦ keeps j (are.marked j older)
                | inr same ↦ subst (λ i. get_or (set now k true) i false ≡ true) same here
              ];
          only =
              λ j marked. elim (cases_eq j k) [
                | inl same ↦ inr (subst (Contains (labels ++ k ∷ [])) (sym same) (Contains-push labels k))
                | inr other ↦ elim (are.only j (sym (get_or-set_other now k j true false other) ∙ marked)) [
                  | inl before ↦ inl before
                  | inr older ↦ inr (Contains-append_left labels (k ∷ []) j older)
                ]
              ];
        }

    pub is_wrong : length labels < length list
        → shown_label inserter seen now (get_or list (length labels) 0) ≡ None
        → IsWrong inserter seen marks list (get_or list (length labels) 0)
    is_wrong within none = record {
      place = length labels;
      within = within;
      here = refl;
      before =
          λ k inserts visible free.
          elim (are.only k (hidden_marked now (get_or list (length labels) 0) k none inserts visible)) [
            | inl before ↦ absurd (false≢true (sym free ∙ before))
            | inr older ↦
                let (i, at) = place_of labels k older in
                (i, at.within, are.each i at.within ∙ ap Some at.here)
          ];
    }

pub shown_none : (inserter : ℕ → Option ℕ) (seen : Seen) (marks : List Bool) (list : List ℕ)
    → AreShown inserter seen marks list [] marks
shown_none inserter seen marks list = record {
  each = λ i below. absurd (omega (arith, below));
  shown = λ k there. absurd (none_there k there);
  once = tt;
  kept = λ k marked. marked;
  marked = λ k there. absurd (none_there k there);
  only = λ k marked. inl marked;
}

-- ---- marks that are removed
pub unmark_more : (old : List Bool) (labels : List ℕ) (marks : List Bool) (k : ℕ) → k < length marks
    → AreUnmarked old labels marks → AreUnmarked old (labels ++ k ∷ []) (set marks k false)
unmark_more old labels marks k within are = record {
  len = length-set marks k false ∙ are.len;
  gone =
      λ j there. elim (cases_eq j k) [
        | inl same ↦ ap (λ i. get_or (set marks k false) i false) same ∙ get_or-set_same marks k false false within
        | inr other ↦ elim (Contains-push_cases labels k j there) [
          | inl older ↦ get_or-set_other marks k j false false other ∙ are.gone j older
          | inr same ↦ absurd (other (sym same))
        ]
      ];
  kept =
      λ j free. elim (cases_eq j k) [
        | inl same ↦ absurd (free (subst (Contains (labels ++ k ∷ [])) (sym same) (Contains-push labels k)))
        | inr other ↦
            get_or-set_other marks k j false false other
            ∙ are.kept j (λ there. free (Contains-append_left labels (k ∷ []) j there))
      ];
}
