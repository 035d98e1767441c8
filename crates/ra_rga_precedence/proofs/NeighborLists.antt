-- Lemmas on the conditions of neighbours, place by place.
use Rattle.std.proofs.Common.{◌≡◌, ℕ, ◌+◌, ◌<◌, List, [], ◌∷◌, ◌++◌, Option, length, get_or, sym, subst, ◌∙◌, inl, inr, arith}
use Rattle.std.specs.Prelude.{Contains}
use Rattle.std.proofs.lemmas.Bool.{cases_eq}
use Rattle.std.proofs.lemmas.List.Elements.{Contains-push, Contains-push_cases, Contains-append_left}
use Rattle.ra_precedence.specs.Conditions.{Condition}
use Rattle.ra_rga_precedence.specs.Relations.{LeadsTo, AreApart}
use Rattle.ra_rga_precedence.specs.Neighbors.{edge, AreEdges}

module _ (needed : List (Option ℕ)) (labels : List ℕ) (old new : List Condition) (i : ℕ)
    (are : AreEdges needed labels old new i) where
  abbrev here : ℕ
  here = get_or labels i 0

  abbrev next : ℕ
  next = get_or labels (i + 1) 0

  pub neighbors_above : LeadsTo needed next here → AreEdges needed labels old new (i + 1)
  neighbors_above leads = record {
    kept = are.kept;
    only = are.only;
    each =
        λ j below within. elim (cases_eq j i) [
          | inl same ↦ inl (subst (λ k. LeadsTo needed (get_or labels (k + 1) 0) (get_or labels k 0)) (sym same) leads)
          | inr other ↦ are.each j (omega (arith, below, other)) within
        ];
  }

  pub neighbors_apart : (left right : ℕ) → i + 1 < length labels → AreApart needed here next left right
      → (condition : Condition) → condition ≡ edge right left
      → AreEdges needed labels old (new ++ condition ∷ []) (i + 1)
  neighbors_apart left right within apart condition is = record {
    kept = λ other there. Contains-append_left new (condition ∷ []) other (are.kept other there);
    only =
        λ other there. elim (Contains-push_cases new condition other there) [
          | inl older ↦ are.only other older
          | inr same ↦ inr (i, left, right, within, apart, sym same ∙ is)
        ];
    each =
        λ j below j_within. elim (cases_eq j i) [
          | inl same ↦ inr (
            left,
            right,
            subst (λ k. AreApart needed (get_or labels k 0) (get_or labels (k + 1) 0) left right) (sym same) apart,
            subst (Contains (new ++ condition ∷ [])) is (Contains-push new condition),
          )
          | inr other ↦ elim (are.each j (omega (arith, below, other)) j_within) [
            | inl leads ↦ inl leads
            | inr (l, r, its, there) ↦
                inr (l, r, its, Contains-append_left new (condition ∷ []) (edge r l) there)
          ]
        ];
  }

pub neighbors_none : (needed : List (Option ℕ)) (labels : List ℕ) (old : List Condition) → AreEdges needed labels old old 0
neighbors_none needed labels old = record {
  kept = λ condition there. there;
  only = λ condition there. inl there;
  each = λ i below within. absurd (omega (arith, below));
}

pub neighbors_all : (needed : List (Option ℕ)) (labels : List ℕ) (old new : List Condition) (bound : ℕ)
    → ((i : ℕ) → i + 1 < length labels → i < bound) → AreEdges needed labels old new bound
    → AreEdges needed labels old new (length labels)
neighbors_all needed labels old new bound all are =
    record { kept = are.kept; only = are.only; each = λ i below within. are.each i (all i within) within }
