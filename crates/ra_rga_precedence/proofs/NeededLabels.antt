-- Lemmas on which label inserts what each label needs, label by label.
use Rattle.std.proofs.Common.{◌≡◌, ℕ, ◌<◌, Bool, List, [], ◌∷◌, ◌++◌, Option, Some, None, length, get_or, sym, ap, subst, ◌∙◌, inl, inr, arith}
use Rattle.std.specs.Prelude.{IfSome, Contains}
use Rattle.std.proofs.lemmas.Bool.{cases_eq, cases_lt}
use Rattle.std.proofs.lemmas.List.{get_or_past, length-append, get_or_append_left}
use Rattle.std.proofs.Math.Seq.{get_or-append_seam}
use Rattle.ra_labels.specs.declared.operation.Op.{Op}
use Rattle.ra_rga_precedence.specs.Inserting.{AreInserters}
use Rattle.ra_rga_precedence.specs.Needing.{IsNeeded, AreNeeded}
use Rattle.ra_visibility.specs.Seen.{Seen}
use Rattle.ra_rga_precedence.specs.Marks.{AreShown}
use Rattle.ra_rga_precedence.specs.UpdateConditions.{AreBelow}
use Rattle.ra_rga_precedence.proofs.Places.{place_of}

pub one_more_needed : (operations : List Op) (inserter : ℕ → Option ℕ) (labels : List (Option ℕ)) (n : ℕ) (o : Option ℕ)
    → length labels ≡ n → AreNeeded operations inserter labels → IsNeeded operations inserter n o
    → AreNeeded operations inserter (labels ++ o ∷ [])
one_more_needed operations inserter labels n o len are needed = record {
  each =
      λ m below. elim (cases_eq m n) [
        | inl is ↦
            subst (λ k. IsNeeded operations inserter k (get_or (labels ++ o ∷ []) k None)) (len ∙ sym is)
            (subst (IsNeeded operations inserter (length labels)) (sym (get_or-append_seam labels o [] None))
            (subst (λ k. IsNeeded operations inserter k o) (sym len) needed))
        | inr other ↦
            let long = length-append labels (o ∷ []) in
            let less : m < length labels = omega (arith, below, long, other, len) in
            subst (IsNeeded operations inserter m) (sym (get_or_append_left labels (o ∷ []) None m less)) (are.each m less)
      ];
}

-- the labels that insert what others need are below the count
pub needed_below : (operations : List Op) (count : ℕ) (inserter : ℕ → Option ℕ) (labels : List (Option ℕ))
    → AreInserters operations count inserter → AreNeeded operations inserter labels → AreBelow count labels
needed_below operations count inserter labels inserters are i = elim (cases_lt i (length labels)) [
  | inl less ↦ one (get_or labels i None) (are.each i less)
  | inr more ↦ subst (λ o. IfSome o (λ label. label < count)) (sym (get_or_past labels i None more)) tt
]
  where
    one : (o : Option ℕ) → IsNeeded operations inserter i o → IfSome o (λ label. label < count)
    one None needed = tt
    one (Some m) (x, needs, is) = (inserters.found x m is).0

-- the labels that insert listed elements are below the count
pub shown_below : (operations : List Op) (count : ℕ) (inserter : ℕ → Option ℕ) → AreInserters operations count inserter
    → (seen : Seen) (marks : List Bool) (list labels : List ℕ) (now : List Bool)
    → AreShown inserter seen marks list labels now → (m : ℕ) → Contains labels m → m < count
shown_below operations count inserter inserters seen marks list labels now shown m there =
    let (i, at) = place_of labels m there in
    (inserters.found (get_or list i 0) m (shown.each i at.within ∙ ap Some at.here)).0
