-- Lemmas on the effects of a list, as effects of any kind.
use Rattle.std.proofs.Common.{◌≡◌, ℕ, ◌<◌, ◌≤◌, ◌∷◌, true, false, Result, Ok, Err, ap, ◌∙◌, sym, subst, arith}
use Rattle.std.specs.Prelude.{MatchResult, OnErr}
use Rattle.ra_labels.specs.declared.kind.Kind.TheVariants as variant
use Rattle.ra_labels.specs.Records.{label_count}
use Rattle.ra_labels.specs.Explained.{is_explained}
use Rattle.ra_labels.specs.HistorySoFar.{History, history_with, NextOperation, operate}
use Rattle.ra_visibility.specs.declared.limits.TheConstants.{MOST_LABELS}
use Rattle.ra_witness.specs.declared.failure.Failure.{Failure}
use Rattle.ra_witness.specs.declared.kept_list.KeptList.{KeptList}
use Rattle.ra_witness.specs.declared.effects.Effects.TheVariants as form
use Rattle.ra_witness.specs.Failure.{IsUnexplained}
use Rattle.ra_witness.specs.KeptList.{IsListOf}
use Rattle.ra_witness.specs.Effects.{AreEffectsOf}

-- the effects after the label; the same ones if no order explains the elements with it
pub list_taken : (new : KeptList) (past : History) (next : NextOperation) → past.kind ≡ variant.List
    → label_count past.records ≤ MOST_LABELS → label_count past.records < MOST_LABELS
    → (added : Result ℕ Failure)
    → MatchResult added
    (λ steps. IsListOf new past.initial_replicas (operate next ∷ past.records)
    × (is_explained variant.List (operate next ∷ past.records) ≡ true))
    (λ failure. IsListOf new past.initial_replicas past.records
    × IsUnexplained variant.List (operate next ∷ past.records) failure)
    → MatchResult added
    (λ steps. AreEffectsOf (form.List new) (history_with past (operate next))
    × (is_explained past.kind (operate next ∷ past.records) ≡ true))
    (λ failure. AreEffectsOf (form.List new) past × IsUnexplained past.kind (operate next ∷ past.records) failure)
list_taken new past next is few fewer (Ok steps) (after, some) = (
  record { few = omega (arith, fewer); form = (is, after) },
  ap (λ k. is_explained k (operate next ∷ past.records)) is ∙ some,
)
list_taken new past next is few fewer (Err failure) (same, shown) = (
  record { few = few; form = (is, same) },
  subst (λ k. IsUnexplained k (operate next ∷ past.records) failure) (sym is) shown,
)

-- the effects of the same labels if no order explains the elements with the label
pub list_same : (new : KeptList) (past : History) → past.kind ≡ variant.List → label_count past.records ≤ MOST_LABELS
    → (added : Result ℕ Failure) → OnErr added (IsListOf new past.initial_replicas past.records)
    → OnErr added (AreEffectsOf (form.List new) past)
list_same new past is few (Ok steps) same = tt
list_same new past is few (Err failure) same = record { few = few; form = (is, same) }
