-- Lemmas on what is kept of an object of any type or a multi-value register, as effects of any kind.
use Rattle.std.proofs.Common.{◌≡◌, ℕ, ◌<◌, ◌≤◌, ◌∷◌, true, None, Result, Ok, Err, ap, ◌∙◌, sym, subst, inl, inr, arith}
use Rattle.std.specs.Prelude.{MatchResult, OnErr}
use Rattle.ra_labels.specs.declared.kind.Kind.{Kind}
use Rattle.ra_labels.specs.declared.kind.Kind.TheVariants as variant
use Rattle.ra_labels.specs.declared.label.Label.{Label}
use Rattle.ra_labels.specs.Records.{label_count, labels_of}
use Rattle.ra_labels.specs.Answer.{kind_of}
use Rattle.ra_labels.specs.Explained.{is_explained}
use Rattle.ra_labels.specs.Fault.{sequence_cause}
use Rattle.ra_labels.specs.HistorySoFar.{History, history_with, NextOperation, operate, label_of}
use Rattle.ra_labels.proofs.Members.{head_or_behind}
use Rattle.ra_theorems.specs.OneState.{HasOneState, EachLabelIsOf}
use Rattle.ra_theorems.proofs.TheoremIndex.{one_state_meets_conditions}
use Rattle.ra_visibility.specs.declared.limits.TheConstants.{MOST_LABELS}
use Rattle.ra_visibility.specs.Order.{ComesNext}
use Rattle.ra_visibility.specs.Seen.{Seen}
use Rattle.ra_unordered.specs.declared.unordered.Unordered.{Unordered}
use Rattle.ra_unordered.specs.declared.unordered.Unordered.TheVariants.{Any, MvRegister}
use Rattle.ra_unordered.specs.Unordered as kept_spec
use Rattle.ra_unordered.specs.Unordered.{IsKeptOf, IsNext, IsJoined}
use Rattle.ra_witness.specs.declared.failure.Failure.{Failure}
use Rattle.ra_witness.specs.declared.effects.Effects.TheVariants as form
use Rattle.ra_witness.specs.Failure.{IsUnexplained}
use Rattle.ra_witness.specs.Offered.{IsOffered, IsDelivered, IsJoinedFrom}
use Rattle.ra_witness.specs.Effects.{AreEffectsOf}
use Rattle.ra_witness.proofs.Forms.{of_its_kind}

-- the kind of what is kept
pub has_one_state : (kept : Unordered) (past : History) → IsKeptOf kept past → HasOneState past.kind
has_one_state (Any reads) past stands = inl stands.form.0
has_one_state (MvRegister siblings) past stands = inr stands.form.0

module _ (kind : Kind) (one : HasOneState kind) where
  pub one_no_rga : ¬ (kind ≡ variant.Rga)
  one_no_rga rga = elim one [
    | inl is ↦ let e : variant.Any ≡ variant.Rga = sym is ∙ rga in cc (e)
    | inr is ↦ let e : variant.MvRegister ≡ variant.Rga = sym is ∙ rga in cc (e)
  ]

  pub one_no_list : ¬ (kind ≡ variant.List)
  one_no_list list = elim one [
    | inl is ↦ let e : variant.Any ≡ variant.List = sym is ∙ list in cc (e)
    | inr is ↦ let e : variant.MvRegister ≡ variant.List = sym is ∙ list in cc (e)
  ]

  pub one_no_or_set : ¬ (kind ≡ variant.OrSet)
  one_no_or_set set = elim one [
    | inl is ↦ let e : variant.Any ≡ variant.OrSet = sym is ∙ set in cc (e)
    | inr is ↦ let e : variant.MvRegister ≡ variant.OrSet = sym is ∙ set in cc (e)
  ]

-- with an offered label all labels are of the kind
all_of_kind : (past : History) (next : NextOperation) (label : Label) → EachLabelIsOf past.kind past.records
    → IsOffered past next label → EachLabelIsOf past.kind (operate next ∷ past.records)
all_of_kind past next label all offered it there =
    elim (head_or_behind (label_of past.records next) (labels_of past.records) it there) [
      | inl new ↦ sym (ap (λ (l : Label). kind_of l.op) new) ∙ of_its_kind past next label offered
      | inr old ↦ all it old
    ]

-- so no condition on the sequence fails
pub no_cause : (kept : Unordered) (past : History) (next : NextOperation) (label : Label) → IsKeptOf kept past
    → IsOffered past next label → sequence_cause past.kind (operate next ∷ past.records) ≡ None
no_cause kept past next label stands offered =
    one_state_meets_conditions past.kind (operate next ∷ past.records) (has_one_state kept past stands)
    (all_of_kind past next label stands.of_kind offered)

pub is_next : (past : History) (next : NextOperation) (label : Label) (seen : Seen) → IsOffered past next label
    → ComesNext past next label seen → IsNext past next label seen
is_next past next label seen offered comes = record {
  comes = comes;
  explained = offered.holds.explained;
  few = offered.few;
}

-- the effects after the label; the same ones if the condition fails with it
pub unordered_taken : (new : Unordered) (past : History) (next : NextOperation)
    → label_count past.records ≤ MOST_LABELS → label_count past.records < MOST_LABELS
    → (added : Result ℕ Failure)
    → MatchResult added
    (λ steps. IsKeptOf new (history_with past (operate next))
    × (is_explained past.kind (operate next ∷ past.records) ≡ true))
    (λ failure. IsKeptOf new past × IsUnexplained past.kind (operate next ∷ past.records) failure)
    → MatchResult added
    (λ steps. AreEffectsOf (form.Unordered new) (history_with past (operate next))
    × (is_explained past.kind (operate next ∷ past.records) ≡ true))
    (λ failure. AreEffectsOf (form.Unordered new) past × IsUnexplained past.kind (operate next ∷ past.records) failure)
unordered_taken new past next few fewer (Ok steps) (after, some) = (record { few = omega (arith, fewer); form = after }, some)
unordered_taken new past next few fewer (Err failure) (same, shown) = (record { few = few; form = same }, shown)

pub unordered_same : (old new : Unordered) (past : History) → IsKeptOf old past → label_count past.records ≤ MOST_LABELS
    → (added : Result ℕ Failure) → OnErr added (new ≡ old) → OnErr added (AreEffectsOf (form.Unordered new) past)
unordered_same old new past stands few (Ok steps) same = tt
unordered_same old new past stands few (Err failure) same =
    record { few = few; form = subst (λ k. IsKeptOf k past) (sym same) stands }

pub unordered_told : (past : History) (to n : ℕ) → IsDelivered past to n → kept_spec.IsDelivered past to n
unordered_told past to n told = record { replica = told.replica; update = told.update; causal = told.causal }

pub unordered_joins : (past : History) (from : ℕ) → IsJoinedFrom past from → IsJoined past from
unordered_joins past from joins = record { there = joins.there; beyond = joins.beyond }
