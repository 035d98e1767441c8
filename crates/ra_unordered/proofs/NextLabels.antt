-- Lemmas on the next label of a history.
use Rattle.std.proofs.Common.{◌≡◌, ℕ, ◌<◌, true, List, ◌∷◌, Some, None, refl, sym, ap, ◌∙◌, subst, inl, inr}
use Rattle.std.specs.Prelude.{Contains}
use Rattle.ra_labels.specs.declared.kind.Kind.TheVariants as kinds
use Rattle.ra_labels.specs.declared.operation.Op.{Op}
use Rattle.ra_labels.specs.declared.operation.Op.TheVariants as op
use Rattle.ra_labels.specs.declared.label.Label.{Label}
use Rattle.ra_labels.specs.Records.{Records, label_count, labels_of}
use Rattle.ra_labels.specs.Answer.{kind_of, has_rising_list}
use Rattle.ra_labels.specs.Explained.{is_explained, value_read}
use Rattle.ra_labels.specs.HistorySoFar.{History, replicas_of, NextOperation, operate, label_of}
use Rattle.ra_labels.proofs.Members.{head_or_behind}
use Rattle.ra_theorems.specs.OneState.{EachLabelIsOf}
use Rattle.ra_theorems.proofs.TheoremIndex.{operation_accepted_iff, well_formed_iff}
use Rattle.ra_visibility.specs.Order.{ComesNext}
use Rattle.ra_visibility.specs.Seen.{Seen}
use Rattle.ra_unordered.specs.FirstReads.{AreCountsOf, IsNextRead}
use Rattle.ra_unordered.specs.Register.{IsNextOf}
use Rattle.ra_unordered.specs.Unordered.{IsNext}

module _ (past : History) (next : NextOperation) (label : Label) (seen : Seen) (comes : ComesNext past next label seen) where
  pub its_replica : next.by < replicas_of past
  its_replica = ((operation_accepted_iff past.kind past.initial_replicas past.records next).0 comes.accepted).0

  its_form : (kind_of next.op ≡ past.kind) × (has_rising_list next.op ≡ true)
  its_form =
      let known = (well_formed_iff past.kind next).0
      ((operation_accepted_iff past.kind past.initial_replicas past.records next).0 comes.accepted).1 in
      (known.0, known.1)

  pub all_of_kind : EachLabelIsOf past.kind past.records → EachLabelIsOf past.kind (operate next ∷ past.records)
  all_of_kind all it there = elim (head_or_behind (label_of past.records next) (labels_of past.records) it there) [
    | inl new ↦ sym (ap (λ (l : Label). kind_of l.op) new) ∙ its_form.0
    | inr old ↦ all it old
  ]

  -- the counts of what the label sees
  pub its_counts : AreCountsOf (operate next ∷ past.records) (label_count past.records) seen.counts
  its_counts = record { first = comes.sees.first; issued = comes.issued }

module _ (past : History) (next : NextOperation) (label : Label) (seen : Seen) (is : IsNext past next label seen) where
  pub next_of_register : past.kind ≡ kinds.MvRegister → IsNextOf past next label
  next_of_register kind =
      let form = its_form past next label seen is.comes in
      record {
        kind = kind;
        of_kind = form.0 ∙ kind;
        list = form.1;
        replica = its_replica past next label seen is.comes;
        becomes = is.comes.becomes;
        explained = is.explained;
        few = is.few;
      }

  pub next_read : (value : ℕ) → past.kind ≡ kinds.Any → label.op ≡ op.AnyRead value
      → IsNextRead past.records next value label.number seen.counts
  next_read value kind reads = record {
    read = sym (ap (λ (l : Label). value_read l.op) is.comes.becomes) ∙ ap value_read reads;
    number = ap (λ (l : Label). l.number) is.comes.becomes;
    seen = its_counts past next label seen is.comes;
    agree = sym (ap (λ k. is_explained k past.records) kind) ∙ is.explained;
  }

-- an operation that is no read returned no value
pub no_value : (operation : Op) → ((value : ℕ) → ¬ (operation ≡ op.AnyRead value)) → value_read operation ≡ None
no_value (op.AnyRead value) other = absurd (other value refl)
no_value op.Inc other = refl
no_value _ other = refl
