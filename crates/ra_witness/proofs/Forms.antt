-- Lemmas on what the form of an accepted operation implies.
use Rattle.std.proofs.Common.{◌≡◌, ℕ, ◌≤◌, true, Some, refl, ap, ◌∙◌, inl, inr}
use Rattle.std.specs.Prelude.{◌⊎◌, option_map}
use Rattle.std.specs.List.{list_all}
use Rattle.std.proofs.lemmas.Bool.{and_from}
use Rattle.std.proofs.lemmas.Option.{none-some}
use Rattle.ra_labels.specs.declared.kind.Kind.TheVariants.{Register, LwwSet}
use Rattle.ra_labels.specs.declared.operation.Op.{Op}
use Rattle.ra_labels.specs.declared.operation.Op.TheVariants as op
use Rattle.ra_labels.specs.declared.list_operation.ListOp.TheVariants as list
use Rattle.ra_labels.specs.declared.operation.Update.{Update}
use Rattle.ra_labels.specs.declared.label.Label.{Label}
use Rattle.ra_labels.specs.Records.{stamp_at}
use Rattle.ra_labels.specs.Rewriting.{acts_of}
use Rattle.ra_labels.specs.Lists.{rises}
use Rattle.ra_labels.specs.Answer.{kind_of, is_kind, has_rising_list, carries_stamp}
use Rattle.ra_labels.specs.TheoremTerms.{HasClockIffStamped}
use Rattle.ra_labels.proofs.SameKind.{kind_itself}
use Rattle.ra_labels.specs.HistorySoFar.{History, NextOperation}
use Rattle.ra_theorems.proofs.TheoremIndex.{well_formed_iff}
use Rattle.ra_seqspec.specs.Asked.{asks_rising}
use Rattle.ra_witness.specs.Labels.{queries_in, update_in}
use Rattle.ra_witness.specs.Offered.{IsOffered}

pub asks_only_rising : (operation : Op) → has_rising_list operation ≡ true → list_all asks_rising (queries_in (acts_of operation)) ≡ true
asks_only_rising op.Inc rising = refl
asks_only_rising op.Dec rising = refl
asks_only_rising (op.Count v) rising = refl
asks_only_rising (op.Write value) rising = refl
asks_only_rising (op.Last value) rising = refl
asks_only_rising (op.LwwAdd x) rising = refl
asks_only_rising (op.LwwRemove x) rising = refl
asks_only_rising (op.LwwRead elements) rising = and_from (rises elements) true rising refl
asks_only_rising (op.OrAdd x id) rising = refl
asks_only_rising (op.OrRemove x ids) rising = and_from (rises ids) true rising refl
asks_only_rising (op.OrRead elements) rising = and_from (rises elements) true rising refl
asks_only_rising (op.After anchor x) rising = refl
asks_only_rising (op.RgaRemove x) rising = refl
asks_only_rising (op.RgaRead elements) rising = refl
asks_only_rising (op.List (list.Insert insertion)) rising = refl
asks_only_rising (op.List (list.Remove x)) rising = refl
asks_only_rising (op.List (list.Read elements)) rising = refl
asks_only_rising (op.List (list.Part elements)) rising = refl
asks_only_rising op.AnyUpdate rising = refl
asks_only_rising (op.AnyRead value) rising = refl
asks_only_rising (op.MvWrite value) rising = refl
asks_only_rising (op.MvRead values) rising = refl

module _ (past : History) (next : NextOperation) (label : Label) (offered : IsOffered past next label) where
  pub of_its_kind : kind_of next.op ≡ past.kind
  of_its_kind = ((well_formed_iff past.kind next).0 offered.form).0

  pub is_of_kind : is_kind past.kind (kind_of next.op) ≡ true
  is_of_kind = ap (is_kind past.kind) of_its_kind ∙ kind_itself past.kind

  pub rising : list_all asks_rising (queries_in (acts_of next.op)) ≡ true
  rising = asks_only_rising next.op ((well_formed_iff past.kind next).0 offered.form).1

  pub its_clock : HasClockIffStamped next.op next.clock
  its_clock = ((well_formed_iff past.kind next).0 offered.form).2

  pub its_replica : label.replica ≡ next.by
  its_replica = ap (λ (l : Label). l.replica) offered.becomes

  pub its_op : label.op ≡ next.op
  its_op = ap (λ (l : Label). l.op) offered.becomes

  -- an operation that carries a stamp has a clock of at least 1, and its label has that stamp
  pub has_stamp : carries_stamp next.op ≡ true → (at : ℕ) × (next.clock ≡ Some at) × (1 ≤ at) × (label.stamp ≡ Some (stamp_at next.by at))
  has_stamp carries =
      let (at, least, is) = its_clock.0 carries in
      (at, is, least, ap (λ (l : Label). l.stamp) offered.becomes ∙ ap (option_map (stamp_at next.by)) is)

-- the update of a register or an LWW set carries a stamp
pub writes_are_stamped : (operation : Op) (u : Update) → (kind_of operation ≡ Register) ⊎ (kind_of operation ≡ LwwSet)
    → update_in operation ≡ Some u → carries_stamp operation ≡ true
writes_are_stamped (op.Write value) u one is = refl
writes_are_stamped (op.Last value) u one is = absurd (none-some u is)
writes_are_stamped (op.LwwAdd x) u one is = refl
writes_are_stamped (op.LwwRemove x) u one is = refl
writes_are_stamped (op.LwwRead elements) u one is = absurd (none-some u is)
writes_are_stamped _ u one is = elim one [ inl wrong ↦ absurd (cc wrong) | inr wrong ↦ absurd (cc wrong) ]
