-- Lemmas on the greatest stamp of the delivered labels.
use Rattle.std.proofs.Common.{◌≡◌, ℕ, Bool, Some, None, refl, sym, ap, ◌∙◌, subst, inl, inr}
use Rattle.std.specs.Prelude.{Contains}
use Rattle.std.specs.Ordering.{is_lt}
use Rattle.std.proofs.lemmas.Bool.{cases_Bool, cond-true, cond-false}
use Rattle.std.proofs.lemmas.Option.{none-some, same_Some}
use Rattle.ra_labels.specs.declared.label.Stamp.{Stamp}
use Rattle.ra_labels.specs.declared.label.Label.{Label}
use Rattle.ra_labels.specs.Records.{Records, labels_of}
use Rattle.ra_labels.specs.NamedOrder.{stamp_cmp, greater_of}
use Rattle.ra_labels.specs.TheoremTerms.{IsStampBelow}
use Rattle.ra_labels.specs.Insertion.{or_label}
use Rattle.ra_labels.proofs.StampOrder.{below_tested, not_below_tested, below_below, not_below_itself}
use Rattle.ra_theorems.proofs.TheoremIndex.{label_at_each_number-one}
use Rattle.ra_rga_replica.specs.ReplicaList.{IsGreatestOf}
use Rattle.ra_rga_replica.proofs.NoneTwice.{it_passes, still_passes, passes_or_is}

-- with one more label
module _ (records : Records) (had : ℕ → Bool) (greatest stamp : Stamp) (label : Label)
    (top : IsGreatestOf records had greatest) (there : Contains (labels_of records) label) where
  pub greatest_with : label.stamp ≡ Some stamp → IsGreatestOf records (or_label had label.number)
      (greater_of greatest stamp)
  greatest_with is = elim (cases_Bool (is_lt (stamp_cmp greatest stamp))) [
    | inl below ↦
        subst (IsGreatestOf records (or_label had label.number))
        (sym (cond-true (is_lt (stamp_cmp greatest stamp)) stamp greatest below)) (record {
          above = λ l t l_in had_it t_is. elim (passes_or_is had label.number l.number had_it) [
            | inl old ↦
                λ less. top.above l t l_in old t_is (below_below greatest stamp t (below_tested greatest stamp below)
                less)
            | inr it ↦
                not_below_itself stamp t (same_Some stamp t (sym is
                ∙ sym (ap (λ (k : Label). k.stamp) (label_at_each_number-one records l label l_in there it)) ∙ t_is))
          ];
          own = inr (label, there, it_passes had label.number label.number refl, is);
        })
    | inr not ↦
        subst (IsGreatestOf records (or_label had label.number))
        (sym (cond-false (is_lt (stamp_cmp greatest stamp)) stamp greatest not)) (record {
          above = λ l t l_in had_it t_is. elim (passes_or_is had label.number l.number had_it) [
            | inl old ↦ top.above l t l_in old t_is
            | inr it ↦
                let same : stamp ≡ t =
                same_Some stamp t (sym is ∙ sym (ap (λ (k : Label). k.stamp) (label_at_each_number-one records l label l_in there it))
                ∙ t_is) in
                subst (λ (u : Stamp). ¬ IsStampBelow greatest u) same (not_below_tested greatest stamp not)
          ];
          own = elim top.own [
            | inl none ↦ inl none
            | inr (l, l_in, was_had, l_is) ↦ inr (l, l_in, still_passes had label.number l.number was_had, l_is)
          ];
        })
  ]

  pub greatest_without : label.stamp ≡ None → IsGreatestOf records (or_label had label.number) greatest
  greatest_without is = record {
    above = λ l t l_in had_it t_is. elim (passes_or_is had label.number l.number had_it) [
      | inl old ↦ top.above l t l_in old t_is
      | inr it ↦
          absurd (none-some t (sym is ∙ sym (ap (λ (k : Label). k.stamp) (label_at_each_number-one records l label l_in there it))
          ∙ t_is))
    ];
    own = elim top.own [
      | inl none ↦ inl none
      | inr (l, l_in, was_had, l_is) ↦ inr (l, l_in, still_passes had label.number l.number was_had, l_is)
    ];
  }
