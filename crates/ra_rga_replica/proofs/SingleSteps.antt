-- Lemmas on one more label that is one step.
use Rattle.std.proofs.Common.{◌≡◌, ℕ, Bool, true, false, List, Option, Some, ap, ◌∙◌, subst}
use Rattle.ra_labels.specs.Records.{Records}
use Rattle.ra_labels.specs.Insertion.{or_label}
use Rattle.ra_labels.specs.Pending.{NonePending}
use Rattle.ra_theorems.proofs.TheoremIndex.{new_update_is_one_step-none_waits}
use Rattle.ra_rga_elements.specs.ElementList.{Arrival, is_marked}
use Rattle.ra_rga_replica.specs.declared.edit.Edit.{Edit}
use Rattle.ra_rga_replica.specs.Edits.{edit_at, needed_number, update_of, AreEditsOf}
use Rattle.ra_rga_replica.specs.ReplicaList.{AreThere}
use Rattle.ra_rga_replica.proofs.Edits.{needed_marked}

module _ {arrivals : List Arrival} {edits : List (Option Edit)} {records : Records} {marks : List Bool}
    {passes : ℕ → Bool} where
  -- with the label no label is pending
  pub none_waits_with : AreEditsOf arrivals edits records → NonePending records passes
      → AreThere marks arrivals records passes → (label : ℕ) (edit : Edit) → edit_at edits label ≡ Some edit
      → passes label ≡ false
      → is_marked marks (needed_number arrivals edit) ≡ true → NonePending records (or_label passes label)
  none_waits_with stand none there label edit is new needs =
      let (l, l_in, l_num, l_makes) = stand.makes label edit is in
      subst (λ (k : ℕ). NonePending records (or_label passes k)) l_num
      (new_update_is_one_step-none_waits records passes l (update_of arrivals edit) l_in l_makes
      (ap passes l_num ∙ new) none (needed_marked stand there label edit is ∙ needs))
