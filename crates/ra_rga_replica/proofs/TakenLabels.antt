-- Lemmas on the effect on a list of a label that the replica receives or issues.
use Rattle.std.proofs.Common.{◌≡◌, ℕ, Bool, true, false, List, [], Option, Some, refl, ap, ◌∙◌}
use Rattle.std.specs.Prelude.{◌||◌}
use Rattle.std.proofs.lemmas.Bool.{false≢true, eqb-true}
use Rattle.ra_labels.specs.Records.{Records}
use Rattle.ra_theorems.proofs.TheoremIndex.{settled_not_pending}
use Rattle.ra_rga_elements.specs.ElementList.{Arrival, arrival_at, is_marked}
use Rattle.ra_rga_replica.specs.declared.edit.Edit.{Edit}
use Rattle.ra_rga_replica.specs.declared.edit.Edit.TheVariants.{PutsIn, Removes}
use Rattle.ra_rga_replica.specs.PendingLabels.{labels_under}
use Rattle.ra_rga_replica.specs.Edits.{edit_at, AreEditsOf}
use Rattle.ra_rga_replica.specs.ReplicaList.{IsListWith}
use Rattle.ra_rga_replica.specs.Cascade.{shown_with, IsListWithAfter}
use Rattle.ra_rga_replica.proofs.Edits.{AreMarksWith}
use Rattle.ra_rga_replica.proofs.ShownElements.{shown_step}
use Rattle.ra_rga_replica.proofs.HadLabels.{not_settled}
use Rattle.ra_rga_replica.proofs.LastFollowers.{goes_in}

pub or_nothing : (b : Bool) → b ≡ (b || false)
or_nothing true = refl
or_nothing false = refl

module _ {arrivals : List Arrival} {edits : List (Option Edit)} {records : Records} {shows : ℕ → Bool}
    {marks : List Bool} {waiting : List (ℕ × List ℕ)} {had settled : ℕ → Bool} where
  -- the label removes a present element
  pub removal_goes : AreEditsOf arrivals edits records → IsListWith shows marks waiting arrivals edits records had
      settled → (label number : ℕ) → edit_at edits label ≡ Some (Removes number) → had label ≡ false
      → is_marked marks number ≡ true → (next : ℕ → Bool)
      → ((k : ℕ) → next k ≡ shown_with (Some (Removes number)) shows k)
      → IsListWithAfter next marks waiting arrivals edits records had settled label 1
  removal_goes stand kept label number is new needs next stepped =
      let none = ((settled_not_pending records had settled).0 kept.settles).1 in
      goes_in next marks label (Removes number) stand kept is new needs
      (shown_step stand none kept.there kept.shown next label (Removes number) is (not_settled kept label new) stepped)
      (λ n. or_nothing (is_marked marks n))
      (λ n puts_it. absurd (false≢true puts_it))

  -- the label inserts an element, and no label depends on it
  pub insertion_goes : AreEditsOf arrivals edits records → IsListWith shows marks waiting arrivals edits records had
      settled → (label number : ℕ) → edit_at edits label ≡ Some (PutsIn number) → had label ≡ false
      → is_marked marks (arrival_at arrivals number).anchor ≡ true → (next : ℕ → Bool)
      → ((k : ℕ) → next k ≡ shown_with (Some (PutsIn number)) shows k)
      → (next_marks : List Bool) → AreMarksWith marks next_marks (PutsIn number) → labels_under waiting number ≡ []
      → IsListWithAfter next next_marks waiting arrivals edits records had settled label 1
  insertion_goes stand kept label number is new needs next stepped next_marks with_it none_for =
      let none = ((settled_not_pending records had settled).0 kept.settles).1 in
      goes_in next next_marks label (PutsIn number) stand kept is new needs
      (shown_step stand none kept.there kept.shown next label (PutsIn number) is (not_settled kept label new) stepped)
      with_it
      (λ n puts_it. ap (labels_under waiting) (eqb-true n number puts_it) ∙ none_for)
