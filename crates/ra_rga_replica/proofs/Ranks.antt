-- Lemmas on the rank of a label without its own stamp.
use Rattle.std.proofs.Common.{◌≡◌, ℕ, true, List, ◌∷◌, Option, Some, None, refl, sym, ap, ◌∙◌, subst, inl, inr, arith}
use Rattle.std.specs.Prelude.{◌==◌, Contains, option_map}
use Rattle.std.proofs.lemmas.Bool.{eq-eqb, cond-true}
use Rattle.ra_labels.specs.declared.label.Stamp.{Stamp}
use Rattle.ra_labels.specs.declared.label.Label.{Label}
use Rattle.ra_labels.specs.Records.{Records, label_count, labels_of, stamp_at}
use Rattle.ra_labels.specs.HistorySoFar.{NextOperation, operate, label_of}
use Rattle.ra_labels.specs.Visibility.{has_delivered, sees}
use Rattle.ra_labels.specs.NamedOrder.{lowest_rank, timestamp_of}
use Rattle.ra_labels.specs.TheoremTerms.{IsStampBelow, SeesStamp}
use Rattle.ra_labels.proofs.Members.{head_or_behind, behind_head}
use Rattle.ra_labels.proofs.StampOrder.{same_else}
use Rattle.ra_theorems.proofs.TheoremIndex.{timestamp_is_greatest_seen-seen, timestamp_is_greatest_seen-greatest}
use Rattle.ra_theorems.proofs.TheoremIndex.{delivered_are_updates-next}
use Rattle.ra_rga_elements.specs.ElementList.{Arrival}
use Rattle.ra_rga_replica.specs.declared.edit.Edit.{Edit}
use Rattle.ra_rga_replica.specs.ReplicaList.{ReplicaList, IsListOf}
use Rattle.ra_rga_replica.proofs.NoneTwice.{not_both}

-- a new label sees what was delivered to its replica
pub sees_had : (records : Records) (next : NextOperation) (m : ℕ)
    → sees (operate next ∷ records) (label_count records) m ≡ has_delivered records next.by m
sees_had records next m =
    cond-true (label_count records == label_count records) (has_delivered records next.by m)
    (sees records (label_count records) m)
    (eq-eqb (label_count records) (label_count records) refl)

none_below_lowest : (s : Stamp) → ¬ IsStampBelow s lowest_rank
none_below_lowest s (inl below) = omega arith
none_below_lowest s (inr (same, below)) = omega (arith, below)

pub greatest-ranks : (list : ReplicaList) (arrivals : List Arrival) (edits : List (Option Edit)) (records : Records)
    (next : NextOperation) → IsListOf list arrivals edits records next.by → next.clock ≡ None
    → timestamp_of (operate next ∷ records) (label_of records next) ≡ list.greatest
greatest-ranks list arrivals edits records next held no_clock =
    let now = operate next ∷ records in
    let label = label_of records next in
    let rank = timestamp_of now label in
    let top = held.greatest in
    let no_stamp : label.stamp ≡ None = ap (option_map (stamp_at next.by)) no_clock in
    let seen : (l : Label) → Contains (labels_of now) l → sees now (label_count records) l.number ≡ true
    → Contains (labels_of records) l × (has_delivered records next.by l.number ≡ true) =
    λ l l_in it.
    let had_it = sym (sees_had records next l.number) ∙ it in
    elim (head_or_behind label (labels_of records) l l_in) [
      | inl here ↦
          absurd (not_both (has_delivered records next.by l.number) (ap (λ (k : Label). has_delivered records next.by k.number) (sym here)
          ∙ delivered_are_updates-next records next.by) had_it)
      | inr old ↦ (old, had_it)
    ] in
    let shown : (l : Label) (s : Stamp) → Contains (labels_of records) l → has_delivered records next.by l.number ≡ true
    → l.stamp ≡ Some s → SeesStamp now label s =
    λ l s l_in was_had l_is.
    (l, behind_head label (labels_of records) l l_in, sees_had records next l.number ∙ was_had, l_is) in
    let not_above : ¬ IsStampBelow list.greatest rank =
    elim (timestamp_is_greatest_seen-seen now label no_stamp) [
      | inl (l, l_in, sees_it, l_is) ↦ let (old, was_had) = seen l l_in sees_it in top.above l rank old was_had l_is
      | inr (lowest, none) ↦ λ below. none_below_lowest list.greatest (subst (IsStampBelow list.greatest) lowest below)
    ] in
    let not_below : ¬ IsStampBelow rank list.greatest = elim top.own [
      | inl lowest ↦ λ below. none_below_lowest rank (subst (IsStampBelow rank) lowest below)
      | inr (l, l_in, was_had, l_is) ↦
          timestamp_is_greatest_seen-greatest now label list.greatest no_stamp
          (shown l list.greatest l_in was_had l_is)
    ] in
    same_else rank list.greatest not_below not_above
