-- The position of a new label in the named order, and whether it fits there.
use Rattle.std.specs.Prelude.{◌≡◌, ℕ, ◌<◌, ◌≤◌, nat_lt, ◌==◌, Bool, true, not, ◌&&◌, ◌||◌, List, [], ◌∷◌, map, drop, Some}
use Rattle.std.specs.List.{list_all, slice_get}
use Rattle.ra_labels.specs.declared.kind.Kind.{Kind}
use Rattle.ra_labels.specs.declared.label.Label.{Label}
use Rattle.ra_labels.specs.declared.command.Command.TheVariants.{Operate}
use Rattle.ra_labels.specs.Records.{Records, label_count}
use Rattle.ra_labels.specs.Visibility.{sees, is_update_at, IsCausal}
use Rattle.ra_labels.specs.NamedOrder.{lowest_rank, timestamp_of, rank_of, named_labels}
use Rattle.ra_visibility.specs.declared.order.Place.{Place}
use Rattle.ra_labels.specs.Places.{issuer_of, issue_position, updates_issued}
use Rattle.ra_labels.specs.HistorySoFar.{History, IsAccepted, NextOperation, next_operation, operate, label_of}
use Rattle.ra_visibility.specs.Seen.{Seen, is_in, count_in}

-- the numbers of the labels, in the named order
abbrev pub numbers_in : Kind → Records → List ℕ
numbers_in kind records = map (λ label. label.number) (named_labels kind records)

-- holds if the kind has execution order: each label has the lowest rank
abbrev pub IsByExecution : Kind → Type 0
IsByExecution kind = (records : Records) (label : Label) → rank_of kind records label ≡ lowest_rank

-- holds if the kind has timestamp order: each label's rank is its timestamp
abbrev pub IsByTimestamp : Kind → Type 0
IsByTimestamp kind = (records : Records) (label : Label) → rank_of kind records label ≡ timestamp_of records label

-- holds if the set is what label n sees: of each replica the first updates, as many as its count
pub record IsSeenBy (records : Records) (n : ℕ) (seen : Seen) : Type 0 where
  pub has : (m : ℕ) → is_in seen m ≡ sees records n m
  pub first : (m : ℕ) → m < label_count records → sees records n m
      ≡ (is_update_at records m && nat_lt (issue_position records m) (count_in seen (issuer_of records m)))

-- holds if the operation is accepted after the causal past and becomes the label, and the set is what the label sees
pub record ComesNext (past : History) (next : NextOperation) (label : Label) (seen : Seen) : Type 0 where
  pub causal : IsCausal past.records
  pub accepted : IsAccepted past (operate next)
  pub becomes : label ≡ label_of past.records next
  pub sees : IsSeenBy (operate next ∷ past.records) (label_count past.records) seen
  -- of no replica it has more updates than the replica issued
  pub issued : (of : ℕ) → count_in seen of ≤ updates_issued (operate next ∷ past.records) of

-- `true` if label m must precede label n: n sees it, or it is an earlier one of n's replica
abbrev pub must_stand_before : Records → Label → Label → Bool
must_stand_before records m n =
    sees records n.number m.number || (m.replica == n.replica && nat_lt m.number n.number)

-- holds if the place is that of the label that the operation becomes after these records
pub record IsPlaceOf (kind : Kind) (records : Records) (next : NextOperation) (place : Place) : Type 0 where
  -- its position in the named order of the records with it
  pub at : slice_get (named_labels kind (operate next ∷ records)) place.at ≡ Some (label_of records next)
  -- it fits if no label behind it must precede it
  pub fits : place.fits
      ≡ list_all (λ m. not (must_stand_before (operate next ∷ records) m (label_of records next)))
      (drop place.at (named_labels kind records))

-- holds if each label of the records fitted when it was added
abbrev pub EachFitted : Kind → Records → Type 0
EachFitted kind [] = Unit {0}
EachFitted kind (Operate by op clock ∷ before) =
    let next : NextOperation = next_operation by op clock in
    ((place : Place) × IsPlaceOf kind before next place × (place.fits ≡ true)) × EachFitted kind before
EachFitted kind (_ ∷ before) = EachFitted kind before
