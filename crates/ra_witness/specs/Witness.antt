-- The condition that a witness represents a past, and the preconditions of its changes.
use Rattle.std.specs.Prelude.{◌≡◌, ℕ, ◌<◌, None}
use Rattle.ra_labels.specs.declared.label.Label.{Label}
use Rattle.ra_labels.specs.declared.command.Command.TheVariants.{Deliver, Join}
use Rattle.ra_labels.specs.Records.{label_count}
use Rattle.ra_labels.specs.Visibility.{IsCausal}
use Rattle.ra_labels.specs.Fault.{fault_of}
use Rattle.ra_labels.specs.TheoremTerms.{NoneDeliveredBeyond, EachLabelIsWellFormed, StampsAreUnique, IdentifiersAreUnique}
use Rattle.ra_labels.specs.HistorySoFar.{History, replicas_of, IsAccepted, NextOperation}
use Rattle.ra_visibility.specs.Order.{ComesNext}
use Rattle.ra_visibility.specs.Seen.{Seen}
use Rattle.ra_visibility.specs.declared.limits.TheConstants.{MOST_LABELS}
use Rattle.ra_witness.specs.declared.witness.Witness.{Witness}
use Rattle.ra_witness.specs.Effects.{AreEffectsOf}

-- Holds if the witness represents the past, which is causal, has no fault, and has only well-formed labels with unique
-- stamps and identifiers.
pub record IsWitnessOf {O : Type 0} (stands_for : O → History → Type 0) (witness : Witness O) (past : History)
    : Type 0 where
  pub order : stands_for witness.order past
  pub kept : AreEffectsOf witness.kept past
  pub causal : IsCausal past.records
  pub none : fault_of past.kind past.records ≡ None
  pub fits : EachLabelIsWellFormed past.kind past.initial_replicas past.records
  pub stamps : StampsAreUnique past.records
  pub identifiers : IdentifiersAreUnique past.records
  -- in the past nothing was delivered to a replica that does not exist
  pub beyond : NoneDeliveredBeyond past.initial_replicas past.records

-- Holds if the label can be offered: it comes next after some past that the witness represents, with fewer labels than
-- the limit.
pub record MayOffer {O : Type 0} (stands_for : O → History → Type 0) (witness : Witness O) (label : Label) (seen : Seen)
    : Type 0 where
  pub past : History
  pub next : NextOperation
  pub stands : IsWitnessOf stands_for witness past
  pub comes : ComesNext past next label seen
  pub few : label_count past.records < MOST_LABELS

-- holds if the delivery can be reported: it is accepted after some past that the witness represents
pub record MayDeliver {O : Type 0} (stands_for : O → History → Type 0) (witness : Witness O) (to n : ℕ) : Type 0 where
  pub past : History
  pub stands : IsWitnessOf stands_for witness past
  pub accepted : IsAccepted past (Deliver to n)

-- holds if the next replica can join from this one: the join is accepted after some past that the witness represents
pub record MayJoin {O : Type 0} (stands_for : O → History → Type 0) (witness : Witness O) (from : ℕ) : Type 0 where
  pub past : History
  pub stands : IsWitnessOf stands_for witness past
  pub accepted : IsAccepted past (Join (replicas_of past) from)
