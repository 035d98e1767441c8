-- The preconditions of offering a label, of reporting a delivery, and of a join.
use Rattle.std.specs.Prelude.{◌≡◌, ℕ, ◌<◌, ◌∷◌, true, None}
use Rattle.ra_labels.specs.declared.label.Label.{Label}
use Rattle.ra_labels.specs.declared.command.Command.TheVariants.{Deliver}
use Rattle.ra_labels.specs.Records.{label_count}
use Rattle.ra_labels.specs.Visibility.{is_update_at, IsCausal}
use Rattle.ra_labels.specs.Linearization.{extends_visibility}
use Rattle.ra_labels.specs.NamedOrder.{named_sequence}
use Rattle.ra_labels.specs.Fault.{Holds}
use Rattle.ra_labels.specs.Answer.{form_refusal}
use Rattle.ra_labels.specs.TheoremTerms.{NoneDeliveredBeyond, StampsAreUnique, IdentifiersAreUnique}
use Rattle.ra_labels.specs.HistorySoFar.{History, replicas_of, NextOperation, operate, label_of}
use Rattle.ra_visibility.specs.declared.limits.TheConstants.{MOST_LABELS}

-- Holds if the past holds, a well-formed operation of an existing replica becomes the label, the named sequence with it
-- extends visibility, no stamp occurs twice, and the number of labels is below the limit.
pub record IsOffered (past : History) (next : NextOperation) (label : Label) : Type 0 where
  pub holds : Holds past.kind past.records
  pub replica : next.by < replicas_of past
  pub form : form_refusal past.kind (operate next) ≡ None
  pub becomes : label ≡ label_of past.records next
  pub fits : let now = operate next ∷ past.records in extends_visibility now (named_sequence past.kind now) ≡ true
  pub stamps : StampsAreUnique (operate next ∷ past.records)
  pub few : label_count past.records < MOST_LABELS

-- Holds if the past holds, its stamps and identifiers are unique, and label n is an update whose delivery to the
-- existing replica is causal.
pub record IsDelivered (past : History) (to n : ℕ) : Type 0 where
  pub holds : Holds past.kind past.records
  pub replica : to < replicas_of past
  pub update : is_update_at past.records n ≡ true
  pub causal : IsCausal (Deliver to n ∷ past.records)
  pub stamps : StampsAreUnique past.records
  pub identifiers : IdentifiersAreUnique past.records

-- holds if the next replica joins from an existing one, and nothing was delivered to a replica that does not exist
pub record IsJoinedFrom (past : History) (from : ℕ) : Type 0 where
  pub there : from < replicas_of past
  pub beyond : NoneDeliveredBeyond past.initial_replicas past.records
