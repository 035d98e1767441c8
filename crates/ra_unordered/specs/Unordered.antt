-- The condition that what is kept represents a history, and the preconditions of its changes.
use Rattle.std.specs.Prelude.{◌≡◌, ℕ, ◌<◌, ◌∷◌, true}
use Rattle.ra_labels.specs.declared.kind.Kind.TheVariants as kinds
use Rattle.ra_labels.specs.declared.label.Label.{Label}
use Rattle.ra_labels.specs.declared.command.Command.TheVariants.{Deliver}
use Rattle.ra_labels.specs.Records.{label_count}
use Rattle.ra_labels.specs.Visibility.{is_update_at, IsCausal}
use Rattle.ra_labels.specs.Explained.{is_explained}
use Rattle.ra_labels.specs.TheoremTerms.{NoneDeliveredBeyond}
use Rattle.ra_labels.specs.HistorySoFar.{History, replicas_of, NextOperation}
use Rattle.ra_theorems.specs.OneState.{EachLabelIsOf}
use Rattle.ra_visibility.specs.declared.limits.TheConstants.{MOST_LABELS}
use Rattle.ra_visibility.specs.Order.{ComesNext}
use Rattle.ra_visibility.specs.Seen.{Seen}
use Rattle.ra_unordered.specs.declared.unordered.Unordered.{Unordered}
use Rattle.ra_unordered.specs.declared.unordered.Unordered.TheVariants.{Any, MvRegister}
use Rattle.ra_unordered.specs.FirstReads.{AreFirstReadsOf}
use Rattle.ra_unordered.specs.Register.{AreSiblingsOf}

-- holds if the structure has what is kept of the history, and is the one for its kind
abbrev pub IsFormOf : Unordered → History → Type 0
IsFormOf (Any reads) past = (past.kind ≡ kinds.Any) × AreFirstReadsOf reads past.records
IsFormOf (MvRegister siblings) past = (past.kind ≡ kinds.MvRegister) × AreSiblingsOf siblings past

-- holds if the structure represents the history, whose labels are all of its kind
pub record IsKeptOf (kept : Unordered) (past : History) : Type 0 where
  pub form : IsFormOf kept past
  pub of_kind : EachLabelIsOf past.kind past.records

-- holds if the label comes next after a history that meets the condition of its kind
pub record IsNext (past : History) (next : NextOperation) (label : Label) (seen : Seen) : Type 0 where
  pub comes : ComesNext past next label seen
  pub explained : is_explained past.kind past.records ≡ true
  pub few : label_count past.records < MOST_LABELS

-- holds if the label comes next after some history that the structure represents
pub record MayAdd (kept : Unordered) (label : Label) (seen : Seen) : Type 0 where
  pub past : History
  pub next : NextOperation
  pub stands : IsKeptOf kept past
  pub comes : IsNext past next label seen

-- holds if label n is an update, and its delivery to the existing replica is causal
pub record IsDelivered (past : History) (to n : ℕ) : Type 0 where
  pub replica : to < replicas_of past
  pub update : is_update_at past.records n ≡ true
  pub causal : IsCausal (Deliver to n ∷ past.records)

-- holds if the delivery can be reported after some history that the structure represents
pub record MayDeliver (kept : Unordered) (to n : ℕ) : Type 0 where
  pub past : History
  pub stands : IsKeptOf kept past
  pub told : IsDelivered past to n

-- holds if the next replica joins from an existing one, and nothing was delivered to a replica that does not exist
pub record IsJoined (past : History) (from : ℕ) : Type 0 where
  pub there : from < replicas_of past
  pub beyond : NoneDeliveredBeyond past.initial_replicas past.records

-- holds if the next replica can join from this one after some history that the structure represents
pub record MayJoin (kept : Unordered) (from : ℕ) : Type 0 where
  pub past : History
  pub stands : IsKeptOf kept past
  pub joins : IsJoined past from
