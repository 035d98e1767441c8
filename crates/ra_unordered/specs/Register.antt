-- The siblings kept of a multi-value register, as those of a history.
use Rattle.std.specs.Prelude.{◌≡◌, ◌↔◌, ℕ, ◌<◌, true, Contains, length, option_and_then}
use Rattle.ra_labels.specs.declared.kind.Kind.TheVariants as kinds
use Rattle.ra_labels.specs.declared.label.Label.{Label}
use Rattle.ra_labels.specs.Records.{label_count, label_at}
use Rattle.ra_labels.specs.Visibility.{is_update_at}
use Rattle.ra_labels.specs.Siblings.{siblings_at, replaced_by}
use Rattle.ra_labels.specs.Explained.{is_explained, value_written}
use Rattle.ra_labels.specs.Answer.{kind_of, has_rising_list}
use Rattle.ra_labels.specs.HistorySoFar.{History, replicas_of, NextOperation, label_of}
use Rattle.ra_visibility.specs.declared.limits.TheConstants.{MOST_LABELS}
use Rattle.ra_siblings.specs.Kept.{Kept, siblings_of, issued_at, value_at}

-- holds if each replica has its siblings, each label what it wrote, and each update what it replaced
pub record AreSiblingsOf (kept : Kept) (past : History) : Type 0 where
  pub labels : length kept.labels ≡ label_count past.records
  pub replicas : length kept.replicas ≡ replicas_of past
  pub siblings : (replica m : ℕ) → replica < replicas_of past
      → Contains (siblings_of kept replica) m ↔ Contains (siblings_at past.records replica) m
  pub replaced : (n m : ℕ) → n < label_count past.records → is_update_at past.records n ≡ true
      → Contains (issued_at kept n).replaced m ↔ Contains (replaced_by past.records n) m
  pub values : (n : ℕ) → n < label_count past.records
      → value_at kept n ≡ option_and_then (λ label. value_written label.op) (label_at past.records n)

-- holds if the operation becomes the label after a history of a multi-value register that meets its condition
pub record IsNextOf (past : History) (next : NextOperation) (label : Label) : Type 0 where
  pub kind : past.kind ≡ kinds.MvRegister
  pub of_kind : kind_of next.op ≡ kinds.MvRegister
  pub list : has_rising_list next.op ≡ true
  pub replica : next.by < replicas_of past
  pub becomes : label ≡ label_of past.records next
  pub explained : is_explained past.kind past.records ≡ true
  pub few : label_count past.records < MOST_LABELS

-- holds if the label comes next after some history that the siblings are those of
pub record MayAddTo (kept : Kept) (label : Label) : Type 0 where
  pub past : History
  pub next : NextOperation
  pub stands : AreSiblingsOf kept past
  pub comes : IsNextOf past next label
