-- The condition that the writes and last labels kept of a register or an LWW set are those of records.
use Rattle.std.specs.Prelude.{◌≡◌, ◌⊎◌, ℕ, ◌<◌, true, List, length, Option, Some, None, option_map, Contains}
use Rattle.ra_labels.specs.declared.label.Label.{Label}
use Rattle.ra_labels.specs.Records.{Records, labels_of, stamp_at}
use Rattle.ra_labels.specs.Visibility.{has_delivered}
use Rattle.ra_labels.specs.TheoremTerms.{IsStampBelow}
use Rattle.ra_labels.specs.HistorySoFar.{NextOperation}
use Rattle.ra_witness.specs.declared.overriding.written.Written.{Written}
use Rattle.ra_witness.specs.Labels.{update_in}
use Rattle.ra_witness.specs.ElementNumbers.{element_of, number_in}
use Rattle.ra_witness.specs.Overriding.{write_at, last_label}

-- holds if the number is that of the element, or 0 for a register's single value
abbrev pub IsNumberOf : (ℕ → Option ℕ) → Option ℕ → ℕ → Type 0
IsNumberOf number_of None number = number ≡ 0
IsNumberOf number_of (Some x) number = number_of x ≡ Some number

-- holds if each kept write has its label's own stamp and its element's number, and no two elements share a number
pub record AreWritesOf (writes : List (Option Written)) (number_of : ℕ → Option ℕ) (records : Records) : Type 0 where
  pub stamps : (label : Label) (write : Written) → Contains (labels_of records) label
      → write_at writes label.number ≡ Some write → label.stamp ≡ Some write.stamp
  pub numbers : (n : ℕ) (write : Written) → write_at writes n ≡ Some write
      → IsNumberOf number_of (element_of write.update) write.on
  pub one : (x y number : ℕ) → number_of x ≡ Some number → number_of y ≡ Some number → x ≡ y

-- Holds if label n updates the element with this number, was delivered to the replica, and has the greatest stamp of
-- all such labels.
pub record IsLastOn (writes : List (Option Written)) (records : Records) (replica element n : ℕ) : Type 0 where
  pub label : Label
  pub write : Written
  pub there : Contains (labels_of records) label
  pub number : label.number ≡ n
  pub had_it : has_delivered records replica n ≡ true
  pub found : write_at writes n ≡ Some write
  pub on : write.on ≡ element
  pub above : (other : Label) (lesser : Written) → Contains (labels_of records) other
      → has_delivered records replica other.number ≡ true → write_at writes other.number ≡ Some lesser
      → lesser.on ≡ element
      → (other.number ≡ n) ⊎ IsStampBelow lesser.stamp write.stamp

-- holds if no label delivered to the replica updates the element with this number
abbrev pub NoneIsOn : List (Option Written) → Records → ℕ → ℕ → Type 0
NoneIsOn writes records replica element = (label : Label) (write : Written) → Contains (labels_of records) label
    → has_delivered records replica label.number ≡ true → write_at writes label.number ≡ Some write
    → ¬ (write.on ≡ element)

-- holds if the list has, for each replica and element, the last label on it, and none if there is no such label
pub record AreLastOf (writes : List (Option Written)) (lasts : List (List (Option ℕ)))
    (records : Records) : Type 0 where
  pub some : (replica element n : ℕ) → replica < length lasts → last_label lasts replica element ≡ Some n
      → IsLastOn writes records replica element n
  pub none : (replica element : ℕ) → replica < length lasts → last_label lasts replica element ≡ None
      → NoneIsOn writes records replica element

-- holds if each assigned number is below the count
abbrev pub AreBelow : (ℕ → Option ℕ) → ℕ → Type 0
AreBelow number_of count = (x number : ℕ) → number_of x ≡ Some number → number < count

-- holds if the write is that of the next label: its update, its stamp and the number of its element
pub record IsNextWrite (write : Written) (number_of : ℕ → Option ℕ) (count : ℕ) (next : NextOperation) : Type 0 where
  pub update : update_in next.op ≡ Some write.update
  pub stamp : option_map (stamp_at next.by) next.clock ≡ Some write.stamp
  pub on : write.on ≡ number_in number_of count (element_of write.update)
