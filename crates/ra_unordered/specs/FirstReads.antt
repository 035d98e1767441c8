-- The first reads kept of an object of any type, as those of records.
use Rattle.std.specs.Prelude.{◌≡◌, ℕ, ◌<◌, ◌≤◌, nat_lt, ◌&&◌, true, List, ◌∷◌, Contains, get_or, Some}
use Rattle.ra_labels.specs.declared.label.Label.{Label}
use Rattle.ra_labels.specs.Records.{Records, label_count, labels_of}
use Rattle.ra_labels.specs.Visibility.{sees, is_update_at}
use Rattle.ra_labels.specs.Places.{issuer_of, issue_position, updates_issued}
use Rattle.ra_labels.specs.Explained.{value_read}
use Rattle.ra_labels.specs.Agreement.{reads_agree}
use Rattle.ra_labels.specs.HistorySoFar.{NextOperation, operate}
use Rattle.ra_any_reads.specs.declared.first.First.{First}
use Rattle.ra_any_reads.specs.Firsts.{first_in}

-- Holds if the counts say what label n sees: of each replica its first updates, as many as its count.
pub record AreCountsOf (records : Records) (n : ℕ) (counts : List ℕ) : Type 0 where
  pub first : (m : ℕ) → m < label_count records → sees records n m
      ≡ (is_update_at records m && nat_lt (issue_position records m) (get_or counts (issuer_of records m) 0))
  pub issued : (of : ℕ) → get_or counts of 0 ≤ updates_issued records of

-- holds if label n is a read that returned the value
pub record IsReadOf (records : Records) (n value : ℕ) : Type 0 where
  pub label : Label
  pub there : Contains (labels_of records) label
  pub number : label.number ≡ n
  pub read : value_read label.op ≡ Some value

-- holds if a read that returned the value is found by the counts of what it sees, and they find this value
pub record IsFoundIn (firsts : List (List ℕ × First)) (records : Records) (n value : ℕ) : Type 0 where
  pub counts : List ℕ
  pub first : First
  pub seen : AreCountsOf records n counts
  pub is : first_in firsts counts ≡ Some first
  pub value_is : first.value ≡ value

-- holds if the entries have the first read of each set of updates that a read of the records sees
pub record AreFirstReadsOf (firsts : List (List ℕ × First)) (records : Records) : Type 0 where
  pub found : (n value : ℕ) → IsReadOf records n value → IsFoundIn firsts records n value
  -- what is found by counts is a read, and sees the updates that they describe
  pub from : (counts : List ℕ) (first : First) → first_in firsts counts ≡ Some first
      → IsReadOf records first.label first.value × AreCountsOf records first.label counts

-- holds if the next operation after the records is a read that returned the value, and sees what the counts say
pub record IsNextRead (records : Records) (next : NextOperation) (value n : ℕ) (counts : List ℕ) : Type 0 where
  pub read : value_read next.op ≡ Some value
  pub number : n ≡ label_count records
  pub seen : AreCountsOf (operate next ∷ records) (label_count records) counts
  pub agree : reads_agree value_read records ≡ true
