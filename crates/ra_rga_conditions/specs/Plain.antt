-- What the records of an RGA have to meet whatever the order of their updates.
use Rattle.std.specs.Prelude.{◌≡◌, ◌↔◌, ℕ, true, List, Contains}
use Rattle.ra_labels.specs.declared.operation.Op.TheVariants as op
use Rattle.ra_labels.specs.declared.operation.Update.TheVariants.{RgaRemove}
use Rattle.ra_labels.specs.Records.{Records}
use Rattle.ra_labels.specs.Visibility.{sees}
use Rattle.ra_labels.specs.TheoremTerms.{WasInserted, HasNoDuplicates}
use Rattle.ra_rga_forks.specs.Forks.{IsUnder}
use Rattle.ra_rga_conditions.specs.Precedence.{HasOperationAt, Inserts, Needs, ListsTogether, updates_seen}

-- holds if each element other than the root is inserted once, the root never, and what labels need is inserted
pub record AreInserted (records : Records) : Type 0 where
  pub once : (m n x : ℕ) → Inserts records m x → Inserts records n x → m ≡ n
  pub not_root : (n : ℕ) → ¬ Inserts records n 0
  pub root_stays : (n : ℕ) → ¬ HasOperationAt records n (op.RgaRemove 0)
  pub needed : (n x : ℕ) → Needs records n x → ¬ (x ≡ 0) → (m : ℕ) × Inserts records m x

-- holds if each element that a label needs is inserted, or is the root
abbrev pub HasWhatItNeeds : Records → Type 0
HasWhatItNeeds records = (n x : ℕ) → Needs records n x → ¬ (x ≡ 0) → (m : ℕ) × Inserts records m x

-- holds if label n is a read that could be right after the updates that it sees, in some order of them
pub record IsPossibleRead (records : Records) (n : ℕ) (list : List ℕ) : Type 0 where
  -- what a visible label needs is inserted by a visible one
  pub closed : (m x : ℕ) → sees records n m ≡ true → Needs records m x → ¬ (x ≡ 0)
      → (k : ℕ) × Inserts records k x × (sees records n k ≡ true)
  -- the read lists each element that is inserted and not removed, once, and nothing else
  pub once : HasNoDuplicates list
  pub listed : (x : ℕ) → Contains list x ↔ (WasInserted x (updates_seen records n)
      × ¬ Contains (updates_seen records n) (RgaRemove x))
  -- no element is listed directly before one under which it stands
  pub below : (x y : ℕ) → ListsTogether records n x y → ¬ IsUnder (updates_seen records n) x y

-- holds if the insertions are right, and each read is possible
pub record MeetsPlainConditions (records : Records) : Type 0 where
  pub inserted : AreInserted records
  pub reads : (n : ℕ) (list : List ℕ) → HasOperationAt records n (op.RgaRead list) → IsPossibleRead records n list
