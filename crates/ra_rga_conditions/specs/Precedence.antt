-- What the records of an RGA require of each order of their updates that explains them.
use Rattle.std.specs.Prelude.{◌≡◌, ◌⊎◌, ℕ, true, List, ◌∷◌, ◌++◌, filter, filter_map, Contains, Option, Some, None}
use Rattle.ra_labels.specs.declared.operation.Op.{Op}
use Rattle.ra_labels.specs.declared.operation.Op.TheVariants as op
use Rattle.ra_labels.specs.declared.operation.Update.{Update}
use Rattle.ra_labels.specs.declared.operation.Update.TheVariants as updates
use Rattle.ra_labels.specs.declared.label.Label.{Label}
use Rattle.ra_labels.specs.Records.{Records, labels_of}
use Rattle.ra_labels.specs.Visibility.{is_update_at, sees}
use Rattle.ra_rga_forks.specs.Forks.{IsFork}

-- holds if label n has the operation
abbrev pub HasOperationAt : Records → ℕ → Op → Type 0
HasOperationAt records n operation =
    (label : Label) × Contains (labels_of records) label × (label.number ≡ n) × (label.op ≡ operation)

-- holds if label n inserts the element
abbrev pub Inserts : Records → ℕ → ℕ → Type 0
Inserts records n x = (anchor : ℕ) × HasOperationAt records n (op.After anchor x)

-- holds if label n inserts behind the element or removes it
abbrev pub Needs : Records → ℕ → ℕ → Type 0
Needs records n x = ((y : ℕ) × HasOperationAt records n (op.After x y)) ⊎ HasOperationAt records n (op.RgaRemove x)

-- holds if label n is a read that lists x directly before y
abbrev pub ListsTogether : Records → ℕ → ℕ → ℕ → Type 0
ListsTogether records n x y =
    (before after : List ℕ) × HasOperationAt records n (op.RgaRead (before ++ x ∷ y ∷ after))

-- the update of an RGA that the operation makes
abbrev pub rga_update : Op → Option Update
rga_update (op.After anchor x) = Some (updates.After anchor x)
rga_update (op.RgaRemove x) = Some (updates.RgaRemove x)
rga_update _ = None

-- the updates of the labels that label n sees, newest first
abbrev pub updates_seen : Records → ℕ → List Update
updates_seen records n =
    filter_map (λ label. rga_update label.op) (filter (λ label. sees records n label.number) (labels_of records))

-- holds if a read lists two elements together, label n inserts the child under which the first one stands, and label m
-- the child under which the second one stands: then the first child is the later one
pub record IsRead (records : Records) (m n : ℕ) : Type 0 where
  pub read : ℕ
  pub first : ℕ
  pub second : ℕ
  pub listed : ListsTogether records read first second
  pub left : ℕ
  pub right : ℕ
  pub fork : IsFork (updates_seen records read) first second left right
  pub inserts_left : Inserts records n left
  pub inserts_right : Inserts records m right

-- Holds if label m has to stand before label n in each order that explains the records: n is an update that sees m, n
-- needs the element that m inserts, or a read says so.
pub data MustStandBefore (records : Records) (m n : ℕ) : Type 0 where
  Seen : is_update_at records n ≡ true → sees records n m ≡ true → MustStandBefore records m n
  Needed : (x : ℕ) → Inserts records m x → Needs records n x → MustStandBefore records m n
  Read : IsRead records m n → MustStandBefore records m n
