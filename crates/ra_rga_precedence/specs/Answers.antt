-- What the answer states.
use Rattle.std.specs.Prelude.{◌≡◌, ◌<◌, ◌+◌, ◌⊎◌, ◌∷◌, [], ℕ, true, false, List, length, get_or, Contains, Option, Some, None}
use Rattle.ra_labels.specs.declared.kind.Kind.TheVariants.{Rga}
use Rattle.ra_labels.specs.declared.operation.Op.TheVariants as op
use Rattle.ra_labels.specs.declared.operation.Update.TheVariants.{RgaRemove}
use Rattle.ra_labels.specs.Edges.{IsBefore}
use Rattle.ra_labels.specs.Records.{Records, label_count}
use Rattle.ra_labels.specs.Visibility.{sees}
use Rattle.ra_labels.specs.TheoremTerms.{WasInserted}
use Rattle.ra_theorems.specs.AnyOrder.{NoneLinearizes}
use Rattle.ra_precedence.specs.Reasons.{AreReasons}
use Rattle.ra_precedence.specs.Conditions.{Condition, MeetsAll, IsStuck, HasEachBelow}
use Rattle.ra_some_order.specs.LabelOrders.{OrderExplains}
use Rattle.ra_rga_forks.specs.Forks.{IsUnder}
use Rattle.ra_rga_conditions.specs.Precedence.{HasOperationAt, Inserts, Needs, ListsTogether, updates_seen, IsRead, MustStandBefore}
use Rattle.ra_rga_conditions.specs.Plain.{IsPossibleRead, MeetsPlainConditions}
use Rattle.ra_rga_precedence.specs.declared.answer.AnyOrder.{AnyOrder}
use Rattle.ra_rga_precedence.specs.declared.answer.AnyOrder.TheVariants.{Exists, NoneExists}
use Rattle.ra_rga_precedence.specs.declared.answer.Refutation.{Refutation}
use Rattle.ra_rga_precedence.specs.declared.answer.Refutation.TheVariants.{Twice, Root, Absent, Open, Wrong, Unlisted, Below, Stuck}
use Rattle.ra_rga_precedence.specs.declared.ordering.Demands.{Demands}
use Rattle.ra_rga_precedence.specs.declared.ordering.Demands.TheVariants.{Conditions, Refuted}
use Rattle.ra_rga_precedence.specs.declared.reads.ReadFault.{ReadFault}
use Rattle.ra_rga_precedence.specs.declared.reads.ReadFault.TheVariants as faults
use Rattle.ra_rga_precedence.specs.Neighbors.{edge}
use Rattle.ra_rga_precedence.specs.UpdateConditions.{NameBelow}

-- holds if each condition is an edge, or several to one label, and each of them is part of the precedence
abbrev pub AreDemanded : Records → List Condition → Type 0
AreDemanded records conditions = (condition : Condition) (b : ℕ) → Contains conditions condition
    → Contains condition.before b → (c : ℕ) × (condition.after ≡ c ∷ []) × MustStandBefore records b c

-- holds if label m is visible to the read, and no insertion of an element that m needs is
abbrev pub IsOpen : Records → ℕ → ℕ → Type 0
IsOpen records read m = (list : List ℕ) × HasOperationAt records read (op.RgaRead list)
    × (sees records read m ≡ true) × ((x : ℕ) × Needs records m x × ¬ (x ≡ 0)
    × ((k : ℕ) → Inserts records k x → sees records read k ≡ false))

-- holds if the list has the element at one place at most
abbrev pub IsListedOnce : List ℕ → ℕ → Type 0
IsListedOnce list x = (i j : ℕ) → i < j → j < length list → get_or list i 0 ≡ x → ¬ (get_or list j 0 ≡ x)

-- holds if the read lists the element, and lists it twice, or does not see it inserted or sees it removed
abbrev pub IsWronglyListed : Records → ℕ → ℕ → Type 0
IsWronglyListed records read x = (list : List ℕ) × HasOperationAt records read (op.RgaRead list) × Contains list x
    × ¬ (IsListedOnce list x × WasInserted x (updates_seen records read)
    × ¬ Contains (updates_seen records read) (RgaRemove x))

-- holds if the read does not list the element that label m inserts, which it sees inserted and not removed
abbrev pub IsUnlisted : Records → ℕ → ℕ → Type 0
IsUnlisted records read m = (list : List ℕ) × HasOperationAt records read (op.RgaRead list) × ((x : ℕ)
    × Inserts records m x × (sees records read m ≡ true) × (¬ Contains list x)
    × ¬ Contains (updates_seen records read) (RgaRemove x))

-- holds if the reason is one
abbrev pub IsReason : Records → Refutation → Type 0
IsReason records (Twice m n) = (x : ℕ) × ¬ (m ≡ n) × Inserts records m x × Inserts records n x
IsReason records (Root n) = Inserts records n 0
IsReason records (Absent n) = (x : ℕ) × Needs records n x × ((m : ℕ) → ¬ Inserts records m x)
    × ((¬ (x ≡ 0)) ⊎ HasOperationAt records n (op.RgaRemove x))
IsReason records (Open read m) = IsOpen records read m
IsReason records (Wrong read x) = IsWronglyListed records read x
IsReason records (Unlisted read m) = IsUnlisted records read m
IsReason records (Below read x y) = ListsTogether records read x y × IsUnder (updates_seen records read) x y
IsReason records (Stuck set) =
    (conditions : List Condition) × AreDemanded records conditions × IsStuck conditions set.labels.items
    × AreReasons conditions set.reasons.items

-- holds if the order explains the records; or if the reason is one, and no sequence at all linearizes the records
abbrev pub IsAnswer : Records → AnyOrder → Type 0
IsAnswer records (Exists order) = OrderExplains Rga records order.items
IsAnswer records (NoneExists reason) = IsReason records reason × NoneLinearizes Rga records

-- holds if the reads below a number are possible, and the new conditions are the old ones and those of these reads
pub record AreReadConditions (records : Records) (bound : ℕ) (old new : List Condition) : Type 0 where
  pub kept : (condition : Condition) → Contains old condition → Contains new condition
  pub only : (condition : Condition) → Contains new condition
      → Contains old condition ⊎ ((m n : ℕ) × IsRead records m n × (condition ≡ edge m n))
  pub possible : (n : ℕ) (list : List ℕ) → n < bound → HasOperationAt records n (op.RgaRead list)
      → IsPossibleRead records n list
  pub each : (m n : ℕ) (its : IsRead records m n) → its.read < bound → Contains new (edge m n)

-- holds if all reads below the count are possible, by these conditions; or if the reason is one
abbrev pub AreReads : Records → ℕ → List Condition → List Condition → Option Refutation → Type 0
AreReads records count old new None = AreReadConditions records count old new
AreReads records count old new (Some reason) = IsReason records reason

-- the reason why no sequence explains the records, from the fault of a read
abbrev pub refutation_of : ℕ → ReadFault → Refutation
refutation_of read (faults.Open m) = Open read m
refutation_of read (faults.Wrong x) = Wrong read x
refutation_of read (faults.Unlisted m) = Unlisted read m
refutation_of read (faults.Below x y) = Below read x y

-- holds if the conditions of label n were added to those of the labels before it; or if the reason is one
abbrev pub IsStep : Records → ℕ → List Condition → List Condition → Option Refutation → Type 0
IsStep records n old new None = (before : List Condition) → AreReadConditions records n before old
    → AreReadConditions records (n + 1) before new
IsStep records n old new (Some reason) = IsReason records reason

-- holds if each order of all labels that meets the conditions keeps the precedence of the records
abbrev pub AreEnough : Records → List Condition → Type 0
AreEnough records conditions = (order : List ℕ) → HasEachBelow (label_count records) order
    → MeetsAll order conditions → (m n : ℕ) → MustStandBefore records m n → IsBefore order m n

-- holds if the plain conditions hold, and the conditions demand nothing but the precedence and all of it; or if the
-- reason is one, and no sequence at all linearizes the records
abbrev pub AreDemands : Records → Demands → Type 0
AreDemands records (Conditions conditions) =
    MeetsPlainConditions records × AreDemanded records conditions.items × AreEnough records conditions.items
AreDemands records (Refuted reason) = IsReason records reason × NoneLinearizes Rga records

-- holds if the conditions name only numbers below the count
abbrev pub DemandsName : ℕ → Demands → Type 0
DemandsName count (Conditions conditions) = NameBelow count conditions.items
DemandsName count (Refuted reason) = Unit {0}
