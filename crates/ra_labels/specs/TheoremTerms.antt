-- Vocabulary of the theorems about the definitions.
use Rattle.std.specs.Prelude.{◌≡◌, ℕ, zero, suc, ◌<◌, ◌≤◌, ◌⊎◌, ◌==◌, nat_lt, Bool, true, false, not, ◌&&◌, List, [], ◌∷◌, ◌++◌, Contains, map, Option, Some, None, option_map}
use Rattle.std.specs.List.{list_all}
use Rattle.ra_labels.specs.declared.kind.Kind.{Kind}
use Rattle.ra_labels.specs.declared.kind.Kind.TheVariants.{Counter, Register, LwwSet, OrSet, Rga}
use Rattle.ra_labels.specs.declared.kind.Kind.TheVariants as kinds
use Rattle.ra_labels.specs.declared.operation.Op.{Op}
use Rattle.ra_labels.specs.declared.operation.Op.TheVariants as op
use Rattle.ra_labels.specs.declared.operation.Update.{Update}
use Rattle.ra_labels.specs.declared.operation.Update.TheVariants.{Inc, Dec, Write, LwwAdd, LwwRemove, OrAdd, TakeOut, After, RgaRemove}
use Rattle.ra_labels.specs.declared.operation.Update.TheVariants as updates
use Rattle.ra_labels.specs.declared.operation.Query.{Query}
use Rattle.ra_labels.specs.declared.operation.Query.TheVariants.{Count, Last, LwwRead, ReadIds, OrRead, RgaRead}
use Rattle.ra_labels.specs.declared.operation.Query.TheVariants as queries
use Rattle.ra_labels.specs.declared.label.Stamp.{Stamp}
use Rattle.ra_labels.specs.declared.label.Label.{Label}
use Rattle.ra_labels.specs.declared.command.Command.{Command}
use Rattle.ra_labels.specs.declared.command.Command.TheVariants.{Operate, Deliver, Join, Verdict}
use Rattle.ra_labels.specs.declared.reply.Fault.{Fault}
use Rattle.ra_labels.specs.declared.reply.Reply.{Reply}
use Rattle.ra_labels.specs.declared.reply.Reply.TheVariants as reply
use Rattle.ra_labels.specs.Lists.{is_among}
use Rattle.ra_labels.specs.Specification.{State, Number, Written, Members, Pairs, Listed, Listing, OfAny, OfMvRegister, answers, state_after}
use Rattle.ra_labels.specs.Records.{Records, label_count, labels_of, replica_count, stamp_at, records_to}
use Rattle.ra_labels.specs.Visibility.{is_update, is_update_at, has_delivered, sees}
use Rattle.ra_labels.specs.Places.{issuer_of, updates_issued, issue_position}
use Rattle.ra_labels.specs.Rewriting.{Part, Act, Does, Asks, QueryHalf, UpdateHalf}
use Rattle.ra_labels.specs.Linearization.{visible_updates}
use Rattle.ra_labels.specs.Fault.{Holds, cause_of, fault_of, fault_at}
use Rattle.ra_labels.specs.Answer.{kind_of, has_rising_list, carries_stamp, refusal_of, records_after}
use Rattle.ra_labels.specs.HistorySoFar.{NextOperation, operate}

-- the kind of a state, and below of an update, of a query and of an act
abbrev pub kind_of_state : State → Kind
kind_of_state (Number n) = Counter
kind_of_state (Written last) = Register
kind_of_state (Members xs) = LwwSet
kind_of_state (Pairs pairs) = OrSet
kind_of_state (Listed list) = Rga
kind_of_state (Listing list) = kinds.List
kind_of_state OfAny = kinds.Any
kind_of_state OfMvRegister = kinds.MvRegister

abbrev pub kind_of_update : Update → Kind
kind_of_update Inc = Counter
kind_of_update Dec = Counter
kind_of_update (Write value) = Register
kind_of_update (LwwAdd x) = LwwSet
kind_of_update (LwwRemove x) = LwwSet
kind_of_update (OrAdd x id) = OrSet
kind_of_update (TakeOut x ids) = OrSet
kind_of_update (After anchor x) = Rga
kind_of_update (RgaRemove x) = Rga
kind_of_update (updates.List change) = kinds.List
kind_of_update updates.AnyUpdate = kinds.Any
kind_of_update (updates.MvWrite value) = kinds.MvRegister

abbrev pub kind_of_query : Query → Kind
kind_of_query (Count v) = Counter
kind_of_query (Last value) = Register
kind_of_query (LwwRead list) = LwwSet
kind_of_query (ReadIds x ids) = OrSet
kind_of_query (OrRead list) = OrSet
kind_of_query (RgaRead list) = Rga
kind_of_query (queries.List question) = kinds.List
kind_of_query (queries.AnyRead value) = kinds.Any
kind_of_query (queries.MvRead values) = kinds.MvRegister

abbrev pub kind_of_act : Act → Kind
kind_of_act (Does update) = kind_of_update update
kind_of_act (Asks query) = kind_of_query query

-- `true` if each state of the kind admits each of its updates
abbrev pub admits_all : Kind → Bool
admits_all Counter = true
admits_all Register = true
admits_all LwwSet = true
admits_all OrSet = true
admits_all Rga = false
admits_all kinds.List = false
admits_all kinds.Any = true
admits_all kinds.MvRegister = true

-- `true` if the update adds the element to an LWW set or removes it
abbrev pub acts_on : ℕ → Update → Bool
acts_on x (LwwAdd y) = x == y
acts_on x (LwwRemove y) = x == y
acts_on x _ = false

abbrev pub NoneActsOn : ℕ → List Update → Type 0
NoneActsOn x updates = list_all (λ update. not (acts_on x update)) updates ≡ true

-- `true` if the update removes the pair of the element and the identifier
abbrev pub removes_pair : ℕ → ℕ → Update → Bool
removes_pair x id (TakeOut y ids) = y == x && is_among id ids
removes_pair x id _ = false

abbrev pub NoneRemovesPair : ℕ → ℕ → List Update → Type 0
NoneRemovesPair x id updates = list_all (λ update. not (removes_pair x id update)) updates ≡ true

-- holds if one of the updates adds the pair and no later one removes it
abbrev pub IsPresentPair : ℕ → ℕ → List Update → Type 0
IsPresentPair x id updates =
    (first later : List Update) × (updates ≡ first ++ OrAdd x id ∷ later) × NoneRemovesPair x id later

-- the elements of an RGA's list in their order, shown or not
abbrev pub elements_in : List (ℕ × Bool) → List ℕ
elements_in list = map (λ entry. entry.0) list

-- holds if the root is first and is not shown
abbrev pub RootFirst : List (ℕ × Bool) → Type 0
RootFirst list = (rest : List (ℕ × Bool)) × (list ≡ (0, false) ∷ rest)

-- holds if the next list is this one with x inserted, shown, directly after the anchor
abbrev pub IsInsertedBehind : ℕ → ℕ → List (ℕ × Bool) → List (ℕ × Bool) → Type 0
IsInsertedBehind anchor x list next =
    (before behind : List (ℕ × Bool)) × (is_shown : Bool) × (list ≡ before ++ (anchor, is_shown) ∷ behind)
    × (next ≡ before ++ (anchor, is_shown) ∷ (x, true) ∷ behind)

-- holds if one of the updates inserts the element
abbrev pub WasInserted : ℕ → List Update → Type 0
WasInserted x updates = (anchor : ℕ) × Contains updates (After anchor x)

-- holds if the updates lead to a state in which the query's answer is right
abbrev pub IsAnsweredAfter : Kind → List Update → Query → Type 0
IsAnsweredAfter kind updates query =
    (state : State) × (state_after kind updates ≡ Some state) × (answers state query ≡ true)

-- holds if the replica issued label n, which is an update
abbrev pub WasIssuedAt : Records → ℕ → ℕ → Type 0
WasIssuedAt records replica n =
    (later before : Records) × (op : Op) × (clock : Option ℕ)
    × (records ≡ later ++ Operate replica op clock ∷ before) × (n ≡ label_count before) × (is_update op ≡ true)

-- holds if label n, an update accepted before, was reported as delivered to the replica
abbrev pub WasDeliveredTo : Records → ℕ → ℕ → Type 0
WasDeliveredTo records replica n =
    (later before : Records) × (records ≡ later ++ Deliver replica n ∷ before) × (is_update_at before n ≡ true)

-- holds if the replica joined from one to which label n had been delivered
abbrev pub WasDeliveredBeforeJoin : Records → ℕ → ℕ → Type 0
WasDeliveredBeforeJoin records replica n =
    (later before : Records) × (from : ℕ) × (records ≡ later ++ Join replica from ∷ before)
    × (has_delivered before from n ≡ true)

-- holds if nothing was delivered to a replica whose number is not below the number of replicas
abbrev pub NoneDeliveredBeyond : ℕ → Records → Type 0
NoneDeliveredBeyond initial_replicas records =
    (replica n : ℕ) → replica_count initial_replicas records ≤ replica → has_delivered records replica n ≡ false

-- holds if label n was issued at a replica to which label m had been delivered before
abbrev pub WasIssuedAfterDelivery : Records → ℕ → ℕ → Type 0
WasIssuedAfterDelivery records n m =
    (later before : Records) × (next : NextOperation) × (records ≡ later ++ operate next ∷ before)
    × (n ≡ label_count before) × (has_delivered before next.by m ≡ true)

-- holds if label n was new to the replica, and all that n sees had been delivered to the replica
abbrev pub IsCausalDelivery : Records → ℕ → ℕ → Type 0
IsCausalDelivery before replica n =
    (has_delivered before replica n ≡ false)
    × ((m : ℕ) → sees before n m ≡ true → has_delivered before replica m ≡ true)

-- holds if label n is an update that is new to the replica
abbrev pub IsNewUpdate : Records → ℕ → ℕ → Type 0
IsNewUpdate records replica n = (is_update_at records n ≡ true) × (has_delivered records replica n ≡ false)

-- holds if m is the least label that label n sees and that was not delivered to the replica
pub record IsLeastMissing (records : Records) (replica n m : ℕ) : Type 0 where
  pub seen : sees records n m ≡ true
  pub missing : has_delivered records replica m ≡ false
  pub least : (k : ℕ) → k < m → sees records n k ≡ true → has_delivered records replica k ≡ true

-- holds if label n is an update that the replica issued
abbrev pub IsUpdateOf : Records → ℕ → ℕ → Type 0
IsUpdateOf records replica n = (is_update_at records n ≡ true) × (issuer_of records n ≡ replica)

-- holds if, of the replica's updates, exactly the first `count` ones pass the test
abbrev pub AreFirstUpdates : Records → ℕ → ℕ → (ℕ → Bool) → Type 0
AreFirstUpdates records replica count test =
    (count ≤ updates_issued records replica)
    × ((n : ℕ) → IsUpdateOf records replica n → test n ≡ nat_lt (issue_position records n) count)

-- holds if p is an update and q's label sees p's label
abbrev pub IsUpdateSeenBy : Records → Part → Part → Type 0
IsUpdateSeenBy records p q =
    ((update : Update) × (p.act ≡ Does update)) × (sees records q.label.number p.label.number ≡ true)

-- holds if p's label is an earlier one of the same replica as q's label
abbrev pub IsEarlierAtReplica : Part → Part → Type 0
IsEarlierAtReplica p q = (p.label.replica ≡ q.label.replica) × (p.label.number < q.label.number)

-- holds if p and q are the query half and the update half of one label
abbrev pub AreHalvesOfOneLabel : Part → Part → Type 0
AreHalvesOfOneLabel p q =
    (p.label.number ≡ q.label.number) × (p.half ≡ QueryHalf) × (q.half ≡ UpdateHalf)

-- holds if label m must precede label n: n sees it, or it is an earlier one of n's replica
abbrev pub MustStandBefore : Records → Label → Label → Type 0
MustStandBefore records m n =
    (sees records n.number m.number ≡ true) ⊎ ((m.replica ≡ n.replica) × (m.number < n.number))

-- holds if each query of the sequence is answered right after the updates that its label sees, in the sequence's order
abbrev pub EachQueryIsAnswered : Kind → Records → List Part → Type 0
EachQueryIsAnswered kind records sequence =
    (part : Part) (query : Query) → Contains sequence part → part.act ≡ Asks query
    → IsAnsweredAfter kind (visible_updates records sequence part.label.number) query

-- holds if the first stamp is below the second: by clock, then by replica
abbrev pub IsStampBelow : Stamp → Stamp → Type 0
IsStampBelow s t = (s.clock < t.clock) ⊎ ((s.clock ≡ t.clock) × (s.replica < t.replica))

-- holds if the label sees a label whose own stamp this is
abbrev pub SeesStamp : Records → Label → Stamp → Type 0
SeesStamp records label stamp =
    (other : Label) × Contains (labels_of records) other × (sees records label.number other.number ≡ true)
    × (other.stamp ≡ Some stamp)

-- holds if the stamp is a label's own
abbrev pub IsOwnStamp : Records → Stamp → Type 0
IsOwnStamp records stamp = (label : Label) × Contains (labels_of records) label × (label.stamp ≡ Some stamp)

-- holds if a clock of at least 1 is given where the operation carries a stamp, and none where it does not
abbrev pub HasClockIffStamped : Op → Option ℕ → Type 0
HasClockIffStamped op clock =
    (carries_stamp op ≡ true → (at : ℕ) × (1 ≤ at) × (clock ≡ Some at)) × (carries_stamp op ≡ false → clock ≡ None)

-- holds if the label is well-formed for the kind and the number of replicas, as accepted labels are
pub record IsWellFormed (kind : Kind) (replicas : ℕ) (label : Label) : Type 0 where
  pub of_kind : kind_of label.op ≡ kind
  pub list : has_rising_list label.op ≡ true
  pub replica : label.replica < replicas
  -- a stamp exactly if the operation carries one: with a clock of at least 1, and the label's replica
  pub stamp : (clock : Option ℕ) × HasClockIffStamped label.op clock
      × (label.stamp ≡ option_map (stamp_at label.replica) clock)

abbrev pub EachLabelIsWellFormed : Kind → ℕ → Records → Type 0
EachLabelIsWellFormed kind replicas records =
    (label : Label) → Contains (labels_of records) label → IsWellFormed kind (replica_count replicas records) label

-- holds if no two labels have the same stamp
abbrev pub StampsAreUnique : Records → Type 0
StampsAreUnique records = (l m : Label) (stamp : Stamp) → Contains (labels_of records) l
    → Contains (labels_of records) m → l.stamp ≡ Some stamp → m.stamp ≡ Some stamp → l ≡ m

-- holds if the operation gives the identifier to an element
abbrev pub GivesIdentifier : Op → ℕ → Type 0
GivesIdentifier operation id = (x : ℕ) × (operation ≡ op.OrAdd x id)

-- holds if a label gives the identifier
abbrev pub IsOwnIdentifier : Records → ℕ → Type 0
IsOwnIdentifier records id = (label : Label) × Contains (labels_of records) label × GivesIdentifier label.op id

-- holds if no two labels give the same identifier
abbrev pub IdentifiersAreUnique : Records → Type 0
IdentifiersAreUnique records = (l m : Label) (id : ℕ) → Contains (labels_of records) l
    → Contains (labels_of records) m → GivesIdentifier l.op id → GivesIdentifier m.op id → l ≡ m

-- n - 1, .., 1, 0
abbrev pub numbers_below : ℕ → List ℕ
numbers_below zero = []
numbers_below (suc n) = n ∷ numbers_below n

-- Holds if the fault's label exists, the records up to it fail for the fault's cause, and the records up to each
-- earlier label hold.
pub record IsLeastFault (kind : Kind) (records : Records) (fault : Fault) : Type 0 where
  pub there : fault.label < label_count records
  pub fails : cause_of kind (records_to records fault.label) ≡ Some fault.cause
  pub holds_before : (n : ℕ) → n < fault.label → Holds kind (records_to records n)

-- holds if p comes before q in the list
abbrev pub StandsBefore : {A : Type 0} → A → A → List A → Type 0
StandsBefore {A} p q list = (before between after : List A) × (list ≡ before ++ p ∷ between ++ q ∷ after)

abbrev pub IsOperation : Command → Type 0
IsOperation command = (next : NextOperation) × (command ≡ operate next)

abbrev pub IsDeliveryOf : ℕ → Command → Type 0
IsDeliveryOf n command = (to : ℕ) × (command ≡ Deliver to n)

abbrev pub is_join : Command → Bool
is_join (Join replica from) = true
is_join _ = false

abbrev pub IsJoinOf : ℕ → Command → Type 0
IsJoinOf replica command = (from : ℕ) × (command ≡ Join replica from)

-- what a reply states about the records before the command, the records after it, and the command
abbrev pub ReplyMeaning : Kind → ℕ → Records → Command → Reply → Type 0
ReplyMeaning kind replicas records command (reply.Ok n) =
    (n ≡ label_count records) × (records_after kind replicas records command ≡ command ∷ records)
    × (fault_of kind (command ∷ records) ≡ None) × IsOperation command
ReplyMeaning kind replicas records command (reply.Got n) =
    (records_after kind replicas records command ≡ command ∷ records)
    × (fault_of kind (command ∷ records) ≡ None) × IsDeliveryOf n command
ReplyMeaning kind replicas records command (reply.Joined n) =
    (n ≡ replica_count replicas records) × (records_after kind replicas records command ≡ command ∷ records)
    × (fault_of kind (command ∷ records) ≡ None) × IsJoinOf n command
ReplyMeaning kind replicas records command (reply.Yes n) =
    (n ≡ label_count records) × (records_after kind replicas records command ≡ records)
    × (fault_of kind records ≡ None) × (command ≡ Verdict)
ReplyMeaning kind replicas records command (reply.No n why) =
    fault_of kind (records_after kind replicas records command) ≡ Some (fault_at n why)
ReplyMeaning kind replicas records command (reply.Refused why) =
    (refusal_of kind replicas records command ≡ Some why) × (records_after kind replicas records command ≡ records)
    × (fault_of kind records ≡ None)

-- holds if no element occurs twice
abbrev pub HasNoDuplicates : {A : Type 0} → List A → Type 0
HasNoDuplicates [] = Unit {0}
HasNoDuplicates (x ∷ xs) = (¬ Contains xs x) × HasNoDuplicates xs

-- holds if each element comes before all elements that it must precede
abbrev pub AllStandBefore : {A : Type 0} → (A → A → Bool) → List A → Type 0
AllStandBefore {A} precedes list =
    (p q : A) → Contains list p → Contains list q → precedes p q ≡ true → StandsBefore p q list
