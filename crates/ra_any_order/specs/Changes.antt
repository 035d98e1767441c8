-- The newest updates of the elements of an LWW set, as the reads of one replica find them.
use Rattle.std.specs.Prelude.{◌≡◌, ℕ, ◌<◌, ◌≤◌, ◌⊎◌, nat_lt, ◌||◌, ◌++◌, ◌∷◌, [], Bool, true, false, List, length, Contains, Option, Some, None, IfSome, get_or, slice_get, option_and_then, if◌then◌else◌}
use Rattle.std.specs.BTreeMap.{BTreeMap, get, Updates}
use Rattle.ra_labels.specs.declared.operation.Op.{Op}
use Rattle.ra_labels.specs.declared.operation.Op.TheVariants as op
use Rattle.ra_labels.specs.Lists.{pair_cmp}
use Rattle.ra_labels.specs.HistorySoFar.{History}
use Rattle.ra_labels.specs.Records.{Records}
use Rattle.ra_labels.specs.Visibility.{sees, is_update_at}
use Rattle.ra_labels.specs.Places.{issuer_of}
use Rattle.ra_some_order.specs.VisibleUpdates.{adds, removes}
use Rattle.ra_visibility.specs.Tracked.{Tracked, IsVisibilityOf}
use Rattle.ra_any_order.specs.declared.views.View.{View}
use Rattle.ra_any_order.specs.Previous.{IsLastBelow}
use Rattle.ra_any_order.specs.Reading.{passes_at}

-- `true` if the operation adds the element to an LWW set or removes it
abbrev pub changes : ℕ → Op → Bool
changes x operation = adds x operation || removes x operation

-- the element that the operation adds or removes; none if it is no such update
abbrev pub element_of : Op → Option ℕ
element_of (op.LwwAdd x) = Some x
element_of (op.LwwRemove x) = Some x
element_of _ = None

abbrev pub element_at : List Op → ℕ → Option ℕ
element_at operations n = option_and_then element_of (slice_get operations n)

-- holds if the tracker represents the visibility of the past, and only updates change elements
pub record AreChangesOf (tracked : Tracked) (operations : List Op) (past : History) : Type 0 where
  pub visibility : IsVisibilityOf tracked past
  pub updates : (x m : ℕ) → passes_at operations (changes x) m ≡ true → is_update_at past.records m ≡ true

-- the newest update of the element by the replica that was found
abbrev pub newest_in : BTreeMap (ℕ × ℕ) ℕ → ℕ → ℕ → Option ℕ
newest_in found x replica = get pair_cmp found (x, replica)

-- `true` if the label, where there is one, sees label m
abbrev pub is_seen_by : Records → Option ℕ → ℕ → Bool
is_seen_by records None m = false
is_seen_by records (Some n) m = sees records n m

-- holds if the map has for each element and replica the newest update that the label sees
pub record AreNewestChanges (records : Records) (operations : List Op) (label : Option ℕ)
    (found : BTreeMap (ℕ × ℕ) ℕ) : Type 0 where
  pub seen : (x replica m : ℕ) → newest_in found x replica ≡ Some m
      → (is_seen_by records label m ≡ true) × (issuer_of records m ≡ replica)
      × (passes_at operations (changes x) m ≡ true)
  pub latest : (x k : ℕ) → is_seen_by records label k ≡ true → passes_at operations (changes x) k ≡ true
      → (m : ℕ) × (newest_in found x (issuer_of records k) ≡ Some m) × (k ≤ m)

-- the elements that a read returned
abbrev pub read_list : Option Op → List ℕ
read_list (Some (op.LwwRead list)) = list
read_list _ = []

-- the elements that the read of the label returned; none if there is no label
abbrev pub list_of : List Op → Option ℕ → List ℕ
list_of operations None = []
list_of operations (Some n) = read_list (slice_get operations n)

-- holds if the label, where there is one, is a read of the replica below a number, and the map has the newest updates
-- that it sees
pub record IsViewOf (records : Records) (operations : List Op) (replica bound : ℕ) (view : View) : Type 0 where
  pub last : IfSome view.last (λ q. (q < bound) × (issuer_of records q ≡ replica)
      × ((list : List ℕ) × (slice_get operations q ≡ Some (op.LwwRead list))))
  pub newest : AreNewestChanges records operations view.last view.newest

-- holds if there was no read
abbrev pub IsNewView : View → Type 0
IsNewView view = (view.last ≡ None) × (view.newest.entries ≡ [])

-- holds if the labels of the view are below a number
pub record IsViewBelow (count : ℕ) (view : View) : Type 0 where
  pub last : IfSome view.last (λ q. q < count)
  pub newest : (x replica m : ℕ) → newest_in view.newest x replica ≡ Some m → m < count

-- the update if it is newer than the one that is known
abbrev pub newer_than : Option ℕ → Option ℕ → Option ℕ
newer_than None (Some m) = Some m
newer_than (Some known) (Some m) = if nat_lt known m then Some m else None
newer_than known None = None

-- holds if the new map has the update too, unless it has a newer one, and the list each element of which it has another
pub record IsTaken (operations : List Op) (replica m : ℕ) (old new : BTreeMap (ℕ × ℕ) ℕ)
    (before after : List ℕ) : Type 0 where
  pub taken : (x : ℕ) → passes_at operations (changes x) m ≡ true
      → (k : ℕ) × (newest_in new x replica ≡ Some k) × (m ≤ k)
  pub kept : (x other k : ℕ) → newest_in old x other ≡ Some k → (l : ℕ) × (newest_in new x other ≡ Some l) × (k ≤ l)
  pub from : (x other k : ℕ) → newest_in new x other ≡ Some k → (newest_in old x other ≡ Some k)
      ⊎ ((k ≡ m) × (other ≡ replica) × (passes_at operations (changes x) m ≡ true) × Contains after x)
  pub listed : (x : ℕ) → Contains before x → Contains after x

-- holds if the new map has the update as the newest one of the element by the replica, and the list the element, and
-- all else is unchanged; or if nothing is changed, since the map has a newer one
abbrev pub IsPut : ℕ → ℕ → ℕ → BTreeMap (ℕ × ℕ) ℕ → BTreeMap (ℕ × ℕ) ℕ → List ℕ → List ℕ → Type 0
IsPut x replica m old new before after =
    (((k : ℕ) × (newest_in old x replica ≡ Some k) × (m ≤ k)) × (new ≡ old) × (after ≡ before))
    ⊎ (((k : ℕ) → newest_in old x replica ≡ Some k → k < m) × Updates pair_cmp old new (x, replica) (Some m)
    × (after ≡ before ++ x ∷ []))

-- holds if there is an entry for each label, and each label in an entry is below its own
pub record AreEarlier (count : ℕ) (previous : List (Option ℕ)) : Type 0 where
  pub len : length previous ≡ count
  pub earlier : (n : ℕ) → IfSome (get_or previous n None) (λ m. m < n)

-- holds if each entry is the previous label of the label's replica
abbrev pub ArePrevious : Records → ℕ → List (Option ℕ) → Type 0
ArePrevious records bound previous = (n : ℕ) → n < bound
    → IsLastBelow records n (issuer_of records n) (get_or previous n None)
