-- Whether each element of an LWW set is listed by the next read, as its newest visible updates decide.
use Rattle.std.specs.Prelude.{◌≡◌, ◌<◌, ◌≤◌, ◌⊎◌, ◌&&◌, ◌++◌, ◌∷◌, [], ℕ, Bool, true, false, List, length, Contains, Some, if◌then◌else◌}
use Rattle.std.specs.List.{list_any}
use Rattle.std.specs.BTreeSet.{BTreeSet}
use Rattle.ra_labels.specs.declared.operation.Op.{Op}
use Rattle.ra_labels.specs.Lists.{rises}
use Rattle.ra_labels.specs.Records.{Records}
use Rattle.ra_labels.specs.Visibility.{sees}
use Rattle.ra_labels.specs.Places.{issuer_of}
use Rattle.ra_precedence.specs.Conditions.{Condition}
use Rattle.ra_precedence.specs.Lasts.{IsOrderFor, IsLastOf}
use Rattle.ra_any_order.specs.declared.next_elements.PossibleElements.{PossibleElements}
use Rattle.ra_any_order.specs.declared.seen_updates.SeenUpdates.{SeenUpdates}
use Rattle.ra_any_order.specs.declared.standings.Standing.{Standing}
use Rattle.ra_any_order.specs.declared.standings.Standing.TheVariants.{Listed, Undecided, Unlisted, Unasked}
use Rattle.ra_any_order.specs.Changes.{changes, newest_in, AreNewestChanges}
use Rattle.ra_any_order.specs.Elements.{leads, AreNewestOf}
use Rattle.ra_any_order.specs.Reading.{passes_at}

-- holds if these are the newest updates of each element that label n sees, each of one of the replicas, and the
-- elements that they add or remove
pub record AreSeenUpdates (records : Records) (operations : List Op) (n : ℕ) (seen : SeenUpdates) : Type 0 where
  pub newest : AreNewestChanges records operations (Some n) seen.newest
  pub elements : (x k : ℕ) → sees records n k ≡ true → passes_at operations (changes x) k ≡ true
      → Contains seen.elements.items x
  pub issuers : (k : ℕ) → sees records n k ≡ true → issuer_of records k < seen.replicas

-- holds if the updates are labels below a number
abbrev pub AreBelow : ℕ → SeenUpdates → Type 0
AreBelow count seen = (x replica m : ℕ) → newest_in seen.newest x replica ≡ Some m → m < count

-- `true` if one of the labels leads to the element's being listed or not
abbrev pub some_leads : List Op → Bool → ℕ → List ℕ → Bool
some_leads operations listed x labels = list_any (passes_at operations (leads listed x)) labels

-- `true` if some of the updates add the element and others remove it
abbrev pub is_contested : List Op → List ℕ → ℕ → Bool
is_contested operations newest x = some_leads operations true x newest && some_leads operations false x newest

-- holds if the newest updates of the element do not both add and remove it
abbrev pub IsUncontested : List Op → SeenUpdates → ℕ → Type 0
IsUncontested operations seen x = (newest : List ℕ) × AreNewestOf seen.newest x seen.replicas newest
    × (is_contested operations newest x ≡ false)

-- holds if the newest updates of the element both add and remove it
abbrev pub HasBothSides : List Op → SeenUpdates → ℕ → Type 0
HasBothSides operations seen x = (newest : List ℕ) × AreNewestOf seen.newest x seen.replicas newest
    × (is_contested operations newest x ≡ true)

-- holds if the set has at least the given number of elements
abbrev pub HasMany : ℕ → BTreeSet ℕ → Type 0
HasMany count set = (rises set.keys ≡ true) × (count ≤ length set.keys)

-- whether the element is listed if each of the updates can be the last one
abbrev pub standing_by : List Op → List ℕ → ℕ → Standing
standing_by operations lasts x =
    if some_leads operations true x lasts
    then (if some_leads operations false x lasts then Undecided else Listed)
    else Unlisted

-- holds if the label is the last one of the set in some order of all labels that meets the conditions
abbrev pub CanBeLast : ℕ → List Condition → List ℕ → ℕ → Type 0
CanBeLast count conditions set w = (order : List ℕ) × IsOrderFor count conditions order × IsLastOf order set w

-- holds if some label of this kind leads to the element's being listed or not
abbrev pub SomeLeads : List Op → Bool → ℕ → (ℕ → Type 0) → Type 0
SomeLeads operations listed x IsIt = (w : ℕ) × IsIt w × (passes_at operations (leads listed x) w ≡ true)

-- holds if the last one of the newest updates adds the element in each order that meets the conditions, adds it in
-- none, or adds it in some and removes it in some; or if some add the element and others remove it, and it is not asked
-- about
abbrev pub IsStanding : List Op → ℕ → List Condition → List ℕ → Bool → ℕ → Standing → Type 0
IsStanding operations count conditions newest asked x Listed =
    SomeLeads operations true x (Contains newest)
    × (¬ SomeLeads operations false x (CanBeLast count conditions newest))
IsStanding operations count conditions newest asked x Unlisted =
    ¬ SomeLeads operations true x (CanBeLast count conditions newest)
IsStanding operations count conditions newest asked x Undecided =
    ((order : List ℕ) × IsOrderFor count conditions order)
    → SomeLeads operations true x (CanBeLast count conditions newest)
    × SomeLeads operations false x (CanBeLast count conditions newest)
IsStanding operations count conditions newest asked x Unasked =
    (is_contested operations newest x ≡ true) × (asked ≡ false)

-- holds if the element has this standing, by its newest updates
abbrev pub HasStanding : List Op → ℕ → List Condition → SeenUpdates → (ℕ → Bool) → ℕ → Standing → Type 0
HasStanding operations count conditions seen asked x standing = (newest : List ℕ)
    × AreNewestOf seen.newest x seen.replicas newest
    × IsStanding operations count conditions newest (asked x) x standing

-- the elements that were found to have the standing; those that are not listed are left out
abbrev pub elements_with : PossibleElements → Standing → List ℕ
elements_with found Listed = found.listed.items
elements_with found Undecided = found.undecided.items
elements_with found Unlisted = []
elements_with found Unasked = found.unasked.items

-- holds if the element was appended to the list of its standing, unless it is not listed
abbrev pub IsAdded : ℕ → Standing → PossibleElements → PossibleElements → Type 0
IsAdded x Listed old new = (new.listed.items ≡ old.listed.items ++ x ∷ [])
    × (new.undecided.items ≡ old.undecided.items) × (new.unasked.items ≡ old.unasked.items)
IsAdded x Undecided old new = (new.listed.items ≡ old.listed.items)
    × (new.undecided.items ≡ old.undecided.items ++ x ∷ []) × (new.unasked.items ≡ old.unasked.items)
IsAdded x Unlisted old new = new ≡ old
IsAdded x Unasked old new = (new.listed.items ≡ old.listed.items)
    × (new.undecided.items ≡ old.undecided.items) × (new.unasked.items ≡ old.unasked.items ++ x ∷ [])

-- holds if each element is in the list of its standing, or is not listed
pub record AreStandings (operations : List Op) (count : ℕ) (conditions : List Condition) (seen : SeenUpdates)
    (asked : ℕ → Bool) (elements : List ℕ) (found : PossibleElements) : Type 0 where
  pub each : (standing : Standing) (x : ℕ) → Contains (elements_with found standing) x
      → HasStanding operations count conditions seen asked x standing
  pub all : (x : ℕ) → Contains elements x → ((standing : Standing) × Contains (elements_with found standing) x)
      ⊎ HasStanding operations count conditions seen asked x Unlisted
