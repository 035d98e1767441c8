-- The list that the nodes of an `RgaList` represent, and its representation invariant.
use Rattle.std.specs.Prelude.{◌≡◌, ℕ, zero, suc, ◌<◌, nat_lt, Bool, true, false, List, [], ◌∷◌, ◌++◌, length, map, fold, slice_index_or, slice_set, Option, None, Some, option_map, is_some, ◌==◌, if◌then◌else◌, not, ◌&&◌, ◌||◌}
use Rattle.ra_labels.specs.declared.operation.Update.{Update}
use Rattle.ra_labels.specs.declared.operation.Update.TheVariants.{After, RgaRemove}
use Rattle.ra_labels.specs.Lists.{is_among, is_in_list, insert_after, hide}
use Rattle.ra_seqspec.specs.declared.rga.Node.{Node}
use Rattle.ra_seqspec.specs.declared.rga.Place.{Place}
use Rattle.ra_seqspec.specs.declared.rga.Place.TheVariants.{First, Behind}

-- the node in the slot
abbrev pub node_at : List Node → ℕ → Node
node_at nodes slot = slice_index_or nodes slot (record { element = 0; is_shown = false; next = 0 })

-- n slots along the links, beginning with this one
abbrev pub along : (ℕ → ℕ) → ℕ → ℕ → List ℕ
along next zero slot = []
along next (suc n) slot = slot ∷ along next n (next slot)

-- the slots of all nodes along the links
abbrev pub slots_of : ℕ → List Node → List ℕ
slots_of first nodes = along (λ slot. (node_at nodes slot).next) (length nodes) first

-- the list's entry for the node in the slot
abbrev pub entry_at : List Node → ℕ → ℕ × Bool
entry_at nodes slot = ((node_at nodes slot).element, (node_at nodes slot).is_shown)

-- the list: the root, which is not shown, and the nodes along the links
abbrev pub entries_of : ℕ → List Node → List (ℕ × Bool)
entries_of first nodes = (0, false) ∷ map (entry_at nodes) (slots_of first nodes)

-- holds if no slot occurs twice
abbrev pub AreDistinct : List ℕ → Type 0
AreDistinct [] = Unit {0}
AreDistinct (slot ∷ slots) = (is_among slot slots ≡ false) × AreDistinct slots

-- holds if the links lead through each node once, and the index has each node's slot under its element and nothing else
pub record RgaListKept (first : ℕ) (nodes : List Node) (slot_of : ℕ → Option ℕ) : Type 0 where
  pub distinct : AreDistinct (slots_of first nodes)
  pub all : (slot : ℕ) → is_among slot (slots_of first nodes) ≡ nat_lt slot (length nodes)
  pub found : (slot : ℕ) → slot < length nodes → slot_of (node_at nodes slot).element ≡ Some slot
  pub there : (x slot : ℕ) → slot_of x ≡ Some slot → (slot < length nodes) × ((node_at nodes slot).element ≡ x)

-- holds if the place is the first one or is after a slot that has a node
abbrev pub IsThere : Place → ℕ → Type 0
IsThere First n = Unit {0}
IsThere (Behind slot) n = slot < n

-- `true` if the anchor is in the list and x is not
abbrev pub may_insert : ℕ → ℕ → List (ℕ × Bool) → Bool
may_insert anchor x list = is_in_list anchor list && not (is_in_list x list)

-- `true` if x is in the list and is not the root
abbrev pub may_hide : ℕ → List (ℕ × Bool) → Bool
may_hide x list = is_in_list x list && not (x == 0)

-- the list after an update of an RGA; unchanged if the update is not admitted
abbrev pub list_step : List (ℕ × Bool) → Update → List (ℕ × Bool)
list_step list (After anchor x) = if may_insert anchor x list then insert_after anchor x list else list
list_step list (RgaRemove x) = if may_hide x list then hide x list else list
list_step list _ = list

-- the list after several updates
abbrev pub list_after : List (ℕ × Bool) → List Update → List (ℕ × Bool)
list_after list updates = fold list_step list updates

-- a node that is shown
abbrev pub shown_node : ℕ → ℕ → Node
shown_node x next = record { element = x; is_shown = true; next = next }

-- the place directly after the element, given its slot in the index
abbrev pub place_behind : ℕ → Option ℕ → Option Place
place_behind x slot = if x == 0 then Some First else option_map Behind slot

-- the place directly after the anchor, if the anchor is in the list and x is not
abbrev pub place_for : ℕ → ℕ → (ℕ → Option ℕ) → Option Place
place_for anchor x slot_of = if x == 0 || is_some (slot_of x) then None else place_behind anchor (slot_of anchor)

-- the node with another link
abbrev pub linked_to : ℕ → Node → Node
linked_to next node = record { element = node.element; is_shown = node.is_shown; next = next }

-- the slot of the first node after a new node is inserted at the place
abbrev pub first_after : Place → ℕ → List Node → ℕ
first_after First first nodes = length nodes
first_after (Behind slot) first nodes = first

-- the nodes after a new node is inserted at the place
abbrev pub nodes_after : Place → ℕ → List Node → ℕ → List Node
nodes_after First first nodes x = nodes ++ shown_node x first ∷ []
nodes_after (Behind slot) first nodes x =
    slice_set nodes slot (linked_to (length nodes) (node_at nodes slot)) ++ shown_node x (node_at nodes slot).next ∷ []

-- the node, no longer shown
abbrev pub hidden : Node → Node
hidden node = record { element = node.element; is_shown = false; next = node.next }

-- the nodes, with the one in the slot no longer shown
abbrev pub nodes_hiding : ℕ → List Node → List Node
nodes_hiding slot nodes = slice_set nodes slot (hidden (node_at nodes slot))
