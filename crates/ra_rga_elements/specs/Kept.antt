-- The representation invariant of an element list.
use Rattle.std.specs.Prelude.{◌≡◌, ℕ, suc, ◌<◌, nat_lt, Bool, ◌&&◌, List, length, map, get_or, Contains, Option, Some}
use Rattle.std.specs.List.{list_all}
use Rattle.ra_rga_elements.specs.declared.entry.Entry.{Entry}
use Rattle.ra_rga_elements.specs.declared.element.Element.{Element}
use Rattle.ra_rga_elements.specs.Entries.{entry_at, numbers_in}
use Rattle.ra_rga_elements.specs.Chunk.{Chunk}
use Rattle.ra_rga_elements.specs.Chunks.{chunk_at, joined, AreFilled}
use Rattle.ra_rga_elements.specs.Groups.{element_at}
use Rattle.ra_rga_elements.specs.ElementList.{Arrival, ElementList}

abbrev pub arrival_of : Element → Arrival
arrival_of element = record { element = element.element; stamp = element.stamp; anchor = element.anchor }

-- the elements in the order of the entries
abbrev pub elements_by : List Element → List Entry → List ℕ
elements_by elements entries = map (λ number. (element_at elements number).element) (numbers_in entries)

-- `true` if each chunk has room for one more entry
abbrev pub have_room : List Chunk → Bool
have_room chunks = list_all (λ chunk. nat_lt 0 chunk.room) chunks

-- the list that the fields represent, where `fits` states whether the vector of elements and the map have room
abbrev pub list_of : List Element → List Chunk → Bool → ElementList
list_of elements chunks fits = record {
  elements = elements_by elements (joined chunks);
  arrivals = map arrival_of elements;
  has_room = have_room chunks && fits;
}

-- holds if the entries are those of elements, the root first and none twice
pub record AreEntriesOf (elements : List Element) (entries : List Entry) : Type 0 where
  pub root : (entry_at entries 0).number ≡ 0
  pub known : (k : ℕ) → k < length entries → (entry_at entries k).number < length elements
  pub stamps : (k : ℕ) → k < length entries
      → (entry_at entries k).stamp ≡ (element_at elements (entry_at entries k).number).stamp
  pub distinct : (j k : ℕ) → j < k → k < length entries → ¬ ((entry_at entries j).number ≡ (entry_at entries k).number)

-- holds if each element has the number of the one directly before it
abbrev pub AreLinked : List Element → List Entry → Type 0
AreLinked elements entries = (k : ℕ) → suc k < length entries
    → (element_at elements (entry_at entries (suc k)).number).before ≡ (entry_at entries k).number

-- holds if each element but the root is somewhere after its anchor
abbrev pub AreBehindAnchors : List Element → List Entry → Type 0
AreBehindAnchors elements entries = (k : ℕ) → 0 < k → k < length entries
    → (j : ℕ) × (j < k) × ((entry_at entries j).number ≡ (element_at elements (entry_at entries k).number).anchor)

abbrev pub place_at : List ℕ → ℕ → ℕ
place_at places group = get_or places group 0

-- the position of the chunk of the element with this number
abbrev pub place_of : List Element → List ℕ → ℕ → ℕ
place_of elements places number = place_at places (element_at elements number).group

-- holds if each element is in the chunk of its group, and in no other one
pub record ArePlaced (elements : List Element) (chunks : List Chunk) (places : List ℕ) : Type 0 where
  pub grouped : (n : ℕ) → n < length elements → (element_at elements n).group < length places
  pub inside : (group : ℕ) → group < length places → place_at places group < length chunks
  pub stands : (n : ℕ) → n < length elements
      → Contains (numbers_in (chunk_at chunks (place_of elements places n)).entries) n
  pub only : (place n : ℕ) → place < length chunks → Contains (numbers_in (chunk_at chunks place).entries) n
      → place_of elements places n ≡ place

-- holds if the map has each element's number, and nothing else
pub record AreNumbers (number_of : ℕ → Option ℕ) (elements : List Element) : Type 0 where
  pub found : (n : ℕ) → n < length elements → number_of (element_at elements n).element ≡ Some n
  pub there : (x n : ℕ) → number_of x ≡ Some n → (n < length elements) × ((element_at elements n).element ≡ x)

-- the invariant of the elements and their chunks, of which the one at `newest` has the newest element
pub record ChunksKept (elements : List Element) (chunks : List Chunk) (places : List ℕ) (newest : ℕ) : Type 0 where
  pub some : 0 < length elements
  pub anchored : (n : ℕ) → n < length elements → (element_at elements n).anchor < length elements
  pub entries : AreEntriesOf elements (joined chunks)
  pub linked : AreLinked elements (joined chunks)
  pub behind : AreBehindAnchors elements (joined chunks)
  pub placed : ArePlaced elements chunks places
  pub filled : AreFilled chunks
  pub there : newest < length chunks
  -- each other chunk has room
  pub room : (place : ℕ) → place < length chunks → ¬ (place ≡ newest) → 0 < (chunk_at chunks place).room

pub record ElementListKept (number_of : ℕ → Option ℕ) (elements : List Element) (chunks : List Chunk) (places : List ℕ)
    (newest : ℕ) : Type 0 where
  pub numbers : AreNumbers number_of elements
  pub chunks_kept : ChunksKept elements chunks places newest
