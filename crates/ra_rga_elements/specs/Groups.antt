-- The groups of elements, each of one chunk.
use Rattle.std.specs.Prelude.{◌≡◌, ℕ, ◌+◌, nat_lt, List, length, get_or, Contains, if◌then◌else◌}
use Rattle.ra_labels.specs.NamedOrder.{lowest_rank}
use Rattle.ra_rga_elements.specs.declared.element.Element.{Element}
use Rattle.ra_rga_elements.specs.declared.entry.Entry.{Entry}
use Rattle.ra_rga_elements.specs.Entries.{numbers_in}

-- the value used where there is no element
abbrev pub no_element : Element
no_element = record { element = 0; stamp = lowest_rank; anchor = 0; before = 0; group = 0 }

abbrev pub element_at : List Element → ℕ → Element
element_at elements number = get_or elements number no_element

-- the position of a chunk after the one at position `at` is split in two
abbrev pub shifted : ℕ → ℕ → ℕ
shifted at place = if nat_lt at place then place + 1 else place

abbrev pub in_group : ℕ → Element → Element
in_group group element = record {
  element = element.element;
  stamp = element.stamp;
  anchor = element.anchor;
  before = element.before;
  group = group;
}

-- holds if exactly these elements are moved to the group
pub record IsRegrouped (elements : List Element) (entries : List Entry) (group : ℕ) (new : List Element) : Type 0 where
  pub same : length new ≡ length elements
  pub kept : (number other : ℕ) → in_group other (element_at new number) ≡ in_group other (element_at elements number)
  pub moved : (number : ℕ) → Contains (numbers_in entries) number → (element_at new number).group ≡ group
  pub others : (number : ℕ) → ¬ Contains (numbers_in entries) number
      → (element_at new number).group ≡ (element_at elements number).group

-- holds if the elements are unchanged except for their groups
pub record AreSameButGroups (elements new : List Element) : Type 0 where
  pub same : length new ≡ length elements
  pub kept : (number other : ℕ) → in_group other (element_at new number) ≡ in_group other (element_at elements number)
