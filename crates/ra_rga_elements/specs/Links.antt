-- The addition of an element, and the element before each.
use Rattle.std.specs.Prelude.{◌≡◌, ℕ, ◌+◌, ◌<◌, List, length, Option, Some}
use Rattle.ra_rga_elements.specs.declared.element.Element.{Element}
use Rattle.ra_rga_elements.specs.Groups.{element_at}

abbrev pub with_before : ℕ → Element → Element
with_before before element = record {
  element = element.element;
  stamp = element.stamp;
  anchor = element.anchor;
  before = before;
  group = element.group;
}

-- holds if the new element is added, and is the one directly before `next`
pub record IsLinked (elements : List Element) (next : Option ℕ) (new : Element) (after : List Element) : Type 0 where
  pub one : length after ≡ length elements + 1
  pub kept : (n before : ℕ) → n < length elements
      → with_before before (element_at after n) ≡ with_before before (element_at elements n)
  pub moved : (n : ℕ) → next ≡ Some n → n < length elements → (element_at after n).before ≡ length elements
  pub others : (n : ℕ) → n < length elements → ¬ (next ≡ Some n)
      → (element_at after n).before ≡ (element_at elements n).before
  pub newest : element_at after (length elements) ≡ new
