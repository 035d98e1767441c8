use Rattle.std.proofs.Common.{map, sym, ap, ◌∙◌, subst, rules}
use Rattle.std.specs.Prelude.{nat_eq}
use Rattle.std.specs.HashMap.{get}
use Rattle.ra_rga_elements.specs.Chunks.{joined}
use Rattle.ra_rga_elements.specs.ElementList.{ElementList}
use Rattle.ra_rga_elements.specs.Kept.{arrival_of, elements_by, ElementListKept}
use Rattle.ra_rga_elements.proofs.ElementNumbers.{numbers_same}
use Rattle.ra_rga_elements.proofs.ElementGroups.{numbers_kept, arrivals_same, elements_same, slice_left}
use Rattle.ra_rga_elements.proofs.element_list.ElementList.reserve.Goals as goal

pub invariant_of-self : goal.invariant_of-self
invariant_of-self c = record {
  numbers = numbers_same _ _ _ c.self.invariant.numbers (λ y. c.reserve.ensures.entries.2 y);
  chunks_kept = c.self.invariant.chunks_kept;
}

pub invariant_of-self-in_err-reserve-2 : goal.invariant_of-self-in_err-reserve-2
invariant_of-self-in_err-reserve-2 c =
    let inside = c.self.inside in
    subst (λ es. ElementListKept (get nat_eq c.reserve.new.self) es inside.chunks.items inside.places.items
    inside.newest) (sym c.reserve-2.ensures.items) (record {
      numbers = numbers_same _ _ _ c.self.invariant.numbers (λ y. c.reserve.ensures.entries.2 y);
      chunks_kept = c.self.invariant.chunks_kept;
    })

pub invariant_of-self-2 : goal.invariant_of-self-2
invariant_of-self-2 c =
    let left = slice_left _ _ _ _ (c.as_mut_slice.ensures.value ∙ c.reserve-2.ensures.items)
    c.reserve_place.ensures.elements
    c.as_mut_slice.ensures.len in
    let numbers = numbers_same _ _ _ c.self.invariant.numbers (λ y. c.reserve.ensures.entries.2 y) in
    subst (λ es. ElementListKept (get nat_eq c.reserve.new.self) es c.reserve_place.new.chunks.items
    c.reserve_place.new.places.items c.self.inside.newest) (sym (left.1 _)) (record {
      numbers = numbers_kept _ _ left.0 _ numbers;
      chunks_kept = c.reserve_place.ensures.kept;
    })

pub returns-clause-elements : goal.returns-clause-elements
returns-clause-elements c =
    let left = slice_left _ _ _ _ (c.as_mut_slice.ensures.value ∙ c.reserve-2.ensures.items)
    c.reserve_place.ensures.elements
    c.as_mut_slice.ensures.len in
    ap (λ es. elements_by es (joined c.reserve_place.new.chunks.items)) (left.1 _)
    ∙ ap (elements_by c.reserve_place.new.elements) c.reserve_place.ensures.joined
    ∙ elements_same _ _ left.0 (joined c.self.inside.chunks.items)
    ∙ ap (λ (l : ElementList). l.elements) c.self.view_is

pub returns-clause-arrivals : goal.returns-clause-arrivals
returns-clause-arrivals c =
    let left = slice_left _ _ _ _ (c.as_mut_slice.ensures.value ∙ c.reserve-2.ensures.items)
    c.reserve_place.ensures.elements
    c.as_mut_slice.ensures.len in
    ap (map arrival_of) (left.1 _) ∙ arrivals_same _ _ left.0 ∙ ap (λ (l : ElementList). l.arrivals) c.self.view_is

pub returns-clause-room : goal.returns-clause-room
returns-clause-room c = search rules
