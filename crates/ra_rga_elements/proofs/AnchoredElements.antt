-- Lemmas on an element and its anchor.
use Rattle.std.proofs.Common.{◌≡◌, ℕ, zero, suc, ◌<◌, Bool, List, [], ◌∷◌, ◌++◌, length, get_or, map, refl, sym, ap, ◌∙◌, subst, arith, Option}
use Rattle.ra_labels.specs.TheoremTerms.{elements_in}
use Rattle.ra_rga_elements.specs.declared.entry.Entry.{Entry}
use Rattle.ra_rga_elements.specs.declared.element.Element.{Element}
use Rattle.ra_rga_elements.specs.Entries.{entry_at}
use Rattle.ra_rga_elements.specs.Chunks.{joined}
use Rattle.ra_rga_elements.specs.Chunk.{Chunk}
use Rattle.ra_rga_elements.specs.Groups.{element_at}
use Rattle.ra_rga_elements.specs.ElementList.{Arrival, arrival_at, IsSomewhereBehind}
use Rattle.ra_rga_elements.specs.Kept.{arrival_of, elements_by, AreEntriesOf, AreNumbers, ChunksKept}
use Rattle.ra_rga_elements.proofs.ElementPlaces.{index_of, arrival_is}
use Rattle.ra_rga_elements.proofs.InsertionIndexes.{nothing, long, at_index}

-- an element at a greater index stands behind one at a smaller index
until_at : (d : ℕ × Bool) (list : List (ℕ × Bool)) (j : ℕ) → j < length list
    → (between behind : List (ℕ × Bool)) × (was_shown : Bool)
    × (list ≡ between ++ ((get_or list j d).0, was_shown) ∷ behind)
until_at d [] j there = absurd (omega arith)
until_at d (entry ∷ list) zero there = ([], list, entry.1, refl)
until_at d (entry ∷ list) (suc j) there =
    let rest = until_at d list j (omega arith) in
    (entry ∷ rest.0, rest.1, rest.2, ap (λ (es : List (ℕ × Bool)). entry ∷ es) rest.3)

further_on : (entry : ℕ × Bool) (list : List (ℕ × Bool)) (x p : ℕ) → IsSomewhereBehind list x p
    → IsSomewhereBehind (entry ∷ list) x p
further_on entry list x p (before, between, behind, is_shown, was_shown, same) =
    (entry ∷ before, between, behind, is_shown, was_shown, ap (λ (es : List (ℕ × Bool)). entry ∷ es) same)

further_at : (d : ℕ × Bool) (list : List (ℕ × Bool)) (i j : ℕ) → i < j → j < length list
    → IsSomewhereBehind list (get_or list j d).0 (get_or list i d).0
further_at d [] i j before there = absurd (omega arith)
further_at d (entry ∷ list) i zero before there = absurd (omega arith)
further_at d (entry ∷ list) zero (suc j) before there =
    let rest = until_at d list j (omega arith) in
    ([], rest.0, rest.1, entry.1, rest.2, ap (λ (es : List (ℕ × Bool)). entry ∷ es) rest.3)
further_at d (entry ∷ list) (suc i) (suc j) before there =
    further_on entry list (get_or list j d).0 (get_or list i d).0 (further_at d list i j (omega arith) (omega arith))

-- the elements of a number and of its anchor's number, in terms of the arrivals
own_element : (elements : List Element) (arrivals : List Arrival) (number : ℕ) → number < length elements
    → map arrival_of elements ≡ arrivals
    → (element_at elements number).element ≡ (arrival_at arrivals number).element
own_element elements arrivals number known came =
    sym (ap (λ (a : Arrival). a.element) (arrival_is elements number known))
    ∙ ap (λ xs. (arrival_at xs number).element) came

anchor_element : (elements : List Element) (arrivals : List Arrival) (number : ℕ) → number < length elements
    → (element_at elements number).anchor < length elements
    → map arrival_of elements ≡ arrivals
    → (element_at elements (element_at elements number).anchor).element
    ≡ (arrival_at arrivals (arrival_at arrivals number).anchor).element
anchor_element elements arrivals number known anchored came =
    sym (ap (λ (a : Arrival). (arrival_at (map arrival_of elements) a.anchor).element)
    (arrival_is elements number known)
    ∙ ap (λ (a : Arrival). a.element) (arrival_is elements (element_at elements number).anchor anchored))
    ∙ ap (λ xs. (arrival_at xs (arrival_at xs number).anchor).element) came

-- each element but the root has a predecessor
behind_root : (elements : List Element) (entries : List Entry) (j number : ℕ) → AreEntriesOf elements entries
    → 0 < number → (entry_at entries j).number ≡ number → (i : ℕ) × (j ≡ suc i)
behind_root elements entries zero number of some is = absurd (let same : 0 ≡ number = sym of.root ∙ is in omega arith)
behind_root elements entries (suc i) number of some is = (i, refl)

module _ (number_of : ℕ → Option ℕ) (elements : List Element) (chunks : List Chunk) (places : List ℕ)
    (newest number : ℕ) (numbers : AreNumbers number_of elements)
    (kept : ChunksKept elements chunks places newest) (some : 0 < number) (known : number < length elements) where
  abbrev entries : List Entry
  entries = joined chunks

  abbrev x : ℕ
  x = (element_at elements number).element

  abbrev p : ℕ
  p = (element_at elements (element_at elements number).anchor).element

  abbrev names : List ℕ
  names = elements_by elements entries

  -- the index of the element, which has one before it
  index_behind : (i : ℕ) × (suc i < length entries) × ((entry_at entries (suc i)).number ≡ number)
  index_behind =
      let at = index_of elements chunks places number kept.placed known in
      let back = behind_root elements entries at.0 number kept.entries some at.2 in
      (back.0, omega (arith, at.1, back.1), ap (λ k. (entry_at entries k).number) (sym back.1) ∙ at.2)

  -- the element stands somewhere behind its anchor
  somewhere_behind : (all : List (ℕ × Bool)) → elements_in all ≡ names → IsSomewhereBehind all x p
  somewhere_behind all listed =
      let at = index_behind in
      let i = at.0 in
      let old = kept.behind (suc i) (omega arith) at.1 in
      let name = at_index number_of elements entries numbers kept.entries all listed in
      let is_x : (get_or all (suc i) nothing).0 ≡ x = name (suc i) at.1
      ∙ ap (λ n. (element_at elements n).element) at.2 in
      let is_p : (get_or all old.0 nothing).0 ≡ p = name old.0 (omega (arith, old.1, at.1))
      ∙ ap (λ n. (element_at elements n).element) (old.2 ∙ ap (λ n. (element_at elements n).anchor) at.2) in
      subst (λ y. IsSomewhereBehind all y p) is_x
      (subst (λ y. IsSomewhereBehind all (get_or all (suc i) nothing).0 y) is_p
      (further_at nothing all old.0 (suc i) old.1
      (omega (arith, at.1, long number_of elements entries numbers kept.entries all listed))))

  -- the same in terms of the contract
  module _ (listed : List ℕ) (arrivals : List Arrival) (same : names ≡ listed)
      (came : map arrival_of elements ≡ arrivals) where
    abbrev own : Arrival
    own = arrival_at arrivals number

    abbrev anchor : Arrival
    anchor = arrival_at arrivals own.anchor

    seen : (P : List ℕ → ℕ → ℕ → Type 0) → P names x p → P listed own.element anchor.element
    seen P holds =
        subst (λ ns. P ns own.element anchor.element) same
        (subst (λ y. P names y anchor.element) (own_element elements arrivals number known came)
        (subst (P names x) (anchor_element elements arrivals number known (kept.anchored number known) came) holds))

    pub anchor_behind : (all : List (ℕ × Bool)) → elements_in all ≡ listed
        → IsSomewhereBehind all own.element anchor.element
    anchor_behind all = seen (λ ns y q. elements_in all ≡ ns → IsSomewhereBehind all y q) (somewhere_behind all)
