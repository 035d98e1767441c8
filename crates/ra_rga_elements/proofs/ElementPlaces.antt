-- Lemmas on the positions of elements: each element in the list is found.
use Rattle.std.proofs.Common.{◌≡◌, ℕ, ◌<◌, List, length, sym, ◌∙◌, arith, ◌+◌, get_or, map, ap, subst, inl, inr, Option, Some, None}
use Rattle.std.specs.Prelude.{Contains}
use Rattle.std.proofs.lemmas.List.{length-map, get_or-map}
use Rattle.ra_rga_elements.specs.declared.entry.Entry.{Entry}
use Rattle.ra_rga_elements.specs.Entries.{no_entry, entry_at, numbers_in, IsNumberAt}
use Rattle.std.proofs.lemmas.Bool.{cases_order}
use Rattle.ra_rga_elements.specs.declared.element.Element.{Element}
use Rattle.ra_rga_elements.specs.Chunk.{Chunk}
use Rattle.ra_rga_elements.specs.Chunks.{chunk_at, joined, offset}
use Rattle.ra_rga_elements.specs.Groups.{no_element, element_at}
use Rattle.ra_rga_elements.specs.ElementList.{root, arrival_at}
use Rattle.ra_rga_elements.specs.Kept.{arrival_of, elements_by, AreEntriesOf, ArePlaced, AreNumbers, place_of}
use Rattle.ra_rga_elements.proofs.JoinedChunks.{entry_joined, offset_within}

pub found_somewhere : (entries : List Entry) (number : ℕ) → Contains (numbers_in entries) number
    → ((k : ℕ) → k < length entries → ¬ ((entry_at entries k).number ≡ number)) → ⊥
found_somewhere entries number (k, high, is) none =
    let there : k < length entries = omega (arith, length-map entries (λ (e : Entry). e.number)) in
    none k there (sym (get_or-map (λ (e : Entry). e.number) entries k no_entry number there) ∙ is)

-- ---- indexes

-- the number at an index
pub number_is : (entries : List Entry) (k d : ℕ) → k < length entries
    → get_or (numbers_in entries) k d ≡ (entry_at entries k).number
number_is entries k d there = get_or-map (λ (e : Entry). e.number) entries k no_entry d there

pub in_numbers : (entries : List Entry) (k : ℕ) → k < length entries
    → Contains (numbers_in entries) (entry_at entries k).number
in_numbers entries k there = (
  k,
  omega (arith, length-map entries (λ (e : Entry). e.number)),
  number_is entries k
      (entry_at entries k).number there,
)

pub index_in : (entries : List Entry) (n : ℕ) → Contains (numbers_in entries) n
    → (k : ℕ) × (k < length entries) × ((entry_at entries k).number ≡ n)
index_in entries n (k, high, is) =
    let there : k < length entries = omega (arith, length-map entries (λ (e : Entry). e.number)) in
    (k, there, sym (number_is entries k n there) ∙ is)

-- an element of a chunk is in the whole list
pub in_joined : (chunks : List Chunk) (place n : ℕ) → place < length chunks
    → Contains (numbers_in (chunk_at chunks place).entries) n
    → (k : ℕ) × (k < length (joined chunks)) × ((entry_at (joined chunks) k).number ≡ n)
in_joined chunks place n there among =
    let at = index_in (chunk_at chunks place).entries n among in (
      offset chunks place + at.0,
      omega (arith, at.1, offset_within chunks place there),
      ap (λ (e : Entry). e.number) (entry_joined chunks place at.0 there at.1) ∙ at.2,
    )

pub known_in_chunk : (elements : List Element) (chunks : List Chunk) (place n : ℕ)
    → AreEntriesOf elements (joined chunks) → place < length chunks
    → Contains (numbers_in (chunk_at chunks place).entries) n → n < length elements
known_in_chunk elements chunks place n entries there among =
    let at = in_joined chunks place n there among in
    subst (λ m. m < length elements) at.2 (entries.known at.0 at.1)

-- each element stands at some index
pub index_of : (elements : List Element) (chunks : List Chunk) (places : List ℕ) (n : ℕ)
    → ArePlaced elements chunks places → n < length elements
    → (k : ℕ) × (k < length (joined chunks)) × ((entry_at (joined chunks) k).number ≡ n)
index_of elements chunks places n placed there =
    in_joined chunks (place_of elements places n) n
    (placed.inside (element_at elements n).group (placed.grouped n there)) (placed.stands n there)

-- and at only one
pub one_index : (elements : List Element) (entries : List Entry) (j k : ℕ) → AreEntriesOf elements entries
    → j < length entries → k < length entries
    → (entry_at entries j).number ≡ (entry_at entries k).number → j ≡ k
one_index elements entries j k of low high same = elim (cases_order j k) [
  | inl equal ↦ equal
  | inr (inl under) ↦ absurd (of.distinct j k under high same)
  | inr (inr over) ↦ absurd (of.distinct k j over low (sym same))
]

pub arrival_is : (elements : List Element) (n : ℕ) → n < length elements
    → arrival_at (map arrival_of elements) n ≡ arrival_of (element_at elements n)
arrival_is elements n there = get_or-map arrival_of elements n no_element root there

-- the element at an index of the list
pub element_is : (elements : List Element) (entries : List Entry) (k d : ℕ) → k < length entries
    → get_or (elements_by elements entries) k d ≡ (element_at elements (entry_at entries k).number).element
element_is elements entries k d there =
    get_or-map (λ n. (element_at elements n).element) (numbers_in entries) k 0 d
    (omega (arith, length-map entries (λ (e : Entry). e.number)))
    ∙ ap (λ n. (element_at elements n).element) (number_is entries k 0 there)

-- different numbers have different elements
pub one_number : (number_of : ℕ → Option ℕ) (elements : List Element) (m n : ℕ) → AreNumbers number_of elements
    → m < length elements → n < length elements
    → (element_at elements m).element ≡ (element_at elements n).element → m ≡ n
one_number number_of elements m n numbers low high same =
    let both : Some m ≡ Some n = sym (numbers.found m low) ∙ ap number_of same ∙ numbers.found n high in cc

-- the next number, if there is one
pub next_is : (entries : List Entry) (q : ℕ) (next : Option ℕ) (n : ℕ) → IsNumberAt entries q next → next ≡ Some n
    → (q < length entries) × ((entry_at entries q).number ≡ n)
next_is entries q None n at is = absurd (cc is)
next_is entries q (Some m) n at is = let same : m ≡ n = cc in (at.0, at.1 ∙ same)

pub next_some : (entries : List Entry) (q : ℕ) (next : Option ℕ) → IsNumberAt entries q next → q < length entries
    → next ≡ Some (entry_at entries q).number
next_some entries q None at there = absurd (omega arith)
next_some entries q (Some m) at there = ap Some (sym at.1)
