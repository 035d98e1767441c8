-- Lemmas on the order of two elements, by the indexes of their entries.
use Rattle.std.proofs.Common.{◌≡◌, ℕ, zero, suc, ◌+◌, ◌-◌, ◌<◌, ◌≤◌, Bool, true, List, length, get_or, refl, sym, ap, ◌∙◌, subst, inl, inr, arith, Option, Some, None}
use Rattle.std.specs.Prelude.{Contains, IfSome, ◌==◌}
use Rattle.std.specs.Bool.{then_some}
use Rattle.std.proofs.lemmas.Bool.{cases_lt, cases_Bool, eqb-true}
use Rattle.std.proofs.lemmas.List.{length-map, get_or_read}
use Rattle.ra_rga_elements.specs.declared.element.Element.{Element}
use Rattle.ra_rga_elements.specs.declared.entry.Entry.{Entry}
use Rattle.ra_rga_elements.specs.Entries.{entry_at, numbers_in, IsBehind}
use Rattle.ra_rga_elements.specs.Chunk.{Chunk}
use Rattle.ra_rga_elements.specs.Chunks.{no_chunk, chunk_at, joined, offset}
use Rattle.ra_rga_elements.specs.Groups.{no_element, element_at}
use Rattle.ra_rga_elements.specs.ElementList.{Arrival, ElementList, arrival_at, is_marked, IsIndexOf, IsBefore, IsMarkedBefore}
use Rattle.ra_rga_elements.specs.Kept.{arrival_of, list_of, place_at, place_of, AreEntriesOf, AreLinked, ArePlaced, ElementListKept}
use Rattle.ra_rga_elements.proofs.JoinedChunks.{entry_joined, offset_next, offset_within}
use Rattle.ra_rga_elements.proofs.ElementPlaces.{index_in, index_of, one_index, one_number, arrival_is, element_is}

-- the chunks before another one, and the chunk itself, end before that one begins
offset_below : (chunks : List Chunk) (d place : ℕ) → place + 1 + d < length chunks
    → offset chunks place + length (chunk_at chunks place).entries ≤ offset chunks (place + 1 + d)
offset_below chunks zero place there =
    let next = offset_next chunks place (omega (arith, there)) in
    let same : place + 1 + 0 ≡ place + 1 = omega arith in
    omega (arith, next, ap (offset chunks) same)
offset_below chunks (suc d) place there =
    let rest = offset_below chunks d place (omega (arith, there)) in
    let next = offset_next chunks (place + 1 + d) (omega (arith, there)) in
    let same : place + 1 + suc d ≡ place + 1 + d + 1 = omega arith in
    omega (arith, rest, next, ap (offset chunks) same)

pub offset_lower : (chunks : List Chunk) (place other : ℕ) → place < other → other < length chunks
    → offset chunks place + length (chunk_at chunks place).entries ≤ offset chunks other
offset_lower chunks place other low there =
    let same : other ≡ place + 1 + (other - (place + 1)) = omega (arith, low) in
    let rest = offset_below chunks (other - (place + 1)) place (omega (arith, there, same)) in
    omega (arith, rest, ap (offset chunks) same)

module _ (number_of : ℕ → Option ℕ) (elements : List Element) (chunks : List Chunk) (places : List ℕ) (newest : ℕ)
    (kept : ElementListKept number_of elements chunks places newest) (fits : Bool) where
  abbrev list : ElementList
  list = list_of elements chunks fits

  pub length_listed : length list.elements ≡ length (joined chunks)
  length_listed =
      length-map (numbers_in (joined chunks)) (λ n. (element_at elements n).element)
      ∙ length-map (joined chunks) (λ (e : Entry). e.number)

  pub length_arrived : length list.arrivals ≡ length elements
  length_arrived = length-map elements arrival_of

  pub name_is : (n : ℕ) → n < length elements
      → (arrival_at list.arrivals n).element ≡ (element_at elements n).element
  name_is n known = ap (λ (a : Arrival). a.element) (arrival_is elements n known)

  pub listed_at : (k : ℕ) → k < length (joined chunks)
      → get_or list.elements k 0 ≡ (element_at elements (entry_at (joined chunks) k).number).element
  listed_at k there = element_is elements (joined chunks) k 0 there

  -- an index at which the element stands is that of its entry
  at_one : (n i k : ℕ) → n < length elements → i < length (joined chunks) → k < length (joined chunks)
      → (entry_at (joined chunks) k).number ≡ n → get_or list.elements i 0 ≡ (arrival_at list.arrivals n).element
      → i ≡ k
  at_one n i k known there high is same =
      let of = kept.chunks_kept.entries in
      let m = (entry_at (joined chunks) i).number in
      let equal = one_number number_of elements m n kept.numbers (of.known i there) known
      (sym (listed_at i there) ∙ same ∙ name_is n known) in
      one_index elements (joined chunks) i k of there high (equal ∙ sym is)

  pub index_is : (n k : ℕ) → n < length elements → k < length (joined chunks) → (entry_at (joined chunks) k).number ≡ n
      → IsIndexOf list (Some n) k
  index_is n k known there is = (
    omega (arith, known, length_arrived),
    omega (arith, there, length_listed),
    listed_at k there ∙ ap (λ m. (element_at elements m).element) is ∙ sym (name_is n known),
  )

  pub index_one : (n i k : ℕ) → n < length elements → k < length (joined chunks)
      → (entry_at (joined chunks) k).number ≡ n → IsIndexOf list (Some n) i → i ≡ k
  index_one n i k known there is (arrived, within, same) =
      at_one n i k known (omega (arith, within, length_listed)) there is same

  -- an element is before another one exactly if its index is lower
  pub before_exactly : (m n j k : ℕ) → m < length elements → n < length elements → j < length (joined chunks)
      → k < length (joined chunks) → (entry_at (joined chunks) j).number ≡ m → (entry_at (joined chunks) k).number ≡ n
      → (j < k → IsBefore list (Some n) (arrival_at list.arrivals m).element)
      × (IsBefore list (Some n) (arrival_at list.arrivals m).element → j < k)
  before_exactly m n j k low high there high_there is is_other = (
    λ lower. (
      k,
      j,
      index_is n k high high_there is_other,
      lower,
      listed_at j there ∙ ap (λ x. (element_at elements x).element) is ∙ sym (name_is m low),
    ),
    λ before.
        let (i, h, at, lower, same) = before in
        let first = index_one n i k high high_there is_other at in
        let second = at_one m h j low (omega (arith, lower, first, high_there)) there is same in
        omega (arith, lower, first, second),
  )

  pub before_end : (m : ℕ) → m < length elements → IsBefore list None (arrival_at list.arrivals m).element
  before_end m low =
      let (j, there, is) = index_of elements chunks places m kept.chunks_kept.placed low in (
        length list.elements,
        j,
        refl,
        omega (arith, there, length_listed),
        listed_at j there ∙ ap (λ x. (element_at elements x).element) is ∙ sym (name_is m low),
      )

  -- the index of an element of a chunk
  pub index_behind : (place n position : ℕ) → place < length chunks
      → IsBehind (chunk_at chunks place).entries n position
      → (offset chunks place + (position - 1) < length (joined chunks))
      × ((entry_at (joined chunks) (offset chunks place + (position - 1))).number ≡ n)
  index_behind place n position there behind = (
    omega (arith, behind.some, behind.among, offset_within chunks place there),
    ap (λ (e : Entry). e.number) (entry_joined chunks place (position - 1) there
        (omega (arith, behind.some, behind.among)))
        ∙ behind.found,
  )

  -- the indexes of two elements in different chunks
  in_place : (n : ℕ) → n < length elements → (i : ℕ) × (i < length (joined chunks))
      × ((entry_at (joined chunks) i).number ≡ n) × (offset chunks (place_of elements places n) ≤ i)
      × (i < offset chunks (place_of elements places n)
      + length (chunk_at chunks (place_of elements places n)).entries)
  in_place n known =
      let placed = kept.chunks_kept.placed in
      let place = place_of elements places n in
      let there = placed.inside (element_at elements n).group (placed.grouped n known) in
      let (k, within, is) = index_in (chunk_at chunks place).entries n (placed.stands n known) in (
        offset chunks place + k,
        omega (arith, within, offset_within chunks place there),
        ap (λ (e : Entry). e.number) (entry_joined chunks place k there within) ∙ is,
        omega arith,
        omega (arith, within),
      )

  pub place_there : (n : ℕ) → n < length elements → place_of elements places n < length chunks
  place_there n known =
      let placed = kept.chunks_kept.placed in placed.inside (element_at elements n).group (placed.grouped n known)

  pub by_places : (m n : ℕ) → m < length elements → n < length elements
      → ¬ (place_of elements places m ≡ place_of elements places n)
      → (place_of elements places m < place_of elements places n
      → IsBefore list (Some n) (arrival_at list.arrivals m).element)
      × (IsBefore list (Some n) (arrival_at list.arrivals m).element
      → place_of elements places m < place_of elements places n)
  by_places m n low high differ =
      let (j, j_there, j_is, j_from, j_to) = in_place m low in
      let (k, k_there, k_is, k_from, k_to) = in_place n high in
      let exactly = before_exactly m n j k low high j_there k_there j_is k_is in
      let p = place_of elements places m in
      let q = place_of elements places n in (
        λ lower. exactly.0
            (omega (arith, j_to, k_from, offset_lower chunks p q lower (place_there n high))),
        λ before. elim (cases_lt p q) [
          | inl lower ↦ lower
          | inr past ↦
              let higher : q < p = omega (arith, past, differ) in
              absurd (omega (
                arith,
                exactly.1 before,
                k_to,
                j_from,
                offset_lower chunks q p higher (place_there m low),
              ))
        ],
      )

  pub in_one_chunk : (m n place first second : ℕ) → m < length elements → n < length elements → place < length chunks
      → IsBehind (chunk_at chunks place).entries m first → IsBehind (chunk_at chunks place).entries n second
      → (first < second → IsBefore list (Some n) (arrival_at list.arrivals m).element)
      × (IsBefore list (Some n) (arrival_at list.arrivals m).element → first < second)
  in_one_chunk m n place first second low high there at_first at_second =
      let one = index_behind place m first there at_first in
      let other = index_behind place n second there at_second in
      let exactly = before_exactly m n (offset chunks place + (first - 1)) (offset chunks place + (second - 1))
      low high one.0 other.0 one.1 other.1 in (
        λ lower. exactly.0 (omega (arith, lower, at_first.some)),
        λ before. omega (arith, exactly.1 before, at_first.some, at_second.some),
      )

-- the group of an element, and the chunk that it names
pub group_read : (elements : List Element) (n : ℕ) (read : Element) → n < length elements
    → read ≡ get_or elements n read → read.group ≡ (element_at elements n).group
group_read elements n read known reads =
    ap (λ (e : Element). e.group) (get_or_read elements n read known reads no_element)

pub place_read : (elements : List Element) (places : List ℕ) (n place : ℕ) (read : Element) → n < length elements
    → read ≡ get_or elements n read → (element_at elements n).group < length places
    → place ≡ get_or places read.group place → place ≡ place_of elements places n
place_read elements places n place read known reads grouped places_read =
    let group = group_read elements n read known reads in
    get_or_read places read.group place (omega (arith, group, grouped)) places_read 0 ∙ ap (place_at places) group

pub chunk_read : (chunks : List Chunk) (place : ℕ) (read : Chunk) → place < length chunks
    → read ≡ get_or chunks place read → read ≡ chunk_at chunks place
chunk_read chunks place read there reads = get_or_read chunks place read there reads no_chunk

pub in_chunk_read : (chunks : List Chunk) (elements : List Element) (places : List ℕ) (place n other : ℕ) (read : Element)
    (chunk : Chunk) → ArePlaced elements chunks places → n < length elements → read ≡ get_or elements n read
    → other ≡ get_or places read.group other → place ≡ other → chunk ≡ get_or chunks place chunk
    → Contains (numbers_in chunk.entries) n
in_chunk_read chunks elements places place n other read chunk placed known reads places_read same chunk_reads =
    let is : place ≡ place_of elements places n =
    same ∙ place_read elements places n other read known reads (placed.grouped n known) places_read in
    let there : place < length chunks =
    omega (arith, is, placed.inside (element_at elements n).group (placed.grouped n known)) in
    subst (λ (h : Chunk). Contains (numbers_in h.entries) n) (sym (chunk_read chunks place chunk there chunk_reads))
    (subst (λ p. Contains (numbers_in (chunk_at chunks p).entries) n) (sym is) (placed.stands n known))

-- the number of the element before the one at an index
before_of : (elements : List Element) (entries : List Entry) → AreEntriesOf elements entries
    → AreLinked elements entries → (k n : ℕ) (read : Element) → suc k < length entries
    → (entry_at entries (suc k)).number ≡ n → read ≡ get_or elements n read → read.before ≡ (entry_at entries k).number
before_of elements entries of links k n read there is reads =
    let known : n < length elements = subst (λ m. m < length elements) is (of.known (suc k) there) in
    ap (λ (e : Element). e.before) (get_or_read elements n read known reads no_element)
    ∙ ap (λ m. (element_at elements m).before) (sym is)
    ∙ links k there

-- an element that is found on the way back from another one
pub record IsOnTheWay (elements : List Element) (entries : List Entry) (behind : Option ℕ) (found : ℕ) : Type 0 where
  pub number : ℕ
  pub is : behind ≡ Some number
  pub from : ℕ
  pub to : ℕ
  pub is_found : (entry_at entries from).number ≡ found
  pub is_number : (entry_at entries to).number ≡ number
  pub order : from ≤ to
  pub there : to < length entries

module _ (elements : List Element) (entries : List Entry) (of : AreEntriesOf elements entries) (behind : Option ℕ)
    (found : ℕ) (on : IsOnTheWay elements entries behind found) where
  pub on_known : found < length elements
  on_known = subst (λ n. n < length elements) on.is_found (of.known on.from (omega (arith, on.order, on.there)))

  -- the index of the element before it, which is not the root
  pub before_index : ¬ (found ≡ 0) → 0 < on.from
  before_index other = at on.from on.is_found
    where
      at : (from : ℕ) → (entry_at entries from).number ≡ found → 0 < from
      at zero is = absurd (other (sym is ∙ of.root))
      at (suc k) is = omega arith

  pub on_further : AreLinked elements entries → ¬ (found ≡ 0) → (read : Element) → read ≡ get_or elements found read
      → (next : IsOnTheWay elements entries behind read.before) × (next.from < next.to)
  on_further links other read reads =
      let some = before_index other in
      let k = on.from - 1 in
      let same : on.from ≡ suc k = omega (arith, some) in
      let is : (entry_at entries (suc k)).number ≡ found = ap (λ n. (entry_at entries n).number) (sym same)
      ∙ on.is_found in
      let before = before_of elements entries of links k found read
      (omega (arith, same, on.order, on.there)) is reads in (
        record {
          number = on.number;
          is = on.is;
          from = k;
          to = on.to;
          is_found = sym before;
          is_number = on.is_number;
          order = omega (arith, same, on.order);
          there = on.there;
        },
        omega (arith, same, on.order),
      )

pub on_first : (number_of : ℕ → Option ℕ) (elements : List Element) (chunks : List Chunk) (places : List ℕ)
    (newest : ℕ) → ElementListKept number_of elements chunks places newest → (behind : Option ℕ) (n : ℕ)
    → behind ≡ Some n → n < length elements → IsOnTheWay elements (joined chunks) behind n
on_first number_of elements chunks places newest kept behind n is known =
    let (k, there, same) = index_of elements chunks places n kept.chunks_kept.placed known in
    record {
      number = n;
      is = is;
      from = k;
      to = k;
      is_found = same;
      is_number = same;
      order = omega arith;
      there = there;
    }

-- the marked element directly before the one that was found
module _ (number_of : ℕ → Option ℕ) (elements : List Element) (chunks : List Chunk) (places : List ℕ) (newest : ℕ)
    (kept : ElementListKept number_of elements chunks places newest) (fits : Bool) (behind : Option ℕ) (found : ℕ)
    (on : IsOnTheWay elements (joined chunks) behind found) (other : ¬ (found ≡ 0)) (read : Element)
    (reads : read ≡ get_or elements found read) where
  pub next_on : (next : IsOnTheWay elements (joined chunks) behind read.before) × (next.from < next.to)
  next_on = on_further elements (joined chunks) kept.chunks_kept.entries behind found on kept.chunks_kept.linked other
      read reads

  pub next_known : read.before < length elements
  next_known = on_known elements (joined chunks) kept.chunks_kept.entries behind read.before next_on.0

  pub on_marked : (marks : List Bool) (x : ℕ) → is_marked marks read.before ≡ true
      → (element_at elements read.before).element ≡ x
      → IsMarkedBefore (list_of elements chunks fits) marks behind x read.before
  on_marked marks x marked is =
      let (next, lower) = next_on in
      let list = list_of elements chunks fits in
      let known = next_known in
      let name = name_is number_of elements chunks places newest kept fits read.before known in
      let high : next.number < length elements =
      subst (λ n. n < length elements) next.is_number (kept.chunks_kept.entries.known next.to next.there) in
      let before = (before_exactly number_of elements chunks places newest kept fits read.before next.number next.from
      next.to known high (omega (arith, lower, next.there)) next.there next.is_found next.is_number).0 lower in (
        omega (arith, known, length_arrived number_of elements chunks places newest kept fits),
        name ∙ is,
        marked,
        subst (λ (o : Option ℕ). IsBefore list o x) (sym next.is)
            (subst (λ (y : ℕ). IsBefore list (Some next.number) y) (name ∙ is) before),
      )

-- a number that is told if the element is the one that was asked for
pub told_if : (list : ElementList) (marks : List Bool) (behind : Option ℕ) (element x before : ℕ) (result : Option ℕ)
    → result ≡ then_some (element == x) before
    → (element ≡ x → IsMarkedBefore list marks behind x before) → IfSome result (IsMarkedBefore list marks behind x)
told_if list marks behind element x before result is marked = elim (cases_Bool (element == x)) [
  | inl same ↦
      subst (λ (o : Option ℕ). IfSome o (IsMarkedBefore list marks behind x))
      (sym (is ∙ ap (λ (b : Bool). then_some b before) same)) (marked (eqb-true element x same))
  | inr differ ↦
      subst (λ (o : Option ℕ). IfSome o (IsMarkedBefore list marks behind x))
      (sym (is ∙ ap (λ (b : Bool). then_some b before) differ)) tt
]
