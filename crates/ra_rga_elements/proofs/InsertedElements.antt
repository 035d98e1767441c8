-- Lemmas on an insertion, in terms of what the code reads and writes.
use Rattle.std.proofs.Common.{◌≡◌, ℕ, ◌+◌, ◌-◌, ◌<◌, Bool, true, List, [], ◌∷◌, ◌++◌, length, get_or, map, sym, ap, ◌∙◌}
use Rattle.std.proofs.Common.{subst, inl, inr, arith, Option, Result, Ok, Err}
use Rattle.std.specs.Prelude.{Contains, set, OnOk, IsOk}
use Rattle.std.specs.List.{insert}
use Rattle.std.proofs.lemmas.Bool.{false≢true, cases_lt}
use Rattle.std.proofs.lemmas.List.{get_or_read, length-map, ext_get_or, get_or-map, get_or_append_left, get_or_push, length_push}
use Rattle.ra_labels.specs.declared.label.Stamp.{Stamp}
use Rattle.ra_labels.specs.TheoremTerms.{elements_in}
use Rattle.ra_labels.specs.Late.{insert_late_after}
use Rattle.ra_rga_elements.specs.declared.entry.Entry.{Entry}
use Rattle.ra_rga_elements.specs.declared.element.Element.{Element}
use Rattle.ra_rga_elements.specs.declared.spot.Spot.{Spot}
use Rattle.ra_rga_elements.specs.Entries.{entry_at, numbers_in, IsNumberAt}
use Rattle.ra_rga_elements.specs.Chunk.{Chunk}
use Rattle.ra_rga_elements.specs.Chunks.{no_chunk, chunk_at, joined, offset, IsSpotFor}
use Rattle.ra_rga_elements.specs.Groups.{no_element, element_at}
use Rattle.ra_rga_elements.specs.Links.{IsLinked}
use Rattle.ra_rga_elements.specs.ElementList.{root, IsBelowByStamp}
use Rattle.ra_rga_elements.specs.Kept.{arrival_of, elements_by, have_room, ChunksKept, ElementListKept, place_at, place_of}
use Rattle.ra_rga_elements.proofs.JoinedChunks.{joined_set}
use Rattle.ra_rga_elements.proofs.ElementPlaces.{in_numbers, known_in_chunk}
use Rattle.ra_rga_elements.proofs.NewElements.{element_kept, stamp_kept, anchor_kept}
use Rattle.ra_rga_elements.proofs.NewEntries.{before_is, kept_entered}
use Rattle.ra_rga_elements.proofs.InsertionIndexes.{elements_with, put_in_all}
use Rattle.ra_rga_elements.proofs.ElementNumbers.{room_at}

-- the postcondition of a call that succeeds
pub on_ok : {T E P : Type 0} (r : Result T E) → OnOk r P → IsOk r → P
on_ok (Ok x) p is = p
on_ok (Err e) p is = absurd (false≢true is)

-- the anchor is in the chunk of its group
pub anchor_in : (elements : List Element) (chunks : List Chunk) (places : List ℕ) (newest : ℕ) (read : Element)
    (chunks_read : List Chunk) (place anchor : ℕ)
    → ChunksKept elements chunks places newest → anchor < length elements → read ≡ get_or elements anchor read
    → place ≡ get_or places read.group place
    → chunks_read ≡ chunks → Contains (numbers_in (chunk_at chunks_read place).entries) anchor
anchor_in elements chunks places newest read chunks_read place anchor kept known reads places_read same =
    let group : read.group ≡ (element_at elements anchor).group =
    ap (λ (e : Element). e.group) (get_or_read elements anchor read known reads no_element) in
    let there : read.group < length places = omega (arith, group, kept.placed.grouped anchor known) in
    let is : place ≡ place_of elements places anchor = get_or_read places read.group place there places_read 0
    ∙ ap (place_at places) group in
    subst (λ cs. Contains (numbers_in (chunk_at cs place).entries) anchor) (sym same)
    (subst (λ p. Contains (numbers_in (chunk_at chunks p).entries) anchor) (sym is) (kept.placed.stands anchor known))

module _ (number_of : ℕ → Option ℕ) (elements : List Element) (chunks : List Chunk) (places : List ℕ) (newest : ℕ)
    (kept : ElementListKept number_of elements chunks places newest) (anchor : ℕ) (stamp : Stamp) (spot : Spot)
    (found : IsSpotFor chunks anchor stamp spot)
    (read : Chunk) (before : ℕ) (reads : read ≡ get_or chunks spot.place read)
    (before_read : before ≡ (entry_at read.entries (spot.position - 1)).number) where
  abbrev here : Chunk
  here = chunk_at chunks spot.place

  before_here : before ≡ (entry_at here.entries (spot.position - 1)).number
  before_here = before_read ∙ ap (λ (h : Chunk). (entry_at h.entries (spot.position - 1)).number)
      (get_or_read chunks spot.place read found.there reads no_chunk)

  pub before_known : before < length elements
  before_known =
      subst (λ n. n < length elements) (sym before_here)
      (known_in_chunk elements chunks spot.place
      (entry_at here.entries (spot.position - 1)).number kept.chunks_kept.entries found.there
      (in_numbers here.entries (spot.position - 1) (omega (arith, found.behind, found.among))))

  module _ (x : ℕ) (next : Option ℕ) (at : IsNumberAt (joined chunks) (offset chunks spot.place + spot.position) next)
      (neighbour : Element)
      (neighbour_read : neighbour ≡ get_or elements before neighbour) (number : ℕ) (counted : number ≡ length elements)
      (target changed : Chunk)
      (target_read : target ≡ get_or chunks spot.place target)
      (made : changed.entries ≡ insert target.entries spot.position (record { number = number; stamp = stamp }))
      (after : List Element)
      (linked : IsLinked elements next
      (record { element = x; stamp = stamp; anchor = anchor; before = before; group = neighbour.group }) after)
      (known : anchor < length elements) where
    abbrev new : Element
    new = record { element = x; stamp = stamp; anchor = anchor; before = before; group = neighbour.group }

    abbrev one : Entry
    one = record { number = length elements; stamp = stamp }

    made_here : changed.entries ≡ insert here.entries spot.position one
    made_here =
        made
        ∙ ap (λ (h : Chunk). insert h.entries spot.position (record { number = number; stamp = stamp }))
        (get_or_read chunks spot.place target found.there target_read no_chunk)
        ∙ ap (λ n. insert here.entries spot.position (record { number = n; stamp = stamp })) counted

    group_is : neighbour.group ≡ (element_at elements (entry_at here.entries (spot.position - 1)).number).group
    group_is =
        ap (λ (e : Element). e.group) (get_or_read elements before neighbour before_known neighbour_read no_element)
        ∙ ap (λ n. (element_at elements n).group) before_here

    before_joined : before ≡ (entry_at (joined chunks) (offset chunks spot.place + spot.position - 1)).number
    before_joined =
        before_here
        ∙ sym (ap (λ (e : Entry). e.number)
        (before_is elements after next new linked chunks places newest spot.place spot.position changed
        kept.chunks_kept found.there found.behind found.among made_here))

    pub chunks_after : have_room chunks ≡ true → ChunksKept after (set chunks spot.place changed) places spot.place
    chunks_after room =
        kept_entered elements after next new linked chunks places newest spot.place spot.position changed
        kept.chunks_kept found.there found.behind found.among made_here
        group_is at before_joined known (room_at chunks room) found.index
        (omega (arith, found.past.behind)) found.is_anchor

    pub elements_after : (all : List (ℕ × Bool)) (below : ℕ → ℕ → Bool)
        → elements_in all ≡ elements_by elements (joined chunks)
        → IsBelowByStamp below x stamp (map arrival_of elements)
        → elements_by after (joined (set chunks spot.place changed))
        ≡ elements_in (insert_late_after below (element_at elements anchor).element x all)
    elements_after all below same says =
        let q = offset chunks spot.place + spot.position in
        ap (elements_by after)
        (joined_set chunks spot.place spot.position changed one found.there made_here found.among)
        ∙ elements_with elements after next new (joined chunks) q linked kept.chunks_kept.entries
        ∙ sym (put_in_all number_of elements (joined chunks) kept.numbers kept.chunks_kept.entries all same below x
        stamp says anchor found.index q known found.is_anchor found.past)

-- the arrivals, with the new element
pub arrivals_with : (elements after : List Element) (next : Option ℕ) (new : Element) → IsLinked elements next new after
    → map arrival_of after ≡ map arrival_of elements ++ arrival_of new ∷ []
arrivals_with elements after next new linked =
    let old = length-map elements arrival_of in
    let long = length_push (map arrival_of elements) (arrival_of new) in
    ext_get_or root (map arrival_of after) (map arrival_of elements ++ arrival_of new ∷ [])
    (length-map after arrival_of ∙ linked.one ∙ sym (long ∙ ap (λ n. n + 1) old)) (λ k there.
    let high : k < length after = omega (arith, length-map after arrival_of) in
    get_or-map arrival_of after k no_element root high ∙ elim (cases_lt k (length elements)) [
      | inl low ↦
          let same : arrival_of (element_at after k) ≡ arrival_of (element_at elements k) = λ i. record {
            element = element_kept elements after next new linked k low i;
            stamp = stamp_kept elements after next new linked k low i;
            anchor = anchor_kept elements after next new linked k low i;
          } in
          same ∙ sym (get_or_append_left (map arrival_of elements) (arrival_of new ∷ []) root k (omega (arith, old))
          ∙ get_or-map arrival_of elements k no_element root low)
      | inr past ↦
          let last : k ≡ length elements = omega (arith, linked.one) in
          ap (λ n. arrival_of (element_at after n)) last ∙ ap arrival_of linked.newest
          ∙ sym (ap (λ n. get_or (map arrival_of elements ++ arrival_of new ∷ []) n root) last
          ∙ get_or_push (map arrival_of elements) (arrival_of new) root (length elements) old)
    ])
