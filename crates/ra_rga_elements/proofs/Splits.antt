-- Lemmas on the result of splitting the chunk with the newest element.
use Rattle.std.proofs.Common.{◌≡◌, ℕ, ◌+◌, ◌-◌, ◌<◌, ◌≤◌, true, List, [], ◌∷◌, ◌++◌, length, get_or, map, sym, ap, ◌∙◌, subst, inl, inr, arith}
use Rattle.std.specs.Prelude.{◌⊎◌, Contains, set}
use Rattle.std.specs.List.{insert}
use Rattle.std.proofs.lemmas.Bool.{cases_lt, cases_eq}
use Rattle.std.proofs.lemmas.List.{get_or_read, get_or_default, length-map, length_push, get_or-map, get_or_append_left, get_or_push}
use Rattle.ra_rga_elements.specs.declared.entry.Entry.{Entry}
use Rattle.ra_rga_elements.specs.declared.element.Element.{Element}
use Rattle.ra_rga_elements.specs.Entries.{no_entry, entry_at, numbers_in}
use Rattle.ra_rga_elements.specs.Chunk.{Chunk}
use Rattle.ra_rga_elements.specs.Chunks.{no_chunk, chunk_at, joined, IsSplit}
use Rattle.ra_rga_elements.specs.Groups.{element_at, shifted, IsRegrouped, AreSameButGroups}
use Rattle.ra_rga_elements.specs.Kept.{have_room, AreEntriesOf, AreLinked, AreBehindAnchors, place_at, place_of, ChunksKept}
use Rattle.ra_rga_elements.proofs.ElementPlaces.{in_numbers, known_in_chunk}
use Rattle.ra_rga_elements.proofs.ElementNumbers.{room_all}
use Rattle.ra_rga_elements.proofs.Halves.{shifted_low, shifted_high, length_split, left_at, right_at, other_at, IsNow}
use Rattle.ra_rga_elements.proofs.Halves.{Left, Right, Other, is_now, joined_split, left_in, right_in, half_of}
use Rattle.ra_rga_elements.proofs.Halves.{not_both}
use Rattle.ra_rga_elements.proofs.ElementGroups.{entries_same, links_same, behind_same, anchors_same}

pub same_but_groups : (elements new : List Element) (entries : List Entry) (group : ℕ)
    → IsRegrouped elements entries group new → AreSameButGroups elements new
same_but_groups elements new entries group regrouped = record { same = regrouped.same; kept = regrouped.kept }

module _ (elements after : List Element) (chunks : List Chunk) (places : List ℕ) (at : ℕ) (left right : Chunk)
    (kept : ChunksKept elements chunks places at)
    (halves : left.entries ++ right.entries ≡ (chunk_at chunks at).entries) (left_some : 0 < length left.entries)
    (right_some : 0 < length right.entries)
    (left_room : 0 < left.room) (right_room : 0 < right.room)
    (regrouped : IsRegrouped elements right.entries (length places) after) where
  abbrev chunks_now : List Chunk
  chunks_now = insert (set chunks at left) (at + 1) right

  abbrev places_now : List ℕ
  places_now = map (shifted at) places ++ (at + 1) ∷ []

  many : length chunks_now ≡ length chunks + 1
  many = length_split chunks at left right kept.there

  shifted_few : (place : ℕ) → place < length chunks → shifted at place < length chunks + 1
  shifted_few place low = elim (cases_lt at place) [
    | inl high ↦ omega (arith, shifted_high at place high)
    | inr under ↦ omega (arith, shifted_low at place under)
  ]

  length_places : length places_now ≡ length places + 1
  length_places = length_push (map (shifted at) places) (at + 1) ∙ ap (λ n. n + 1) (length-map places (shifted at))

  place_old : (group : ℕ) → group < length places → place_at places_now group ≡ shifted at (place_at places group)
  place_old group low =
      get_or_append_left (map (shifted at) places) ((at + 1) ∷ []) 0 group
      (omega (arith, length-map places (shifted at)))
      ∙ get_or-map (shifted at) places group 0 0 low

  place_new : place_at places_now (length places) ≡ at + 1
  place_new = get_or_push (map (shifted at) places) (at + 1) 0 (length places) (length-map places (shifted at))

  -- the elements that moved, and those that stayed
  moved : (n : ℕ) → Contains (numbers_in right.entries) n → place_of after places_now n ≡ at + 1
  moved n among = ap (place_at places_now) (regrouped.moved n among) ∙ place_new

  stayed : (n : ℕ) → n < length elements → ¬ Contains (numbers_in right.entries) n
      → place_of after places_now n ≡ shifted at (place_of elements places n)
  stayed n low none = ap (place_at places_now) (regrouped.others n none)
      ∙ place_old (element_at elements n).group (kept.placed.grouped n low)

  elsewhere : (n : ℕ) → ¬ (place_of elements places n ≡ at) → ¬ Contains (numbers_in right.entries) n
  elsewhere n differ among =
      differ (kept.placed.only at n kept.there (right_in chunks at left right kept.there halves n among))

  left_only : (n : ℕ) → Contains (numbers_in left.entries) n → ¬ Contains (numbers_in right.entries) n
  left_only n among = not_both chunks at left right kept.there halves elements n kept.entries among

  known : (place n : ℕ) → place < length chunks → Contains (numbers_in (chunk_at chunks place).entries) n
      → n < length elements
  known place n low among = known_in_chunk elements chunks place n kept.entries low among

  left_place : (n : ℕ) → Contains (numbers_in left.entries) n → place_of after places_now n ≡ at
  left_place n among =
      let here = left_in chunks at left right kept.there halves n among in
      stayed n (known at n kept.there here) (left_only n among)
      ∙ ap (shifted at) (kept.placed.only at n kept.there here)
      ∙ shifted_low at at (omega arith)

  other_place : (place n : ℕ) → ¬ (place ≡ at) → place < length chunks
      → Contains (numbers_in (chunk_at chunks place).entries) n → place_of after places_now n ≡ shifted at place
  other_place place n differ low among =
      let is = kept.placed.only place n low among in
      stayed n (known place n low among) (elsewhere n (λ e. differ (sym is ∙ e))) ∙ ap (shifted at) is

  -- an element moved to the right half or did not
  side : (n : ℕ) → n < length elements → Contains (numbers_in right.entries) n ⊎ ¬ Contains (numbers_in right.entries) n
  side n low = elim (cases_eq (place_of elements places n) at) [
    | inl here ↦
        elim (half_of chunks at left right kept.there halves n
        (subst (λ p. Contains (numbers_in (chunk_at chunks p).entries) n) here (kept.placed.stands n low))) [
          | inl in_left ↦ inr (left_only n in_left)
          | inr in_right ↦ inl in_right
        ]
    | inr away ↦ inr (elsewhere n away)
  ]

  stands_in : (n place : ℕ) (chunk : Chunk) → place_of after places_now n ≡ place → chunk_at chunks_now place ≡ chunk
      → Contains (numbers_in chunk.entries) n
      → Contains (numbers_in (chunk_at chunks_now (place_of after places_now n)).entries) n
  stands_in n place chunk is has among =
      subst (λ p. Contains (numbers_in (chunk_at chunks_now p).entries) n) (sym is)
      (subst (λ (h : Chunk). Contains (numbers_in h.entries) n) (sym has) among)

  stands_now : (n : ℕ) → n < length elements
      → Contains (numbers_in (chunk_at chunks_now (place_of after places_now n)).entries) n
  stands_now n low = elim (cases_eq (place_of elements places n) at) [
    | inl here ↦
        elim (half_of chunks at left right kept.there halves n
        (subst (λ p. Contains (numbers_in (chunk_at chunks p).entries) n) here (kept.placed.stands n low))) [
          | inl in_left ↦ stands_in n at left (left_place n in_left) (left_at chunks at left right kept.there) in_left
          | inr in_right ↦ stands_in n (at + 1) right (moved n in_right)
              (right_at chunks at left right kept.there) in_right
        ]
    | inr away ↦
        let place = place_of elements places n in
        stands_in n (shifted at place) (chunk_at chunks place) (stayed n low (elsewhere n away))
        (other_at chunks at left right kept.there place away) (kept.placed.stands n low)
  ]

  only_from : (place n : ℕ) → IsNow chunks at left right kept.there place
      → Contains (numbers_in (chunk_at chunks_now place).entries) n → place_of after places_now n ≡ place
  only_from place n (Left same is) among =
      left_place n (subst (λ (h : Chunk). Contains (numbers_in h.entries) n) is among) ∙ sym same
  only_from place n (Right same is) among =
      moved n (subst (λ (h : Chunk). Contains (numbers_in h.entries) n) is among) ∙ sym same
  only_from place n (Other old differ low same is) among =
      other_place old n differ low (subst (λ (h : Chunk). Contains (numbers_in h.entries) n) is among) ∙ sym same

  grouped_now : (n : ℕ) → n < length elements → (element_at after n).group < length places_now
  grouped_now n low = elim (side n low) [
    | inl in_right ↦ omega (arith, regrouped.moved n in_right, length_places)
    | inr stays ↦ omega (arith, regrouped.others n stays, kept.placed.grouped n low, length_places)
  ]

  inside_now : (group : ℕ) → group < length places_now → place_at places_now group < length chunks_now
  inside_now group high = elim (cases_lt group (length places)) [
    | inl low ↦
        omega (arith, place_old group low, shifted_few (place_at places group) (kept.placed.inside group low), many)
    | inr past ↦
        let last : group ≡ length places = omega (arith, length_places) in
        omega (arith, ap (place_at places_now) last ∙ place_new, kept.there, many)
  ]

  filled_from : (place : ℕ) → IsNow chunks at left right kept.there place
      → 0 < length (chunk_at chunks_now place).entries
  filled_from place (Left same is) = subst (λ (h : Chunk). 0 < length h.entries) (sym is) left_some
  filled_from place (Right same is) = subst (λ (h : Chunk). 0 < length h.entries) (sym is) right_some
  filled_from place (Other old differ low same is) =
      subst (λ (h : Chunk). 0 < length h.entries) (sym is) (kept.filled old low)

  room_from : (place : ℕ) → IsNow chunks at left right kept.there place → 0 < (chunk_at chunks_now place).room
  room_from place (Left same is) = subst (λ (h : Chunk). 0 < h.room) (sym is) left_room
  room_from place (Right same is) = subst (λ (h : Chunk). 0 < h.room) (sym is) right_room
  room_from place (Other old differ low same is) = subst (λ (h : Chunk). 0 < h.room) (sym is) (kept.room old low differ)

  pub room_now : (place : ℕ) → place < length chunks_now → 0 < (chunk_at chunks_now place).room
  room_now place low = room_from place (is_now chunks at left right kept.there place low)

  pub kept_now : ChunksKept after chunks_now places_now at
  kept_now =
      let same = same_but_groups elements after right.entries (length places) regrouped in
      let joins = joined_split chunks at left right kept.there halves in
      record {
        some = omega (arith, kept.some, regrouped.same);
        anchored = anchors_same elements after same kept.anchored;
        entries = subst (AreEntriesOf after) (sym joins)
            (entries_same elements after same (joined chunks) kept.entries);
        linked = subst (AreLinked after) (sym joins) (links_same elements after same (joined chunks) kept.linked);
        behind = subst (AreBehindAnchors after) (sym joins)
            (behind_same elements after same (joined chunks) kept.behind);
        placed = record {
          grouped = λ n high. grouped_now n (omega (arith, regrouped.same));
          inside = inside_now;
          stands = λ n high. stands_now n (omega (arith, regrouped.same));
          only = λ place n low among. only_from place n (is_now chunks at left right kept.there place low) among;
        };
        filled = λ place low. filled_from place (is_now chunks at left right kept.there place low);
        there = omega (arith, kept.there, many);
        room = λ place low differ. room_now place low;
      }

-- the same in terms of what the code reads and writes
module _ (elements : List Element) (chunks now : List Chunk) (places : List ℕ) (at : ℕ)
    (kept : ChunksKept elements chunks places at) (split : IsSplit chunks at now) where
  pub places_under : (k d : ℕ) → k < length places → get_or places k d ≤ length now - 2
  places_under k d low =
      omega (
        arith,
        get_or_default places k d 0 low,
        kept.placed.inside k low,
        ap
            (λ (cs : List Chunk). length cs) split.made,
        length_split chunks at split.left split.right kept.there,
      )

  module _ (read : Chunk) (entries : List Entry) (reads : read ≡ get_or now (at + 1) read)
      (of : entries ≡ read.entries) where
    there_now : at + 1 < length now
    there_now =
        omega (
          arith,
          kept.there,
          ap (λ (cs : List Chunk). length cs) split.made,
          length_split chunks at split.left
              split.right kept.there,
        )

    right_is : entries ≡ split.right.entries
    right_is =
        of
        ∙ ap (λ (h : Chunk). h.entries) (get_or_read now (at + 1) read there_now reads no_chunk
        ∙ ap (λ cs. chunk_at cs (at + 1)) split.made ∙ right_at chunks at split.left split.right kept.there)

    pub right_known : (k : ℕ) (d : Entry) → k < length entries → (get_or entries k d).number < length elements
    right_known k d low =
        subst (λ (e : Entry). e.number < length elements) (get_or_default entries k no_entry d low)
        (known_in_chunk elements chunks at (entry_at entries k).number kept.entries kept.there
        (right_in chunks at split.left split.right kept.there split.entries (entry_at entries k).number
        (subst (λ es. Contains (numbers_in es) (entry_at entries k).number) right_is (in_numbers entries k low))))

    module _ (after : List Element) (regrouped : IsRegrouped elements entries (length places) after) where
      regrouped_right : IsRegrouped elements split.right.entries (length places) after
      regrouped_right = subst (λ es. IsRegrouped elements es (length places) after) right_is regrouped

      pub split_kept : (places_after : List ℕ) → places_after ≡ map (shifted at) places ++ (at + 1) ∷ []
          → ChunksKept after now places_after at
      split_kept places_after shifts =
          subst (λ ps. ChunksKept after now ps at) (sym shifts)
          (subst (λ cs. ChunksKept after cs (map (shifted at) places ++ (at + 1) ∷ []) at) (sym split.made)
          (kept_now elements after chunks places at split.left split.right kept split.entries split.left_some
          split.right_some split.left_room split.right_room regrouped_right))

      pub split_room : have_room now ≡ true
      split_room =
          room_all now (subst (λ cs. (place : ℕ) → place < length cs → 0 < (chunk_at cs place).room) (sym split.made)
          (room_now elements after chunks places at split.left split.right kept split.entries split.left_some
          split.right_some split.left_room split.right_room regrouped_right))

  pub split_joined : joined now ≡ joined chunks
  split_joined = ap joined split.made ∙ joined_split chunks at split.left split.right kept.there split.entries

-- there is room in all chunks if there is room in the chunk with the newest element
pub room_already : (elements : List Element) (chunks : List Chunk) (places : List ℕ) (at : ℕ) (read : Chunk)
    → ChunksKept elements chunks places at → read ≡ get_or chunks at read
    → 0 < read.room → have_room chunks ≡ true
room_already elements chunks places at read kept reads some =
    room_all chunks (λ place low. elim (cases_eq place at) [
      | inl same ↦
          subst (λ p. 0 < (chunk_at chunks p).room) (sym same)
          (subst (λ (h : Chunk). 0 < h.room) (get_or_read chunks at read kept.there reads no_chunk) some)
      | inr differ ↦ kept.room place low differ
    ])
