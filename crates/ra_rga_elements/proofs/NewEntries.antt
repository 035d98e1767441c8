-- Lemmas on one more element in its chunk.
use Rattle.std.proofs.Common.{◌≡◌, ℕ, ◌+◌, ◌-◌, ◌<◌, ◌≤◌, List, length, sym, ap, ◌∙◌, subst, inl, inr, arith, Option}
use Rattle.std.specs.Prelude.{Contains, set}
use Rattle.std.specs.List.{insert}
use Rattle.std.proofs.lemmas.Bool.{cases_lt, cases_eq}
use Rattle.std.proofs.lemmas.List.{length-set, get_or-set_same, get_or-set_other}
use Rattle.std.proofs.lemmas.List.Edits.{length-insert}
use Rattle.ra_rga_elements.specs.declared.entry.Entry.{Entry}
use Rattle.ra_rga_elements.specs.declared.element.Element.{Element}
use Rattle.ra_rga_elements.specs.Entries.{entry_at, numbers_in, IsNumberAt}
use Rattle.ra_rga_elements.specs.Chunk.{Chunk}
use Rattle.ra_rga_elements.specs.Chunks.{no_chunk, chunk_at, joined, offset, AreFilled}
use Rattle.ra_rga_elements.specs.Groups.{element_at}
use Rattle.ra_rga_elements.specs.Links.{IsLinked}
use Rattle.ra_rga_elements.specs.Kept.{AreEntriesOf, AreLinked, AreBehindAnchors, ArePlaced, place_at, place_of, ChunksKept}
use Rattle.ra_rga_elements.proofs.Members.{map-insert, new_in_insert, old_in_insert, insert_cases}
use Rattle.ra_rga_elements.proofs.JoinedChunks.{entry_joined, offset_within, joined_set}
use Rattle.ra_rga_elements.proofs.ElementPlaces.{in_numbers, known_in_chunk}
use Rattle.ra_rga_elements.proofs.NewElements.{group_kept, anchor_kept, entries_entered, links_entered, behind_entered}

-- the chunk at the place that is set, and at another one
pub chunk_set_here : (chunks : List Chunk) (place : ℕ) (chunk : Chunk) → place < length chunks
    → chunk_at (set chunks place chunk) place ≡ chunk
chunk_set_here chunks place chunk there = get_or-set_same chunks place chunk no_chunk there

pub chunk_set_other : (chunks : List Chunk) (place other : ℕ) (chunk : Chunk) → ¬ (other ≡ place)
    → chunk_at (set chunks place chunk) other ≡ chunk_at chunks other
chunk_set_other chunks place other chunk differ = get_or-set_other chunks place other chunk no_chunk differ

module _ (elements after : List Element) (next : Option ℕ) (new : Element) (linked : IsLinked elements next new after)
    (chunks : List Chunk) (places : List ℕ) (newest place position : ℕ) (chunk : Chunk)
    (kept : ChunksKept elements chunks places newest)
    (there : place < length chunks) (some : 0 < position) (few : position ≤ length (chunk_at chunks place).entries)
    (made : chunk.entries ≡ insert (chunk_at chunks place).entries position
    (record { number = length elements; stamp = new.stamp })) where
  abbrev one : Entry
  one = record { number = length elements; stamp = new.stamp }

  abbrev now : List Chunk
  now = set chunks place chunk

  -- the element before the new one
  abbrev pub index_before : ℕ
  index_before = offset chunks place + position - 1

  pub before_is : entry_at (joined chunks) index_before ≡ entry_at (chunk_at chunks place).entries (position - 1)
  before_is =
      let same : index_before ≡ offset chunks place + (position - 1) = omega arith in
      ap (entry_at (joined chunks)) same ∙ entry_joined chunks place (position - 1) there (omega arith)

  numbers_here : numbers_in chunk.entries ≡ insert (numbers_in (chunk_at chunks place).entries) position
      (length elements)
  numbers_here = ap numbers_in made ∙ map-insert (λ (e : Entry). e.number) (chunk_at chunks place).entries position one

  new_here : Contains (numbers_in (chunk_at now place).entries) (length elements)
  new_here =
      subst (λ (h : Chunk). Contains (numbers_in h.entries) (length elements))
      (sym (chunk_set_here chunks place chunk there))
      (subst (λ ns. Contains ns (length elements)) (sym numbers_here)
      (new_in_insert (numbers_in (chunk_at chunks place).entries) position (length elements)))

  old_here : (n : ℕ) → Contains (numbers_in (chunk_at chunks place).entries) n
      → Contains (numbers_in (chunk_at now place).entries) n
  old_here n among =
      subst (λ (h : Chunk). Contains (numbers_in h.entries) n) (sym (chunk_set_here chunks place chunk there))
      (subst (λ ns. Contains ns n) (sym numbers_here)
      (old_in_insert (numbers_in (chunk_at chunks place).entries) position (length elements) n among))

  old_there : (other n : ℕ) → Contains (numbers_in (chunk_at chunks other).entries) n
      → Contains (numbers_in (chunk_at now other).entries) n
  old_there other n among = elim (cases_eq other place) [
    | inl same ↦ subst (λ p. Contains (numbers_in (chunk_at now p).entries) n) (sym same)
        (old_here n (subst (λ p. Contains (numbers_in (chunk_at chunks p).entries) n) same among))
    | inr differ ↦ subst (λ (h : Chunk). Contains (numbers_in h.entries) n)
        (sym (chunk_set_other chunks place other chunk differ)) among
  ]

  module _ (group : new.group
      ≡ (element_at elements (entry_at (chunk_at chunks place).entries (position - 1)).number).group) where
    in_chunk : Contains (numbers_in (chunk_at chunks place).entries)
        (entry_at (chunk_at chunks place).entries (position - 1)).number
    in_chunk = in_numbers (chunk_at chunks place).entries (position - 1) (omega arith)

    place_kept : (n : ℕ) → n < length elements → place_of after places n ≡ place_of elements places n
    place_kept n low = ap (place_at places) (group_kept elements after next new linked n low)

    place_new : place_of after places (length elements) ≡ place
    place_new =
        ap (λ (e : Element). place_at places e.group) linked.newest
        ∙ ap (place_at places) group
        ∙ kept.placed.only place (entry_at (chunk_at chunks place).entries (position - 1)).number there in_chunk

    is_known : (other n : ℕ) → other < length chunks → Contains (numbers_in (chunk_at chunks other).entries) n
        → n < length elements
    is_known other n high among = known_in_chunk elements chunks other n kept.entries high among

    grouped_now : (n : ℕ) → n < length after → (element_at after n).group < length places
    grouped_now n high = elim (cases_lt n (length elements)) [
      | inl low ↦ subst (λ g. g < length places) (sym (group_kept elements after next new linked n low))
          (kept.placed.grouped n low)
      | inr past ↦
          let last : n ≡ length elements = omega (arith, linked.one) in
          let b = (entry_at (chunk_at chunks place).entries (position - 1)).number in
          subst (λ m. (element_at after m).group < length places) (sym last)
          (subst (λ g. g < length places) (sym (ap (λ (e : Element). e.group) linked.newest ∙ group))
          (kept.placed.grouped b (is_known place b there in_chunk)))
    ]

    stands_now : (n : ℕ) → n < length after → Contains (numbers_in (chunk_at now (place_of after places n)).entries) n
    stands_now n high = elim (cases_lt n (length elements)) [
      | inl low ↦
          subst (λ p. Contains (numbers_in (chunk_at now p).entries) n) (sym (place_kept n low))
          (old_there (place_of elements places n) n (kept.placed.stands n low))
      | inr past ↦
          let last : n ≡ length elements = omega (arith, linked.one) in
          subst (λ m. Contains (numbers_in (chunk_at now (place_of after places m)).entries) m) (sym last)
          (subst (λ p. Contains (numbers_in (chunk_at now p).entries) (length elements)) (sym place_new) new_here)
    ]

    only_old : (other n : ℕ) → other < length chunks → Contains (numbers_in (chunk_at chunks other).entries) n
        → place_of after places n ≡ other
    only_old other n high among = place_kept n (is_known other n high among) ∙ kept.placed.only other n high among

    only_now : (other n : ℕ) → other < length now → Contains (numbers_in (chunk_at now other).entries) n
        → place_of after places n ≡ other
    only_now other n high among = elim (cases_eq other place) [
      | inl same ↦
          let here =
          subst (λ ns. Contains ns n) (ap (λ p. numbers_in (chunk_at now p).entries) same
          ∙ ap (λ (h : Chunk). numbers_in h.entries) (chunk_set_here chunks place chunk there)
          ∙ numbers_here) among in
          elim (insert_cases (numbers_in (chunk_at chunks place).entries) position (length elements) n here) [
            | inl old ↦ only_old place n there old ∙ sym same
            | inr this ↦ ap (place_of after places) (sym this) ∙ place_new ∙ sym same
          ]
      | inr differ ↦
          only_old other n (omega (arith, length-set chunks place chunk))
          (subst (λ (h : Chunk). Contains (numbers_in h.entries) n)
          (chunk_set_other chunks place other chunk differ) among)
    ]

    placed_now : ArePlaced after now places
    placed_now = record {
      grouped = grouped_now;
      inside = λ g high. omega (arith, length-set chunks place chunk, kept.placed.inside g high);
      stands = stands_now;
      only = only_now;
    }

    filled_now : AreFilled now
    filled_now = λ other high. elim (cases_eq other place) [
      | inl same ↦
          subst (λ p. 0 < length (chunk_at now p).entries) (sym same)
          (subst (λ (h : Chunk). 0 < length h.entries) (sym (chunk_set_here chunks place chunk there))
          (omega (
            arith,
            ap (λ (es : List Entry). length es) made,
            length-insert
                (chunk_at chunks place).entries position one few,
          )))
      | inr differ ↦
          subst (λ (h : Chunk). 0 < length h.entries) (sym (chunk_set_other chunks place other chunk differ))
          (kept.filled other (omega (arith, length-set chunks place chunk)))
    ]

    pub kept_entered : IsNumberAt (joined chunks) (offset chunks place + position) next
        → new.before ≡ (entry_at (joined chunks) (offset chunks place + position - 1)).number
        → new.anchor < length elements
        → ((other : ℕ) → other < length chunks → 0 < (chunk_at chunks other).room) → (index : ℕ)
        → index < offset chunks place + position
        → (entry_at (joined chunks) index).number ≡ new.anchor → ChunksKept after now places place
    kept_entered at before anchor room index low is =
        let joined_now = joined_set chunks place position chunk one there made few in
        let q = offset chunks place + position in
        let inside : q ≤ length (joined chunks) = omega (arith, offset_within chunks place there) in
        let q_some : 0 < q = omega arith in
        record {
          some = omega (arith, linked.one);
          anchored = λ n high. elim (cases_lt n (length elements)) [
            | inl low ↦ omega (arith, anchor_kept elements after next new linked n low, kept.anchored n low, linked.one)
            | inr past ↦
                let last : n ≡ length elements = omega (arith, linked.one) in
                omega (
                  arith,
                  ap (λ m. (element_at after m).anchor) last,
                  ap
                      (λ (e : Element). e.anchor) linked.newest,
                  linked.one,
                )
          ];
          entries = subst (AreEntriesOf after) (sym joined_now)
              (entries_entered elements after next new linked (joined chunks) q kept.entries q_some inside);
          linked = subst (AreLinked after) (sym joined_now)
              (links_entered elements after next new linked
              (joined chunks) q kept.entries q_some inside kept.linked at before);
          behind = subst (AreBehindAnchors after) (sym joined_now)
              (behind_entered elements after next new linked
              (joined chunks) q kept.entries q_some inside kept.behind index low is);
          placed = placed_now;
          filled = filled_now;
          there = omega (arith, length-set chunks place chunk);
          room = λ other high differ.
              subst (λ (h : Chunk). 0 < h.room) (sym (chunk_set_other chunks place other chunk differ))
              (room other (omega (arith, length-set chunks place chunk)));
        }
