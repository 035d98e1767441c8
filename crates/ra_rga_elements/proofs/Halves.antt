-- Lemmas on a chunk that is split into two.
use Rattle.std.proofs.Common.{◌≡◌, ℕ, zero, suc, ◌+◌, ◌-◌, ◌<◌, ◌≤◌, List, [], ◌∷◌, ◌++◌, length, sym, ap, ◌∙◌, subst, inl, inr, arith, append_assoc}
use Rattle.std.specs.Prelude.{◌⊎◌, Contains, set, nat_lt}
use Rattle.std.specs.List.{insert}
use Rattle.std.proofs.lemmas.Bool.{cases_lt, cases_eq, cond-true, cond-false, lt-ltb, le-ltb}
use Rattle.std.proofs.lemmas.List.{length-set, map-append, get_or-set_same, get_or-set_other, get_or_append_left, get_or-append-add, length-append}
use Rattle.std.proofs.lemmas.List.Elements.{Contains-append_left, Contains-append_right, Contains-append_cases}
use Rattle.std.proofs.lemmas.List.Edits.{get_or-insert_below, get_or-insert_at, get_or-insert_above}
use Rattle.ra_labels.proofs.Halves.{halved, halved_is, length_halved}
use Rattle.ra_rga_elements.specs.declared.entry.Entry.{Entry}
use Rattle.ra_rga_elements.specs.declared.element.Element.{Element}
use Rattle.ra_rga_elements.specs.Entries.{no_entry, entry_at, numbers_in}
use Rattle.ra_rga_elements.specs.Chunk.{Chunk}
use Rattle.ra_rga_elements.specs.Chunks.{no_chunk, chunk_at, joined, offset}
use Rattle.ra_rga_elements.specs.Groups.{shifted}
use Rattle.ra_rga_elements.specs.Kept.{AreEntriesOf}
use Rattle.ra_rga_elements.proofs.JoinedChunks.{entry_joined, offset_within}
use Rattle.ra_rga_elements.proofs.ElementPlaces.{index_in}

pub shifted_low : (at place : ℕ) → place ≤ at → shifted at place ≡ place
shifted_low at place low = cond-false (nat_lt at place) (place + 1) place (le-ltb at place low)

pub shifted_high : (at place : ℕ) → at < place → shifted at place ≡ place + 1
shifted_high at place high = cond-true (nat_lt at place) (place + 1) place (lt-ltb at place high)

joined_chunks : (left right : Chunk) (chunks : List Chunk) (at : ℕ) → at < length chunks
    → left.entries ++ right.entries ≡ (chunk_at chunks at).entries
    → joined (halved chunks at left right) ≡ joined chunks
joined_chunks left right [] at there same = absurd (omega arith)
joined_chunks left right (chunk ∷ chunks) zero there same =
    sym (append_assoc left.entries right.entries (joined chunks)) ∙ ap (λ xs. xs ++ joined chunks) same
joined_chunks left right (chunk ∷ chunks) (suc at) there same =
    ap (λ xs. chunk.entries ++ xs) (joined_chunks left right chunks at (omega arith) same)

module _ (chunks : List Chunk) (at : ℕ) (left right : Chunk) (there : at < length chunks) where
  abbrev now : List Chunk
  now = insert (set chunks at left) (at + 1) right

  few : at + 1 ≤ length (set chunks at left)
  few = omega (arith, length-set chunks at left)

  pub length_split : length now ≡ length chunks + 1
  length_split = ap length (halved_is chunks at left right there) ∙ length_halved chunks at left right there

  pub left_at : chunk_at now at ≡ left
  left_at = get_or-insert_below (set chunks at left) (at + 1) right no_chunk at (omega arith) few
      ∙ get_or-set_same chunks at left no_chunk there

  pub right_at : chunk_at now (at + 1) ≡ right
  right_at = get_or-insert_at (set chunks at left) (at + 1) right no_chunk few

  pub other_at : (place : ℕ) → ¬ (place ≡ at) → chunk_at now (shifted at place) ≡ chunk_at chunks place
  other_at place differ = elim (cases_lt at place) [
    | inl high ↦
        ap (chunk_at now) (shifted_high at place high)
        ∙ get_or-insert_above (set chunks at left) (at + 1) right no_chunk place (omega arith) few
        ∙ get_or-set_other chunks at place left no_chunk differ
    | inr low ↦
        ap (chunk_at now) (shifted_low at place low)
        ∙ get_or-insert_below (set chunks at left) (at + 1) right no_chunk place (omega (arith, differ)) few
        ∙ get_or-set_other chunks at place left no_chunk differ
  ]

  -- the chunk at a place after the split
  pub data IsNow (place : ℕ) : Type 0 where
    Left : place ≡ at → chunk_at now place ≡ left → IsNow place
    Right : place ≡ at + 1 → chunk_at now place ≡ right → IsNow place
    Other : (old : ℕ) → ¬ (old ≡ at) → old < length chunks → place ≡ shifted at old
        → chunk_at now place ≡ chunk_at chunks old → IsNow place

  other_now : (place old : ℕ) → ¬ (old ≡ at) → old < length chunks → place ≡ shifted at old → IsNow place
  other_now place old differ low same = Other old differ low same (ap (chunk_at now) same ∙ other_at old differ)

  pub is_now : (place : ℕ) → place < length now → IsNow place
  is_now place high = elim (cases_lt place at) [
    | inl low ↦ other_now place place (λ e. omega (arith, e)) (omega arith) (sym (shifted_low at place (omega arith)))
    | inr from ↦ elim (cases_eq place at) [
      | inl same ↦ Left same (ap (chunk_at now) same ∙ left_at)
      | inr more ↦ elim (cases_eq place (at + 1)) [
        | inl next ↦ Right next (ap (chunk_at now) next ∙ right_at)
        | inr behind ↦
            let old : ℕ = place - 1 in
            let past : at < old = omega (arith, more, behind) in
            let back : place ≡ old + 1 = omega (arith, more, behind) in
            other_now place old (λ e. omega (arith, e)) (omega (arith, length_split))
            (back ∙ sym (shifted_high at old past))
      ]
    ]
  ]

  module _ (halves : left.entries ++ right.entries ≡ (chunk_at chunks at).entries) where
    pub joined_split : joined now ≡ joined chunks
    joined_split = ap joined (halved_is chunks at left right there) ∙ joined_chunks left right chunks at there halves

    numbers_halves : numbers_in (chunk_at chunks at).entries ≡ numbers_in left.entries ++ numbers_in right.entries
    numbers_halves = ap numbers_in (sym halves) ∙ map-append (λ (e : Entry). e.number) left.entries right.entries

    pub left_in : (n : ℕ) → Contains (numbers_in left.entries) n → Contains (numbers_in (chunk_at chunks at).entries) n
    left_in n among = subst (λ ns. Contains ns n) (sym numbers_halves)
        (Contains-append_left (numbers_in left.entries) (numbers_in right.entries) n among)

    pub right_in : (n : ℕ) → Contains (numbers_in right.entries) n
        → Contains (numbers_in (chunk_at chunks at).entries) n
    right_in n among = subst (λ ns. Contains ns n) (sym numbers_halves)
        (Contains-append_right (numbers_in left.entries) (numbers_in right.entries) n among)

    pub half_of : (n : ℕ) → Contains (numbers_in (chunk_at chunks at).entries) n
        → Contains (numbers_in left.entries) n ⊎ Contains (numbers_in right.entries) n
    half_of n among = Contains-append_cases (numbers_in left.entries) (numbers_in right.entries) n
        (subst (λ ns. Contains ns n) numbers_halves among)

    length_halves : length left.entries + length right.entries ≡ length (chunk_at chunks at).entries
    length_halves = sym (length-append left.entries right.entries) ∙ ap (λ (es : List Entry). length es) halves

    number_left : (k : ℕ) → k < length left.entries
        → entry_at (joined chunks) (offset chunks at + k) ≡ entry_at left.entries k
    number_left k low =
        entry_joined chunks at k there (omega (arith, length_halves))
        ∙ ap (λ es. entry_at es k) (sym halves)
        ∙ get_or_append_left left.entries right.entries no_entry k low

    number_right : (k : ℕ) → k < length right.entries
        → entry_at (joined chunks) (offset chunks at + (length left.entries + k)) ≡ entry_at right.entries k
    number_right k low =
        entry_joined chunks at (length left.entries + k) there (omega (arith, length_halves))
        ∙ ap (λ es. entry_at es (length left.entries + k)) (sym halves)
        ∙ get_or-append-add left.entries right.entries k no_entry

    -- no element is in both halves
    pub not_both : (elements : List Element) (n : ℕ) → AreEntriesOf elements (joined chunks)
        → Contains (numbers_in left.entries) n → ¬ Contains (numbers_in right.entries) n
    not_both elements n of in_left in_right =
        let l = index_in left.entries n in_left in
        let r = index_in right.entries n in_right in
        of.distinct (offset chunks at + l.0) (offset chunks at + (length left.entries + r.0)) (omega (arith, l.1))
        (omega (arith, r.1, length_halves, offset_within chunks at there))
        (ap (λ (e : Entry). e.number) (number_left l.0 l.1) ∙ l.2
        ∙ sym (ap (λ (e : Entry). e.number) (number_right r.0 r.1) ∙ r.2))
