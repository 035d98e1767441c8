-- Lemmas on concatenated chunks and their elements.
use Rattle.std.proofs.Common.{◌≡◌, ℕ, zero, suc, ◌+◌, ◌-◌, ◌<◌, ◌≤◌, List, [], ◌∷◌, ◌++◌, length, refl, sym, ap, ◌∙◌, arith, length-append}
use Rattle.std.specs.Prelude.{set}
use Rattle.std.specs.List.{insert}
use Rattle.std.proofs.lemmas.List.{get_or-append-add, get_or_append_left}
use Rattle.std.proofs.lemmas.List.Edits.{insert-append_left, insert-append_right}
use Rattle.ra_rga_elements.specs.declared.entry.Entry.{Entry}
use Rattle.ra_rga_elements.specs.Entries.{no_entry, entry_at}
use Rattle.ra_rga_elements.specs.Chunk.{Chunk}
use Rattle.ra_rga_elements.specs.Chunks.{chunk_at, joined, offset}

-- an element of a chunk, at its index in the whole list
pub entry_joined : (chunks : List Chunk) (place k : ℕ) → place < length chunks
    → k < length (chunk_at chunks place).entries
    → entry_at (joined chunks) (offset chunks place + k) ≡ entry_at (chunk_at chunks place).entries k
entry_joined [] place k there inside = absurd (omega arith)
entry_joined (chunk ∷ chunks) zero k there inside =
    ap (λ n. entry_at (chunk.entries ++ joined chunks) n) (zero_more k)
    ∙ get_or_append_left chunk.entries (joined chunks) no_entry k inside
  where
    zero_more : (n : ℕ) → 0 + n ≡ n
    zero_more n = omega arith
entry_joined (chunk ∷ chunks) (suc place) k there inside =
    let same : length chunk.entries + offset chunks place + k ≡ length chunk.entries + (offset chunks place + k) =
    omega arith in
    ap (λ n. entry_at (chunk.entries ++ joined chunks) n) same
    ∙ get_or-append-add chunk.entries (joined chunks) (offset chunks place + k) no_entry
    ∙ entry_joined chunks place k (omega arith) inside

offset_suc : (chunks : List Chunk) (place : ℕ) → place < length chunks
    → offset chunks (suc place) ≡ offset chunks place + length (chunk_at chunks place).entries
offset_suc [] place there = absurd (omega arith)
offset_suc (chunk ∷ []) zero there = omega arith
offset_suc (chunk ∷ (next ∷ chunks)) zero there = omega arith
offset_suc (chunk ∷ chunks) (suc place) there = omega (arith, offset_suc chunks place (omega arith))

pub offset_next : (chunks : List Chunk) (place : ℕ) → place < length chunks
    → offset chunks (place + 1) ≡ offset chunks place + length (chunk_at chunks place).entries
offset_next chunks place there =
    let next : place + 1 ≡ suc place = omega arith in
    ap (offset chunks) next ∙ offset_suc chunks place there

pub offset_within : (chunks : List Chunk) (place : ℕ) → place < length chunks
    → offset chunks place + length (chunk_at chunks place).entries ≤ length (joined chunks)
offset_within [] place there = absurd (omega arith)
offset_within (chunk ∷ chunks) zero there = omega (arith, length-append chunk.entries (joined chunks))
offset_within (chunk ∷ chunks) (suc place) there =
    omega (arith, length-append chunk.entries (joined chunks), offset_within chunks place (omega arith))

pub offset_last : (chunks : List Chunk) (place : ℕ) → place < length chunks → length chunks ≤ place + 1
    → offset chunks place + length (chunk_at chunks place).entries ≡ length (joined chunks)
offset_last [] place there last = absurd (omega arith)
offset_last (chunk ∷ []) zero there last = omega (arith, length-append chunk.entries [])
offset_last (chunk ∷ (next ∷ chunks)) zero there last = absurd (omega arith)
offset_last (chunk ∷ chunks) (suc place) there last =
    omega (arith, length-append chunk.entries (joined chunks), offset_last chunks place (omega arith) (omega arith))

-- inserting into a chunk inserts into the whole list
pub joined_set : (chunks : List Chunk) (place p : ℕ) (new : Chunk) (e : Entry) → place < length chunks
    → new.entries ≡ insert (chunk_at chunks place).entries p e
    → p ≤ length (chunk_at chunks place).entries
    → joined (set chunks place new) ≡ insert (joined chunks) (offset chunks place + p) e
joined_set [] place p new e there made few = absurd (omega arith)
joined_set (chunk ∷ chunks) zero p new e there made few =
    let same : p ≡ 0 + p = omega arith in
    ap (λ xs. xs ++ joined chunks) made
    ∙ sym (insert-append_left chunk.entries (joined chunks) p e few)
    ∙ ap (λ k. insert (chunk.entries ++ joined chunks) k e) same
joined_set (chunk ∷ chunks) (suc place) p new e there made few =
    let long = length chunk.entries in
    let short : long + offset chunks place + p - long ≡ offset chunks place + p = omega arith in
    ap (λ xs. chunk.entries ++ xs) (joined_set chunks place p new e (omega arith) made few)
    ∙ ap (λ k. chunk.entries ++ insert (joined chunks) k e) (sym short)
    ∙ sym (insert-append_right chunk.entries (joined chunks) long (long + offset chunks place + p) e refl (omega arith))
