-- A sequence of chunks.
use Rattle.std.specs.Prelude.{◌≡◌, ℕ, zero, suc, ◌+◌, ◌<◌, ◌≤◌, List, [], ◌∷◌, ◌++◌, length, get_or, set}
use Rattle.std.specs.List.{insert}
use Rattle.ra_labels.specs.declared.label.Stamp.{Stamp}
use Rattle.ra_rga_elements.specs.declared.entry.Entry.{Entry}
use Rattle.ra_rga_elements.specs.declared.spot.Spot.{Spot}
use Rattle.ra_rga_elements.specs.Entries.{entry_at, IsPast}
use Rattle.ra_rga_elements.specs.Chunk.{Chunk}

-- a chunk without entries
abbrev pub no_chunk : Chunk
no_chunk = record { entries = []; room = 0 }

abbrev pub chunk_at : List Chunk → ℕ → Chunk
chunk_at chunks place = get_or chunks place no_chunk

-- the elements of the chunks, one chunk after another
abbrev pub joined : List Chunk → List Entry
joined [] = []
joined (chunk ∷ chunks) = chunk.entries ++ joined chunks

-- the number of elements before the chunk at this position
abbrev pub offset : List Chunk → ℕ → ℕ
offset [] place = 0
offset (chunk ∷ chunks) zero = 0
offset (chunk ∷ chunks) (suc place) = length chunk.entries + offset chunks place

-- holds if no chunk is empty
abbrev pub AreFilled : List Chunk → Type 0
AreFilled chunks = (place : ℕ) → place < length chunks → 0 < length (chunk_at chunks place).entries

-- holds if the spot is after the anchor, and after the elements with a greater stamp that follow it
pub record IsSpotFor (chunks : List Chunk) (anchor : ℕ) (stamp : Stamp) (spot : Spot) : Type 0 where
  pub there : spot.place < length chunks
  pub behind : 0 < spot.position
  pub among : spot.position ≤ length (chunk_at chunks spot.place).entries
  pub index : ℕ
  pub is_anchor : (entry_at (joined chunks) index).number ≡ anchor
  pub past : IsPast (joined chunks) (suc index) stamp (offset chunks spot.place + spot.position)

-- holds if the chunk at this position is split in two, neither of them empty and each with room
pub record IsSplit (chunks : List Chunk) (at : ℕ) (new : List Chunk) : Type 0 where
  pub left : Chunk
  pub right : Chunk
  pub made : new ≡ insert (set chunks at left) (at + 1) right
  pub entries : left.entries ++ right.entries ≡ (chunk_at chunks at).entries
  pub left_some : 0 < length left.entries
  pub right_some : 0 < length right.entries
  pub left_room : 0 < left.room
  pub right_room : 0 < right.room
