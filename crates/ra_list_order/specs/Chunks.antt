-- Chunks: a sequence as the concatenation of short lists, and the group of each element.
use Rattle.std.specs.Prelude.{◌≡◌, ℕ, ◌<◌, ◌≤◌, ◌++◌, ◌+◌, ◌^◌, List, [], length, get_or, take, drop, Option, Some, None, zero, suc, Contains}
use Rattle.std.specs.List.{flat_map, between, insert}
use Rattle.ra_labels.specs.Edges.{EachOnce}
use Rattle.ra_list_order.specs.Numbers.{number_in}

-- a chunk, as contracts describe it
pub record Chunk : Type 0 where
  -- the group that its elements share
  pub group : ℕ
  -- the elements in order
  pub elements : List ℕ
  -- how many more elements fit without an allocation
  pub room : ℕ

-- the number of elements from which on a chunk is split before an insertion
abbrev pub most_in_chunk : ℕ
most_in_chunk = 128

-- the chunk that is at no index
abbrev pub no_chunk : Chunk
no_chunk = record { group = 0; elements = []; room = 0 }

abbrev pub chunk_at : List Chunk → ℕ → Chunk
chunk_at chunks place = get_or chunks place no_chunk

-- the elements of the chunks, one chunk after another
abbrev pub joined : List Chunk → List ℕ
joined chunks = flat_map (λ (chunk : Chunk). chunk.elements) chunks

-- the group that a number says: the number is the group plus one, or 0 for none
abbrev pub group_of_number : ℕ → Option ℕ
group_of_number zero = None
group_of_number (suc group) = Some group

-- the group of each element, in an array of numbers
abbrev pub group_in : List ℕ → ℕ → Option ℕ
group_in groups x = group_of_number (number_in groups x)

-- the representation invariant: each element is once in the chunks, each chunk has a group of its own, whose index is
-- its own, and exactly the elements of the chunks have a group, that of their chunk
pub record AreGrouped (group_of : ℕ → Option ℕ) (chunks : List Chunk) (places : List ℕ) : Type 0 where
  pub once : EachOnce (joined chunks)
  pub placed : (k : ℕ) → k < length chunks
      → ((chunk_at chunks k).group < length places) × (get_or places (chunk_at chunks k).group 0 ≡ k)
  pub found : (k x : ℕ) → k < length chunks → Contains (chunk_at chunks k).elements x
      → group_of x ≡ Some (chunk_at chunks k).group
  pub known : (x g : ℕ) → group_of x ≡ Some g → Contains (joined chunks) x

-- holds if the chunks have the same groups as before
pub record HaveSameGroups (old new : List Chunk) : Type 0 where
  pub as_many : length new ≡ length old
  pub each : (k : ℕ) → k < length old → (chunk_at new k).group ≡ (chunk_at old k).group

-- holds if these elements, and no others, now have this group
pub record AreMovedTo (elements : List ℕ) (group : ℕ) (old new : ℕ → Option ℕ) : Type 0 where
  pub moved : (x : ℕ) → Contains elements x → new x ≡ Some group
  pub others : (x : ℕ) → ¬ Contains elements x → new x ≡ old x

-- holds if the elements of the chunks, and no others, now have the groups of their chunks
pub record AreMovedToChunks (chunks : List Chunk) (old new : ℕ → Option ℕ) : Type 0 where
  pub moved : (k x : ℕ) → k < length chunks → Contains (chunk_at chunks k).elements x
      → new x ≡ Some (chunk_at chunks k).group
  pub others : (x : ℕ) → ¬ Contains (joined chunks) x → new x ≡ old x

-- holds if the element was inserted at this position of the chunk at this index
abbrev pub IsInsertedAt : List Chunk → ℕ → ℕ → ℕ → List Chunk → Type 0
IsInsertedAt old place position element new = joined new
    ≡ joined (take place old)
    ++ (insert (chunk_at old place).elements position element ++ joined (drop (place + 1) old))

-- a range of chunks that has two elements
pub record IsSpan (chunks : List Chunk) (one other first end : ℕ) : Type 0 where
  pub ordered : first ≤ end
  pub within : end ≤ length chunks
  pub has_one : Contains (joined (between first end chunks)) one
  pub has_other : Contains (joined (between first end chunks)) other

-- holds if an index from `at` on was raised by one, and a lower one is unchanged; no index reaches 2 ^ 63
pub record IsRaised (at old new : ℕ) : Type 0 where
  pub lower : old < at → new ≡ old
  pub higher : at ≤ old → old < 2 ^ 63 → new ≡ old + 1

-- holds if the part of the list from `start` up to `end` has both elements
pub record IsPartWith (elements : List ℕ) (one other start end : ℕ) : Type 0 where
  pub ordered : start ≤ end
  pub within : end ≤ length elements
  pub has_one : Contains (between start end elements) one
  pub has_other : Contains (between start end elements) other
