-- Lemmas on the walk from an anchor past the elements with greater stamps.
use Rattle.std.proofs.Common.{◌≡◌, ℕ, suc, ◌+◌, ◌-◌, ◌<◌, ◌≤◌, true, false, List, length, get_or, Some, sym, ap, ◌∙◌, subst, inl, inr, arith}
use Rattle.std.specs.Ordering.{is_lt}
use Rattle.std.proofs.lemmas.Bool.{cases_lt}
use Rattle.std.proofs.lemmas.List.{get_or_read}
use Rattle.ra_labels.specs.declared.label.Stamp.{Stamp}
use Rattle.ra_labels.specs.NamedOrder.{stamp_cmp}
use Rattle.ra_rga_elements.specs.declared.entry.Entry.{Entry}
use Rattle.ra_rga_elements.specs.Entries.{entry_at, IsNumberAt, IsBehind, IsPast}
use Rattle.ra_rga_elements.specs.Chunk.{Chunk}
use Rattle.ra_rga_elements.specs.Chunks.{no_chunk, chunk_at, joined, offset, AreFilled, IsSpotFor}
use Rattle.ra_rga_elements.proofs.JoinedChunks.{entry_joined, offset_next, offset_within, offset_last}

-- during the walk: all elements passed have a greater stamp, and the next one in this chunk, if any, has not
pub record IsPassing (chunks : List Chunk) (anchor : ℕ) (stamp : Stamp) (place position : ℕ) : Type 0 where
  pub there : place < length chunks
  pub behind : 0 < position
  pub among : position ≤ length (chunk_at chunks place).entries
  pub index : ℕ
  pub is_anchor : (entry_at (joined chunks) index).number ≡ anchor
  pub on : suc index ≤ offset chunks place + position
  pub greater : (k : ℕ) → suc index ≤ k → k < offset chunks place + position
      → is_lt (stamp_cmp stamp (entry_at (joined chunks) k).stamp) ≡ true
  pub stops : position < length (chunk_at chunks place).entries
      → is_lt (stamp_cmp stamp (entry_at (chunk_at chunks place).entries position).stamp) ≡ false

greater_joined : (chunks : List Chunk) (stamp : Stamp) (place from to k : ℕ) → place < length chunks
    → IsPast (chunk_at chunks place).entries from stamp to
    → offset chunks place + from ≤ k → k < offset chunks place + to
    → is_lt (stamp_cmp stamp (entry_at (joined chunks) k).stamp) ≡ true
greater_joined chunks stamp place from to k there past low high =
    let j : ℕ = k - offset chunks place in
    let is : offset chunks place + j ≡ k = omega arith in
    let inside : j < length (chunk_at chunks place).entries = omega (arith, past.among) in
    ap (λ n. is_lt (stamp_cmp stamp (entry_at (joined chunks) n).stamp)) (sym is)
    ∙ ap (λ (e : Entry). is_lt (stamp_cmp stamp e.stamp)) (entry_joined chunks place j there inside)
    ∙ past.greater j (omega arith) (omega arith)

passing_here : (chunks : List Chunk) (anchor : ℕ) (stamp : Stamp) (place next position : ℕ) → place < length chunks
    → IsBehind (chunk_at chunks place).entries anchor next → IsPast (chunk_at chunks place).entries next stamp position
    → IsPassing chunks anchor stamp place position
passing_here chunks anchor stamp place next position there at past = record {
  there = there;
  behind = omega (arith, at.some, past.behind);
  among = past.among;
  index = offset chunks place + (next - 1);
  is_anchor = ap (λ (e : Entry). e.number)
      (entry_joined chunks place (next - 1) there (omega (arith, at.some, at.among))) ∙ at.found;
  on = omega (arith, at.some, past.behind);
  greater = λ k low high. greater_joined chunks stamp place next position k there past (omega (arith, at.some)) high;
  stops = past.stops;
}

pub passing_first : (chunks : List Chunk) (first : Chunk) (anchor : ℕ) (stamp : Stamp) (place next position : ℕ)
    → place < length chunks → first ≡ get_or chunks place first
    → IsBehind first.entries anchor next → IsPast first.entries next stamp position
    → IsPassing chunks anchor stamp place position
passing_first chunks first anchor stamp place next position there is at past =
    let same = get_or_read chunks place first there is no_chunk in
    passing_here chunks anchor stamp place next position there
    (subst (λ (h : Chunk). IsBehind h.entries anchor next) same at)
    (subst (λ (h : Chunk). IsPast h.entries next stamp position) same past)

-- at the end of a chunk
pub at_end : (chunks : List Chunk) (here : Chunk) (place position : ℕ) → place < length chunks
    → here ≡ get_or chunks place here → position ≡ length here.entries
    → position ≡ length (chunk_at chunks place).entries
at_end chunks here place position there is end = end
    ∙ ap (λ (h : Chunk). length h.entries) (get_or_read chunks place here there is no_chunk)

passing_there : (chunks : List Chunk) (anchor : ℕ) (stamp : Stamp) (place position further : ℕ)
    → IsPassing chunks anchor stamp place position
    → position ≡ length (chunk_at chunks place).entries → place + 1 < length chunks → 0 < further
    → IsPast (chunk_at chunks (place + 1)).entries 0 stamp further
    → IsPassing chunks anchor stamp (place + 1) further
passing_there chunks anchor stamp place position further passing end next some past =
    let step = offset_next chunks place passing.there in
    record {
      there = next;
      behind = some;
      among = past.among;
      index = passing.index;
      is_anchor = passing.is_anchor;
      on = omega (arith, step, passing.on);
      greater = λ k low high. elim (cases_lt k (offset chunks place + position)) [
        | inl early ↦ passing.greater k low early
        | inr late ↦ greater_joined chunks stamp (place + 1) 0 further k next past (omega (arith, step)) high
      ];
      stops = past.stops;
    }

pub passing_on : (chunks : List Chunk) (after : Chunk) (anchor : ℕ) (stamp : Stamp) (place position further : ℕ)
    → IsPassing chunks anchor stamp place position
    → position ≡ length (chunk_at chunks place).entries → place + 1 < length chunks
    → after ≡ get_or chunks (place + 1) after → 0 < further → IsPast after.entries 0 stamp further
    → IsPassing chunks anchor stamp (place + 1) further
passing_on chunks after anchor stamp place position further passing end next is some past =
    passing_there chunks anchor stamp place position further passing end next some
    (subst (λ (h : Chunk). IsPast h.entries 0 stamp further)
    (get_or_read chunks (place + 1) after next is no_chunk) past)

-- the spot at which the walk stops
spot_of : (chunks : List Chunk) (anchor : ℕ) (stamp : Stamp) (place position : ℕ)
    (passing : IsPassing chunks anchor stamp place position)
    → (offset chunks place + position < length (joined chunks)
    → is_lt (stamp_cmp stamp (entry_at (joined chunks) (offset chunks place + position)).stamp) ≡ false)
    → IsSpotFor chunks anchor stamp (record { place = place; position = position })
spot_of chunks anchor stamp place position passing stops = record {
  there = passing.there;
  behind = passing.behind;
  among = passing.among;
  index = passing.index;
  is_anchor = passing.is_anchor;
  past = record {
    behind = passing.on;
    among = omega (arith, passing.among, offset_within chunks place passing.there);
    greater = passing.greater;
    stops = stops;
  };
}

-- within a chunk
pub stops_within : (chunks : List Chunk) (anchor : ℕ) (stamp : Stamp) (place position : ℕ)
    → IsPassing chunks anchor stamp place position
    → ¬ (position ≡ length (chunk_at chunks place).entries)
    → IsSpotFor chunks anchor stamp (record { place = place; position = position })
stops_within chunks anchor stamp place position passing other =
    let inside : position < length (chunk_at chunks place).entries = omega (arith, passing.among, other) in
    spot_of chunks anchor stamp place position passing (λ _.
    ap (λ (e : Entry). is_lt (stamp_cmp stamp e.stamp)) (entry_joined chunks place position passing.there inside)
    ∙ passing.stops inside)

-- at the end of the last chunk
pub stops_last : (chunks : List Chunk) (anchor : ℕ) (stamp : Stamp) (place position : ℕ)
    → IsPassing chunks anchor stamp place position
    → position ≡ length (chunk_at chunks place).entries → length chunks ≤ place + 1
    → IsSpotFor chunks anchor stamp (record { place = place; position = position })
stops_last chunks anchor stamp place position passing end last =
    spot_of chunks anchor stamp place position passing
    (λ more. absurd (omega (arith, offset_last chunks place passing.there last)))

-- at the end of another chunk
pub stops_between : (chunks : List Chunk) (after : Chunk) (anchor : ℕ) (stamp : Stamp) (place position : ℕ)
    → IsPassing chunks anchor stamp place position
    → position ≡ length (chunk_at chunks place).entries → place + 1 < length chunks → AreFilled chunks
    → after ≡ get_or chunks (place + 1) after
    → IsPast after.entries 0 stamp 0 → IsSpotFor chunks anchor stamp (record { place = place; position = position })
stops_between chunks after anchor stamp place position passing end next filled is past =
    let some = filled (place + 1) next in
    let stops =
    (subst (λ (h : Chunk). IsPast h.entries 0 stamp 0)
    (get_or_read chunks (place + 1) after next is no_chunk) past).stops in
    let here : offset chunks place + position ≡ offset chunks (place + 1) + 0 =
    omega (arith, offset_next chunks place passing.there) in
    spot_of chunks anchor stamp place position passing (λ _.
    ap (λ n. is_lt (stamp_cmp stamp (entry_at (joined chunks) n).stamp)) here
    ∙ ap (λ (e : Entry). is_lt (stamp_cmp stamp e.stamp)) (entry_joined chunks (place + 1) 0 next some) ∙ stops some)

-- the element behind a spot
pub number_within : (chunks : List Chunk) (place position number : ℕ) → place < length chunks
    → position < length (chunk_at chunks place).entries
    → number ≡ (entry_at (chunk_at chunks place).entries position).number
    → IsNumberAt (joined chunks) (offset chunks place + position) (Some number)
number_within chunks place position number there inside is = (
  omega (arith, offset_within chunks place there),
  ap (λ (e : Entry). e.number)
      (entry_joined chunks place position there inside) ∙ sym is,
)

pub number_between : (chunks : List Chunk) (place position number : ℕ) → place < length chunks
    → position ≡ length (chunk_at chunks place).entries
    → place + 1 < length chunks → AreFilled chunks → number ≡ (entry_at (chunk_at chunks (place + 1)).entries 0).number
    → IsNumberAt (joined chunks) (offset chunks place + position) (Some number)
number_between chunks place position number there end next filled is =
    let here : offset chunks (place + 1) + 0 ≡ offset chunks place + position =
    omega (arith, offset_next chunks place there) in
    subst (λ n. IsNumberAt (joined chunks) n (Some number)) here
    (number_within chunks (place + 1) 0 number next (filled (place + 1) next) is)
