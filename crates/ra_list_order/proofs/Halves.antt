-- A list of chunks in which one chunk is split in two.
use Rattle.std.proofs.Common.{◌≡◌, ℕ, zero, suc, ◌+◌, ◌-◌, ◌^◌, ◌<◌, ◌≤◌, List, [], ◌∷◌, ◌++◌, length, get_or, take, drop, set, Bool, true, false, Option, Some, is_some, sym, ap, ◌∙◌, subst, inl, inr, arith, append_assoc}
use Rattle.std.specs.Prelude.{◌⊎◌, Contains, IsSome, if◌then◌else◌}
use Rattle.std.specs.List.{insert}
use Rattle.std.proofs.lemmas.Bool.{false≢true, cases_lt, cases_eq}
use Rattle.std.proofs.lemmas.List.{length-set, length_push, get_or-set_same, get_or-set_other, get_or_append_left, get_or_push}
use Rattle.std.proofs.lemmas.List.Elements.{Contains-append_left, Contains-append_right}
use Rattle.std.proofs.lemmas.List.Edits.{get_or-insert_below, get_or-insert_at, get_or-insert_above}
use Rattle.ra_labels.proofs.Halves.{halved, halved_is, length_halved}
use Rattle.ra_labels.specs.Edges.{EachOnce}
use Rattle.ra_list_order.specs.Chunks.{Chunk, no_chunk, chunk_at, joined, AreGrouped, AreMovedTo, IsRaised}
use Rattle.ra_list_order.proofs.Insertions.{mid_joined, mid_grouped}
use Rattle.ra_list_order.proofs.Members.{read_at, same_read}
use Rattle.ra_list_order.proofs.JoinedChunks.{in_joined, joined_at, side, once_left, once_right, once_apart, chunks_apart}

joined_halved : (left right : Chunk) (chunks : List Chunk) (at : ℕ) → at < length chunks
    → left.elements ++ right.elements ≡ (chunk_at chunks at).elements
    → joined (halved chunks at left right) ≡ joined chunks
joined_halved left right [] at there same = absurd (omega arith)
joined_halved left right (chunk ∷ chunks) zero there same =
    sym (append_assoc left.elements right.elements (joined chunks)) ∙ ap (λ xs. xs ++ joined chunks) same
joined_halved left right (chunk ∷ chunks) (suc at) there same =
    ap (λ xs. chunk.elements ++ xs) (joined_halved left right chunks at (omega arith) same)

module _ (chunks : List Chunk) (at : ℕ) (left right : Chunk) (there : at < length chunks) where
  abbrev now : List Chunk
  now = insert (set chunks at left) (at + 1) right

  few : at + 1 ≤ length (set chunks at left)
  few = omega (arith, length-set chunks at left)

  pub length_split : length now ≡ length chunks + 1
  length_split = ap length (halved_is chunks at left right there) ∙ length_halved chunks at left right there

  left_at : chunk_at now at ≡ left
  left_at = get_or-insert_below (set chunks at left) (at + 1) right no_chunk at (omega arith) few
      ∙ get_or-set_same chunks at left no_chunk there

  right_at : chunk_at now (at + 1) ≡ right
  right_at = get_or-insert_at (set chunks at left) (at + 1) right no_chunk few

  lower_at : (k : ℕ) → k < at → chunk_at now k ≡ chunk_at chunks k
  lower_at k low =
      get_or-insert_below (set chunks at left) (at + 1) right no_chunk k (omega (arith, low)) few
      ∙ get_or-set_other chunks at k left no_chunk (λ same. omega (arith, same, low))

  higher_at : (k : ℕ) → at < k → chunk_at now (k + 1) ≡ chunk_at chunks k
  higher_at k high =
      get_or-insert_above (set chunks at left) (at + 1) right no_chunk k (omega (arith, high)) few
      ∙ get_or-set_other chunks at k left no_chunk (λ same. omega (arith, same, high))

  -- the chunk at an index after the split
  data IsNow (k : ℕ) : Type 0 where
    Left : k ≡ at → chunk_at now k ≡ left → IsNow k
    Right : k ≡ at + 1 → chunk_at now k ≡ right → IsNow k
    Lower : k < at → chunk_at now k ≡ chunk_at chunks k → IsNow k
    Higher : (old : ℕ) → at < old → old < length chunks → k ≡ old + 1 → chunk_at now k ≡ chunk_at chunks old → IsNow k

  is_now : (k : ℕ) → k < length now → IsNow k
  is_now k high = elim (cases_lt k at) [
    | inl low ↦ Lower low (lower_at k low)
    | inr from ↦ elim (cases_eq k at) [
      | inl same ↦ Left same (ap (chunk_at now) same ∙ left_at)
      | inr more ↦ elim (cases_eq k (at + 1)) [
        | inl next ↦ Right next (ap (chunk_at now) next ∙ right_at)
        | inr behind ↦
            let old : ℕ = k - 1 in
            let past : at < old = omega (arith, from, more, behind) in
            let back : k ≡ old + 1 = omega (arith, from, more, behind) in
            let many = length_split in
            Higher old past (omega (arith, high, back, many)) back (ap (chunk_at now) back ∙ higher_at old past)
      ]
    ]
  ]

  module _ (halves : left.elements ++ right.elements ≡ (chunk_at chunks at).elements) where
    pub joined_split : joined now ≡ joined chunks
    joined_split = ap joined (halved_is chunks at left right there) ∙ joined_halved left right chunks at there halves

    left_in : (x : ℕ) → Contains left.elements x → Contains (chunk_at chunks at).elements x
    left_in x among = subst (λ xs. Contains xs x) halves (Contains-append_left left.elements right.elements x among)

    pub right_in : (x : ℕ) → Contains right.elements x → Contains (chunk_at chunks at).elements x
    right_in x among = subst (λ xs. Contains xs x) halves (Contains-append_right left.elements right.elements x among)

    module _ (old new : ℕ → Option ℕ) (places raised : List ℕ) (grouped : AreGrouped old chunks places)
        (same : left.group ≡ (chunk_at chunks at).group) (next : right.group ≡ length places)
        (moved : AreMovedTo right.elements (length places) old new) (long : length raised ≡ length places)
        (few_chunks : length chunks < 2 ^ 63)
        (each : (m : ℕ) → m < length places → IsRaised (at + 1) (get_or places m 0) (get_or raised m 0)) where
      abbrev places_now : List ℕ
      places_now = raised ++ (at + 1) ∷ []

      once_halves : EachOnce (left.elements ++ right.elements)
      once_halves =
          let mine = (chunk_at chunks at).elements in
          let back = joined (drop (at + 1) chunks) in
          subst EachOnce (sym halves) (once_left mine back (once_right (joined (take at chunks)) (mine ++ back)
          (subst EachOnce (joined_at chunks at there) grouped.once)))

      many_places : length places_now ≡ length places + 1
      many_places = let size = length_push raised (at + 1) in omega (arith, size, long)

      -- the index of an old group
      place_of : (g k j : ℕ) → g < length places → get_or places g 0 ≡ k
          → ((k < at + 1) × (j ≡ k)) ⊎ ((at < k) × (k < length chunks) × (j ≡ k + 1))
          → get_or places_now g 0 ≡ j
      place_of g k j low is where_to =
          get_or_append_left raised ((at + 1) ∷ []) 0 g (omega (arith, low, long)) ∙ elim where_to [
            | inl lower ↦
                let less = lower.0 in
                (each g low).lower (omega (arith, is, less)) ∙ is ∙ sym lower.1
            | inr higher ↦
                let more = higher.0 in
                let within = higher.1 in
                (each g low).higher (omega (arith, is, more)) (omega (arith, is, within, few_chunks))
                ∙ ap (λ n. n + 1) is ∙ sym higher.2
          ]

      placed_as : (k : ℕ) (chunk : Chunk) → chunk_at now k ≡ chunk → chunk.group < length places
          → get_or places_now chunk.group 0 ≡ k
          → ((chunk_at now k).group < length places_now) × (get_or places_now (chunk_at now k).group 0 ≡ k)
      placed_as k chunk is low at_k =
          let size = many_places in
          subst (λ (c : Chunk). (c.group < length places_now) × (get_or places_now c.group 0 ≡ k)) (sym is)
          (omega (arith, low, size), at_k)

      placed_from : (k : ℕ) → IsNow k
          → ((chunk_at now k).group < length places_now) × (get_or places_now (chunk_at now k).group 0 ≡ k)
      placed_from k (Left here is) =
          let p = grouped.placed at there in
          let low = p.0 in
          placed_as k left is (omega (arith, low, same)) (ap (λ g. get_or places_now g 0) same
          ∙ place_of (chunk_at chunks at).group at k p.0 p.1 (inl (omega arith, here)))
      placed_from k (Right here is) =
          let size = many_places in
          subst (λ (c : Chunk). (c.group < length places_now) × (get_or places_now c.group 0 ≡ k)) (sym is) (
            omega (arith, next, size),
            ap (λ g. get_or places_now g 0) (next ∙ sym long)
                ∙ get_or_push raised (at + 1) 0 (length raised) refl_length ∙ sym here,
          )
        where
          refl_length : length raised ≡ length raised
          refl_length = omega arith
      placed_from k (Lower low is) =
          let p = grouped.placed k (omega (arith, low, there)) in
          placed_as k (chunk_at chunks k) is p.0
          (place_of (chunk_at chunks k).group k k p.0 p.1 (inl (omega (arith, low), omega arith)))
      placed_from k (Higher j past within here is) =
          let p = grouped.placed j within in
          placed_as k (chunk_at chunks j) is p.0
          (place_of (chunk_at chunks j).group j k p.0 p.1 (inr (past, within, here)))

      -- the elements of another chunk did not move
      stays : (j x : ℕ) → ¬ (j ≡ at) → j < length chunks → Contains (chunk_at chunks j).elements x → new x ≡ old x
      stays j x other low among =
          moved.others x (λ right_has. other (chunks_apart chunks j at x grouped.once low there among
          (right_in x right_has)))

      found_as : (k x : ℕ) (chunk : Chunk) → chunk_at now k ≡ chunk → new x ≡ Some chunk.group
          → new x ≡ Some (chunk_at now k).group
      found_as k x chunk is has = has ∙ ap (λ (c : Chunk). Some c.group) (sym is)

      found_from : (k x : ℕ) → IsNow k → Contains (chunk_at now k).elements x → new x ≡ Some (chunk_at now k).group
      found_from k x (Left here is) among =
          let mine = subst (λ (c : Chunk). Contains c.elements x) is among in
          found_as k x left is
          (moved.others x (once_apart left.elements right.elements x once_halves mine)
          ∙ grouped.found at x there (left_in x mine) ∙ ap Some (sym same))
      found_from k x (Right here is) among =
          found_as k x right is
          (moved.moved x (subst (λ (c : Chunk). Contains c.elements x) is among) ∙ ap Some (sym next))
      found_from k x (Lower low is) among =
          let mine = subst (λ (c : Chunk). Contains c.elements x) is among in
          let within : k < length chunks = omega (arith, low, there) in
          found_as k x (chunk_at chunks k) is
          (stays k x (λ clash. omega (arith, clash, low)) within mine ∙ grouped.found k x within mine)
      found_from k x (Higher j past within here is) among =
          let mine = subst (λ (c : Chunk). Contains c.elements x) is among in
          found_as k x (chunk_at chunks j) is
          (stays j x (λ clash. omega (arith, clash, past)) within mine ∙ grouped.found j x within mine)

      known_now : (x g : ℕ) → new x ≡ Some g → Contains (joined chunks) x
      known_now x g is = elim (side right.elements x) [
        | inl there_now ↦ in_joined chunks at x there (right_in x there_now)
        | inr other ↦ grouped.known x g (sym (moved.others x other) ∙ is)
      ]

      pub grouped_split : AreGrouped new now places_now
      grouped_split = record {
        once = subst EachOnce (sym joined_split) grouped.once;
        placed = λ k within. placed_from k (is_now k within);
        found = λ k x within among. found_from k x (is_now k within) among;
        known = λ x g is. subst (λ xs. Contains xs x) (sym joined_split) (known_now x g is);
      }

-- the same as the code reads it
pub chosen : {A : Type 0} (test : Bool) (items xs ys : List A) → test ≡ true → items ≡ (if test then xs else ys)
    → items ≡ xs
chosen true items xs ys is made = made
chosen false items xs ys is made = absurd (false≢true is)

module _ (group_of : ℕ → Option ℕ) (chunks read_chunks : List Chunk) (places read_places : List ℕ) (k : ℕ)
    (read left right : Chunk) (grouped : AreGrouped group_of chunks places) (there : k < length chunks)
    (chunks_is : read_chunks ≡ chunks) (places_is : read_places ≡ places) (reads : read ≡ get_or read_chunks k read)
    (group : left.group ≡ read.group) where
  read_is : read ≡ chunk_at chunks k
  read_is =
      read_at read_chunks k no_chunk read (subst (λ cs. k < length cs) (sym chunks_is) there) reads
      ∙ ap (λ cs. chunk_at cs k) chunks_is

  group_is : left.group ≡ (chunk_at chunks k).group
  group_is = group ∙ ap (λ (c : Chunk). c.group) read_is

  pub split_failed : left.elements ≡ read.elements → AreGrouped group_of (set read_chunks k left) read_places
  split_failed same =
      subst (λ ps. AreGrouped group_of (set read_chunks k left) ps) (sym places_is)
      (subst (λ cs. AreGrouped group_of (set cs k left) places) (sym chunks_is)
      (mid_grouped chunks k (chunk_at chunks k) left there
      (same_read chunks k no_chunk (chunk_at chunks k) there) group_is
      (same ∙ ap (λ (c : Chunk). c.elements) read_is) group_of places grouped))

  pub split_failed_joined : left.elements ≡ read.elements → joined (set read_chunks k left) ≡ joined chunks
  split_failed_joined same =
      ap (λ cs. joined (set cs k left)) chunks_is
      ∙ mid_joined chunks k (chunk_at chunks k) left there
      (same_read chunks k no_chunk (chunk_at chunks k) there) group_is (same ∙ ap (λ (c : Chunk). c.elements) read_is)

  module _ (halves : left.elements ++ right.elements ≡ read.elements) where
    halves_is : left.elements ++ right.elements ≡ (chunk_at chunks k).elements
    halves_is = halves ∙ ap (λ (c : Chunk). c.elements) read_is

    pub split_moves : (x : ℕ) → Contains right.elements x → IsSome (group_of x)
    split_moves x among =
        ap is_some (grouped.found k x there (right_in chunks k left right there halves_is x among))

    module _ (new_chunks : List Chunk) (made : new_chunks ≡ insert (set read_chunks k left) (k + 1) right) where
      made_is : new_chunks ≡ insert (set chunks k left) (k + 1) right
      made_is = made ∙ ap (λ cs. insert (set cs k left) (k + 1) right) chunks_is

      pub split_joined : joined new_chunks ≡ joined chunks
      split_joined = ap joined made_is ∙ joined_split chunks k left right there halves_is

      pub split_longer : length chunks ≤ length new_chunks
      split_longer =
          let one = ap length made_is in
          let more = length_split chunks k left right there in
          omega (arith, one, more)

      pub split_grouped : (new : ℕ → Option ℕ) (g : ℕ) (raised new_places : List ℕ) → right.group ≡ g
          → g ≡ length read_places → AreMovedTo right.elements g group_of new
          → length raised ≡ length read_places → length chunks < 2 ^ 63
          → ((m : ℕ) → m < length read_places → IsRaised (k + 1) (get_or read_places m 0) (get_or raised m 0))
          → new_places ≡ raised ++ (k + 1) ∷ [] → AreGrouped new new_chunks new_places
      split_grouped new g raised new_places right_is g_is moved long few each places_made =
          let next : g ≡ length places = g_is ∙ ap length places_is in
          subst (λ ps. AreGrouped new new_chunks ps) (sym places_made)
          (subst (λ cs. AreGrouped new cs (raised ++ (k + 1) ∷ [])) (sym made_is)
          (grouped_split chunks k left right there halves_is group_of new places raised grouped group_is
          (right_is ∙ next) (subst (λ n. AreMovedTo right.elements n group_of new) next moved)
          (long ∙ ap length places_is) few
          (subst (λ ps. (m : ℕ) → m < length ps → IsRaised (k + 1) (get_or ps m 0)
          (get_or raised m 0)) places_is each)))
