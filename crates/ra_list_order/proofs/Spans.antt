-- A range of chunks: its elements, and the chunks after its elements are overwritten.
use Rattle.std.proofs.Common.{◌≡◌, ℕ, ◌+◌, ◌-◌, ◌<◌, ◌≤◌, List, [], ◌∷◌, ◌++◌, length, get_or, take, drop, Bool, true, Option, Some, None, is_some, refl, sym, ap, ◌∙◌, subst, inl, inr, arith}
use Rattle.std.specs.Prelude.{Contains, IsSome, IsTrue, ◌↔◌}
use Rattle.std.specs.List.{between}
use Rattle.std.specs.List.Sorted.{IsPermutation}
use borrow.Rule.Slice.PartMut.{put_mid}
use Rattle.std.proofs.lemmas.Bool.{false≢true, cases_lt}
use Rattle.std.proofs.lemmas.List.{length-take-le, length-append, length-drop, get_or-take, get_or-drop, get_or_append_left, get_or-append-add, drop-drop, take-append-drop, append-nil, length_push, get_or_push, take_at}
use Rattle.std.proofs.lemmas.Slice.{between-put_mid}
use Rattle.std.proofs.lemmas.List.Edits.{length-between, get_or-between}
use Rattle.std.proofs.lemmas.List.Elements.{Contains-get_or, Contains-append_left, Contains-append_right}
use Rattle.std.proofs.lemmas.List.Sorted.{IsPermutation-sym, IsPermutation-append_left, IsPermutation-append_right, Contains-permutation}
use Rattle.ra_labels.specs.Edges.{EachOnce, IsBefore}
use Rattle.ra_list_order.specs.Chunks.{Chunk, no_chunk, chunk_at, joined, AreGrouped, HaveSameGroups, AreMovedToChunks, IsSpan, IsPartWith}
use Rattle.ra_list_order.proofs.Adds.{once_moved}
use Rattle.ra_list_order.proofs.Befores.{before_left, before_right, before_across}
use Rattle.ra_list_order.proofs.Members.{none_there, same_read}
use Rattle.ra_list_order.proofs.JoinedChunks.{joined_append, joined_at, joined_between, in_joined, from_joined, side, once_between, chunks_apart}

-- each element of the chunks has a group
pub has_group : (group_of : ℕ → Option ℕ) (chunks : List Chunk) (places : List ℕ) (x : ℕ)
    → AreGrouped group_of chunks places → Contains (joined chunks) x → IsSome (group_of x)
has_group group_of chunks places x grouped there =
    let at = from_joined chunks x there in
    ap is_some (grouped.found at.0 x at.1 at.2)

-- the elements of a range are those of its chunks
pub in_range : (chunks : List Chunk) (i j k x : ℕ) → i ≤ k → k < j → j ≤ length chunks
    → Contains (chunk_at chunks k).elements x → Contains (joined (between i j chunks)) x
in_range chunks i j k x from below within among =
    let size = length-between chunks i j within in
    let sum : i + (k - i) ≡ k = omega (arith, from) in
    in_joined (between i j chunks) (k - i) x (omega (arith, size, from, below))
    (subst (λ (c : Chunk). Contains c.elements x)
    (sym (get_or-between chunks i j (k - i) no_chunk (omega (arith, from, below)) ∙ ap (chunk_at chunks) sum)) among)

pub range_in : (chunks : List Chunk) (i j x : ℕ) → i ≤ j → Contains (joined (between i j chunks)) x
    → Contains (joined chunks) x
range_in chunks i j x less there =
    subst (λ xs. Contains xs x) (sym (joined_between chunks i j less))
    (Contains-append_right (joined (take i chunks)) (joined (between i j chunks) ++ joined (drop j chunks)) x
    (Contains-append_left (joined (between i j chunks)) (joined (drop j chunks)) x there))

module _ (chunks filled : List Chunk) (i j : ℕ) (less : i ≤ j) (within : j ≤ length chunks) (elements : List ℕ)
    (same : IsPermutation (joined (between i j chunks)) elements) (joins : joined filled ≡ elements)
    (groups : HaveSameGroups (between i j chunks) filled) where
  abbrev now : List Chunk
  now = put_mid i (j - i) chunks filled

  abbrev behind : List Chunk
  behind = drop (j - i) (drop i chunks)

  behind_is : behind ≡ drop j chunks
  behind_is =
      let sum : i + (j - i) ≡ j = omega (arith, less) in
      drop-drop (j - i) i chunks ∙ ap (λ n. drop n chunks) sum

  filled_long : length filled ≡ j - i
  filled_long = groups.as_many ∙ length-between chunks i j within

  front_long : length (take i chunks) ≡ i
  front_long = length-take-le i chunks (omega (arith, less, within))

  pub now_long : length now ≡ length chunks
  now_long =
      let one = length-append (take i chunks) (filled ++ behind) in
      let two = length-append filled behind in
      let three = length-drop j chunks in
      let four = ap length behind_is in
      let front = front_long in
      let mid = filled_long in
      omega (arith, one, two, three, four, front, mid, less, within)

  pub joined_now : joined now ≡ joined (take i chunks) ++ (elements ++ joined (drop j chunks))
  joined_now =
      joined_append (take i chunks) (filled ++ behind)
      ∙ ap (λ xs. joined (take i chunks) ++ xs) (joined_append filled behind)
      ∙ ap (λ xs. joined (take i chunks) ++ (xs ++ joined behind)) joins
      ∙ ap (λ cs. joined (take i chunks) ++ (elements ++ joined cs)) behind_is

  pub moved_now : IsPermutation (joined chunks) (joined now)
  moved_now =
      subst (λ xs. IsPermutation xs (joined now)) (sym (joined_between chunks i j less))
      (subst (λ xs. IsPermutation (joined (take i chunks) ++ (joined (between i j chunks)
      ++ joined (drop j chunks))) xs)
      (sym joined_now)
      (IsPermutation-append_right (joined (take i chunks)) (joined (between i j chunks) ++ joined (drop j chunks))
      (elements ++ joined (drop j chunks))
      (IsPermutation-append_left (joined (drop j chunks)) (joined (between i j chunks)) elements same)))

  -- the chunk at an index: before the range, in it, or behind it
  front_at : (k : ℕ) → k < i → chunk_at now k ≡ chunk_at chunks k
  front_at k low =
      let front = front_long in
      get_or_append_left (take i chunks) (filled ++ behind) no_chunk k (omega (arith, front, low))
      ∙ get_or-take i chunks k no_chunk low

  filled_at : (m : ℕ) → m < j - i → chunk_at now (i + m) ≡ chunk_at filled m
  filled_at m low =
      let long = filled_long in
      ap (λ n. chunk_at now (n + m)) (sym front_long)
      ∙ get_or-append-add (take i chunks) (filled ++ behind) m no_chunk
      ∙ get_or_append_left filled behind no_chunk m (omega (arith, long, low))

  behind_at : (m : ℕ) → chunk_at now (i + ((j - i) + m)) ≡ chunk_at chunks (j + m)
  behind_at m =
      ap (λ n. chunk_at now (n + ((j - i) + m))) (sym front_long)
      ∙ get_or-append-add (take i chunks) (filled ++ behind) ((j - i) + m) no_chunk
      ∙ ap (λ n. chunk_at (filled ++ behind) (n + m)) (sym filled_long)
      ∙ get_or-append-add filled behind m no_chunk
      ∙ ap (λ cs. chunk_at cs m) behind_is
      ∙ get_or-drop j chunks m no_chunk

  rest_at : (k : ℕ) → j ≤ k → chunk_at now k ≡ chunk_at chunks k
  rest_at k high =
      let sum : k ≡ i + ((j - i) + (k - j)) = omega (arith, less, high) in
      let back : j + (k - j) ≡ k = omega (arith, high) in
      ap (chunk_at now) sum ∙ behind_at (k - j) ∙ ap (chunk_at chunks) back

  range_at : (k : ℕ) → i ≤ k → k < j → chunk_at now k ≡ chunk_at filled (k - i)
  range_at k from below =
      let sum : k ≡ i + (k - i) = omega (arith, from) in
      ap (chunk_at now) sum ∙ filled_at (k - i) (omega (arith, from, below))

  group_at : (k : ℕ) → k < length chunks → (chunk_at now k).group ≡ (chunk_at chunks k).group
  group_at k there = elim (cases_lt k i) [
    | inl low ↦ ap (λ (c : Chunk). c.group) (front_at k low)
    | inr from ↦ elim (cases_lt k j) [
      | inl below ↦
          let size = length-between chunks i j within in
          let sum : i + (k - i) ≡ k = omega (arith, from) in
          ap (λ (c : Chunk). c.group) (range_at k from below)
          ∙ groups.each (k - i) (omega (arith, size, from, below))
          ∙ ap (λ (c : Chunk). c.group) (get_or-between chunks i j (k - i) no_chunk (omega (arith, from, below))
          ∙ ap (chunk_at chunks) sum)
      | inr high ↦ ap (λ (c : Chunk). c.group) (rest_at k high)
    ]
  ]

  pub elements_grouped : (group_of : ℕ → Option ℕ) (places : List ℕ) → AreGrouped group_of chunks places → (x : ℕ)
      → Contains (joined filled) x → IsSome (group_of x)
  elements_grouped group_of places grouped x there =
      has_group group_of chunks places x grouped (range_in chunks i j x less (Contains-permutation elements
      (joined (between i j chunks)) x (IsPermutation-sym (joined (between i j chunks)) elements same)
      (subst (λ xs. Contains xs x) joins there)))

  pub elements_once : (group_of : ℕ → Option ℕ) (places : List ℕ) → AreGrouped group_of chunks places
      → EachOnce (joined filled)
  elements_once group_of places grouped =
      subst EachOnce (sym joins)
      (once_moved (joined (between i j chunks)) elements same (once_between chunks i j less grouped.once))

  module _ (old new : ℕ → Option ℕ) (places : List ℕ) (grouped : AreGrouped old chunks places)
      (moved : AreMovedToChunks filled old new) where
    once_now : EachOnce (joined now)
    once_now = once_moved (joined chunks) (joined now) moved_now grouped.once

    -- an element of a chunk outside the range did not move
    outside : (k x : ℕ) → k < length chunks → ((i ≤ k) → (k < j) → ⊥) → chunk_at now k ≡ chunk_at chunks k
        → Contains (chunk_at now k).elements x → new x ≡ Some (chunk_at now k).group
    outside k x there out is among =
        let none : ¬ Contains (joined filled) x = λ in_filled.
        let at = from_joined filled x in_filled in
        let long = filled_long in
        let low : at.0 < j - i = let size = at.1 in omega (arith, size, long) in
        let whole = now_long in
        let clash = chunks_apart now (i + at.0) k x once_now (omega (arith, low, whole, within))
        (omega (arith, there, whole))
        (subst (λ (c : Chunk). Contains c.elements x) (sym (filled_at at.0 low)) at.2) among in
        out (omega (arith, clash)) (omega (arith, clash, low)) in
        moved.others x none
        ∙ grouped.found k x there (subst (λ (c : Chunk). Contains c.elements x) is among)
        ∙ ap (λ (c : Chunk). Some c.group) (sym is)

    found_now : (k x : ℕ) → k < length chunks → Contains (chunk_at now k).elements x
        → new x ≡ Some (chunk_at now k).group
    found_now k x there among = elim (cases_lt k i) [
      | inl low ↦ outside k x there (λ from below. omega (arith, low, from)) (front_at k low) among
      | inr from ↦ elim (cases_lt k j) [
        | inl below ↦
            let long = filled_long in
            let is = range_at k from below in
            moved.moved (k - i) x (omega (arith, long, from, below))
            (subst (λ (c : Chunk). Contains c.elements x) is among)
            ∙ ap (λ (c : Chunk). Some c.group) (sym is)
        | inr high ↦ outside k x there (λ from_i below. omega (arith, high, below)) (rest_at k high) among
      ]
    ]

    known_now : (x g : ℕ) → new x ≡ Some g → Contains (joined now) x
    known_now x g is = elim (side (joined filled) x) [
      | inl there ↦
          subst (λ xs. Contains xs x) (sym (joined_append (take i chunks) (filled ++ behind)))
          (Contains-append_right (joined (take i chunks)) (joined (filled ++ behind)) x
          (subst (λ xs. Contains xs x) (sym (joined_append filled behind))
          (Contains-append_left (joined filled) (joined behind) x there)))
      | inr none ↦
          Contains-permutation (joined chunks) (joined now) x moved_now
          (grouped.known x g (sym (moved.others x none) ∙ is))
    ]

    pub grouped_overwritten : AreGrouped new now places
    grouped_overwritten = record {
      once = once_now;
      placed = λ k there.
          let whole = now_long in
          let low : k < length chunks = omega (arith, there, whole) in
          let q = grouped.placed k low in (
            subst (λ g. g < length places) (sym (group_at k low)) q.0,
            ap (λ g. get_or places g 0) (group_at k low)
                ∙ q.1,
          );
      found = λ k x there among. let whole = now_long in found_now k x (omega (arith, there, whole)) among;
      known = known_now;
    }

-- an element of an earlier chunk is before one of a later chunk
pub before_by_chunks : (chunks : List Chunk) (j k a b : ℕ) → j < k → k < length chunks
    → Contains (chunk_at chunks j).elements a → Contains (chunk_at chunks k).elements b → IsBefore (joined chunks) a b
before_by_chunks chunks j k a b less there left right =
    let low : j < length chunks = omega (arith, less, there) in
    let last : (joined chunks ≡ joined (take (j + 1) chunks) ++ joined (drop (j + 1) chunks)) = split_joined in
    subst (λ xs. IsBefore xs a b) (sym last) (before_across (joined (take (j + 1) chunks))
    (joined (drop (j + 1) chunks)) a b
    (in_take low) in_drop)
  where
    split_joined : joined chunks ≡ joined (take (j + 1) chunks) ++ joined (drop (j + 1) chunks)
    split_joined = ap joined (sym (take-append-drop (j + 1) chunks))
        ∙ joined_append (take (j + 1) chunks) (drop (j + 1) chunks)

    in_take : j < length chunks → Contains (joined (take (j + 1) chunks)) a
    in_take low =
        let long = length-take-le (j + 1) chunks (omega (arith, low)) in
        in_joined (take (j + 1) chunks) j a (omega (arith, long))
        (subst (λ (c : Chunk). Contains c.elements a) (sym (get_or-take (j + 1) chunks j no_chunk (omega arith))) left)

    in_drop : Contains (joined (drop (j + 1) chunks)) b
    in_drop =
        let long = length-drop (j + 1) chunks in
        let sum : (j + 1) + (k - (j + 1)) ≡ k = omega (arith, less) in
        in_joined (drop (j + 1) chunks) (k - (j + 1)) b (omega (arith, long, less, there))
        (subst (λ (c : Chunk). Contains c.elements b)
        (sym (get_or-drop (j + 1) chunks (k - (j + 1)) no_chunk ∙ ap (chunk_at chunks) sum)) right)

-- what is before what in a chunk is so in the whole
pub before_in_chunk : (chunks : List Chunk) (k a b : ℕ) → k < length chunks → IsBefore (chunk_at chunks k).elements a b
    → IsBefore (joined chunks) a b
before_in_chunk chunks k a b there before =
    subst (λ xs. IsBefore xs a b) (sym (joined_at chunks k there))
    (before_right (joined (take k chunks)) ((chunk_at chunks k).elements ++ joined (drop (k + 1) chunks)) a b
    (before_left (chunk_at chunks k).elements (joined (drop (k + 1) chunks)) a b before))

-- the range from the chunk of one element to that of another
pub span_is : (chunks : List Chunk) (first last one other : ℕ) → first ≤ last → last < length chunks
    → Contains (chunk_at chunks first).elements one → Contains (chunk_at chunks last).elements other
    → IsSpan chunks one other first (last + 1)
span_is chunks first last one other less there has_one has_other = record {
  ordered = omega (arith, less);
  within = omega (arith, there);
  has_one = in_range chunks first (last + 1) first one (omega arith) (omega (arith, less))
      (omega (arith, there)) has_one;
  has_other = in_range chunks first (last + 1) last other less (omega arith) (omega (arith, there)) has_other;
}

-- an element of the list is not behind its end
pub position_within : (xs : List ℕ) (x position : ℕ) → Contains xs x
    → ((k : ℕ) → k < position → ¬ (get_or xs k 0 ≡ x)) → position < length xs
position_within xs x position there before = elim (cases_lt there.0 position) [
  | inl less ↦ absurd (before there.0 less (same_read xs there.0 0 x there.1 ∙ there.2))
  | inr more ↦ let low = there.1 in omega (arith, low, more)
]

-- a part of a list that has the elements at two indexes
in_part : (xs : List ℕ) (i j k x : ℕ) → i ≤ k → k < j → j ≤ length xs → get_or xs k 0 ≡ x
    → Contains (between i j xs) x
in_part xs i j k x from below within is =
    let size = length-between xs i j within in
    let sum : i + (k - i) ≡ k = omega (arith, from) in
    subst (λ y. Contains (between i j xs) y)
    (get_or-between xs i j (k - i) 0 (omega (arith, from, below)) ∙ ap (λ n. get_or xs n 0) sum ∙ is)
    (Contains-get_or (between i j xs) (k - i) 0 (omega (arith, size, from, below)))

pub part_is : (xs : List ℕ) (i j one other : ℕ) → i ≤ j → j < length xs → get_or xs i 0 ≡ one
    → get_or xs j 0 ≡ other → IsPartWith xs one other i (j + 1)
part_is xs i j one other less within first last = record {
  ordered = omega (arith, less);
  within = omega (arith, within);
  has_one = in_part xs i (j + 1) i one (omega arith) (omega (arith, less)) (omega (arith, within)) first;
  has_other = in_part xs i (j + 1) j other less (omega arith) (omega (arith, within)) last;
}

pub part_flipped : (xs : List ℕ) (one other start end : ℕ) → IsPartWith xs other one start end
    → IsPartWith xs one other start end
part_flipped xs one other start end part = record {
  ordered = part.ordered;
  within = part.within;
  has_one = part.has_other;
  has_other = part.has_one;
}

same_some : (a b : ℕ) → Some a ≡ Some b → a ≡ b
same_some a b same = cc

some_of : (o : Option ℕ) → is_some o ≡ true → (m : ℕ) × (o ≡ Some m)
some_of None is = absurd (false≢true is)
some_of (Some m) is = (m, refl)

module _ (group_of : ℕ → Option ℕ) (chunks : List Chunk) (places : List ℕ) (grouped : AreGrouped group_of chunks places)
    (x : ℕ) where
  pub contains_read : (answer : Bool) → answer ≡ is_some (group_of x) → IsTrue answer ↔ Contains (joined chunks) x
  contains_read answer says = (
    λ is. let g = some_of (group_of x) (sym says ∙ is) in grouped.known x g.0 g.1,
    λ there. says ∙ has_group group_of chunks places x grouped there,
  )

  -- the index that is read under the group of the element
  pub place_read : (g : ℕ) → Contains (joined chunks) x → group_of x ≡ Some g
      → (g < length places) × (get_or places g 0 < length chunks)
      × Contains (chunk_at chunks (get_or places g 0)).elements x
  place_read g there is =
      let at = from_joined chunks x there in
      let k = at.0 in
      let within = at.1 in
      let placed = grouped.placed k within in
      let low = placed.0 in
      let same = same_some g (chunk_at chunks k).group (sym is ∙ grouped.found k x within at.2) in
      let place : get_or places g 0 ≡ k = ap (λ n. get_or places n 0) same ∙ placed.1 in (
        omega (arith, same, low),
        omega (arith, place, within),
        subst (λ n. Contains (chunk_at chunks n).elements x) (sym place) at.2,
      )

-- one more chunk, without elements
pub joined_pushed : (chunks : List Chunk) (chunk : Chunk) → chunk.elements ≡ []
    → joined (chunks ++ chunk ∷ []) ≡ joined chunks
joined_pushed chunks chunk empty =
    joined_append chunks (chunk ∷ []) ∙ ap (λ xs. joined chunks ++ (xs ++ [])) empty ∙ append-nil (joined chunks)

pub grouped_pushed : (group_of : ℕ → Option ℕ) (chunks : List Chunk) (places : List ℕ) (chunk : Chunk)
    → AreGrouped group_of chunks places → chunk.group ≡ length places → chunk.elements ≡ []
    → AreGrouped group_of (chunks ++ chunk ∷ []) (places ++ length chunks ∷ [])
grouped_pushed group_of chunks places chunk grouped group empty =
    let more = length_push chunks chunk in
    let more_places = length_push places (length chunks) in
    let joins = joined_pushed chunks chunk empty in
    record {
      once = subst EachOnce (sym joins) grouped.once;
      placed = λ k within. elim (cases_lt k (length chunks)) [
        | inl low ↦
            let q = grouped.placed k low in
            let less = q.0 in
            let same = ap (λ (c : Chunk). c.group) (get_or_append_left chunks (chunk ∷ []) no_chunk k low) in (
              omega (arith, less, same, more_places),
              ap (λ g. get_or (places ++ length chunks ∷ []) g 0) same
                  ∙ get_or_append_left places (length chunks ∷ []) 0 (chunk_at chunks k).group less ∙ q.1,
            )
        | inr high ↦
            let last : length chunks ≡ k = omega (arith, high, within, more) in
            let same : (chunk_at (chunks ++ chunk ∷ []) k).group ≡ length places =
            ap (λ (c : Chunk). c.group) (get_or_push chunks chunk no_chunk k last) ∙ group in (
              omega (arith, same, more_places),
              ap (λ g. get_or (places ++ length chunks ∷ []) g 0) same
                  ∙ get_or_push places (length chunks) 0 (length places) refl ∙ last,
            )
      ];
      found = λ k x within among. elim (cases_lt k (length chunks)) [
        | inl low ↦
            let same = get_or_append_left chunks (chunk ∷ []) no_chunk k low in
            grouped.found k x low (subst (λ (c : Chunk). Contains c.elements x) same among)
            ∙ ap (λ (c : Chunk). Some c.group) (sym same)
        | inr high ↦
            let last : length chunks ≡ k = omega (arith, high, within, more) in
            absurd (none_there x (subst (λ xs. Contains xs x)
            (ap (λ (c : Chunk). c.elements) (get_or_push chunks chunk no_chunk k last) ∙ empty) among))
      ];
      known = λ x g is. subst (λ xs. Contains xs x) (sym joins) (grouped.known x g is);
    }

-- the overwritten chunks as the code reads them
module _ (old : ℕ → Option ℕ) (chunks read filled now2 : List Chunk) (places : List ℕ) (i j len : ℕ) (elements : List ℕ)
    (less : i ≤ j) (within : j ≤ length chunks) (grouped : AreGrouped old chunks places)
    (same : IsPermutation (joined (between i j chunks)) elements) (reads : read ≡ chunks) (long : len ≡ length chunks)
    (joins : joined filled ≡ elements) (groups : HaveSameGroups (between i j read) filled)
    (made : now2 ≡ take len (put_mid i (j - i) read filled
    ++ drop (length (put_mid i (j - i) read filled)) chunks)) where
  groups_is : HaveSameGroups (between i j chunks) filled
  groups_is = subst (λ cs. HaveSameGroups (between i j cs) filled) reads groups

  whole_is : now2 ≡ put_mid i (j - i) chunks filled
  whole_is =
      made
      ∙ ap (λ cs. take len (put_mid i (j - i) cs filled ++ drop (length (put_mid i (j - i) cs filled)) chunks)) reads
      ∙ take_at (put_mid i (j - i) chunks filled) (drop (length (put_mid i (j - i) chunks filled)) chunks) len
      (now_long chunks filled i j less within elements same joins groups_is ∙ sym long)

  range_is : between i j now2 ≡ filled
  range_is =
      ap (between i j) whole_is
      ∙ between-put_mid i (j - i) chunks filled j (omega (arith, less, within))
      (filled_long chunks filled i j less within elements same joins groups_is)

  pub read_once : EachOnce (joined (between i j now2))
  read_once =
      subst (λ cs. EachOnce (joined cs)) (sym range_is)
      (elements_once chunks filled i j less within elements same joins groups_is old places grouped)

  pub read_known : (x : ℕ) → Contains (joined (between i j now2)) x → IsSome (old x)
  read_known x there =
      elements_grouped chunks filled i j less within elements same joins groups_is old places grouped x
      (subst (λ cs. Contains (joined cs) x) range_is there)

  pub read_grouped : (new : ℕ → Option ℕ) → AreMovedToChunks (between i j now2) old new → AreGrouped new now2 places
  read_grouped new moved =
      subst (λ cs. AreGrouped new cs places) (sym whole_is)
      (grouped_overwritten chunks filled i j less within elements same joins groups_is old new places grouped
      (subst (λ cs. AreMovedToChunks cs old new) range_is moved))
