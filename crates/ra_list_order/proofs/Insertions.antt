-- An element inserted into one of the chunks.
use Rattle.std.proofs.Common.{◌≡◌, ℕ, ◌+◌, ◌-◌, ◌<◌, ◌≤◌, List, [], ◌∷◌, ◌++◌, length, get_or, take, drop, set, Option, Some, None, refl, sym, ap, ◌∙◌, subst, inl, inr, arith}
use Rattle.std.specs.Prelude.{◌⊎◌, Contains}
use Rattle.std.specs.List.{insert}
use Rattle.std.proofs.lemmas.Bool.{cases_eq}
use Rattle.std.proofs.lemmas.List.{length-set, get_or-set_same, get_or-set_other, take-set, drop-set-lt}
use Rattle.std.proofs.lemmas.List.Edits.{insert-append_left, insert-append_right}
use Rattle.std.proofs.lemmas.List.Sorted.{IsPermutation-insert, IsPermutation-sym, Contains-permutation}
use Rattle.ra_labels.specs.Edges.{EachOnce}
use Rattle.ra_list_order.specs.ListOrder.{IsPut}
use Rattle.ra_list_order.specs.Chunks.{Chunk, no_chunk, chunk_at, joined, group_in, AreGrouped, IsInsertedAt}
use Rattle.ra_list_order.specs.Numbers.{IsSetTo, number_in}
use Rattle.ra_list_order.proofs.GroupNumbers.{number_set, same_groups}
use Rattle.ra_list_order.proofs.JoinedChunks.{joined_at, joined_set, in_joined, widen}
use Rattle.ra_list_order.proofs.Pointed.{IsPointed}
use Rattle.ra_list_order.proofs.Members.{head_or_behind, at_head, behind_head, read_at}
use Rattle.ra_list_order.proofs.Puts.{once_put, put_behind, put_before}

in_inserted : (xs : List ℕ) (i x y : ℕ) → Contains (insert xs i x) y → (x ≡ y) ⊎ Contains xs y
in_inserted xs i x y there =
    head_or_behind x xs y (Contains-permutation (insert xs i x) (x ∷ xs) y
    (IsPermutation-sym (x ∷ xs) (insert xs i x) (IsPermutation-insert xs i x)) there)

has_inserted : (xs : List ℕ) (i x : ℕ) → Contains (insert xs i x) x
has_inserted xs i x = Contains-permutation (x ∷ xs) (insert xs i x) x (IsPermutation-insert xs i x)
    (at_head x xs x refl)

still_there : (xs : List ℕ) (i x y : ℕ) → Contains xs y → Contains (insert xs i x) y
still_there xs i x y there =
    Contains-permutation (x ∷ xs) (insert xs i x) y (IsPermutation-insert xs i x) (behind_head x xs y there)

-- the same if the array only became longer
pub grouped_unchanged : (old new : List ℕ) (chunks : List Chunk) (places : List ℕ)
    → ((x : ℕ) → number_in new x ≡ number_in old x)
    → AreGrouped (group_in old) chunks places → AreGrouped (group_in new) chunks places
grouped_unchanged old new chunks places same grouped =
    let same_get = same_groups old new same in
    record {
      once = grouped.once;
      placed = grouped.placed;
      found = λ k x within mine. same_get x ∙ grouped.found k x within mine;
      known = λ x g is. grouped.known x g (sym (same_get x) ∙ is);
    }

module _ (chunks : List Chunk) (k p x : ℕ) (new : Chunk) (there : k < length chunks)
    (among : p ≤ length (chunk_at chunks k).elements)
    (made : new.elements ≡ insert (chunk_at chunks k).elements p x) where
  abbrev now : List Chunk
  now = set chunks k new

  abbrev front : List ℕ
  front = joined (take k chunks)

  abbrev back : List ℕ
  back = joined (drop (k + 1) chunks)

  pub inserted : IsInsertedAt chunks k p x now
  inserted = joined_set chunks k new there ∙ ap (λ xs. front ++ (xs ++ back)) made

  -- the same as an insertion into the whole
  whole : joined now ≡ insert (joined chunks) (length front + p) x
  whole =
      let mine = (chunk_at chunks k).elements in
      let less : length front + p - length front ≡ p = omega arith in
      joined_set chunks k new there
      ∙ ap (λ xs. front ++ (xs ++ back)) made
      ∙ ap (λ xs. front ++ xs) (sym (insert-append_left mine back p x among))
      ∙ ap (λ n. front ++ insert (mine ++ back) n x) (sym less)
      ∙ sym (insert-append_right front (mine ++ back) (length front) (length front + p) x refl (omega arith))
      ∙ ap (λ xs. insert xs (length front + p) x) (sym (joined_at chunks k there))

  module _ (old after : ℕ → Option ℕ) (places : List ℕ) (grouped : AreGrouped old chunks places)
      (fresh : ¬ Contains (joined chunks) x) (same : new.group ≡ (chunk_at chunks k).group)
      (pointed : IsPointed old after x new.group) where
    here : chunk_at now k ≡ new
    here = get_or-set_same chunks k new no_chunk there

    elsewhere : (j : ℕ) → ¬ (j ≡ k) → chunk_at now j ≡ chunk_at chunks j
    elsewhere j other = get_or-set_other chunks k j new no_chunk other

    group_at : (j : ℕ) → (chunk_at now j).group ≡ (chunk_at chunks j).group
    group_at j = elim (cases_eq j k) [
      | inl is ↦
          ap (λ n. (chunk_at now n).group) is ∙ ap (λ (c : Chunk). c.group) here ∙ same
          ∙ ap (λ n. (chunk_at chunks n).group) (sym is)
      | inr other ↦ ap (λ (c : Chunk). c.group) (elsewhere j other)
    ]

    old_group : (j y : ℕ) → j < length chunks → Contains (chunk_at chunks j).elements y
        → after y ≡ Some (chunk_at now j).group
    old_group j y within mine =
        pointed.apart y (λ is. fresh (subst (λ z. Contains (joined chunks) z) is (in_joined chunks j y within mine)))
        ∙ grouped.found j y within mine ∙ ap Some (sym (group_at j))

    found_now : (j y : ℕ) → j < length chunks → Contains (chunk_at now j).elements y
        → after y ≡ Some (chunk_at now j).group
    found_now j y within mine = elim (cases_eq j k) [
      | inl is ↦
          elim (in_inserted (chunk_at chunks k).elements p x y (subst (λ xs. Contains xs y)
          (ap (λ n. (chunk_at now n).elements) is ∙ ap (λ (c : Chunk). c.elements) here ∙ made) mine)) [
            | inl new_one ↦
                ap after (sym new_one) ∙ pointed.here
                ∙ ap Some (ap (λ (c : Chunk). c.group) (sym here) ∙ ap (λ n. (chunk_at now n).group) (sym is))
            | inr old_one ↦ old_group j y within (subst (λ n. Contains (chunk_at chunks n).elements y) (sym is) old_one)
          ]
      | inr other ↦ old_group j y within (subst (λ (c : Chunk). Contains c.elements y) (elsewhere j other) mine)
    ]

    known_now : (y g : ℕ) → after y ≡ Some g → Contains (joined now) y
    known_now y g is = elim (cases_eq y x) [
      | inl new_one ↦
          subst (λ xs. Contains xs y) (sym whole) (subst (λ z. Contains (insert (joined chunks) (length front + p) x) z)
          (sym new_one) (has_inserted (joined chunks) (length front + p) x))
      | inr old_one ↦
          subst (λ xs. Contains xs y) (sym whole) (still_there (joined chunks) (length front + p) x y
          (grouped.known y g (sym (pointed.apart y old_one) ∙ is)))
    ]

    pub grouped_inserted : AreGrouped after now places
    grouped_inserted = record {
      once = subst EachOnce (sym whole) (once_put (joined chunks) (length front + p) x fresh grouped.once);
      placed = λ j within.
          let size = length-set chunks k new in
          let q = grouped.placed j (omega (arith, within, size)) in
          (subst (λ g. g < length places) (sym (group_at j)) q.0, ap (λ g. get_or places g 0) (group_at j) ∙ q.1);
      found = λ j y within mine.
          let size = length-set chunks k new in
          found_now j y (omega (arith, within, size)) mine;
      known = known_now;
    }

-- a chunk with more room
module _ (chunks : List Chunk) (k : ℕ) (read reserved : Chunk) (there : k < length chunks)
    (reads : read ≡ get_or chunks k read) (group : reserved.group ≡ read.group)
    (elements : reserved.elements ≡ read.elements) where
  abbrev mid : List Chunk
  mid = set chunks k reserved

  was : read ≡ chunk_at chunks k
  was = read_at chunks k no_chunk read there reads

  pub mid_joined : joined mid ≡ joined chunks
  mid_joined =
      joined_set chunks k reserved there
      ∙ ap (λ xs. joined (take k chunks) ++ (xs ++ joined (drop (k + 1) chunks)))
      (elements ∙ ap (λ (c : Chunk). c.elements) was) ∙ sym (joined_at chunks k there)

  mid_there : k < length mid
  mid_there = let size = length-set chunks k reserved in omega (arith, size, there)

  mid_at : chunk_at mid k ≡ reserved
  mid_at = get_or-set_same chunks k reserved no_chunk there

  mid_group : (j : ℕ) → (chunk_at mid j).group ≡ (chunk_at chunks j).group
  mid_group j = elim (cases_eq j k) [
    | inl is ↦
        ap (λ n. (chunk_at mid n).group) is ∙ ap (λ (c : Chunk). c.group) mid_at ∙ group
        ∙ ap (λ (c : Chunk). c.group) was ∙ ap (λ n. (chunk_at chunks n).group) (sym is)
    | inr other ↦ ap (λ (c : Chunk). c.group) (get_or-set_other chunks k j reserved no_chunk other)
  ]

  mid_elements : (j : ℕ) → (chunk_at mid j).elements ≡ (chunk_at chunks j).elements
  mid_elements j = elim (cases_eq j k) [
    | inl is ↦
        ap (λ n. (chunk_at mid n).elements) is ∙ ap (λ (c : Chunk). c.elements) mid_at ∙ elements
        ∙ ap (λ (c : Chunk). c.elements) was ∙ ap (λ n. (chunk_at chunks n).elements) (sym is)
    | inr other ↦ ap (λ (c : Chunk). c.elements) (get_or-set_other chunks k j reserved no_chunk other)
  ]

  pub mid_grouped : (group_of : ℕ → Option ℕ) (places : List ℕ) → AreGrouped group_of chunks places
      → AreGrouped group_of mid places
  mid_grouped group_of places grouped = record {
    once = subst EachOnce (sym mid_joined) grouped.once;
    placed = λ j within.
        let size = length-set chunks k reserved in
        let q = grouped.placed j (omega (arith, within, size)) in
        (subst (λ g. g < length places) (sym (mid_group j)) q.0, ap (λ g. get_or places g 0) (mid_group j) ∙ q.1);
    found = λ j y within mine.
        let size = length-set chunks k reserved in
        grouped.found j y (omega (arith, within, size)) (subst (λ xs. Contains xs y) (mid_elements j) mine)
        ∙ ap Some (sym (mid_group j));
    known = λ y g is. subst (λ xs. Contains xs y) (sym mid_joined) (grouped.known y g is);
  }

  -- and with one more element
  module _ (read2 new : Chunk) (p x : ℕ) (among : p ≤ length (chunk_at chunks k).elements)
      (reads2 : read2 ≡ get_or mid k read2) (group2 : new.group ≡ read2.group)
      (elements2 : new.elements ≡ insert read2.elements p x) where
    was2 : read2 ≡ chunk_at mid k
    was2 = read_at mid k no_chunk read2 mid_there reads2

    among2 : p ≤ length (chunk_at mid k).elements
    among2 = subst (λ xs. p ≤ length xs) (sym (mid_elements k)) among

    made2 : new.elements ≡ insert (chunk_at mid k).elements p x
    made2 = elements2 ∙ ap (λ (c : Chunk). insert c.elements p x) was2

    pub end_inserted : IsInsertedAt chunks k p x (set mid k new)
    end_inserted =
        inserted mid k p x new mid_there among2 made2
        ∙ ap (λ xs. joined (take k mid) ++ (insert xs p x ++ joined (drop (k + 1) mid))) (mid_elements k)
        ∙ ap (λ cs. joined cs ++ (insert (chunk_at chunks k).elements p x ++ joined (drop (k + 1) mid)))
        (take-set chunks k reserved)
        ∙ ap (λ cs. joined (take k chunks) ++ (insert (chunk_at chunks k).elements p x ++ joined cs))
        (drop-set-lt (k + 1) chunks k reserved (omega arith))

    pub end_grouped : (old mid_groups now : List ℕ) (places : List ℕ) (read3 : Chunk) (g : ℕ)
        → AreGrouped (group_in old) chunks places → ¬ Contains (joined chunks) x
        → read3 ≡ get_or mid k read3 → g ≡ read3.group
        → ((y : ℕ) → number_in mid_groups y ≡ number_in old y)
        → IsSetTo x (g + 1) (number_in mid_groups) (number_in now)
        → AreGrouped (group_in now) (set mid k new) places
    end_grouped old mid_groups now places read3 g grouped fresh reads3 is extended done =
        let was3 = read_at mid k no_chunk read3 mid_there reads3 in
        let mine : new.group ≡ (chunk_at mid k).group = group2 ∙ ap (λ (c : Chunk). c.group) was2 in
        let same : g ≡ new.group = is ∙ ap (λ (c : Chunk). c.group) was3 ∙ sym mine in
        grouped_inserted mid k p x new mid_there among2 made2 (group_in mid_groups) (group_in now) places
        (mid_grouped (group_in mid_groups) places (grouped_unchanged old mid_groups chunks places extended grouped))
        (λ in_mid. fresh (subst (λ xs. Contains xs x) mid_joined in_mid)) mine
        (subst (λ v. IsPointed (group_in mid_groups) (group_in now) x v) same (number_set mid_groups now x g done))

-- an element put next to its neighbour in a chunk is put next to it in the whole
pub put_behind_in : (chunks new : List Chunk) (k p left x : ℕ) (right : Option ℕ) → k < length chunks
    → p < length (chunk_at chunks k).elements → get_or (chunk_at chunks k).elements p 0 ≡ left
    → IsInsertedAt chunks k (p + 1) x new → IsPut (joined chunks) (Some left) right x (joined new)
put_behind_in chunks new k p left x right there within is made =
    let mine = (chunk_at chunks k).elements in
    let front = joined (take k chunks) in
    let back = joined (drop (k + 1) chunks) in
    let put = put_behind mine p left x right (insert mine (p + 1) x) within is refl in (
      front ++ put.0,
      put.1 ++ back,
      joined_at chunks k there ∙ widen front back put.0 put.1 (left ∷ []) mine put.2,
      made ∙ widen front back put.0 put.1 (left ∷ x ∷ []) (insert mine (p + 1) x) put.3,
    )

pub put_before_in : (chunks new : List Chunk) (k p right x : ℕ) → k < length chunks
    → p < length (chunk_at chunks k).elements → get_or (chunk_at chunks k).elements p 0 ≡ right
    → IsInsertedAt chunks k p x new → IsPut (joined chunks) None (Some right) x (joined new)
put_before_in chunks new k p right x there within is made =
    let mine = (chunk_at chunks k).elements in
    let front = joined (take k chunks) in
    let back = joined (drop (k + 1) chunks) in
    let put = put_before mine p right x (insert mine p x) within is refl in (
      front ++ put.0,
      put.1 ++ back,
      joined_at chunks k there ∙ widen front back put.0 put.1 (right ∷ []) mine put.2,
      made ∙ widen front back put.0 put.1 (x ∷ right ∷ []) (insert mine p x) put.3,
    )

pub put_first_in : (chunks new : List Chunk) (x : ℕ) → 0 < length chunks → IsInsertedAt chunks 0 0 x new
    → joined new ≡ x ∷ joined chunks
put_first_in chunks new x there made = made ∙ ap (λ xs. x ∷ xs) (sym (joined_at chunks 0 there))
