-- Elements that are removed from their chunks and put into one chunk at a cut.
use Rattle.std.proofs.Common.{◌≡◌, ℕ, zero, suc, ◌+◌, ◌<◌, List, [], ◌∷◌, ◌++◌, length, get_or, take, drop, set, Option, Some, refl, sym, ap, ◌∙◌, subst, inl, inr, arith, append_assoc}
use Rattle.std.specs.Prelude.{Contains}
use Rattle.std.specs.List.Sorted.{IsPermutation}
use Rattle.std.proofs.lemmas.Bool.{cases_eq}
use Rattle.std.proofs.lemmas.List.{length-set, length-take-le, length-drop, get_or-set_same, get_or-set_other, get_or-take, get_or-drop, take-append-drop}
use Rattle.std.proofs.lemmas.List.Elements.{Contains-append_left, Contains-append_right, Contains-append_cases, filter-append}
use Rattle.std.proofs.lemmas.List.Sorted.{Contains-permutation}
use Rattle.ra_labels.specs.Edges.{EachOnce}
use Rattle.ra_list_order.specs.Chunks.{Chunk, no_chunk, chunk_at, joined, AreGrouped, AreMovedTo}
use Rattle.ra_list_order.specs.Gathering.{others, gathered, left_of, right_of, AreRemoved}
use Rattle.ra_labels.specs.Listing.{without}
use Rattle.ra_list_order.proofs.Adds.{once_moved}
use Rattle.ra_list_order.proofs.JoinedChunks.{joined_at, joined_set, side, widen}
use Rattle.ra_list_order.proofs.Members.{read_at}
use Rattle.ra_list_order.proofs.Others.{is_other, other_kept, others_none, others_more, others_same, gathered_elements}

pub removed_none : (chunks : List Chunk) → AreRemoved [] chunks chunks
removed_none chunks = record {
  groups = record {
    as_many = refl;
    each = λ k within. refl;
  };
  each = λ k within. sym (others_none (chunk_at chunks k).elements);
}

some_same : (a b : ℕ) → Some a ≡ Some b → a ≡ b
some_same a b same = cc

-- the only chunk that has an element is the one at the index that is read under its group
pub only_place : (group_of : ℕ → Option ℕ) (chunks : List Chunk) (places : List ℕ) (x g j : ℕ)
    → AreGrouped group_of chunks places → group_of x ≡ Some g → j < length chunks
    → Contains (chunk_at chunks j).elements x → get_or places g 0 ≡ j
only_place group_of chunks places x g j grouped is within there =
    let same = some_same g (chunk_at chunks j).group (sym is ∙ grouped.found j x within there) in
    ap (λ n. get_or places n 0) same ∙ (grouped.placed j within).1

-- one more element is removed
module _ (old now : List Chunk) (elements : List ℕ) (i k : ℕ) (chunk : Chunk) (within : i < length elements)
    (there : k < length old) (removed : AreRemoved (take i elements) old now)
    (only : (j : ℕ) → j < length old → Contains (chunk_at old j).elements (get_or elements i 0) → k ≡ j)
    (group : chunk.group ≡ (chunk_at now k).group)
    (made : chunk.elements ≡ without (get_or elements i 0) (chunk_at now k).elements) where
  now_there : k < length now
  now_there = let many = removed.groups.as_many in omega (arith, many, there)

  here : chunk_at (set now k chunk) k ≡ chunk
  here = get_or-set_same now k chunk no_chunk now_there

  group_same : (j : ℕ) → (chunk_at (set now k chunk) j).group ≡ (chunk_at now j).group
  group_same j = elim (cases_eq j k) [
    | inl is ↦
        ap (λ n. (chunk_at (set now k chunk) n).group) is ∙ ap (λ (c : Chunk). c.group) here ∙ group
        ∙ ap (λ n. (chunk_at now n).group) (sym is)
    | inr other ↦ ap (λ (c : Chunk). c.group) (get_or-set_other now k j chunk no_chunk other)
  ]

  pub removed_more : AreRemoved (take (i + 1) elements) old (set now k chunk)
  removed_more = record {
    groups = record {
      as_many = length-set now k chunk ∙ removed.groups.as_many;
      each = λ j low. group_same j ∙ removed.groups.each j low;
    };
    each = λ j low. elim (cases_eq j k) [
      | inl is ↦
          ap (λ n. (chunk_at (set now k chunk) n).elements) is ∙ ap (λ (c : Chunk). c.elements) here ∙ made
          ∙ ap (without (get_or elements i 0)) (removed.each k there)
          ∙ others_more elements (chunk_at old k).elements i within
          ∙ ap (λ n. others (take (i + 1) elements) (chunk_at old n).elements) (sym is)
      | inr other ↦
          ap (λ (c : Chunk). c.elements) (get_or-set_other now k j chunk no_chunk other) ∙ removed.each j low
          ∙ sym (others_same elements (chunk_at old j).elements i within (λ mine. other (sym (only j low mine))))
    ];
  }

joined_others : (moved : List ℕ) (old new : List Chunk) → length new ≡ length old
    → ((k : ℕ) → k < length old → (chunk_at new k).elements ≡ others moved (chunk_at old k).elements)
    → joined new ≡ others moved (joined old)
joined_others moved [] [] long each = refl
joined_others moved [] (d ∷ ds) long each = absurd (omega arith)
joined_others moved (c ∷ cs) [] long each = absurd (omega arith)
joined_others moved (c ∷ cs) (d ∷ ds) long each =
    ap (λ xs. xs ++ joined ds) (each zero (omega arith))
    ∙ ap (λ ys. others moved c.elements ++ ys)
    (joined_others moved cs ds (omega arith) (λ k below. each (suc k) (omega arith)))
    ∙ sym (filter-append (is_other moved) c.elements (joined cs))

module _ (moved : List ℕ) (old removed : List Chunk) (k : ℕ) (there : k < length old)
    (taken : AreRemoved moved old removed) where
  front_others : joined (take k removed) ≡ others moved (joined (take k old))
  front_others =
      let many = taken.groups.as_many in
      let one = length-take-le k removed (omega (arith, many, there)) in
      let two = length-take-le k old (omega (arith, there)) in
      joined_others moved (take k old) (take k removed) (one ∙ sym two)
      (λ j below. ap (λ (c : Chunk). c.elements) (get_or-take k removed j no_chunk (omega (arith, below, two)))
      ∙ taken.each j (omega (arith, below, two, there))
      ∙ ap (λ (c : Chunk). others moved c.elements) (sym (get_or-take k old j no_chunk (omega (arith, below, two)))))

  back_others : joined (drop (k + 1) removed) ≡ others moved (joined (drop (k + 1) old))
  back_others =
      let many = taken.groups.as_many in
      let one = length-drop (k + 1) removed in
      let two = length-drop (k + 1) old in
      joined_others moved (drop (k + 1) old) (drop (k + 1) removed) (omega (arith, one, two, many))
      (λ j below. ap (λ (c : Chunk). c.elements) (get_or-drop (k + 1) removed j no_chunk)
      ∙ taken.each (k + 1 + j) (omega (arith, below, two))
      ∙ ap (λ (c : Chunk). others moved c.elements) (sym (get_or-drop (k + 1) old j no_chunk)))

-- the order is cut in two
pub cut_whole : (chunks : List Chunk) (k p : ℕ) → k < length chunks
    → joined chunks ≡ left_of chunks k p ++ right_of chunks k p
cut_whole chunks k p there =
    let front = joined (take k chunks) in
    let back = joined (drop (k + 1) chunks) in
    let mine = (chunk_at chunks k).elements in
    joined_at chunks k there
    ∙ ap (λ xs. front ++ (xs ++ back)) (sym (take-append-drop p mine))
    ∙ ap (λ xs. front ++ xs) (append_assoc (take p mine) (drop p mine) back)
    ∙ sym (append_assoc front (take p mine) (drop p mine ++ back))

module _ (group_of after : ℕ → Option ℕ) (old removed : List Chunk) (places moved : List ℕ) (k p : ℕ) (chunk : Chunk)
    (grouped : AreGrouped group_of old places) (there : k < length old) (taken : AreRemoved moved old removed)
    (made : chunk.elements ≡ gathered (take p (chunk_at old k).elements) moved (drop p (chunk_at old k).elements))
    (group : chunk.group ≡ (chunk_at removed k).group)
    (known : (x : ℕ) → Contains moved x → Contains (joined old) x) (once : EachOnce moved)
    (set_to : AreMovedTo moved chunk.group group_of after) where
  abbrev now : List Chunk
  now = set removed k chunk

  abbrev mine : List ℕ
  mine = (chunk_at old k).elements

  abbrev left : List ℕ
  left = left_of old k p

  abbrev right : List ℕ
  right = right_of old k p

  removed_there : k < length removed
  removed_there = let many = taken.groups.as_many in omega (arith, many, there)

  chunk_here : chunk_at now k ≡ chunk
  chunk_here = get_or-set_same removed k chunk no_chunk removed_there

  pub joined_gathered : joined now ≡ gathered left moved right
  joined_gathered =
      let front = joined (take k old) in
      let back = joined (drop (k + 1) old) in
      joined_set removed k chunk removed_there
      ∙ ap (λ xs. xs ++ (chunk.elements ++ joined (drop (k + 1) removed))) (front_others moved old removed k there taken)
      ∙ ap (λ xs. others moved front ++ (chunk.elements ++ xs)) (back_others moved old removed k there taken)
      ∙ widen (others moved front) (others moved back) (others moved (take p mine)) (others moved (drop p mine)) moved
      chunk.elements made
      ∙ ap (λ xs. xs ++ (moved ++ (others moved (drop p mine) ++ others moved back)))
      (sym (filter-append (is_other moved) front (take p mine)))
      ∙ ap (λ xs. others moved left ++ (moved ++ xs)) (sym (filter-append (is_other moved) (drop p mine) back))

  order_gathered : IsPermutation (joined old) (joined now)
  order_gathered =
      let whole = cut_whole old k p there in
      subst (λ xs. IsPermutation xs (joined now)) (sym whole)
      (subst (λ xs. IsPermutation (left ++ right) xs) (sym joined_gathered)
      (gathered_elements left moved right (subst EachOnce whole grouped.once) once
      (λ x mine_too. subst (λ xs. Contains xs x) whole (known x mine_too))))

  group_at : (j : ℕ) → j < length old → (chunk_at now j).group ≡ (chunk_at old j).group
  group_at j low = elim (cases_eq j k) [
    | inl is ↦
        ap (λ n. (chunk_at now n).group) is ∙ ap (λ (c : Chunk). c.group) chunk_here ∙ group
        ∙ ap (λ n. (chunk_at removed n).group) (sym is) ∙ taken.groups.each j low
    | inr other ↦
        ap (λ (c : Chunk). c.group) (get_or-set_other removed k j chunk no_chunk other) ∙ taken.groups.each j low
  ]

  -- an element that is not moved keeps its group
  stays : (j x : ℕ) → j < length old → Contains (chunk_at old j).elements x → ¬ Contains moved x
      → after x ≡ Some (chunk_at now j).group
  stays j x low mine_too none =
      set_to.others x none ∙ grouped.found j x low mine_too ∙ ap Some (sym (group_at j low))

  in_chunk : (x : ℕ) → Contains chunk.elements x → after x ≡ Some (chunk_at now k).group
  in_chunk x there_too =
      elim (Contains-append_cases (others moved (take p mine)) (moved ++ others moved (drop p mine)) x
      (subst (λ xs. Contains xs x) made there_too)) [
        | inl first ↦
            let kept = other_kept moved (take p mine) x first in
            stays k x there (subst (λ xs. Contains xs x) (take-append-drop p mine)
            (Contains-append_left (take p mine) (drop p mine) x kept.0)) kept.1
        | inr more ↦ elim (Contains-append_cases moved (others moved (drop p mine)) x more) [
          | inl mine_too ↦ set_to.moved x mine_too ∙ ap (λ (c : Chunk). Some c.group) (sym chunk_here)
          | inr last ↦
              let kept = other_kept moved (drop p mine) x last in
              stays k x there (subst (λ xs. Contains xs x) (take-append-drop p mine)
              (Contains-append_right (take p mine) (drop p mine) x kept.0)) kept.1
        ]
      ]

  found_now : (j x : ℕ) → j < length old → Contains (chunk_at now j).elements x → after x ≡ Some (chunk_at now j).group
  found_now j x low among = elim (cases_eq j k) [
    | inl is ↦
        in_chunk x (subst (λ xs. Contains xs x) (ap (λ n. (chunk_at now n).elements) is
        ∙ ap (λ (c : Chunk). c.elements) chunk_here) among)
        ∙ ap (λ n. Some (chunk_at now n).group) (sym is)
    | inr other ↦
        let kept = other_kept moved (chunk_at old j).elements x (subst (λ xs. Contains xs x)
        (ap (λ (c : Chunk). c.elements) (get_or-set_other removed k j chunk no_chunk other) ∙ taken.each j low) among) in
        stays j x low kept.0 kept.1
  ]

  known_now : (x g : ℕ) → after x ≡ Some g → Contains (joined now) x
  known_now x g is =
      Contains-permutation (joined old) (joined now) x order_gathered (elim (side moved x) [
        | inl mine_too ↦ known x mine_too
        | inr none ↦ grouped.known x g (sym (set_to.others x none) ∙ is)
      ])

  pub grouped_gathered : AreGrouped after now places
  grouped_gathered =
      let long = length-set removed k chunk in
      let many = taken.groups.as_many in
      record {
        once = once_moved (joined old) (joined now) order_gathered grouped.once;
        placed = λ j within.
            let low : j < length old = omega (arith, within, long, many) in
            let q = grouped.placed j low in (
              subst (λ g. g < length places) (sym (group_at j low)) q.0,
              ap (λ g. get_or places g 0) (group_at j low) ∙ q.1,
            );
        found = λ j x within among. found_now j x (omega (arith, within, long, many)) among;
        known = known_now;
      }

-- the same as the code reads it
module _ (group_of after : ℕ → Option ℕ) (old removed : List Chunk) (places moved : List ℕ) (k p group : ℕ)
    (read chunk read_mut read_again : Chunk) (xs all : List ℕ) (grouped : AreGrouped group_of old places)
    (there : k < length old) (reads : read ≡ get_or old k read) (xs_are : xs ≡ read.elements)
    (all_are : all ≡ gathered (take p xs) moved (drop p xs)) (taken : AreRemoved moved old removed)
    (reads_mut : read_mut ≡ get_or removed k read_mut) (group_is : chunk.group ≡ read_mut.group)
    (elements_are : chunk.elements ≡ all) (reads_again : read_again ≡ get_or (set removed k chunk) k read_again)
    (group_read : group ≡ read_again.group) (known : (x : ℕ) → Contains moved x → Contains (joined old) x)
    (once : EachOnce moved) (set_to : AreMovedTo moved group group_of after) where
  read_there : k < length removed
  read_there = let many = taken.groups.as_many in omega (arith, many, there)

  read_made : chunk.elements ≡ gathered (take p (chunk_at old k).elements) moved (drop p (chunk_at old k).elements)
  read_made =
      elements_are ∙ all_are
      ∙ ap (λ ys. gathered (take p ys) moved (drop p ys))
      (xs_are ∙ ap (λ (c : Chunk). c.elements) (read_at old k no_chunk read there reads))

  read_group : chunk.group ≡ (chunk_at removed k).group
  read_group = group_is ∙ ap (λ (c : Chunk). c.group) (read_at removed k no_chunk read_mut read_there reads_mut)

  read_set_to : AreMovedTo moved chunk.group group_of after
  read_set_to =
      let long = length-set removed k chunk in
      let low = read_there in
      subst (λ g. AreMovedTo moved g group_of after)
      (group_read ∙ ap (λ (c : Chunk). c.group) (read_at (set removed k chunk) k no_chunk read_again
      (omega (arith, long, low)) reads_again ∙ get_or-set_same removed k chunk no_chunk low)) set_to

  pub read_joined : joined (set removed k chunk) ≡ gathered (left_of old k p) moved (right_of old k p)
  read_joined =
      joined_gathered group_of after old removed places moved k p chunk grouped there taken read_made read_group known
      once read_set_to

  pub read_grouped : AreGrouped after (set removed k chunk) places
  read_grouped =
      grouped_gathered group_of after old removed places moved k p chunk grouped there taken read_made read_group known
      once read_set_to
