-- Groups that are set, and chunks that are copied or overwritten, one after another.
use Rattle.std.proofs.Common.{◌≡◌, ℕ, ◌+◌, ◌<◌, ◌≤◌, List, [], ◌∷◌, ◌++◌, length, get_or, take, drop, set, Option, Some, is_some, refl, sym, ap, ◌∙◌, subst, inl, inr, arith}
use Rattle.std.specs.Prelude.{Contains, IsSome}
use Rattle.std.specs.List.{between}
use Rattle.std.proofs.lemmas.Bool.{cases_eq, cases_lt}
use Rattle.std.proofs.lemmas.List.{append-nil, length-append, length-set, length-take-le, get_or-set_same, get_or-set_other, get_or-take, get_or-drop, get_or_past, take-take, take_more, take-append-drop, drop-set-lt, drop-drop, take-set}
use Rattle.std.proofs.lemmas.Slice.{between_is}
use Rattle.std.proofs.lemmas.List.Elements.{Contains-append_left, Contains-append_right, Contains-push, Contains-push_cases}
use Rattle.ra_labels.specs.Edges.{EachOnce}
use Rattle.ra_list_order.specs.Chunks.{Chunk, no_chunk, chunk_at, joined, group_in, HaveSameGroups, AreMovedTo, AreMovedToChunks}
use Rattle.ra_list_order.specs.Numbers.{number_in}
use Rattle.ra_list_order.proofs.GroupNumbers.{some_number}
use Rattle.ra_list_order.proofs.Pointed.{IsPointed}
use Rattle.ra_list_order.proofs.Members.{same_read}
use Rattle.ra_list_order.proofs.JoinedChunks.{joined_append, in_joined, from_joined, side, once_left, once_apart}

-- the elements of one more chunk
pub joined_more : (chunks : List Chunk) (k : ℕ) → k < length chunks
    → joined (take (k + 1) chunks) ≡ joined (take k chunks) ++ (chunk_at chunks k).elements
joined_more chunks k there =
    ap joined (take_more chunks k no_chunk there)
    ∙ joined_append (take k chunks) (chunk_at chunks k ∷ [])
    ∙ ap (λ xs. joined (take k chunks) ++ xs) (append-nil (chunk_at chunks k).elements)

-- the group of one more element is set
module _ (elements : List ℕ) (i group : ℕ) (old now new : ℕ → Option ℕ) (there : i < length elements)
    (moved : AreMovedTo (take i elements) group old now) (set : IsPointed now new (get_or elements i 0) group) where
  abbrev x : ℕ
  x = get_or elements i 0

  more : take (i + 1) elements ≡ take i elements ++ x ∷ []
  more = take_more elements i 0 there

  pub moved_more : AreMovedTo (take (i + 1) elements) group old new
  moved_more = record {
    moved = λ y among. elim (cases_eq y x) [
      | inl same ↦ ap new same ∙ set.here
      | inr other ↦ elim (Contains-push_cases (take i elements) x y (subst (λ xs. Contains xs y) more among)) [
        | inl before ↦ set.apart y other ∙ moved.moved y before
        | inr clash ↦ absurd (other (sym clash))
      ]
    ];
    others = λ y none.
        let other : ¬ (y ≡ x) = λ same. none
        (subst (λ xs. Contains xs y) (sym more) (subst (λ z. Contains (take i elements ++ x ∷ []) z) (sym same)
        (Contains-push (take i elements) x))) in
        set.apart y other
        ∙ moved.others y (λ before. none
        (subst (λ xs. Contains xs y) (sym more) (Contains-append_left (take i elements) (x ∷ []) y before)));
  }

-- an element that has a group is within the array
pub known_within : (groups : List ℕ) (x : ℕ) → IsSome (group_in groups x) → x < length groups
known_within groups x known = elim (cases_lt x (length groups)) [
  | inl low ↦ low
  | inr past ↦
      let none = get_or_past groups x 0 (omega (arith, past)) in
      let some = some_number (number_in groups x) known in
      absurd (omega (arith, none, some))
]

pub still_known : (elements : List ℕ) (group : ℕ) (old now : ℕ → Option ℕ) (x : ℕ)
    → AreMovedTo elements group old now → IsSome (old x) → IsSome (now x)
still_known elements group old now x moved known = elim (side elements x) [
  | inl there ↦ ap is_some (moved.moved x there)
  | inr none ↦ ap is_some (moved.others x none) ∙ known
]

-- the groups of the elements of one more chunk are set
module _ (chunks : List Chunk) (k : ℕ) (chunk : Chunk) (old now new : ℕ → Option ℕ) (there : k < length chunks)
    (is : chunk ≡ chunk_at chunks k) (once : EachOnce (joined chunks))
    (moved : AreMovedToChunks (take k chunks) old now) (set : AreMovedTo chunk.elements chunk.group now new) where
  more_chunks : joined (take (k + 1) chunks) ≡ joined (take k chunks) ++ chunk.elements
  more_chunks = joined_more chunks k there ∙ ap (λ (c : Chunk). joined (take k chunks) ++ c.elements) (sym is)

  once_more : EachOnce (joined (take k chunks) ++ chunk.elements)
  once_more =
      subst EachOnce more_chunks (once_left (joined (take (k + 1) chunks)) (joined (drop (k + 1) chunks))
      (subst EachOnce (ap joined (sym (take-append-drop (k + 1) chunks))
      ∙ joined_append (take (k + 1) chunks) (drop (k + 1) chunks)) once))

  front_long : length (take k chunks) ≡ k
  front_long = length-take-le k chunks (omega (arith, there))

  one_longer : length (take (k + 1) chunks) ≡ k + 1
  one_longer = length-take-le (k + 1) chunks (omega (arith, there))

  moved_at : (j x : ℕ) → j < k + 1 → Contains (chunk_at chunks j).elements x → new x ≡ Some (chunk_at chunks j).group
  moved_at j x low among = elim (cases_eq j k) [
    | inl last ↦
        set.moved x (subst (λ (c : Chunk). Contains c.elements x) (ap (chunk_at chunks) last ∙ sym is) among)
        ∙ ap (λ (c : Chunk). Some c.group) (is ∙ ap (chunk_at chunks) (sym last))
    | inr earlier ↦
        let less : j < k = omega (arith, low, earlier) in
        let same = get_or-take k chunks j no_chunk less in
        let mine = subst (λ (c : Chunk). Contains c.elements x) (sym same) among in
        let size = front_long in
        let within : j < length (take k chunks) = omega (arith, size, less) in
        set.others x (once_apart (joined (take k chunks)) chunk.elements x once_more
        (in_joined (take k chunks) j x within mine))
        ∙ moved.moved j x within mine ∙ ap (λ (c : Chunk). Some c.group) same
  ]

  pub chunks_more : AreMovedToChunks (take (k + 1) chunks) old new
  chunks_more = record {
    moved = λ j x within among.
        let size = one_longer in
        let low : j < k + 1 = omega (arith, within, size) in
        let same = get_or-take (k + 1) chunks j no_chunk low in
        moved_at j x low (subst (λ (c : Chunk). Contains c.elements x) same among)
        ∙ ap (λ (c : Chunk). Some c.group) (sym same);
    others = λ x none.
        set.others x (λ mine. none (subst (λ xs. Contains xs x) (sym more_chunks)
        (Contains-append_right (joined (take k chunks)) chunk.elements x mine)))
        ∙ moved.others x (λ before. none (subst (λ xs. Contains xs x) (sym more_chunks)
        (Contains-append_left (joined (take k chunks)) chunk.elements x before)));
  }

pub chunks_known : (chunks : List Chunk) (old now : ℕ → Option ℕ) (x : ℕ) → AreMovedToChunks chunks old now
    → IsSome (old x) → IsSome (now x)
chunks_known chunks old now x moved known = elim (side (joined chunks) x) [
  | inl there ↦ let at = from_joined chunks x there in ap is_some (moved.moved at.0 x at.1 at.2)
  | inr none ↦ ap is_some (moved.others x none) ∙ known
]

pub none_moved : (old : ℕ → Option ℕ) → AreMovedToChunks [] old old
none_moved old = record {
  moved = λ k x within among. absurd (omega arith);
  others = λ x none. refl;
}

-- one more chunk is overwritten
module _ (old now : List Chunk) (elements : List ℕ) (k done : ℕ) (there : k < length old)
    (all : length elements ≡ length (joined old)) (done_is : done ≡ length (joined (take k old)))
    (filled : joined (take k now) ≡ take done elements) (rest : drop k now ≡ drop k old)
    (groups : HaveSameGroups old now) where
  pub same_chunk : chunk_at now k ≡ chunk_at old k
  same_chunk =
      let sum : k + 0 ≡ k = omega arith in
      ap (chunk_at now) (sym sum) ∙ sym (get_or-drop k now 0 no_chunk) ∙ ap (λ cs. chunk_at cs 0) rest
      ∙ get_or-drop k old 0 no_chunk ∙ ap (chunk_at old) sum

  end_is : length (joined (take (k + 1) old)) ≡ done + length (chunk_at old k).elements
  end_is =
      let more = ap length (joined_more old k there) in
      let sum = length-append (joined (take k old)) (chunk_at old k).elements in
      omega (arith, more, sum, done_is)

  pub end_within : done + length (chunk_at old k).elements ≤ length elements
  end_within =
      let whole = ap length (ap joined (sym (take-append-drop (k + 1) old))
      ∙ joined_append (take (k + 1) old) (drop (k + 1) old)) in
      let sum = length-append (joined (take (k + 1) old)) (joined (drop (k + 1) old)) in
      let part = end_is in
      omega (arith, whole, sum, part, all)

  now_there : k < length now
  now_there = let size = groups.as_many in omega (arith, size, there)

  pub read_chunk : (read : Chunk) (xs : List ℕ) → xs ≡ (get_or now k read).elements → xs ≡ (chunk_at old k).elements
  read_chunk read xs is =
      is ∙ ap (λ (c : Chunk). c.elements) (same_read now k read no_chunk now_there ∙ same_chunk)

  pub read_within : (read : Chunk) (xs : List ℕ) → xs ≡ (get_or now k read).elements
      → done + length xs ≤ length elements
  read_within read xs is =
      let same = ap length (read_chunk read xs is) in
      let low = end_within in
      omega (arith, same, low)

  module _ (read read2 written : Chunk) (xs : List ℕ) (reads : xs ≡ (get_or now k read).elements)
      (has : written.elements ≡ between done (done + length xs) elements)
      (group_read : written.group ≡ (get_or now k read2).group) where
    abbrev end : ℕ
    end = done + length xs

    end_at : end ≡ done + length (chunk_at old k).elements
    end_at = ap (λ ys. done + length ys) (read_chunk read xs reads)

    group : written.group ≡ (chunk_at now k).group
    group = group_read ∙ ap (λ (c : Chunk). c.group) (same_read now k read2 no_chunk now_there)

    abbrev new : List Chunk
    new = set now k written

    new_there : k < length new
    new_there = let size = length-set now k written in let low = now_there in omega (arith, size, low)

    pub new_done : end ≡ length (joined (take (k + 1) old))
    new_done = end_at ∙ sym end_is

    pub new_filled : joined (take (k + 1) new) ≡ take end elements
    new_filled =
        joined_more new k new_there
        ∙ ap (λ cs. joined cs ++ (chunk_at new k).elements) (take-set now k written)
        ∙ ap (λ (c : Chunk). joined (take k now) ++ c.elements) (get_or-set_same now k written no_chunk now_there)
        ∙ ap (λ xs. xs ++ written.elements) filled
        ∙ ap (λ xs. take done elements ++ xs) (has ∙ between_is elements done end)
        ∙ ap (λ xs. xs ++ drop done (take end elements)) (sym (take-take done end elements (omega (arith, end_at))))
        ∙ take-append-drop done (take end elements)

    pub new_rest : drop (k + 1) new ≡ drop (k + 1) old
    new_rest =
        drop-set-lt (k + 1) now k written (omega arith) ∙ sym (drop-drop 1 k now) ∙ ap (drop 1) rest ∙ drop-drop 1 k old

    pub new_groups : HaveSameGroups old new
    new_groups = record {
      as_many = length-set now k written ∙ groups.as_many;
      each = λ j within. elim (cases_eq j k) [
        | inl same ↦
            ap (λ n. (chunk_at new n).group) same
            ∙ ap (λ (c : Chunk). c.group) (get_or-set_same now k written no_chunk now_there)
            ∙ group ∙ ap (λ n. (chunk_at now n).group) (sym same) ∙ groups.each j within
        | inr other ↦
            ap (λ (c : Chunk). c.group) (get_or-set_other now k j written no_chunk other) ∙ groups.each j within
      ];
    }
