-- The order with the marked elements behind, and the cycle.
use Rattle.std.proofs.Common.{◌≡◌, ℕ, ◌+◌, ◌-◌, ◌≤◌, Bool, false, cond, List, [], ◌∷◌, ◌++◌, length, take, drop, refl, sym, ap, ◌∙◌, subst, inl, inr, arith}
use Rattle.std.specs.Prelude.{◌==◌, Contains, All}
use Rattle.std.specs.List.{insert, between}
use Rattle.std.specs.List.Sorted.{IsPermutation}
use Rattle.std.proofs.lemmas.Bool.{false≢true}
use Rattle.std.proofs.lemmas.List.{drop-drop}
use Rattle.std.proofs.lemmas.List.Edits.{length-between, split_between}
use Rattle.std.proofs.lemmas.List.Elements.{All-contains, Contains-append_left, Contains-append_cases, Contains-push, Contains-push_cases}
use Rattle.std.proofs.lemmas.List.Sorted.{IsPermutation-append_left, IsPermutation-append_right, Contains-permutation, length_permutation, sum_by-IsPermutation}
use Rattle.ra_labels.specs.declared.edge.Edge.{Edge}
use Rattle.ra_labels.specs.Edges.{EachOnce, IsBefore, Extends, IsChain, IsCycle}
use Rattle.ra_list_order.specs.ListOrder.{ListOrderKept}
use Rattle.ra_list_order.specs.Chunks.{Chunk, joined, IsSpan, IsPartWith}
use Rattle.ra_list_order.specs.Marks.{is_marked}
use Rattle.ra_list_order.specs.Sweep.{IsSwept}
use Rattle.ra_list_order.proofs.JoinedChunks.{joined_between, widen}
use Rattle.ra_list_order.proofs.Members.{head_or_behind}
use Rattle.ra_list_order.proofs.Ways.{mark_read}
use Rattle.ra_list_order.proofs.Befores.{Left, Right, Across, before_left, before_right, before_across, before_cases}

pub once_moved : (order new : List ℕ) → IsPermutation order new → EachOnce order → EachOnce new
once_moved order new moved once x =
    let p : ℕ → ℕ = λ y. cond (y == x) 1 0 in
    let same = sum_by-IsPermutation p order new moved in
    let low = once x in
    omega (arith, same, low)

module _ (front stretch rest : List ℕ) (edges : List Edge) (start : ℕ) (stays moves : List ℕ) (walked : List Edge)
    (swept : IsSwept stretch edges start stays moves walked) where
  abbrev whole : List ℕ
  whole = front ++ (stretch ++ rest)

  abbrev moved : List ℕ
  moved = front ++ ((stays ++ moves) ++ rest)

  moved_rest : IsPermutation (stretch ++ rest) ((stays ++ moves) ++ rest)
  moved_rest = IsPermutation-append_left rest stretch (stays ++ moves) swept.parts

  moved_elements : IsPermutation whole moved
  moved_elements = IsPermutation-append_right front (stretch ++ rest) ((stays ++ moves) ++ rest) moved_rest

  in_parts : (x : ℕ) → Contains stretch x → Contains (stays ++ moves) x
  in_parts x there = Contains-permutation stretch (stays ++ moves) x swept.parts there

  rest_extends : (edge : Edge) → Contains edges edge → IsBefore (stretch ++ rest) edge.before edge.after
      → IsBefore ((stays ++ moves) ++ rest) edge.before edge.after
  rest_extends edge among before = elim (before_cases stretch rest edge.before edge.after before) [
    | Left both ↦ before_left (stays ++ moves) rest edge.before edge.after (swept.keeps edge among both)
    | Right both ↦ before_right (stays ++ moves) rest edge.before edge.after both
    | Across near far ↦ before_across (stays ++ moves) rest edge.before edge.after (in_parts edge.before near) far
  ]

  moved_extends : Extends whole edges → Extends moved edges
  moved_extends extends edge among =
      elim (before_cases front (stretch ++ rest) edge.before edge.after (extends edge among)) [
        | Left both ↦ before_left front ((stays ++ moves) ++ rest) edge.before edge.after both
        | Right both ↦ before_right front ((stays ++ moves) ++ rest) edge.before edge.after
            (rest_extends edge among both)
        | Across near far ↦ before_across front ((stays ++ moves) ++ rest) edge.before edge.after near
            (Contains-permutation (stretch ++ rest) ((stays ++ moves) ++ rest) edge.after moved_rest far)
      ]

  moved_apart : (x : ℕ) → Contains stretch x → is_marked start walked x ≡ false → Contains stretch start
      → IsBefore moved x start
  moved_apart x there unmarked known =
      let staying : Contains stays x = elim (Contains-append_cases stays moves x (in_parts x there)) [
        | inl stays_there ↦ stays_there
        | inr moving ↦ absurd (false≢true (sym unmarked ∙ swept.marked x moving))
      ] in
      let moving : Contains moves start = elim (Contains-append_cases stays moves start (in_parts start known)) [
        | inl stays_there ↦ absurd (swept.start_moves stays_there)
        | inr moves_there ↦ moves_there
      ] in
      before_right front ((stays ++ moves) ++ rest) x start
      (before_left (stays ++ moves) rest x start (before_across stays moves x start staying moving))

  moved_with : (new : Edge) → new.after ≡ start → Extends whole edges → Contains stretch new.before
      → is_marked start walked new.before ≡ false → Contains stretch start → Extends moved (edges ++ new ∷ [])
  moved_with new is extends there unmarked known edge among = elim (Contains-push_cases edges new edge among) [
    | inl old ↦ moved_extends extends edge old
    | inr now ↦
        subst (λ (e : Edge). IsBefore moved e.before e.after) now
        (subst (λ y. IsBefore moved new.before y) (sym is) (moved_apart new.before there unmarked known))
  ]

-- the same of a part of the elements of some chunks, as the code reads it
module _ (chunks : List Chunk) (i j : ℕ) (es read read2 : List ℕ) (a b : ℕ) (edges : List Edge) (edge : Edge)
    (stays moves read_moves some parts new_es : List ℕ) (walked : List Edge)
    (span : IsSpan chunks edge.after edge.before i j) (es_is : es ≡ joined (between i j chunks))
    (reads : read ≡ es) (part : IsPartWith read edge.after edge.before a b)
    (reads2 : read2 ≡ es) (swept_read : IsSwept (between a b read2) edges edge.after stays moves walked)
    (moves_is : read_moves ≡ moves) (some_is : some ≡ stays ++ read_moves) (parts_is : parts ≡ some) where
  part_is : IsPartWith es edge.after edge.before a b
  part_is = subst (λ xs. IsPartWith xs edge.after edge.before a b) reads part

  swept : IsSwept (between a b es) edges edge.after stays moves walked
  swept = subst (λ xs. IsSwept (between a b xs) edges edge.after stays moves walked) reads2 swept_read

  parts_joined : parts ≡ stays ++ moves
  parts_joined = parts_is ∙ some_is ∙ ap (λ xs. stays ++ xs) moves_is

  parts_long : length parts ≡ b - a
  parts_long =
      ap length parts_joined ∙ length_permutation (between a b es) (stays ++ moves) swept.parts
      ∙ length-between es a b part_is.within

  pub parts_fit : (room : ℕ) → length es ≡ room → a + length parts ≤ room
  parts_fit room room_is =
      let long = parts_long in
      let low = part_is.ordered in
      let high = part_is.within in
      omega (arith, long, low, high, room_is)

  module _ (written : new_es ≡ take a es ++ (parts ++ drop (length parts) (drop a es))) where
    written_is : new_es ≡ take a es ++ ((stays ++ moves) ++ drop b es)
    written_is =
        let low = part_is.ordered in
        let sum : a + (b - a) ≡ b = omega (arith, low) in
        written
        ∙ ap (λ n. take a es ++ (parts ++ drop n (drop a es))) parts_long
        ∙ ap (λ xs. take a es ++ (parts ++ xs)) (drop-drop (b - a) a es ∙ ap (λ n. drop n es) sum)
        ∙ ap (λ xs. take a es ++ (xs ++ drop b es)) parts_joined

    pub same_elements : IsPermutation (joined (between i j chunks)) new_es
    same_elements =
        subst (λ xs. IsPermutation xs new_es) es_is
        (subst (λ xs. IsPermutation es xs) (sym written_is)
        (subst (λ xs. IsPermutation xs (take a es ++ ((stays ++ moves) ++ drop b es)))
        (sym (split_between es a b part_is.ordered))
        (moved_elements (take a es) (between a b es) (drop b es) edges edge.after stays moves walked swept)))

    abbrev front : List ℕ
    front = joined (take i chunks) ++ take a es

    abbrev behind : List ℕ
    behind = drop b es ++ joined (drop j chunks)

    whole_is : joined chunks ≡ front ++ (between a b es ++ behind)
    whole_is =
        joined_between chunks i j span.ordered
        ∙ ap (λ xs. joined (take i chunks) ++ (xs ++ joined (drop j chunks))) (sym es_is)
        ∙ widen (joined (take i chunks)) (joined (drop j chunks)) (take a es) (drop b es) (between a b es) es
        (split_between es a b part_is.ordered)

    module _ (new : List ℕ) (made : new ≡ joined (take i chunks) ++ (new_es ++ joined (drop j chunks))) where
      new_is : new ≡ front ++ ((stays ++ moves) ++ behind)
      new_is =
          made
          ∙ widen (joined (take i chunks)) (joined (drop j chunks)) (take a es) (drop b es) (stays ++ moves) new_es
          written_is

      pub swept_elements : IsPermutation (joined chunks) new
      swept_elements =
          subst (λ xs. IsPermutation xs new) (sym whole_is)
          (subst (λ xs. IsPermutation (front ++ (between a b es ++ behind)) xs) (sym new_is)
          (moved_elements front (between a b es) behind edges edge.after stays moves walked swept))

      pub swept_kept : (read_walked new_edges : List Edge) (answer : Bool) → read_walked ≡ walked
          → answer ≡ is_marked edge.after read_walked edge.before → answer ≡ false
          → new_edges ≡ edges ++ edge ∷ [] → ListOrderKept (joined chunks) edges → ListOrderKept new new_edges
      swept_kept read_walked new_edges answer walked_is says unmarked new_edges_is kept =
          subst (λ es. ListOrderKept new es) (sym new_edges_is) (record {
            once = once_moved (joined chunks) new swept_elements kept.once;
            extends = subst (λ xs. Extends xs (edges ++ edge ∷ [])) (sym new_is)
                (moved_with front (between a b es) behind edges edge.after stays moves walked swept edge refl
                (subst (λ xs. Extends xs edges) whole_is kept.extends) part_is.has_other
                (mark_read _ _ _ _ _ _ walked_is says unmarked) part_is.has_one);
          })

pub cycle_closed : (stretch : List ℕ) (edges : List Edge) (start : ℕ) (stays moves : List ℕ)
    (walked way cycle : List Edge)
    (new : Edge)
    → IsSwept stretch edges start stays moves walked → IsChain start way new.before → All (Contains walked) way
    → new.after ≡ start → cycle ≡ insert way 0 new → IsCycle (edges ++ new ∷ []) cycle
cycle_closed stretch edges start stays moves walked way cycle new swept chain among is made =
    subst (λ es. IsCycle (edges ++ new ∷ []) es) (sym made)
    (record {
      start = new.before;
      chain = (refl, subst (λ a. IsChain a way new.before) (sym is) chain);
      some = omega arith;
      among = λ edge there. elim (head_or_behind new way edge there) [
        | inl now ↦ subst (λ e. Contains (edges ++ new ∷ []) e) now (Contains-push edges new)
        | inr further ↦ Contains-append_left edges (new ∷ []) edge
            (swept.among edge (All-contains (Contains walked) way edge among further))
      ];
    })

pub add_cycles : (front : List ℕ) (edges now read_edges : List Edge) (edge : Edge)
    (stays moves : List ℕ) (walked read_walked way cycle : List Edge)
    → edges ≡ now → read_edges ≡ edges → IsSwept front read_edges edge.after stays moves walked
    → read_walked ≡ walked → IsChain edge.after way edge.before → All (Contains read_walked) way
    → cycle ≡ insert way 0 edge → IsCycle (now ++ edge ∷ []) cycle
add_cycles front edges now read_edges edge stays moves walked read_walked way cycle same edges_is swept walked_is chain
    among made =
    subst (λ es. IsCycle (es ++ edge ∷ []) cycle) (edges_is ∙ same)
    (cycle_closed front read_edges edge.after stays moves walked way cycle edge swept chain
    (subst (λ es. All (Contains es) way) walked_is among) refl made)
