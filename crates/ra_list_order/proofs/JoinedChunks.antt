-- The elements of chunks, one chunk after another.
use Rattle.std.proofs.Common.{◌≡◌, ℕ, zero, suc, ◌+◌, ◌<◌, ◌≤◌, cond, List, [], ◌∷◌, ◌++◌, length, take, drop, set, refl, sym, ap, ◌∙◌, subst, inl, inr, arith, append_assoc}
use Rattle.std.specs.Prelude.{◌⊎◌, ◌==◌, Contains}
use Rattle.std.specs.List.{between}
use Rattle.std.proofs.lemmas.Bool.{cases_eq}
use Rattle.std.proofs.lemmas.List.{take-append-drop, drop_more, set_split}
use Rattle.std.proofs.lemmas.List.Concat.{flat_map-append}
use Rattle.std.proofs.lemmas.List.Edits.{split_between}
use Rattle.std.proofs.lemmas.List.Elements.{Contains-get_or}
use Rattle.std.proofs.lemmas.List.Sums.{sum_by-append}
use Rattle.ra_labels.proofs.Members.{piece_of, in_piece}
use Rattle.ra_labels.specs.Edges.{EachOnce}
use Rattle.ra_list_order.specs.Chunks.{Chunk, no_chunk, chunk_at, joined}
use Rattle.ra_list_order.proofs.Members.{head_or_behind, at_head, behind_head, none_there, same_read}
use Rattle.ra_list_order.proofs.Cycles.{counted}

pub joined_append : (xs ys : List Chunk) → joined (xs ++ ys) ≡ joined xs ++ joined ys
joined_append xs ys = flat_map-append (λ (chunk : Chunk). chunk.elements) xs ys

-- a list of chunks around the one at an index
pub joined_at : (chunks : List Chunk) (k : ℕ) → k < length chunks
    → joined chunks ≡ joined (take k chunks) ++ ((chunk_at chunks k).elements ++ joined (drop (k + 1) chunks))
joined_at chunks k there =
    ap joined (sym (take-append-drop k chunks))
    ∙ joined_append (take k chunks) (drop k chunks)
    ∙ ap (λ cs. joined (take k chunks) ++ joined cs) (drop_more chunks k no_chunk there)

pub joined_set : (chunks : List Chunk) (k : ℕ) (new : Chunk) → k < length chunks
    → joined (set chunks k new) ≡ joined (take k chunks) ++ (new.elements ++ joined (drop (k + 1) chunks))
joined_set chunks k new there =
    let next : suc k ≡ k + 1 = omega arith in
    ap joined (set_split chunks k new there)
    ∙ joined_append (take k chunks) (new ∷ drop (suc k) chunks)
    ∙ ap (λ n. joined (take k chunks) ++ (new.elements ++ joined (drop n chunks))) next

pub joined_between : (chunks : List Chunk) (i j : ℕ) → i ≤ j
    → joined chunks ≡ joined (take i chunks) ++ (joined (between i j chunks) ++ joined (drop j chunks))
joined_between chunks i j less =
    ap joined (split_between chunks i j less)
    ∙ joined_append (take i chunks) (between i j chunks ++ drop j chunks)
    ∙ ap (λ xs. joined (take i chunks) ++ xs) (joined_append (between i j chunks) (drop j chunks))

pub in_joined : (chunks : List Chunk) (k x : ℕ) → k < length chunks → Contains (chunk_at chunks k).elements x
    → Contains (joined chunks) x
in_joined chunks k x there among =
    in_piece (λ (chunk : Chunk). chunk.elements) chunks (chunk_at chunks k) x
    (Contains-get_or chunks k no_chunk there) among

pub from_joined : (chunks : List Chunk) (x : ℕ) → Contains (joined chunks) x
    → (k : ℕ) × (k < length chunks) × Contains (chunk_at chunks k).elements x
from_joined chunks x there =
    let piece = piece_of (λ (chunk : Chunk). chunk.elements) chunks x there in
    let at = piece.1 in (
      at.0,
      at.1,
      subst (λ (c : Chunk). Contains c.elements x) (sym (same_read chunks at.0 no_chunk piece.0 at.1 ∙ at.2)) piece.2,
    )

-- an element is in a list or is not
pub side : (xs : List ℕ) (x : ℕ) → Contains xs x ⊎ ¬ Contains xs x
side [] x = inr (none_there x)
side (y ∷ ys) x = elim (cases_eq y x) [
  | inl same ↦ inl (at_head y ys x same)
  | inr other ↦ elim (side ys x) [
    | inl further ↦ inl (behind_head y ys x further)
    | inr none ↦ inr (λ there. elim (head_or_behind y ys x there) [
      | inl here ↦ other here
      | inr further ↦ none further
    ])
  ]
]

-- the parts of a list in which each element is once
pub once_left : (xs ys : List ℕ) → EachOnce (xs ++ ys) → EachOnce xs
once_left xs ys once x =
    let p : ℕ → ℕ = λ z. cond (z == x) 1 0 in
    let sum = sum_by-append p xs ys in
    let low = once x in
    omega (arith, sum, low)

pub once_right : (xs ys : List ℕ) → EachOnce (xs ++ ys) → EachOnce ys
once_right xs ys once x =
    let p : ℕ → ℕ = λ z. cond (z == x) 1 0 in
    let sum = sum_by-append p xs ys in
    let low = once x in
    omega (arith, sum, low)

pub once_apart : (xs ys : List ℕ) (x : ℕ) → EachOnce (xs ++ ys) → Contains xs x → Contains ys x → ⊥
once_apart xs ys x once left right =
    let p : ℕ → ℕ = λ z. cond (z == x) 1 0 in
    let sum = sum_by-append p xs ys in
    let low = once x in
    let one = counted xs x left in
    let two = counted ys x right in
    omega (arith, sum, low, one, two)

-- where each element is once, no two chunks have the same one
pub chunks_apart : (chunks : List Chunk) (j k x : ℕ) → EachOnce (joined chunks) → j < length chunks → k < length chunks
    → Contains (chunk_at chunks j).elements x → Contains (chunk_at chunks k).elements x → j ≡ k
chunks_apart [] j k x once there there2 left right = absurd (omega arith)
chunks_apart (chunk ∷ chunks) zero zero x once there there2 left right = refl
chunks_apart (chunk ∷ chunks) zero (suc k) x once there there2 left right =
    absurd (once_apart chunk.elements (joined chunks) x once left (in_joined chunks k x (omega arith) right))
chunks_apart (chunk ∷ chunks) (suc j) zero x once there there2 left right =
    absurd (once_apart chunk.elements (joined chunks) x once right (in_joined chunks j x (omega arith) left))
chunks_apart (chunk ∷ chunks) (suc j) (suc k) x once there there2 left right =
    ap suc (chunks_apart chunks j k x (once_right chunk.elements (joined chunks) once) (omega arith)
    (omega arith) left right)

-- the elements of a range of chunks are once in it
pub once_between : (chunks : List Chunk) (i j : ℕ) → i ≤ j → EachOnce (joined chunks)
    → EachOnce (joined (between i j chunks))
once_between chunks i j less once =
    once_left (joined (between i j chunks)) (joined (drop j chunks))
    (once_right (joined (take i chunks)) (joined (between i j chunks) ++ joined (drop j chunks))
    (subst EachOnce (joined_between chunks i j less) once))

-- a part of a part of a list
pub widen : (f b g h more xs : List ℕ) → xs ≡ g ++ (more ++ h) → f ++ (xs ++ b) ≡ (f ++ g) ++ (more ++ (h ++ b))
widen f b g h more xs is =
    ap (λ ys. f ++ (ys ++ b)) is
    ∙ ap (λ ys. f ++ ys) (append_assoc g (more ++ h) b ∙ ap (λ ys. g ++ ys) (append_assoc more h b))
    ∙ sym (append_assoc f g (more ++ (h ++ b)))
