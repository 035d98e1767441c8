-- New chunks that have the elements of others.
use Rattle.std.proofs.Common.{◌≡◌, ℕ, ◌≤◌, List, [], ◌∷◌, ◌++◌, length, get_or, take, drop, Option, refl, sym, ap, ◌∙◌, subst, inl, inr, arith}
use Rattle.std.specs.Prelude.{Contains, IsSome}
use Rattle.std.specs.List.{between}
use Rattle.std.proofs.lemmas.Bool.{cases_lt}
use Rattle.std.proofs.lemmas.List.{append-nil, length_push, get_or_push, get_or_append_left, take-take, take-append-drop}
use Rattle.std.proofs.lemmas.Slice.{between_is}
use Rattle.ra_labels.specs.Edges.{EachOnce}
use Rattle.ra_list_order.specs.Chunks.{Chunk, no_chunk, joined, AreGrouped, AreMovedToChunks}
use Rattle.ra_list_order.specs.Gathering.{ArePacked}
use Rattle.ra_list_order.proofs.JoinedChunks.{joined_append, side}
use Rattle.ra_list_order.proofs.Spans.{has_group}

pub packed_none : ArePacked [] [] []
packed_none = record {
  whole = refl;
  as_many = refl;
  placed = λ k within. absurd (omega arith);
}

-- one more chunk
pub packed_more : (elements : List ℕ) (done end : ℕ) (chunks new : List Chunk) (places new_places : List ℕ) (chunk : Chunk)
    → ArePacked (take done elements) chunks places → done ≤ end → new ≡ chunks ++ chunk ∷ []
    → new_places ≡ places ++ length chunks ∷ [] → chunk.group ≡ length chunks
    → chunk.elements ≡ between done end elements → ArePacked (take end elements) new new_places
packed_more elements done end chunks new places new_places chunk packed less new_is new_places_is group has =
    subst (λ cs. ArePacked (take end elements) cs new_places) (sym new_is)
    (subst (λ ps. ArePacked (take end elements) (chunks ++ chunk ∷ []) ps) (sym new_places_is)
    (let more = length_push chunks chunk in
    let more_places = length_push places (length chunks) in
    let many = packed.as_many in
    record {
      whole =
          joined_append chunks (chunk ∷ [])
          ∙ ap (λ xs. joined chunks ++ xs) (append-nil chunk.elements)
          ∙ ap (λ xs. xs ++ chunk.elements) packed.whole
          ∙ ap (λ xs. take done elements ++ xs) (has ∙ between_is elements done end)
          ∙ ap (λ xs. xs ++ drop done (take end elements)) (sym (take-take done end elements less))
          ∙ take-append-drop done (take end elements);
      as_many = omega (arith, more, more_places, many);
      placed = λ k within. elim (cases_lt k (length chunks)) [
        | inl low ↦ (
          ap (λ (c : Chunk). c.group) (get_or_append_left chunks (chunk ∷ []) no_chunk k low) ∙ (packed.placed k low).0,
          get_or_append_left places (length chunks ∷ []) 0 k (omega (arith, low, many)) ∙ (packed.placed k low).1,
        )
        | inr high ↦
            let last : length chunks ≡ k = omega (arith, high, within, more) in (
              ap (λ (c : Chunk). c.group) (get_or_push chunks chunk no_chunk k last) ∙ group ∙ last,
              get_or_push places (length chunks) 0 k (many ∙ last) ∙ last,
            )
      ];
    }))

pub packed_known : (group_of : ℕ → Option ℕ) (old chunks : List Chunk) (old_places places elements : List ℕ)
    → AreGrouped group_of old old_places → ArePacked elements chunks places → elements ≡ joined old
    → (x : ℕ) → Contains (joined chunks) x → IsSome (group_of x)
packed_known group_of old chunks old_places places elements grouped packed same x there =
    has_group group_of old old_places x grouped (subst (λ xs. Contains xs x) (packed.whole ∙ same) there)

pub packed_once : (group_of : ℕ → Option ℕ) (old chunks : List Chunk) (old_places places elements : List ℕ)
    → AreGrouped group_of old old_places → ArePacked elements chunks places → elements ≡ joined old
    → EachOnce (joined chunks)
packed_once group_of old chunks old_places places elements grouped packed same =
    subst EachOnce (sym (packed.whole ∙ same)) grouped.once

pub grouped_packed : (group_of after : ℕ → Option ℕ) (old chunks : List Chunk) (old_places places elements : List ℕ)
    → AreGrouped group_of old old_places → ArePacked elements chunks places → elements ≡ joined old
    → AreMovedToChunks chunks group_of after → AreGrouped after chunks places
grouped_packed group_of after old chunks old_places places elements grouped packed same moved = record {
  once = packed_once group_of old chunks old_places places elements grouped packed same;
  placed = λ k within.
      let at = packed.placed k within in
      let group = at.0 in
      let many = packed.as_many in (
        omega (arith, group, many, within),
        ap (λ g. get_or places g 0) at.0 ∙ at.1,
      );
  found = λ k x within among. moved.moved k x within among;
  known = λ x g is. elim (side (joined chunks) x) [
    | inl there ↦ there
    | inr none ↦ subst (λ xs. Contains xs x) (sym (packed.whole ∙ same))
        (grouped.known x g (sym (moved.others x none) ∙ is))
  ];
}
