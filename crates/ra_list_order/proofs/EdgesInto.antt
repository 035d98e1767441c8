-- The edges to each element: in the other direction they are edges from it.
use Rattle.std.proofs.Common.{◌≡◌, ℕ, ◌+◌, ◌-◌, ◌<◌, ◌≤◌, List, [], ◌∷◌, ◌++◌, length, get_or, take, map, Option, Some, refl, sym, ap, ◌∙◌, subst, arith, unwrap_or}
use Rattle.std.specs.Prelude.{Contains}
use Rattle.std.proofs.lemmas.List.{length-map, map-append, map_push, take-map, get_or-map}
use Rattle.ra_labels.proofs.Members.{reached}
use Rattle.ra_labels.specs.declared.edge.Edge.{Edge}
use Rattle.ra_list_order.specs.EdgePool.{no_edge, edge_at, flipped, EdgesLinked}
use Rattle.ra_list_order.specs.Numbers.{IsSetTo, number_in}
use Rattle.ra_list_order.specs.Sweep.{PushesEdgesInto}
use Rattle.ra_list_order.proofs.EdgePools.{IsWalking, last_within, pool_pushed, pool_popped, walking_more, walking_done, walking_within}

pub flipped_twice : (edges : List Edge) → map flipped (map flipped edges) ≡ edges
flipped_twice [] = refl
flipped_twice (edge ∷ edges) = ap (λ es. edge ∷ es) (flipped_twice edges)

-- holds if the edges to x with an index of at least m were appended, and `at` is the number of the next one
abbrev pub IsWalkingInto : ℕ → List Edge → List Edge → List Edge → ℕ → Type 0
IsWalkingInto x edges walked now at = IsWalking x (map flipped edges) (map flipped walked) (map flipped now) at

pub into_within : (x : ℕ) (edges walked now : List Edge) (at : ℕ) → IsWalkingInto x edges walked now at → 0 < at
    → at - 1 < length edges
into_within x edges walked now at is some =
    let low = walking_within x (map flipped edges) (map flipped walked) (map flipped now) at is some in
    let long = length-map edges flipped in
    omega (arith, low, long)

pub into_more : (old : ℕ → ℕ) (edges : List Edge) (previous : List ℕ) (x : ℕ) (walked now next : List Edge)
    (at at_next : ℕ) → EdgesLinked old (map flipped edges) previous → IsWalkingInto x edges walked now at → 0 < at
    → next ≡ now ++ edge_at edges (at - 1) ∷ [] → at_next ≡ get_or previous (at - 1) 0
    → IsWalkingInto x edges walked next at_next
into_more old edges previous x walked now next at at_next linked is some made next_is =
    let within = into_within x edges walked now at is some in
    walking_more old (map flipped edges) previous x (map flipped walked) (map flipped now) (map flipped next) at at_next
    linked is some
    (ap (map flipped) made ∙ map_push flipped now (edge_at edges (at - 1))
    ∙ ap (λ (e : Edge). map flipped now ++ e ∷ []) (sym (get_or-map flipped edges (at - 1) no_edge no_edge within)))
    next_is

pub into_done : (x : ℕ) (edges walked now : List Edge) (at : ℕ) → IsWalkingInto x edges walked now at → at ≤ 0
    → PushesEdgesInto x edges walked now
into_done x edges walked now at is none =
    let done = walking_done x (map flipped edges) (map flipped walked) (map flipped now) at is none in
    let begun = done.0 in (
      map flipped begun,
      sym (flipped_twice now) ∙ ap (map flipped) done.1 ∙ map-append flipped (map flipped walked) begun
          ∙ ap (λ es. es ++ map flipped begun) (flipped_twice walked),
      record {
        only = λ edge there.
            let begins = subst (λ es. Contains es (flipped edge)) (flipped_twice begun)
            (reached flipped (map flipped begun) edge there) in
            let both = done.2.only (flipped edge) begins in (
              subst (λ es. Contains es edge) (flipped_twice edges) (reached flipped (map flipped edges) (flipped edge) both.0),
              both.1,
            );
        each = λ edge among ends.
            reached flipped begun (flipped edge) (done.2.each (flipped edge) (reached flipped edges edge among) ends);
      },
    )

pub into_pushed : (old mid new : ℕ → ℕ) (edges read new_edges : List Edge) (edge : Edge)
    (previous read_previous new_previous : List ℕ) (number link : ℕ)
    → EdgesLinked old (map flipped edges) previous → read ≡ edges → read_previous ≡ previous
    → number ≡ length edges + 1
    → ((x : ℕ) → mid x ≡ old x) → IsSetTo edge.after number mid new → link ≡ mid edge.after
    → new_edges ≡ read ++ edge ∷ [] → new_previous ≡ read_previous ++ link ∷ []
    → EdgesLinked new (map flipped new_edges) new_previous
into_pushed old mid new edges read new_edges edge previous read_previous new_previous number link linked reads
    reads_previous number_is same done link_is made made_previous =
    let long = length-map edges flipped in
    pool_pushed old mid new (map flipped edges) (map flipped read) (map flipped new_edges) (flipped edge) previous
    read_previous new_previous number link linked (ap (map flipped) reads) reads_previous
    (number_is ∙ ap (λ k. k + 1) (sym long)) same done link_is
    (ap (map flipped) made ∙ map_push flipped read edge) made_previous

-- the last edge in the other direction
into_last : (edges : List Edge) (edge : Edge) → 0 < length edges → edge ≡ edge_at edges (length edges - 1)
    → flipped edge ≡ edge_at (map flipped edges) (length (map flipped edges) - 1)
into_last edges edge some edge_is =
    ap flipped edge_is
    ∙ sym (get_or-map flipped edges (length edges - 1) no_edge no_edge (omega (arith, some)))
    ∙ ap (λ k. edge_at (map flipped edges) (k - 1)) (sym (length-map edges flipped))

pub last_into_within : (lasts : List ℕ) (edges : List Edge) (edge : Edge) (previous : List ℕ)
    → EdgesLinked (number_in lasts) (map flipped edges) previous → 0 < length edges
    → edge ≡ edge_at edges (length edges - 1) → edge.after < length lasts
last_into_within lasts edges edge previous linked some edge_is =
    let long = length-map edges flipped in
    last_within lasts (map flipped edges) (flipped edge) previous linked (omega (arith, long, some))
    (into_last edges edge some edge_is)

pub into_popped : (old new : ℕ → ℕ) (edges new_edges : List Edge) (edge : Edge)
    (previous new_previous : List ℕ) (link : ℕ) (value : Option ℕ)
    → EdgesLinked old (map flipped edges) previous → 0 < length edges
    → edge ≡ edge_at edges (length edges - 1) → value ≡ Some (get_or previous (length previous - 1) 0)
    → link ≡ unwrap_or value 0 → IsSetTo edge.after link old new
    → new_edges ≡ take (length edges - 1) edges → new_previous ≡ take (length previous - 1) previous
    → EdgesLinked new (map flipped new_edges) new_previous
into_popped old new edges new_edges edge previous new_previous link value linked some edge_is value_is link_is done
    made made_previous =
    let long = length-map edges flipped in
    pool_popped old new (map flipped edges) (map flipped new_edges) (flipped edge) previous new_previous link value linked
    (omega (arith, long, some)) (into_last edges edge some edge_is) value_is link_is done
    (ap (map flipped) made ∙ sym (take-map flipped (length edges - 1) edges)
    ∙ ap (λ k. take (k - 1) (map flipped edges)) (sym long))
    made_previous
