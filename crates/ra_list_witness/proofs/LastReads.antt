-- The last read of a replica, whose pairs have edges, beside a new one.
use Rattle.std.proofs.Common.{◌≡◌, ℕ, suc, ◌+◌, ◌-◌, ◌<◌, List, length, get_or, Some, refl, sym, ap, ◌∙◌, subst, inl, inr, arith}
use Rattle.std.specs.Prelude.{Contains}
use Rattle.std.specs.List.{slice_get}
use Rattle.std.proofs.lemmas.Option.{slice_get_within}
use Rattle.ra_labels.specs.declared.edge.Edge.{Edge}
use Rattle.ra_labels.specs.Edges.{HasEdge}
use Rattle.ra_labels.proofs.Members.{reached, from_where}
use Rattle.ra_list_edges.specs.Pairs.{HasEdgesBut}
use Rattle.ra_list_edges.proofs.PairEdges.{edge_of, pair_from_index}
use Rattle.ra_list_replica.specs.Numbers.{AreNumbersOf}
use Rattle.ra_list_replica.specs.Listing.{AreAsLast}
use Rattle.ra_list_witness.specs.Adjacent.{HasPairs}

-- numbers that are adjacent in the last read have an edge
adjacent_had : (last : List ℕ) (edges : List Edge) (k m n : ℕ) → HasPairs edges last → k + 1 < length last
    → get_or last k 0 ≡ m → get_or last (k + 1) 0 ≡ n → HasEdge edges m n
adjacent_had last edges k m n pairs within first second =
    let next : suc k ≡ k + 1 = omega arith in
    let pair = edge_of 0 (get_or last k 0) (get_or last (suc k) 0) in
    subst (λ x. HasEdge edges x n) first
    (subst (HasEdge edges (get_or last k 0)) (ap (λ j. get_or last j 0) next ∙ second)
    (pairs 0 pair (pair_from_index 0 last pair k (omega (arith, within), refl))))

-- only the edges at the given places may be missing
pub others_had : (last numbers places : List ℕ) (edges : List Edge) → AreAsLast last numbers places
    → HasPairs edges last → HasEdgesBut edges numbers places
others_had last numbers places edges as_last pairs = record {
  within = as_last.within;
  rest = λ i some below. elim (as_last.rest i some below) [
    | inl place ↦ inl place
    | inr adjacent ↦
        let (k, within, first, second) = adjacent in
        inr (adjacent_had last edges k (get_or numbers (i - 1) 0) (get_or numbers i 0) pairs within first second)
  ];
}

-- each of the numbers is that of an element
numbers_within : (elements list numbers : List ℕ) (n : ℕ) → AreNumbersOf elements list numbers → Contains numbers n
    → n < length elements
numbers_within elements list numbers n are there =
    let (x, among, is) = from_where Some list (slice_get elements n)
    (subst (λ os. Contains os (slice_get elements n)) are (reached (slice_get elements) numbers n there)) in
    slice_get_within elements n x (sym is)

-- the same of the elements that callers see
pub within : (now inside numbers : List ℕ) → inside ≡ now → (list : List ℕ) × AreNumbersOf now list numbers → (n : ℕ)
    → Contains numbers n → n < length inside
within now inside numbers same (list, are) n there =
    numbers_within inside list numbers n (subst (λ xs. AreNumbersOf xs list numbers) (sym same) are) there
