-- Edges between numbers, as edges between the elements with these numbers.
use Rattle.std.proofs.Common.{◌≡◌, ℕ, suc, ◌<◌, ◌≤◌, List, [], ◌∷◌, ◌++◌, length, get_or, map, refl, sym, ap, ◌∙◌, subst, inl, inr, arith}
use Rattle.std.specs.Prelude.{Contains}
use Rattle.std.proofs.lemmas.Option.{get_or_from_slice_get}
use Rattle.std.proofs.lemmas.List.{map-append, length-map, get_or_append_left}
use Rattle.std.proofs.lemmas.List.Elements.{Contains-get_or, Contains-append_cases}
use Rattle.ra_labels.specs.declared.edge.Edge.{Edge}
use Rattle.ra_labels.specs.Edges.{IsChain, IsCycle}
use Rattle.ra_labels.specs.Reads.{edges_of_read}
use Rattle.ra_labels.proofs.Members.{at_head, behind_head, reached, from_where}
use Rattle.ra_list_edges.specs.Pairs.{AddsSome, AddsPairs, with_pairs}
use Rattle.ra_list_edges.proofs.PairEdges.{pair_index}
use Rattle.ra_list_replica.specs.Numbers.{AreNumbersOf}
use Rattle.ra_list_witness.specs.Named.{element_at, named, all_named, AreBetweenNumbers}

module _ (elements : List ℕ) where
  pub pairs_named : (label : ℕ) (numbers : List ℕ)
      → all_named elements (edges_of_read label numbers) ≡ edges_of_read label (map (element_at elements) numbers)
  pairs_named label [] = refl
  pairs_named label (m ∷ []) = refl
  pairs_named label (m ∷ n ∷ numbers) =
      ap (λ es. named elements (record { before = m; after = n; label = label }) ∷ es) (pairs_named label (n ∷ numbers))

  pub with_pairs_named : (label : ℕ) (numbers : List ℕ) (edges : List Edge)
      → all_named elements (with_pairs label numbers edges)
      ≡ with_pairs label (map (element_at elements) numbers) (all_named elements edges)
  with_pairs_named label numbers edges =
      map-append (named elements) edges (edges_of_read label numbers)
      ∙ ap (λ es. all_named elements edges ++ es) (pairs_named label numbers)

  pub adds_named : (label : ℕ) (numbers : List ℕ) (old new : List Edge) → AddsPairs label numbers old new
      → AddsPairs label (map (element_at elements) numbers) (all_named elements old) (all_named elements new)
  adds_named label numbers old new adds = record {
    some =
        let (added, is, among) = adds.some in (
          all_named elements added,
          ap (all_named elements) is ∙ map-append (named elements) old added,
          λ edge there.
              let (mine, found, same) = from_where (named elements) added edge there in
              subst (λ es. Contains es edge) (pairs_named label numbers)
              (subst (Contains (all_named elements (edges_of_read label numbers))) same
              (reached (named elements) (edges_of_read label numbers) mine (among mine found))),
        );
    all = λ edge there.
        let (mine, found, same) = from_where (named elements) (edges_of_read label numbers) edge
        (subst (λ es. Contains es edge) (sym (pairs_named label numbers)) there) in
        let (kept, kept_there, before, after) = adds.all mine found in (
          named elements kept,
          reached (named elements) new kept kept_there,
          ap (element_at elements) before ∙ ap (λ e. e.before) same,
          ap (element_at elements) after ∙ ap (λ e. e.after) same,
        );
  }

  chain_named : (from : ℕ) (edges : List Edge) (to : ℕ) → IsChain from edges to
      → IsChain (element_at elements from) (all_named elements edges) (element_at elements to)
  chain_named from [] to is = ap (element_at elements) is
  chain_named from (edge ∷ edges) to is = (ap (element_at elements) is.0, chain_named edge.after edges to is.1)

  pub cycle_named : (edges cycle : List Edge) → IsCycle edges cycle
      → IsCycle (all_named elements edges) (all_named elements cycle)
  cycle_named edges cycle is = record {
    start = element_at elements is.start;
    chain = chain_named is.start cycle is.start is.chain;
    some = omega (arith, is.some, length-map cycle (named elements));
    among = λ edge there.
        let (mine, found, same) = from_where (named elements) cycle edge there in
        subst (Contains (all_named elements edges)) same (reached (named elements) edges mine (is.among mine found));
  }

  pub list_named : (list numbers : List ℕ) → AreNumbersOf elements list numbers
      → map (element_at elements) numbers ≡ list
  list_named [] [] are = refl
  list_named [] (n ∷ numbers) are = absurd (cc are)
  list_named (x ∷ list) [] are = absurd (cc are)
  list_named (x ∷ list) (n ∷ numbers) are =
      ap (λ y. y ∷ map (element_at elements) numbers) (get_or_from_slice_get elements n x 0 (cc are))
      ∙ ap (λ ys. x ∷ ys) (list_named list numbers (cc are))

-- an edge whose ends have the same elements
same_named : (elements more : List ℕ) (edge : Edge) → edge.before < length elements → edge.after < length elements
    → named (elements ++ more) edge ≡ named elements edge
same_named elements more edge before after = λ i. record {
  before = get_or_append_left elements more 0 edge.before before i;
  after = get_or_append_left elements more 0 edge.after after i;
  label = edge.label;
}

-- more elements
pub named_wider : (elements more : List ℕ) (edges : List Edge) → AreBetweenNumbers elements edges
    → all_named (elements ++ more) edges ≡ all_named elements edges
named_wider elements more [] between = refl
named_wider elements more (edge ∷ edges) between =
    let (before, after) = between edge (at_head edge edges edge refl) in
    ap (λ e. e ∷ all_named (elements ++ more) edges) (same_named elements more edge before after)
    ∙ ap (λ es. named elements edge ∷ es)
    (named_wider elements more edges (λ e there. between e (behind_head edge edges e there)))

-- the ends of a pair are listed
pub pair_between : (elements : List ℕ) (label : ℕ) (numbers : List ℕ)
    → ((n : ℕ) → Contains numbers n → n < length elements) → AreBetweenNumbers elements (edges_of_read label numbers)
pair_between elements label numbers below = λ edge there.
    let (i, (within, is)) = pair_index label numbers edge there in
    subst (λ (e : Edge). (e.before < length elements) × (e.after < length elements)) (sym is) (
      below (get_or numbers i 0) (Contains-get_or numbers i 0 (omega (arith, within))),
      below (get_or numbers (suc i) 0) (Contains-get_or numbers (suc i) 0 within),
    )

pub between_more : (elements wider : List ℕ) (label : ℕ) (numbers : List ℕ) (old new : List Edge)
    → AreBetweenNumbers elements old → length elements ≤ length wider
    → ((n : ℕ) → Contains numbers n → n < length wider) → AddsSome label numbers old new → AreBetweenNumbers wider new
between_more elements wider label numbers old new between long below (added, is, among) = λ edge there.
    elim (Contains-append_cases old added edge (subst (λ es. Contains es edge) is there)) [
      | inl before ↦
          let (one, other) = between edge before in
          (omega (arith, one, long), omega (arith, other, long))
      | inr here ↦ pair_between wider label numbers below edge (among edge here)
    ]
