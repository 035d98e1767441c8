-- The pairs of adjacent elements of a list.
use Rattle.std.proofs.Common.{ℕ, suc, List, get_or, refl, sym, subst}
use Rattle.std.specs.Prelude.{Contains}
use Rattle.ra_labels.specs.declared.edge.Edge.{Edge}
use Rattle.ra_labels.specs.Edges.{HasEdge}
use Rattle.ra_labels.specs.Reads.{edges_of_read}
use Rattle.ra_list_edges.specs.Pairs.{AddsSome}
use Rattle.ra_list_edges.proofs.PairEdges.{edge_of, pair_index, pair_from_index, has_after}
use Rattle.ra_list_witness.specs.Adjacent.{HasPairs}

-- pairs that were there stay there
pub pairs_after : (label : ℕ) (list : List ℕ) (old new : List Edge) (xs : List ℕ) → AddsSome label list old new
    → HasPairs old xs → HasPairs new xs
pairs_after label list old new xs some has =
    λ other edge there. has_after label list old new edge.before edge.after some (has other edge there)

-- the pairs of an operation, whatever its label
pub has_pairs : (label : ℕ) (list : List ℕ) (edges : List Edge)
    → ((edge : Edge) → Contains (edges_of_read label list) edge → HasEdge edges edge.before edge.after)
    → HasPairs edges list
has_pairs label list edges all = λ other edge there.
    let (i, (within, is)) = pair_index other list edge there in
    let mine = edge_of label (get_or list i 0) (get_or list (suc i) 0) in
    subst (λ (e : Edge). HasEdge edges e.before e.after) (sym is)
    (all mine (pair_from_index label list mine i (within, refl)))
