-- What a read or an insertion adds to the edges, as edges between elements.
use Rattle.std.proofs.Common.{◌≡◌, ℕ, List, [], ◌∷◌, ◌++◌, sym, ap, ◌∙◌, subst}
use Rattle.ra_labels.specs.declared.edge.Edge.{Edge}
use Rattle.ra_labels.specs.declared.insertion.Insertion.{Insertion}
use Rattle.ra_labels.specs.Edges.{IsCycle}
use Rattle.ra_labels.specs.Neighborhood.{neighborhood}
use Rattle.ra_list_edges.specs.declared.placing.Placement.{Placement}
use Rattle.ra_list_edges.specs.Pairs.{AddsPairs, with_pairs}
use Rattle.ra_list_edges.specs.Placed.{placed}
use Rattle.ra_list_replica.specs.Numbers.{AreNumbersOf}
use Rattle.ra_list_witness.specs.Named.{all_named, AreBetweenNumbers, IsPlacement}
use Rattle.ra_list_witness.proofs.NamedEdges.{adds_named, cycle_named, list_named, with_pairs_named, named_wider}
use Rattle.ra_list_witness.proofs.Placements.{placed_named}

module _ (elements : List ℕ) (label : ℕ) (old : List Edge) where
  pub read_added : (list numbers : List ℕ) (new : List Edge) → AreNumbersOf elements list numbers
      → AddsPairs label numbers old new → AddsPairs label list (all_named elements old) (all_named elements new)
  read_added list numbers new are adds =
      subst (λ xs. AddsPairs label xs (all_named elements old) (all_named elements new)) (list_named elements list numbers are)
      (adds_named elements label numbers old new adds)

  pub read_cycle : (list numbers : List ℕ) (cycle its : List Edge) → AreNumbersOf elements list numbers
      → IsCycle (with_pairs label numbers old) cycle → its ≡ all_named elements cycle
      → IsCycle (with_pairs label list (all_named elements old)) its
  read_cycle list numbers cycle its are closed is =
      subst (IsCycle (with_pairs label list (all_named elements old))) (sym is)
      (subst (λ es. IsCycle es (all_named elements cycle))
      (with_pairs_named elements label numbers old
      ∙ ap (λ xs. with_pairs label xs (all_named elements old)) (list_named elements list numbers are))
      (cycle_named elements (with_pairs label numbers old) cycle closed))

  module _ (insertion : Insertion) (placement : Placement) (between : AreBetweenNumbers elements old)
      (placing : IsPlacement elements insertion placement) where
    pub insertion_added : (new : List Edge) → AddsPairs label (placed placement) old new
        → AddsPairs label (neighborhood insertion) (all_named elements old)
        (all_named (elements ++ insertion.element ∷ []) new)
    insertion_added new adds =
        let more = elements ++ insertion.element ∷ [] in
        subst (λ es. AddsPairs label (neighborhood insertion) es (all_named more new))
        (named_wider elements (insertion.element ∷ []) old between)
        (subst (λ xs. AddsPairs label xs (all_named more old) (all_named more new))
        (placed_named elements insertion placement placing) (adds_named more label (placed placement) old new adds))

    pub insertion_cycle : (cycle its : List Edge) → IsCycle (with_pairs label (placed placement) old) cycle
        → its ≡ all_named (elements ++ insertion.element ∷ []) cycle
        → IsCycle (with_pairs label (neighborhood insertion) (all_named elements old)) its
    insertion_cycle cycle its closed is =
        let more = elements ++ insertion.element ∷ [] in
        subst (IsCycle (with_pairs label (neighborhood insertion) (all_named elements old))) (sym is)
        (subst (λ es. IsCycle es (all_named more cycle))
        (with_pairs_named more label (placed placement) old
        ∙ ap (λ xs. with_pairs label xs (all_named more old)) (placed_named elements insertion placement placing)
        ∙ ap (with_pairs label (neighborhood insertion)) (named_wider elements (insertion.element ∷ []) old between))
        (cycle_named more (with_pairs label (placed placement) old) cycle closed))
