use Rattle.std.proofs.Common.{◌≡◌, ℕ, take}
use Rattle.std.specs.Prelude.{◌==◌}
use Rattle.std.specs.BTreeSet.{contains}
use Rattle.std.specs.List.{list_any}
use Rattle.std.specs.Ordering.{nat_cmp}
use Rattle.ra_labels.specs.declared.edge.Edge.{Edge}
use Rattle.ra_list_order.specs.Sweep.{IsSwept}
use Rattle.ra_list_order.proofs.sweep.sweep.Given as goal

abbrev pub invariant-loop-element : goal.invariant-loop-element
invariant-loop-element l = record {
  swept : IsSwept (take l.element-index l.stretch) l.edges l.start l.stays.items l.moves.items l.walked.items;
  ends : (x : ℕ) → contains nat_cmp l.ends x ≡ list_any (λ (edge : Edge). edge.after == x) l.walked.items;
}
