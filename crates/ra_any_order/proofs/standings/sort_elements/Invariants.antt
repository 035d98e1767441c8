use Rattle.std.proofs.Common.{◌≡◌, ℕ, true, take}
use Rattle.std.specs.Prelude.{Contains}
use Rattle.std.specs.BTreeSet.{contains}
use Rattle.std.specs.Ordering.{nat_cmp}
use Rattle.ra_labels.specs.Lists.{rises}
use Rattle.ra_precedence.specs.Lasts.{IsReady, count_of}
use Rattle.ra_any_order.specs.declared.standings.Standing.{Standing}
use Rattle.ra_any_order.specs.Situation.{operations_in}
use Rattle.ra_any_order.specs.Standings.{AreStandings, elements_with}
use Rattle.ra_any_order.proofs.standings.sort_elements.Given as goal

abbrev pub invariant-loop-element : goal.invariant-loop-element
invariant-loop-element l = record {
  ready : IsReady l.solver;
  count : count_of l.solver ≡ count_of l.fn.solver;
  conditions : l.solver.conditions.items ≡ l.fn.solver.conditions.items;
  within : (standing : Standing) (x : ℕ) → Contains (elements_with l.found standing) x
      → Contains (take l.element-index l.element-items) x;
  rising : (standing : Standing) → rises (elements_with l.found standing) ≡ true;
  sorted : AreStandings (operations_in l.operations) (count_of l.fn.solver) l.fn.solver.conditions.items l.seen
      (contains nat_cmp l.asked) (take l.element-index l.element-items) l.found;
}
