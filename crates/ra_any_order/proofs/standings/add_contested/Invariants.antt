use Rattle.std.proofs.Common.{◌≡◌, ◌+◌, ◌≤◌, ℕ, true, take}
use Rattle.std.specs.Prelude.{◌⊎◌, Contains}
use Rattle.std.specs.BTreeSet.{contains, btree_set_len}
use Rattle.std.specs.Ordering.{nat_cmp}
use Rattle.ra_any_order.specs.Situation.{operations_in}
use Rattle.ra_any_order.specs.Standings.{HasBothSides}
use Rattle.ra_any_order.proofs.SortedElements.{IsTaken}
use Rattle.ra_any_order.proofs.standings.add_contested.Given as goal

abbrev pub invariant-loop-element : goal.invariant-loop-element
invariant-loop-element l = record {
  kept : (x : ℕ) → contains nat_cmp l.fn.asked x ≡ true → contains nat_cmp l.asked x ≡ true;
  contested : (x : ℕ) → contains nat_cmp l.asked x ≡ true
      → (contains nat_cmp l.fn.asked x ≡ true) ⊎ HasBothSides (operations_in l.operations) l.seen x;
  few : btree_set_len l.asked ≤ btree_set_len l.fn.asked + l.element-index;
  taken : (x : ℕ) → Contains (take l.element-index l.elements) x
      → IsTaken (operations_in l.operations) l.seen l.asked x;
}
