use Rattle.std.proofs.Common.{[], ◌∷◌, refl, inl, inr, arith}
use Rattle.ra_rga_forks.proofs.worked.a_subtree_stays_together.Goals as goal

pub returns-clause-list : goal.returns-clause-list
returns-clause-list c = refl

pub returns-clause-fork : goal.returns-clause-fork
returns-clause-fork c = record {
  anchor = 0;
  left_child = (1, omega arith, refl);
  right_child = (0, omega arith, refl);
  apart = λ same. omega (arith, same);
  under_left = ([], refl);
  under_right = (1 ∷ [], ((2, omega arith, refl), refl));
}

pub returns-clause-order : goal.returns-clause-order
returns-clause-order c = inr (inl (refl, (1, omega arith, refl)))
