-- A function that is changed at one argument.
use Rattle.std.proofs.Common.{◌≡◌, ℕ, false, Option, Some, BTreeMap, sym, inl, inr}
use Rattle.std.specs.BTreeMap.{get, Updates}
use Rattle.std.specs.Cmp.{Equal-is}
use Rattle.std.specs.Ordering.{nat_cmp, is_eq}
use Rattle.std.proofs.lemmas.Bool.{cases_Bool}
use Rattle.std.proofs.lemmas.Map.Lookups.{exact_unsigned}

-- holds if the new function has n at x, and is the old one elsewhere
pub record IsPointed (old new : ℕ → Option ℕ) (x n : ℕ) : Type 0 where
  pub here : new x ≡ Some n
  pub apart : (q : ℕ) → ¬ (q ≡ x) → new q ≡ old q

pub apart_test : (k q : ℕ) → ¬ (q ≡ k) → is_eq (nat_cmp k q) ≡ false
apart_test k q other = elim (cases_Bool (is_eq (nat_cmp k q))) [
  | inl same ↦ absurd (other (sym (exact_unsigned k q ((Equal-is (nat_cmp k q)).0 same))))
  | inr test ↦ test
]

pub pointed : (m n : BTreeMap ℕ ℕ) (k v : ℕ) → Updates nat_cmp m n k (Some v)
    → IsPointed (get nat_cmp m) (get nat_cmp n) k v
pointed m n k v updates = record {
  here = updates.1;
  apart = λ q other. updates.2 q (apart_test k q other);
}
