-- Lemmas on comparisons of numbers: what each result of `nat_cmp` states, and the tests that agree with it.
use Rattle.std.proofs.Common.{◌≡◌, ℕ, ◌<◌, refl, sym, arith, Ordering}
use Rattle.std.specs.Prelude.{◌==◌, ◌&&◌}
use Rattle.std.specs.Ordering.{MatchOrdering, nat_cmp, ordering_then, is_eq}
use Rattle.std.specs.declared.cmp.Ordering.TheVariants.{Less, Equal, Greater}
use Rattle.std.specs.BTreeMap.{is_at}
use Rattle.std.specs.Cmp.{nat_cmp_is}
use Rattle.std.proofs.lemmas.Bool.{eq-eqb, ne_eqb}
use Rattle.std.proofs.lemmas.Bool.Decides.{nat_tests}
use Rattle.std.proofs.lemmas.Cmp.{ranked}

pub less_cmp : (x y : ℕ) → x < y → nat_cmp x y ≡ Less
less_cmp x y less = sym (nat_cmp_is x y Less less)

pub cmp_less : (x y : ℕ) (o : Ordering) → MatchOrdering o (x < y) (x ≡ y) (y < x) → o ≡ Less → x < y
cmp_less x y Less known is = known
cmp_less x y Equal known is = absurd (cc is)
cmp_less x y Greater known is = absurd (cc is)

cmp_tests : (x y : ℕ) (o : Ordering) → MatchOrdering o (x < y) (x ≡ y) (y < x) → is_eq o ≡ (x == y)
cmp_tests x y Less known = sym (ne_eqb x y (λ same. absurd (omega arith)))
cmp_tests x y Equal known = sym (eq-eqb x y known)
cmp_tests x y Greater known = sym (ne_eqb x y (λ same. absurd (omega arith)))

-- two numbers compare as equal exactly if they are equal
pub is_eq-nat_cmp : (x y : ℕ) → is_eq (nat_cmp x y) ≡ (x == y)
is_eq-nat_cmp x y = cmp_tests x y (nat_cmp x y) (ranked x y _ refl)

-- a key is found at a number exactly if it is that number
pub is_at-eqb : (x y : ℕ) → is_at (nat_cmp x) y ≡ (x == y)
is_at-eqb = is_eq-nat_cmp

pub then_eq : (a b : Ordering) → is_eq (ordering_then a b) ≡ (is_eq a && is_eq b)
then_eq Less b = refl
then_eq Equal b = refl
then_eq Greater b = refl

pub eqb-comm : (x y : ℕ) → (x == y) ≡ (y == x)
eqb-comm x y = grind (arith, nat_tests)
