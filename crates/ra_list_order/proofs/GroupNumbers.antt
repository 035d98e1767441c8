-- The group that the number of an element says.
use Rattle.std.proofs.Common.{◌≡◌, ℕ, zero, suc, ◌+◌, ◌-◌, ◌<◌, List, Some, is_some, refl, ap, ◌∙◌, arith}
use Rattle.std.specs.Prelude.{nat_lt, IsSome}
use Rattle.std.proofs.lemmas.Bool.{false≢true, lt-ltb}
use Rattle.ra_list_order.specs.Chunks.{group_of_number, group_in}
use Rattle.ra_list_order.specs.Numbers.{IsSetTo, number_in}
use Rattle.ra_list_order.proofs.Pointed.{IsPointed}

pub some_number : (n : ℕ) → IsSome (group_of_number n) → 0 < n
some_number zero some = absurd (false≢true some)
some_number (suc n) some = omega arith

pub number_tells : (n : ℕ) → nat_lt 0 n ≡ is_some (group_of_number n)
number_tells zero = refl
number_tells (suc n) = lt-ltb 0 (suc n) (omega arith)

pub number_says : (n : ℕ) → 0 < n → group_of_number n ≡ Some (n - 1)
number_says zero some = absurd (omega (arith, some))
number_says (suc n) some = let less : n ≡ suc n - 1 = omega arith in ap Some less

pub says_group : (n group : ℕ) → n ≡ group + 1 → group_of_number n ≡ Some group
says_group n group is =
    let less : n - 1 ≡ group = omega (arith, is) in
    number_says n (omega (arith, is)) ∙ ap Some less

pub number_set : (old new : List ℕ) (x group : ℕ) → IsSetTo x (group + 1) (number_in old) (number_in new)
    → IsPointed (group_in old) (group_in new) x group
number_set old new x group done = record {
  here = says_group (number_in new x) group done.here;
  apart = λ q other. ap group_of_number (done.apart q other);
}

pub same_groups : (old new : List ℕ) → ((x : ℕ) → number_in new x ≡ number_in old x)
    → (x : ℕ) → group_in new x ≡ group_in old x
same_groups old new same x = ap group_of_number (same x)
