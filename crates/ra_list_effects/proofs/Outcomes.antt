-- A clause on the outcome of a call, from another one.
use Rattle.std.proofs.Common.{◌≡◌, subst, Option, Some, None, Result, Ok, Err}
use Rattle.std.specs.Prelude.{IfOk, OnOk, OnErr, MatchOption}

pub on_ok : {T E : Type 0} (r : Result T E) (P Q : Type 0) → (P → Q) → OnOk r P → OnOk r Q
on_ok (Ok x) P Q then is = then is
on_ok (Err e) P Q then is = tt

pub on_err : {T E : Type 0} (r : Result T E) (P Q : Type 0) → (P → Q) → OnErr r P → OnErr r Q
on_err (Ok x) P Q then is = tt
on_err (Err e) P Q then is = then is

pub always_err : {T E : Type 0} (r : Result T E) (P : Type 0) → P → OnErr r P
always_err (Ok x) P is = tt
always_err (Err e) P is = is

-- what holds in any case holds if a cycle was returned
pub always_some : {T E : Type 0} (r : Result (Option T) E) (P : Type 0) → P
    → IfOk r (λ found. MatchOption found (Unit {0}) (λ x. P))
always_some (Ok None) P is = tt
always_some (Ok (Some x)) P is = is
always_some (Err e) P is = tt

-- two clauses on a returned cycle are one
pub both_some : {T E : Type 0} (r : Result (Option T) E) (A B P Q : Type 0)
    → IfOk r (λ found. MatchOption found A (λ x. P)) → IfOk r (λ found. MatchOption found B (λ x. Q))
    → IfOk r (λ found. MatchOption found (Unit {0}) (λ x. P × Q))
both_some (Ok None) A B P Q p q = tt
both_some (Ok (Some x)) A B P Q p q = (p, q)
both_some (Err e) A B P Q p q = tt

-- what a clause says if no cycle was returned
pub if_none : {T E : Type 0} (r : Result (Option T) E) (A : Type 0) (C : T → Type 0) → r ≡ Ok None
    → IfOk r (λ found. MatchOption found A C) → A
if_none r A C none is = subst (λ o. IfOk o (λ found. MatchOption found A C)) none is
