-- Lemmas on the postconditions of a `Result`.
use Rattle.std.specs.Prelude.{Result, Ok, Err, IfOk, OnOk, OnErr}

pub on_ok : {T E : Type 0} {P Q : Type 0} (r : Result T E) → OnOk r P → (P → Q) → OnOk r Q
on_ok (Ok x) p f = f p
on_ok (Err e) p f = tt

pub on_err : {T E : Type 0} {P Q : Type 0} (r : Result T E) → OnErr r P → (P → Q) → OnErr r Q
on_err (Ok x) p f = tt
on_err (Err e) p f = f p

pub on_err_any : {T E : Type 0} {P : Type 0} (r : Result T E) → P → OnErr r P
on_err_any (Ok x) p = tt
on_err_any (Err e) p = p

pub if_ok_on : {T E : Type 0} {P : T → Type 0} {Q : Type 0} (r : Result T E) → IfOk r P → ((x : T) → P x → Q) → OnOk r Q
if_ok_on (Ok x) p f = f x p
if_ok_on (Err e) p f = tt
