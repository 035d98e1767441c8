use Rattle.std.specs.Prelude.{Result, Ok, Err, IfOk}
use Rattle.std.proofs.Common.{subst}
use Rattle.ra_labels.specs.Edges.{Extends}
use Rattle.ra_witness.proofs.kept_list.KeptList.list_order.Goals as goal

-- what holds of a result by two clauses
by_both : {T E : Type 0} (r : Result T E) (P Q R : T → Type 0) → ((x : T) → P x → Q x → R x) → IfOk r P → IfOk r Q
    → IfOk r R
by_both (Ok x) P Q R join one other = join x one other
by_both (Err e) P Q R join one other = tt

pub returns : goal.returns
returns c = λ initial_replicas records stands.
    let past = stands.past in
    by_both c.list_order.result _ _ _
    (λ order whole extends. record {
      once = whole.0;
      whole = λ x. (
        (λ there. (stands.is.inserted x).0 ((whole.1 x).0 there)),
        (λ there. (whole.1 x).1 ((stands.is.inserted x).1 there)),
      );
      extends = subst (Extends order.items) stands.is.edges extends;
    })
    (c.list_order.ensures.whole past stands.stands) (c.list_order.ensures.extends past stands.stands)
