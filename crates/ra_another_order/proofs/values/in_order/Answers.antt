use Rattle.std.proofs.Common.{sym, subst}
use Rattle.std.specs.Prelude.{Contains}
use Rattle.std.proofs.lemmas.Map.Lookups.{exact_unsigned}
use Rattle.std.proofs.lemmas.Map.Views.{btree_set_contains_iff}
use Rattle.std.specs.Cmp.{nat_cmp_total}
use Rattle.ra_another_order.proofs.values.in_order.Goals as goal

pub returns-clause-written : goal.returns-clause-written
returns-clause-written c x =
    let set = c.in_ok-set.set in
    let same = c.in_ok-written.ensures in
    let has = btree_set_contains_iff nat_cmp_total exact_unsigned set x in (
      (λ there. (c.in_ok-set.ensures x).0 (has.1 (subst (λ xs. Contains xs x) same there))),
      (λ there. subst (λ xs. Contains xs x) (sym same) (has.0 ((c.in_ok-set.ensures x).1 there))),
    )
