use Rattle.std.proofs.Common.{Some, None, ap, sym, subst, ◌∙◌}
use Rattle.std.specs.Prelude.{Contains}
use Rattle.ra_labels.specs.declared.kind.Kind.{Kind}
use Rattle.ra_some_order.specs.SomeOrder.{SomeOrderExplains, is_decided_by_conditions}
use Rattle.ra_any_order.specs.Situation.{IsHistoryOf, operations_in}
use Rattle.ra_another_order.proofs.possible.possible_by_kind.Goals as goal

pub returns-in_ok-values-in-Register-Last-2-clause-possible : goal.returns-in_ok-values-in-Register-Last-2-clause-possible
returns-in_ok-values-in-Register-Last-2-clause-possible c past same are some =
    let kind = same ∙ c.in-Register-Last.is-0 in
    let possible = c.in_ok-values-in-Register-Last.ensures past (record {
      visibility = are.visibility;
      listed = are.listed;
      kind = ap is_decided_by_conditions kind;
      of_kind = are.of_kind;
    }) kind (subst (λ (k : Kind). SomeOrderExplains k past.records) c.in-Register-Last.is-0 some) in
    let listed = c.as_slice.ensures.value in
    let found = c.in_ok-values-in-Register-Last-2.ensures in
    record {
      written = λ x. (
        (λ there. (possible (Some x)).0 (subst (λ vs. Contains vs (Some x)) listed ((found.written x).0 there))),
        (λ is. (found.written x).1 (subst (λ vs. Contains vs (Some x)) (sym listed) ((possible (Some x)).1 is))),
      );
      none = (
        (λ there. (possible None).0 (subst (λ vs. Contains vs None) listed (found.none.0 there))),
        (λ is. found.none.1 (subst (λ vs. Contains vs None) (sym listed) ((possible None).1 is))),
      );
    }

pub returns-in_ok-found-in-LwwSet-LwwRead-clause-possible : goal.returns-in_ok-found-in-LwwSet-LwwRead-clause-possible
returns-in_ok-found-in-LwwSet-LwwRead-clause-possible c past same are some =
    let kind = same ∙ c.in-LwwSet-LwwRead.is-0 in
    let history : IsHistoryOf c.args.tracker.now (operations_in c.args.operations.now) past = record {
      visibility = are.visibility;
      listed = are.listed;
      kind = ap is_decided_by_conditions kind;
      of_kind = are.of_kind;
    } in
    let explained = subst (λ (k : Kind). SomeOrderExplains k past.records) c.in-LwwSet-LwwRead.is-0 some in
    let found = c.in_ok-found-in-LwwSet-LwwRead.ensures in
    record {
      some = found.some past history kind explained;
      listed = found.listed past history kind explained;
      undecided = found.undecided past history kind explained;
      others = found.others past history kind explained;
      contested = found.contested past history kind explained;
      full = found.full past history kind explained;
    }
