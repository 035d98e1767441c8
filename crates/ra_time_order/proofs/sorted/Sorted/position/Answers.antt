use Rattle.std.proofs.Common.{List, length, ap, ◌∙◌, subst, ◌+◌, ◌-◌, arith}
use Rattle.ra_time_order.specs.declared.entry.Entry.{Entry}
use Rattle.ra_time_order.specs.Positions.{IsPositionOf}
use Rattle.ra_time_order.specs.Sorted.{Sorted, IsRunOf}
use Rattle.ra_time_order.proofs.FiledLabels.{behind_is, few_behind, position_in_all}
use Rattle.ra_time_order.proofs.sorted.Sorted.position.Goals as goal

pub count-behind-requires : goal.count-behind-requires
count-behind-requires c =
    let of = subst (λ rs. IsRunOf rs c.args.rank c.run_of-at.result) c.as_slice.ensures.value c.run_of-at.ensures in
    let few = few_behind c.self.inside.runs.items _ _ c.run_of-at.result c.self.invariant.kept
    (omega (arith, of.there)) in
    omega (
      arith,
      ap (λ (xs : List Entry). length xs) (behind_is _ _ c.run_of-at.result c.as_slice-2.ensures.value),
      few,
    )

pub overflow_sub-result : goal.overflow_sub-result
overflow_sub-result c =
    let of = subst (λ rs. IsRunOf rs c.args.rank c.run_of-at.result) c.as_slice.ensures.value c.run_of-at.ensures in
    let few = few_behind c.self.inside.runs.items _ _ c.run_of-at.result c.self.invariant.kept
    (omega (arith, of.there)) in
    omega (
      arith,
      c.count-behind.ensures,
      few,
      ap (λ (xs : List Entry). length xs) (behind_is _ _ c.run_of-at.result c.as_slice-2.ensures.value),
    )

pub returns-clause-among : goal.returns-clause-among
returns-clause-among c =
    let of = subst (λ rs. IsRunOf rs c.args.rank c.run_of-at.result) c.as_slice.ensures.value c.run_of-at.ensures in
    let same = behind_is _ _ _ c.as_slice-2.ensures.value in
    let is = position_in_all _ _ _ _ _ _ _ _ c.self.invariant.kept of c.index.ensures c.position.ensures.split
    (c.count-behind.ensures ∙ ap (λ (xs : List Entry). length xs) same) in
    omega (arith, is.among, ap (λ (s : Sorted). length s.entries) c.self.view_is)

pub returns-clause-split : goal.returns-clause-split
returns-clause-split c = λ sorted.
    let of = subst (λ rs. IsRunOf rs c.args.rank c.run_of-at.result) c.as_slice.ensures.value c.run_of-at.ensures in
    let same = behind_is _ _ _ c.as_slice-2.ensures.value in
    subst (λ (s : Sorted). IsPositionOf c.args.rank s.entries
    (c.self.inside.labels - c.count-behind.result + c.position.result)) c.self.view_is
    (position_in_all _ _ _ _ _ _ _ _ c.self.invariant.kept of c.index.ensures c.position.ensures.split
    (c.count-behind.ensures ∙ ap (λ (xs : List Entry). length xs) same))
