use Rattle.std.proofs.Common.{sym, subst, ◌∙◌}
use Rattle.std.proofs.lemmas.Bool.{false≢true}
use Rattle.ra_some_order.specs.SomeOrder.{EachLabelIsOfKind}
use Rattle.ra_rga_conditions.proofs.TheoremIndex.{label_order_iff}
use Rattle.ra_another_order.proofs.checks.linearizes_rga.Goals as goal

pub returns-then-not-branch : goal.returns-then-not-branch
returns-then-not-branch c = λ past kind are. (
  (λ is. absurd (false≢true is)),
  (λ explains.
      let of_kind = subst (λ k. EachLabelIsOfKind k past.records) kind are.of_kind in
      let (plain, turned, keeps) = (label_order_iff past.records c.args.order.now of_kind).0 explains in
      sym c.if-not-branch.true ∙ (c.in_ok-is_order_of_labels.ensures past are.visibility).1 turned),
)
