use Rattle.std.proofs.Common.{◌∙◌, sym, inl, inr, arith}
use Rattle.std.proofs.lemmas.Bool.{cases_eq}
use Rattle.ra_labels.specs.Places.{issuer_of}
use Rattle.ra_theorems.proofs.TheoremIndex.{sees_earlier_updates-earlier}
use Rattle.ra_any_order.proofs.TurnOrders.{behind_newest}
use Rattle.ra_any_order.proofs.label_order.comes_after_seen.Goals as goal

pub loop-replica-preserved : goal.loop-replica-preserved
loop-replica-preserved c = λ past order stands are k seen low.
    let q = c.loop-replica.replica in
    elim (cases_eq (issuer_of past.records k) q) [
      | inl is ↦ behind_newest past.records order c.args.positions.now are c.args.label q c.newest_seen.result
          (c.newest_seen.ensures.newest past stands) (sym c.comes_after.ensures ∙ c.if-not-comes_after.false) k seen is
      | inr other ↦ c.loop-replica.invariant past order stands are k seen (omega (arith, low, other))
    ]

pub returns-clause-behind : goal.returns-clause-behind
returns-clause-behind c = λ past order stands are _ k seen.
    let earlier = sees_earlier_updates-earlier past.records c.args.label k seen in
    let there = c.requires in
    let low = c.replicas-replica-end.ensures.issuers past stands k (omega (arith, earlier, there)) in
    let end = c.loop-replica-test.false in
    c.loop-replica.invariant past order stands are k seen (omega (arith, low, end))
