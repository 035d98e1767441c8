use Rattle.std.proofs.Common.{sym, ap, ◌∙◌}
use Rattle.std.specs.Option.{option_copied}
use Rattle.ra_any_order.proofs.ElementSets.{newest_at_first, newest_with, newest_without}
use Rattle.ra_any_order.proofs.elements.newest_of.Goals.{in-Some+in_ok-push, in_default}
use Rattle.ra_any_order.proofs.elements.newest_of.Goals as goal

pub loop-replica-init : goal.loop-replica-init
loop-replica-init c =
    newest_at_first c.args.newest.now c.args.element c.new-found.result.items c.new-found.ensures.items

pub loop-replica-preserved : goal.loop-replica-preserved
loop-replica-preserved c =
    elim c.match-get.branch [
      | in-Some+in_ok-push w ↦ newest_with c.args.newest.now c.args.element c.loop-replica.replica w.in-Some.update.now
          c.loop-replica.found.items c.match-get.found.items
          (sym c.get.ensures.value ∙ ap option_copied w.in-Some.is)
          (ap (λ v. v.items) w.found-is ∙ w.in_ok-push.ensures.items) c.loop-replica.invariant
      | in_default w ↦ newest_without c.args.newest.now c.args.element c.loop-replica.replica
          c.loop-replica.found.items c.match-get.found.items
          (sym c.get.ensures.value ∙ ap option_copied w.in_default.is)
          (ap (λ v. v.items) w.found-is) c.loop-replica.invariant
    ]
