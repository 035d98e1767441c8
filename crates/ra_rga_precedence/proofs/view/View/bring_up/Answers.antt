use Rattle.std.proofs.Common.{sym, subst}
use Rattle.ra_visibility.specs.Tracked.{replicas_in}
use Rattle.ra_rga_precedence.specs.Situation.{operations_in}
use Rattle.ra_rga_precedence.specs.Views.{IsNewView, IsView}
use Rattle.ra_rga_precedence.proofs.TakenUpdates.{new_is_view}
use Rattle.ra_rga_precedence.proofs.view.View.bring_up.Goals.{then-not-is_behind+in_ok-self, else-not-is_behind}
use Rattle.ra_rga_precedence.proofs.view.View.bring_up.Goals as goal

pub take_new-requires-clause-view : goal.take_new-requires-clause-view
take_new-requires-clause-view c =
    let tracked = c.args.tracker.now.now in
    let operations = operations_in c.args.operations.now in
    let needed = c.args.needed.now in
    elim c.if-not-is_behind.branch [
      | then-not-is_behind+in_ok-self w ↦
          subst (IsView tracked operations needed) (sym w.self-is) (new_is_view tracked operations needed _
          (subst (λ n. IsNewView (replicas_in tracked) n w.in_ok-self.field-0) w.labels.ensures
          (subst (λ r. IsNewView r w.labels.result w.in_ok-self.field-0) w.replicas-then-not-is_behind.ensures.number
          w.in_ok-self.ensures)))
      | else-not-is_behind w ↦ subst (IsView tracked operations needed) (sym w.self-is) c.requires.view
    ]
