use Rattle.std.proofs.Common.{◌∙◌, ◌<◌, length, ℕ, sym, subst, ap}
use Rattle.std.specs.Prelude.{Contains}
use Rattle.ra_rga_precedence.proofs.ListedElements.{low_more}
use Rattle.ra_rga_precedence.proofs.arrangement.marked_from.Goals.{then-is_marked+in_ok-push, else-is_marked}
use Rattle.ra_rga_precedence.proofs.arrangement.marked_from.Goals as goal

pub loop-preserved : goal.loop-preserved
loop-preserved c =
    let bound = length c.args.shown.now in
    elim c.if-is_marked.branch [
      | then-is_marked+in_ok-push w ↦
          subst (λ ls. (m : ℕ) → Contains ls m → m < bound)
          (sym (ap (λ v. v.items) w.labels-is ∙ w.in_ok-push.ensures.items))
          (low_more c.loop.labels.items c.in-Some.label bound c.loop.invariant (c.is_marked.ensures w.if-is_marked.true))
      | else-is_marked w ↦
          subst (λ ls. (m : ℕ) → Contains ls m → m < bound) (sym (ap (λ v. v.items) w.labels-is)) c.loop.invariant
    ]
