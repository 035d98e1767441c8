use Rattle.std.proofs.Common.{ap, sym, ◌∙◌}
use Rattle.ra_explain.specs.LabelFilter.{is_with_at}
use Rattle.ra_explain.proofs.Ranges.{chosen_one, chosen_none}
use Rattle.ra_explain.proofs.label_filter.labels_with.Goals as goal
use Rattle.ra_explain.proofs.label_filter.labels_with.Goals.{then-is_with_at+in_ok-push, else-is_with_at}

pub loop-label-preserved : goal.loop-label-preserved
loop-label-preserved c =
    let test = is_with_at c.args.log.now c.args.places.now c.args.sort in
    let n = c.loop-label.label in
    let found = c.loop-label.found.items in
    elim c.if-is_with_at.branch [
      | then-is_with_at+in_ok-push w ↦ ap (λ v. v.items) w.found-is ∙ w.in_ok-push.ensures.items
          ∙ chosen_one test n found (sym c.is_with_at.ensures ∙ w.if-is_with_at.true) c.loop-label.invariant
      | else-is_with_at w ↦ ap (λ v. v.items) w.found-is
          ∙ chosen_none test n found (sym c.is_with_at.ensures ∙ w.if-is_with_at.false) c.loop-label.invariant
    ]
