use Rattle.std.proofs.Common.{◌≡◌, ℕ, List, ap, sym, ◌∙◌}
use Rattle.ra_explain.specs.LabelFilter.{is_such_at}
use Rattle.ra_explain.specs.Places.{places_in}
use Rattle.ra_explain.proofs.Ranges.{chosen_one, chosen_none}
use Rattle.ra_explain.proofs.label_filter.find_labels.Goals as goal
use Rattle.ra_explain.proofs.label_filter.find_labels.Goals.{then-is_such_at+in_ok-push, else-is_such_at}

pub loop-label-preserved : goal.loop-label-preserved
loop-label-preserved c =
    let m = c.args.monitor.now in
    let test = is_such_at m.setup m.log (places_in m.log) c.args.sort in
    let n = c.loop-label.label in
    let found = c.loop-label.found.items in
    let told : c.is_such_at.result ≡ test n = c.is_such_at.ensures
    ∙ ap (λ (places : List ℕ). is_such_at m.setup m.log places c.args.sort n) c.requires in
    elim c.if-is_such_at.branch [
      | then-is_such_at+in_ok-push w ↦ ap (λ v. v.items) w.found-is ∙ w.in_ok-push.ensures.items
          ∙ chosen_one test n found (sym told ∙ w.if-is_such_at.true) c.loop-label.invariant
      | else-is_such_at w ↦ ap (λ v. v.items) w.found-is
          ∙ chosen_none test n found (sym told ∙ w.if-is_such_at.false) c.loop-label.invariant
    ]
