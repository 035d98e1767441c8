use Rattle.std.proofs.Common.{ℕ, List, ◌-◌, ◌++◌, length, ap, ◌∙◌}
use Rattle.ra_explain.specs.declared.changes.Change.{Change}
use Rattle.ra_explain_text.specs.Words.{others_row, depending_row, tried_row, shown}
use Rattle.ra_explain_text.proofs.Chains.{put_then}
use Rattle.ra_explain_text.proofs.remedies.put_rest.Goals as goal

pub returns : goal.returns
returns c =
    let old = c.args.out.now.items in
    let remedies = c.args.remedies.now in
    let depending = depending_row (shown remedies) in
    let tried = tried_row (length remedies.found.items) (length remedies.tried.items) in
    put_then c.put_tried.result old c.put_others.new.out.items c.put_tried.new.out.items
    (others_row (length remedies.found.items - 5)) (depending ++ tried)
    (c.in_ok-put_others.ensures ∙ ap (λ (n : ℕ). old ++ others_row n) c.others_of.ensures)
    (put_then c.put_tried.result c.put_others.new.out.items c.put_depending.new.out.items c.put_tried.new.out.items
    depending tried
    (c.in_ok-put_depending.ensures
    ∙ ap (λ (cs : List Change). c.put_others.new.out.items ++ depending_row cs) c.shown.ensures)
    c.put_tried.ensures)
