use Rattle.std.proofs.Common.{List, ◌++◌, ap, ◌∙◌}
use Rattle.ra_explain.specs.declared.changes.Change.{Change}
use Rattle.ra_explain_text.specs.Words.{listed_remedies, rest_rows, shown}
use Rattle.ra_explain_text.proofs.Chains.{put_then}
use Rattle.ra_explain_text.proofs.remedies.put_remedies.Goals as goal

pub returns : goal.returns
returns c =
    let old = c.args.out.now.items in
    let names = c.args.view.now.names.now in
    let e = c.args.view.now.explanation.now in
    let v = c.args.violation.now in
    put_then c.put_rest.result old c.put_listed.new.out.items c.put_rest.new.out.items
    (listed_remedies names e v (shown e.remedies)) (rest_rows e.remedies)
    (c.in_ok-put_listed.ensures ∙ ap (λ (cs : List Change). old ++ listed_remedies names e v cs) c.shown.ensures)
    c.put_rest.ensures
