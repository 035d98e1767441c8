use Rattle.std.proofs.Common.{ℕ, List, ◌++◌, ap, ◌∙◌}
use Rattle.std.proofs.lemmas.List.{append_assoc}
use Rattle.ra_explain_diagram.specs.Drawings.{svg_start}
use Rattle.ra_explain_diagram.proofs.svg.put_sized.Goals as goal

pub returns : goal.returns
returns c =
    let content = c.args.content.now in
    let start = svg_start c.args.width c.args.height c.args.report.now in
    c.in_ok-extend_from_slice.ensures.items ∙ ap (λ (bs : List ℕ). bs ++ content) c.in_ok-put_start.ensures
    ∙ append_assoc c.args.out.now.items start content
