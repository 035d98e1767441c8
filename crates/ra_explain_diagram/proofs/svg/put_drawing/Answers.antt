use Rattle.std.proofs.Common.{◌∙◌}
use Rattle.std.proofs.lemmas.Result.{on_ok_weaker}
use Rattle.ra_explain_diagram.proofs.svg.put_drawing.Goals as goal

pub returns : goal.returns
returns c =
    let ends = c.in_ok-content.ensures in
    on_ok_weaker c.put_sized.result
    (λ s. (_, _, c.deref.result.now, (ends.0, c.deref.ensures.value ∙ ends.1), s)) c.put_sized.ensures
