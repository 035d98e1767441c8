use Rattle.std.proofs.lemmas.Result.{on_ok_weaker}
use Rattle.ra_explain_diagram.proofs.svg.put_svg.Goals as goal

pub returns-in_ok-picture-in-Some : goal.returns-in_ok-picture-in-Some
returns-in_ok-picture-in-Some c =
    on_ok_weaker c.put_drawing.result (λ s. (s.0, s.1, s.2, s.4)) c.put_drawing.ensures
