use Rattle.std.proofs.lemmas.Result.{on_ok_weaker}
use Rattle.ra_explain_diagram.proofs.svg.put_title_alone.Goals as goal

pub returns : goal.returns
returns c = on_ok_weaker c.put_sized.result (λ s. (_, _, c.deref.result.now, s)) c.put_sized.ensures
