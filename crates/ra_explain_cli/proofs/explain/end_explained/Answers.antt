use Rattle.std.proofs.Common.{ℕ, List, inr, subst}
use Rattle.ra_history_text.specs.declared.fault.CheckFault.TheVariants.{Write}
use Rattle.ra_history_text.specs.Written.{HasWritten}
use Rattle.ra_explain_cli.proofs.explain.end_explained.Goals as goal

pub returns-clause-explained : goal.returns-clause-explained
returns-clause-explained g c =
    let old = g.W.Write.contents c.args.out.now in
    let new = g.W.Write.contents c.write_out.new.writer in
    let unwritten = c.in-Err.ensures.part in
    let part : HasWritten old new c.in-Ok.page.items unwritten.0 =
    subst (λ (bytes : List ℕ). HasWritten old new bytes unwritten.0) c.deref.ensures.value unwritten.2 in
    inr (c.in-Ok.page.items, c.in-Ok.ensures, inr (Write, (unwritten.0, unwritten.1, part), c.stop-in-Err.ensures))
