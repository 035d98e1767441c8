use Rattle.std.proofs.lemmas.List.{take_rest}
use Rattle.ra_history_text.proofs.Runs.{written_more}
use Rattle.ra_history_text.proofs.write.write_out.Goals as goal

pub loop-rest-preserved : goal.loop-rest-preserved
loop-rest-preserved g c =
    written_more (g.W.Write.contents c.args.writer.now) (g.W.Write.contents c.loop-rest.writer)
    (g.W.Write.contents c.write.new.self) c.args.bytes.now c.loop-rest.rest.now _ c.in-Ok.count
    c.loop-rest.invariant c.in-Ok.ensures.bytes (take_rest c.loop-rest.rest.now c.in-Ok.count)
