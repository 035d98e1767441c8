use Rattle.ra_history_writer.proofs.PutBytes.{commas_next}
use Rattle.ra_history_writer.proofs.spelling.put_more.Goals as goal

pub loop-number-preserved : goal.loop-number-preserved
loop-number-preserved c =
    commas_next c.args.out.now.items c.loop-number.out.items c.push.new.self.items c.put_number.new.out.items
    c.args.numbers.now c.loop-number.number-index c.loop-number-test.true
    c.loop-number.invariant c.in_ok-push.ensures.items c.in_ok-put_number.ensures.put
