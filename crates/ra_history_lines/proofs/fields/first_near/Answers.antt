use Rattle.memchr.specs.Find.{is_byte}
use Rattle.ra_history_lines.proofs.Places.{first_yielded}
use Rattle.ra_history_lines.proofs.fields.first_near.Goals as goal

pub returns : goal.returns
returns c =
    first_yielded (is_byte c.args.byte) c.args.bytes.now c.memchr_iter.result c.next.result c.next.new.self
    c.memchr_iter.ensures.value c.next.ensures.steps
