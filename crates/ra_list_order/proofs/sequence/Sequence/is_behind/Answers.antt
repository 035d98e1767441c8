use Rattle.std.proofs.lemmas.Bool.{ltb-true, leb-true}
use Rattle.ra_list_order.proofs.Spots.{in_later_chunk, later_in_chunk}
use Rattle.ra_list_order.proofs.sequence.Sequence.is_behind.Goals as goal

pub returns-then-spot-cut : goal.returns-then-spot-cut
returns-then-spot-cut c = λ is.
    in_later_chunk c.args.self.now c.args.element c.in-Some.spot.chunk c.in-Some.spot.index c.args.cut.chunk
    c.args.cut.index c.in-Some.ensures (ltb-true c.args.cut.chunk c.in-Some.spot.chunk is)

pub returns-then-spot-cut-2 : goal.returns-then-spot-cut-2
returns-then-spot-cut-2 c = λ is.
    later_in_chunk c.args.self.now c.args.element c.in-Some.spot.chunk c.in-Some.spot.index c.args.cut.chunk
    c.args.cut.index c.in-Some.ensures c.if-spot-cut-2.true (leb-true c.args.cut.index c.in-Some.spot.index is)
