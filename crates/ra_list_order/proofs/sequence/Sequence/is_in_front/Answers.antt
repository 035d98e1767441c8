use Rattle.std.proofs.lemmas.Bool.{ltb-true}
use Rattle.ra_list_order.proofs.Spots.{in_earlier_chunk, earlier_in_chunk}
use Rattle.ra_list_order.proofs.sequence.Sequence.is_in_front.Goals as goal

pub returns-then-spot-cut : goal.returns-then-spot-cut
returns-then-spot-cut c = λ is.
    in_earlier_chunk c.args.self.now c.args.element c.in-Some.spot.chunk c.in-Some.spot.index c.args.cut.chunk
    c.args.cut.index c.in-Some.ensures (ltb-true c.in-Some.spot.chunk c.args.cut.chunk is)

pub returns-then-spot-cut-2 : goal.returns-then-spot-cut-2
returns-then-spot-cut-2 c = λ is.
    earlier_in_chunk c.args.self.now c.args.element c.in-Some.spot.chunk c.in-Some.spot.index c.args.cut.chunk
    c.args.cut.index c.in-Some.ensures c.if-spot-cut-2.true (ltb-true c.in-Some.spot.index c.args.cut.index is)
