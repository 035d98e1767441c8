use Rattle.std.proofs.Common.{arith}
use Rattle.ra_rga_elements.proofs.LeastStamps.{least_more, least_of_all}
use Rattle.ra_rga_elements.proofs.chunk.least_of.Goals as goal

pub loop-entry-preserved : goal.loop-entry-preserved
loop-entry-preserved c = least_more c.args.entries.now c.loop-entry.entry-index _ c.loop-entry.least
    c.lesser-least.result c.loop-entry-test.true c.loop-entry.invariant c.lesser-least.ensures

pub returns : goal.returns
returns c = least_of_all c.args.entries.now c.loop-entry.entry-index c.loop-entry.least
    (omega arith) c.loop-entry.invariant
