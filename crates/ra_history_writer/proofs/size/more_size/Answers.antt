use Rattle.std.proofs.Common.{arith}
use Rattle.ra_history_writer.proofs.Sizes.{size_more}
use Rattle.ra_history_writer.proofs.size.more_size.Goals as goal

pub loop-number-preserved : goal.loop-number-preserved
loop-number-preserved c = (
  size_more c.args.numbers.now c.loop-number.number-index c.loop-number.size c.number_size.result
      c.loop-number-test.true
      c.loop-number.invariant.0 c.number_size.ensures.exact,
  omega (arith, c.loop-number.invariant.1, c.number_size.ensures.small),
)
