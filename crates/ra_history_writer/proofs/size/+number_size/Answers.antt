use Rattle.std.proofs.Common.{arith}
use Rattle.ra_history_writer.proofs.Sizes.{size_step, size_one, ten_digits}
use Rattle.ra_history_writer.proofs.size.+number_size.Goals as goal

pub returns-then-number-ge10-clause-exact : goal.returns-then-number-ge10-clause-exact
returns-then-number-ge10-clause-exact t c =
    size_step c.args.number c.number_size.result c.if-number-ge10.true
    (omega (arith, c.ranges.number.fits)) c.number_size.ensures.exact

pub returns-then-number-ge10-clause-small : goal.returns-then-number-ge10-clause-small
returns-then-number-ge10-clause-small t c =
    ten_digits c.args.number _ c.ranges.number.fits
    (size_step c.args.number c.number_size.result c.if-number-ge10.true
    (omega (arith, c.ranges.number.fits)) c.number_size.ensures.exact)

pub returns-else-number-ge10-clause-exact : goal.returns-else-number-ge10-clause-exact
returns-else-number-ge10-clause-exact t c = size_one c.args.number c.if-number-ge10.false
