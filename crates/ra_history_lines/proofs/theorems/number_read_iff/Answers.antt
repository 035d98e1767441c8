use Rattle.std.proofs.Common.{ap, ◌∙◌}
use Rattle.ra_history_lines.specs.Reading.{number_read}
use Rattle.ra_history_lines.proofs.Numbers.{number_read-Some, number_read-decimal}
use Rattle.ra_history_lines.proofs.theorems.number_read_iff.Goals as goal

pub returns : goal.returns
returns c = λ n field. (number_read-Some field n, λ is. ap number_read is.0 ∙ number_read-decimal n is.1)
