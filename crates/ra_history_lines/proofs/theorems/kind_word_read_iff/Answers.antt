use Rattle.std.proofs.Common.{ap, ◌∙◌}
use Rattle.ra_history_lines.specs.Reading.{kind_named}
use Rattle.ra_history_lines.proofs.Heads.{word_found, word_only}
use Rattle.ra_history_lines.proofs.theorems.kind_word_read_iff.Goals as goal

pub returns : goal.returns
returns c = λ kind word. (word_found word kind, λ is. ap kind_named is ∙ word_only kind)
