use Rattle.ra_history_writer.proofs.SpelledLines.{line_spells}
use Rattle.ra_history_writer.proofs.theorems.written_line_spells_command.Goals as goal

pub returns : goal.returns
returns c = line_spells
