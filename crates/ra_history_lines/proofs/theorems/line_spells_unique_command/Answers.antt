use Rattle.ra_history_lines.proofs.Commands.{one_command}
use Rattle.ra_history_lines.proofs.theorems.line_spells_unique_command.Goals as goal

pub returns : goal.returns
returns c = one_command
