use Rattle.ra_history_lines.proofs.Commands.{one_spelling}
use Rattle.ra_history_lines.proofs.theorems.command_spelling_unique.Goals as goal

pub returns : goal.returns
returns c = one_spelling
