use Rattle.ra_history_writer.proofs.GivenAgain.{spelled}
use Rattle.ra_history_writer.proofs.theorems.accepted_command_has_line.Goals as goal

pub returns : goal.returns
returns c = spelled
