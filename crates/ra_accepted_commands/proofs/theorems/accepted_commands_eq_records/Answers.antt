use Rattle.ra_accepted_commands.proofs.AcceptedCommands.{in_order}
use Rattle.ra_accepted_commands.proofs.theorems.accepted_commands_eq_records.Goals as goal

pub returns : goal.returns
returns c = in_order
