use Rattle.ra_theorems.proofs.TheoremIndex.{later_command_preserves_updates_passing-delivery}
use Rattle.ra_theorems.proofs.TheoremIndex.{later_command_preserves_updates_passing-join}
use Rattle.ra_theorems.proofs.TheoremIndex.{later_command_preserves_updates_passing-operation}
use Rattle.ra_theorems.proofs.theorems.passing.later_command_preserves_updates_passing.Goals as goal

pub returns-clause-delivery : goal.returns-clause-delivery
returns-clause-delivery c = later_command_preserves_updates_passing-delivery

pub returns-clause-join : goal.returns-clause-join
returns-clause-join c = later_command_preserves_updates_passing-join

pub returns-clause-operation : goal.returns-clause-operation
returns-clause-operation c = later_command_preserves_updates_passing-operation
