use Rattle.ra_history_writer.proofs.GivenAgain.{records_again}
use Rattle.ra_history_writer.proofs.theorems.records_replay_accepted.Goals as goal

pub returns : goal.returns
returns c = records_again
