use Rattle.ra_history_writer.proofs.WrittenLines.{written-says}
use Rattle.ra_history_writer.proofs.theorems.written_text_says_history.Goals as goal

pub returns : goal.returns
returns c = written-says
