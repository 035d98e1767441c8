use Rattle.ra_theorems.proofs.TheoremIndex.{reply_meaning}
use Rattle.ra_theorems.proofs.theorems.answer.reply_meaning.Goals as goal

pub returns : goal.returns
returns c = reply_meaning
