use Rattle.ra_history_text.proofs.Texts.{regular_history}
use Rattle.ra_history_text.proofs.theorems.regular_text_says_history.Goals as goal

pub returns : goal.returns
returns c = regular_history
