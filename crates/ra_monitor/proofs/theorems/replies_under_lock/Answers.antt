use Rattle.ra_monitor.proofs.LogTheorems.{may_follow, yes_is_evidence, no_is_at_fault, no_is_final}
use Rattle.ra_monitor.proofs.theorems.replies_under_lock.Goals as goal

pub returns-clause-reply : goal.returns-clause-reply
returns-clause-reply c = λ setup before after entry legal. (may_follow setup before after entry legal).0

pub returns-clause-yes : goal.returns-clause-yes
returns-clause-yes c = λ setup before after entry legal said. yes_is_evidence setup before after entry legal said

pub returns-clause-no : goal.returns-clause-no
returns-clause-no c = λ setup before after entry legal. no_is_at_fault setup before after entry legal

pub returns-clause-final_no : goal.returns-clause-final_no
returns-clause-final_no c = λ setup before after entry any legal. no_is_final setup before after entry any legal
