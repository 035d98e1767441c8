use Rattle.ra_theorems.proofs.TheoremIndex.{new_label_decides-order, new_label_decides-query, new_label_decides-all}
use Rattle.ra_theorems.proofs.theorems.insertion.new_label_decides.Goals as goal

pub returns-clause-order : goal.returns-clause-order
returns-clause-order c = new_label_decides-order

pub returns-clause-query : goal.returns-clause-query
returns-clause-query c = new_label_decides-query

pub returns-clause-all : goal.returns-clause-all
returns-clause-all c = new_label_decides-all
