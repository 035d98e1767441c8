use Rattle.ra_list_order.proofs.Listings.{list_order_there, no_list_order}
use Rattle.ra_list_order.proofs.theorems.listed_order_cases.Goals as goal

pub returns-clause-found : goal.returns-clause-found
returns-clause-found c = list_order_there

pub returns-clause-none : goal.returns-clause-none
returns-clause-none c = λ elements edges cycle is all. no_list_order edges cycle is elements all
