use Rattle.ra_rga_precedence.specs.Situation.{operations_in}
use Rattle.ra_rga_precedence.proofs.ListedElements.{AreFirstElements}
use Rattle.ra_rga_precedence.proofs.arrangement.elements_at.Given as goal

abbrev pub invariant-loop-label : goal.invariant-loop-label
invariant-loop-label l = AreFirstElements (operations_in l.operations) l.labels l.label-index l.elements.items
