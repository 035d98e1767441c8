use Rattle.std.proofs.Common.{[], take}
use Rattle.ra_list_order.specs.Gathering.{HasEdgesAt}
use Rattle.ra_list_order.proofs.gathering.edges_of.Given as goal

abbrev pub invariant-loop-ancestor : goal.invariant-loop-ancestor
invariant-loop-ancestor l = HasEdgesAt l.edges (take l.ancestor-index l.ancestors) [] l.walked.items

abbrev pub invariant-loop-descendant : goal.invariant-loop-descendant
invariant-loop-descendant l = HasEdgesAt l.edges l.ancestors (take l.descendant-index l.descendants) l.walked.items
