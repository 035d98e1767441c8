use Rattle.std.proofs.Common.{◌≡◌, ◌++◌, take}
use Rattle.ra_labels.specs.Reads.{edges_of_read}
use Rattle.ra_explain.proofs.edges.add_read.Given as goal

abbrev pub invariant-loop-next : goal.invariant-loop-next
invariant-loop-next l = l.edges.items ≡ l.initial.edges.items ++ edges_of_read l.label (take l.next l.list)
