use Rattle.std.proofs.Common.{◌≡◌, ◌++◌}
use Rattle.ra_seqspec.proofs.state.listed.Given as goal

abbrev pub invariant-loop-element : goal.invariant-loop-element
invariant-loop-element l = record { list : l.items.items ++ l.element-iterator ≡ l.elements.keys }
