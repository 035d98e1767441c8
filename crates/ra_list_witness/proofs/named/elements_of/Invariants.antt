use Rattle.std.proofs.Common.{◌≡◌, take}
use Rattle.ra_list_witness.specs.Named.{elements_of}
use Rattle.ra_list_witness.proofs.named.elements_of.Given as goal

abbrev pub invariant-loop-number : goal.invariant-loop-number
invariant-loop-number l = l.elements.items ≡ elements_of l.numbers (take l.number-index l.order)
