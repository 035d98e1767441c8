use Rattle.std.proofs.Common.{◌≡◌}
use Rattle.ra_exec_order.specs.NamedOrderTheorems.{first_numbers}
use Rattle.ra_exec_order.proofs.exec_order.ExecOrderNamedOrder.numbers.Given as goal

-- the numbers so far
abbrev pub invariant-loop-number : goal.invariant-loop-number
invariant-loop-number l = l.numbers.items ≡ first_numbers l.number
