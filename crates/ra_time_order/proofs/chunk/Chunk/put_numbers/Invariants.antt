use Rattle.std.proofs.Common.{◌≡◌, ◌++◌, take}
use Rattle.std.specs.Prelude.{map}
use Rattle.ra_time_order.proofs.chunk.Chunk.put_numbers.Given as goal

-- the labels so far
abbrev pub invariant-loop-entry : goal.invariant-loop-entry
invariant-loop-entry l = l.numbers.items ≡ l.fn.numbers.items ++ map (λ entry. entry.label) (take l.entry-index l.entry-items)
