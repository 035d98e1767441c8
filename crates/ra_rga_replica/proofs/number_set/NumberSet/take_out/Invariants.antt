use Rattle.std.proofs.Common.{◌≡◌, ℕ, take}
use Rattle.ra_rga_elements.specs.ElementList.{is_marked}
use Rattle.ra_rga_replica.specs.NumberSet.{was_marked}
use Rattle.ra_rga_replica.proofs.number_set.NumberSet.take_out.Given as goal

-- the numbers so far are removed
abbrev pub invariant-loop-number : goal.invariant-loop-number
invariant-loop-number l =
    (k : ℕ) → is_marked l.self.marks.items k ≡ was_marked l.initial.self.marks.items (take l.number-index l.numbers) k
