use Rattle.std.proofs.Common.{◌≡◌, ◌<◌, ◌-◌, ℕ, length, get_or}
use Rattle.ra_list_order.proofs.parts.position_of.Given as goal

-- none of the elements so far is the one that is looked for
abbrev pub invariant-loop-position : goal.invariant-loop-position
invariant-loop-position l = (k : ℕ) → k < l.position → ¬ (get_or l.elements k 0 ≡ l.element)

abbrev pub decreases-loop-position : goal.decreases-loop-position
decreases-loop-position l = length l.elements - l.position
