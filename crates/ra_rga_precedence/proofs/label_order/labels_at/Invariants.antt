use Rattle.std.proofs.Common.{◌≡◌, ℕ, map}
use Rattle.std.specs.Prelude.{take}
use Rattle.ra_rga_precedence.proofs.label_order.labels_at.Given as goal

abbrev pub invariant-loop-slot : goal.invariant-loop-slot
invariant-loop-slot l = l.labels.items ≡ map (λ (slot : ℕ × ℕ). slot.1) (take l.slot-index l.slots)
