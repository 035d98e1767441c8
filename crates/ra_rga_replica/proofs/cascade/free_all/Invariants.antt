use Rattle.std.proofs.Common.{◌≡◌, ℕ, take}
use Rattle.ra_rga_replica.specs.PendingLabels.{labels_under}
use Rattle.ra_rga_replica.specs.Cascade.{freed_under}
use Rattle.ra_rga_replica.proofs.cascade.free_all.Given as goal

-- the freed labels of the labels so far are removed
abbrev pub invariant-loop-label : goal.invariant-loop-label
invariant-loop-label l =
    (number : ℕ) → labels_under l.waiting number ≡ freed_under l.edits (take l.label-index l.labels)
    (labels_under l.initial.waiting) number
