use Rattle.std.proofs.Common.{◌≡◌, take}
use Rattle.ra_siblings.specs.Kept.{values_of}
use Rattle.ra_siblings.proofs.siblings.Siblings.written.Given as goal

-- the values of the labels so far
abbrev pub invariant-loop-label : goal.invariant-loop-label
invariant-loop-label l = l.values.items ≡ values_of l.self (take l.label-index l.labels)
