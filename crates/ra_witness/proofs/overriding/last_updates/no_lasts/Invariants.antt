use Rattle.std.proofs.Common.{◌≡◌, [], replicate}
use Rattle.ra_witness.specs.Overriding.{labels_in}
use Rattle.ra_witness.proofs.overriding.last_updates.no_lasts.Given as goal

-- each replica so far has no last labels
abbrev pub invariant-loop : goal.invariant-loop
invariant-loop l = labels_in l.lasts.items ≡ replicate l.counter []
