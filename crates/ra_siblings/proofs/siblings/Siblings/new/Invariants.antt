use Rattle.std.proofs.Common.{◌≡◌, [], replicate}
use Rattle.ra_siblings.proofs.siblings.Siblings.new.Given as goal

-- a set for each replica so far, without any label
abbrev pub invariant-loop : goal.invariant-loop
invariant-loop l = l.none.items ≡ replicate l.counter []
