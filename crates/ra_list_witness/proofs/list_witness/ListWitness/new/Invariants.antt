use Rattle.std.proofs.Common.{◌≡◌, replicate}
use Rattle.ra_list_witness.specs.ListWitness.{no_view}
use Rattle.ra_list_witness.proofs.list_witness.ListWitness.new.Given as goal

-- the views so far are of replicas that have no elements
abbrev pub invariant-loop : goal.invariant-loop
invariant-loop l = l.views.items ≡ replicate l.counter no_view
