use Rattle.std.proofs.Common.{◌≡◌, replicate}
use Rattle.ra_labels.specs.Specification.{initial_state}
use Rattle.ra_witness.proofs.states.first_states.Given as goal

-- the states so far are initial
abbrev pub invariant-loop : goal.invariant-loop
invariant-loop l = l.states.items ≡ replicate l.counter (initial_state l.kind)
