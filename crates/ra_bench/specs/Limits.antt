-- The allowed numbers of replicas and rounds of a bench.
use Rattle.std.specs.Prelude.{ℕ, ◌≤◌}
use Rattle.ra_bench.specs.declared.limits.TheConstants.{MOST_BENCH_REPLICAS, MOST_ROUNDS}

abbrev pub AreBenchReplicas : ℕ → Type 0
AreBenchReplicas replicas = (1 ≤ replicas) × (replicas ≤ MOST_BENCH_REPLICAS)

abbrev pub AreRounds : ℕ → Type 0
AreRounds rounds = (1 ≤ rounds) × (rounds ≤ MOST_ROUNDS)
