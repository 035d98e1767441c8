-- The allowed numbers of replicas and of log entries.
use Rattle.std.specs.Prelude.{ℕ, ◌≤◌}
use Rattle.ra_journal.specs.declared.journal.TheConstants.{MOST_ENTRIES}
use Rattle.ra_labels.specs.declared.limits.TheConstants.{MOST_REPLICAS}

abbrev pub AreReplicas : ℕ → Type 0
AreReplicas replicas = (1 ≤ replicas) × (replicas ≤ MOST_REPLICAS)

abbrev pub IsLimit : ℕ → Type 0
IsLimit limit = (1 ≤ limit) × (limit ≤ MOST_ENTRIES)
