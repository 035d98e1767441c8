-- The replies that honest replicas receive, and the faults of a run.
use Rattle.std.specs.Prelude.{◌≡◌, ℕ, Option, Some, None}
use Rattle.ra_labels.specs.declared.reply.Reply.{Reply}
use Rattle.ra_labels.specs.declared.reply.Reply.TheVariants.{Ok, Got}
use Rattle.ra_bench.specs.declared.fault.BenchFault.{BenchFault}
use Rattle.ra_bench.specs.declared.fault.BenchFault.TheVariants.{BadReplicas, BadRounds, Answered}

-- the label number of a reply that honest replicas receive
abbrev pub label_of : Reply → Option ℕ
label_of (Ok label) = Some label
label_of (Got label) = Some label
label_of _ = None

-- holds if the reply that a fault states is none that honest replicas receive
abbrev pub IsUnexpectedReply : BenchFault → Type 0
IsUnexpectedReply (Answered replica reply) = label_of reply ≡ None
IsUnexpectedReply _ = Unit {0}

-- holds if the fault is one of a run that began
abbrev pub IsOfRun : BenchFault → Type 0
IsOfRun BadReplicas = ⊥
IsOfRun BadRounds = ⊥
IsOfRun _ = Unit {0}
