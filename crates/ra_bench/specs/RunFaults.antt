-- The faults of a bench that report those of its run.
use Rattle.ra_bench.specs.declared.fault.BenchFault.{BenchFault}
use Rattle.ra_bench.specs.declared.fault.BenchFault.TheVariants as told
use Rattle.ra_bench.specs.declared.fault.RunFault.{RunFault}
use Rattle.ra_bench.specs.declared.fault.RunFault.TheVariants.{Stalled, Answered, Lock, NoMemory, Thread}

-- the fault as the bench reports it
abbrev pub told_of : RunFault → BenchFault
told_of (Stalled replica) = told.Stalled replica
told_of (Answered replica unwanted) = told.Answered replica unwanted.reply
told_of (Lock replica) = told.Lock replica
told_of NoMemory = told.NoMemory
told_of Thread = told.Thread
