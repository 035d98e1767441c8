-- The program that runs a bench: what it writes, and how it ends.
use Rattle.std.specs.Prelude.{◌≡◌, ℕ, List, Option, Result, Ok, Err, codes}
use Rattle.ra_labels.specs.declared.kind.Kind.{Kind}
use Rattle.ra_bench.specs.declared.report.BenchReport.{BenchReport}
use Rattle.ra_bench.specs.declared.fault.BenchFault.{BenchFault}
use Rattle.ra_cli_common.specs.declared.ending.Ending.{Ending}
use Rattle.ra_cli_common.specs.Endings.{EndsTelling, EndsWithLine}
use Rattle.ra_monitor_cli.specs.Bench.{bench_line, status_of_verdict, status_of_fault}

-- Holds if a bench with this result ends so: its line is written, or nothing is written and its fault is reported.
abbrev pub EndsBench : Kind → (replicas rounds : ℕ) → Result BenchReport BenchFault → Ending →
    (old new err_old err_new : Option (List ℕ)) → Type 0
EndsBench kind replicas rounds (Ok report) ending old new err_old err_new =
    EndsWithLine (bench_line kind replicas rounds report) (status_of_verdict report.verdict) ending
    old new err_old err_new
EndsBench kind replicas rounds (Err fault) ending old new err_old err_new =
    (new ≡ old) × EndsTelling (status_of_fault fault) ending err_old err_new (codes "bench fault")

-- holds if the program runs a bench, and ends as the result of the bench requires
abbrev pub RunsBench : (gives : Result BenchReport BenchFault → Type 0) → Kind → (replicas rounds : ℕ) → Ending →
    (old new err_old err_new : Option (List ℕ)) → Type 0
RunsBench gives kind replicas rounds ending old new err_old err_new =
    (answer : Result BenchReport BenchFault) × gives answer
    × EndsBench kind replicas rounds answer ending old new err_old err_new
