-- The output line of a bench, and its exit status.
use Rattle.std.specs.Prelude.{ℕ, List, [], ◌∷◌, ◌++◌, codes, decimal}
use Rattle.ra_labels.specs.declared.kind.Kind.{Kind}
use Rattle.ra_labels.specs.declared.reply.Reply.{Reply}
use Rattle.ra_labels.specs.declared.reply.Reply.TheVariants as reply
use Rattle.ra_history_lines.specs.Grammar.{kind_word}
use Rattle.ra_bench.specs.declared.report.BenchReport.{BenchReport}
use Rattle.ra_bench.specs.declared.fault.BenchFault.{BenchFault}
use Rattle.ra_bench.specs.declared.fault.BenchFault.TheVariants.{Answered}

-- the last word of the line
abbrev pub verdict_word : Reply → List ℕ
verdict_word (reply.Yes labels) = codes "yes"
verdict_word other = codes "no"

-- the requested parameters; below, the counts
abbrev pub asked_words : Kind → (replicas rounds : ℕ) → List ℕ
asked_words kind replicas rounds =
    codes "bench " ++ (kind_word kind ++ (codes " replicas " ++ (decimal replicas
    ++ (codes " rounds " ++ decimal rounds))))

abbrev pub counted_words : BenchReport → List ℕ
counted_words report =
    codes "labels " ++ (decimal report.labels ++ (codes " deliveries " ++ (decimal report.deliveries
    ++ (codes " calls " ++ decimal report.calls))))

-- the line of a bench, without a line feed
abbrev pub bench_words : Kind → (replicas rounds : ℕ) → BenchReport → List ℕ
bench_words kind replicas rounds report =
    asked_words kind replicas rounds ++ (codes " " ++ (counted_words report
    ++ (codes " " ++ verdict_word report.verdict)))

-- the line of a bench, with its line feed
abbrev pub bench_line : Kind → (replicas rounds : ℕ) → BenchReport → List ℕ
bench_line kind replicas rounds report = bench_words kind replicas rounds report ++ 10 ∷ []

-- ---- the exit status

-- 0 for the verdict `yes`, and 1 otherwise
abbrev pub status_of_verdict : Reply → ℕ
status_of_verdict (reply.Yes labels) = 0
status_of_verdict other = 1

-- 1 if a call was answered `no`, and 2 for every other answer; below, the status of each fault
abbrev pub status_of_answer : Reply → ℕ
status_of_answer (reply.No label cause) = 1
status_of_answer other = 2

abbrev pub status_of_fault : BenchFault → ℕ
status_of_fault (Answered replica answer) = status_of_answer answer
status_of_fault other = 2
