-- What a report states about the log of a closed desk.
use Rattle.std.specs.Prelude.{◌≡◌, ℕ, Bool, true, false, List, [], ◌∷◌, ◌++◌, length, count_by}
use Rattle.ra_journal.specs.Log.{entry}
use Rattle.ra_labels.specs.declared.command.Command.TheVariants.{Verdict}
use Rattle.ra_labels.specs.declared.kind.Kind.{Kind}
use Rattle.ra_labels.specs.declared.reply.Reply.{Reply}
use Rattle.ra_labels.specs.declared.reply.Reply.TheVariants.{Got}
use Rattle.ra_labels.specs.Records.{label_count}
use Rattle.ra_monitor.specs.declared.setup.Setup.{Setup}
use Rattle.ra_monitor.specs.Monitor.{MonitorEntry, records_of, refused_count, IsLegalLog}
use Rattle.ra_bench.specs.declared.report.BenchReport.{BenchReport}

abbrev pub is_got : Reply → Bool
is_got (Got label) = true
is_got _ = false

-- the number of accepted deliveries
abbrev pub deliveries_in : List MonitorEntry → ℕ
deliveries_in log = count_by (λ e. is_got e.reply) log

-- holds if the last call requested the verdict, and received this reply
abbrev pub EndsInVerdict : List MonitorEntry → Reply → Type 0
EndsInVerdict log reply =
    (before : List MonitorEntry) × ((pass ticket : ℕ) × (log ≡ before ++ entry pass ticket Verdict reply ∷ []))

-- holds if the report is that of this log, in which no command is rejected
pub record IsReportOf (setup : Setup) (log : List MonitorEntry) (report : BenchReport) : Type 0 where
  pub labels : report.labels ≡ label_count (records_of setup log)
  pub deliveries : report.deliveries ≡ deliveries_in log
  pub calls : report.calls ≡ length log
  pub none_refused : refused_count log ≡ 0
  pub verdict : EndsInVerdict log report.verdict

-- holds if the report is that of a legal log of a monitor of this kind with this number of replicas
pub record IsReportOfRun (kind : Kind) (replicas : ℕ) (report : BenchReport) : Type 0 where
  pub setup : Setup
  pub log : List MonitorEntry
  pub kind_is : setup.kind ≡ kind
  pub replicas_are : setup.replicas ≡ replicas
  pub legal : IsLegalLog setup log
  pub report_of : IsReportOf setup log report
