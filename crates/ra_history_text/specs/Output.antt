-- The output for a text, and the exit status.
use Rattle.std.specs.Prelude.{◌≡◌, ℕ, ◌==◌, List, [], ◌++◌, length, count_by, flat_map, is_some, Result, Ok, Err, if◌then◌else◌}
use Rattle.ra_labels.specs.declared.kind.Kind.{Kind}
use Rattle.ra_labels.specs.declared.command.Command.{Command}
use Rattle.ra_labels.specs.declared.reply.Reply.{Reply}
use Rattle.ra_labels.specs.Records.{label_count}
use Rattle.ra_labels.specs.Fault.{fault_of}
use Rattle.ra_labels.specs.Answer.{answers_to}
use Rattle.ra_monitor.specs.declared.report.Report.{Report}
use Rattle.ra_monitor.specs.Replies.{is_refused}
use Rattle.ra_history_lines.specs.Replies.{reply_line, end_line}
use Rattle.ra_history_text.specs.declared.fault.CheckFault.{CheckFault}
use Rattle.ra_history_text.specs.declared.outcome.Outcome.{Outcome}
use Rattle.ra_history_text.specs.Text.{Said, Nothing, OfKind, OfHistory, Ending, Regular, Syntax, Truncated, LineTooLong, Full, records_in, ending_of, said_by}

-- ---- the whole output

-- the answers to the commands of a history with these initial names
abbrev pub answers_in : Kind → List (List ℕ) → List Command → List Reply
answers_in kind first commands = answers_to kind (length first) [] commands

-- the reply lines for the content of lines
abbrev pub replies_of : Said → List ℕ
replies_of Nothing = []
replies_of (OfKind format kind) = []
replies_of (OfHistory format kind first joined commands) = flat_map reply_line (answers_in kind first commands)

-- the end line for the content of lines, if it is a history
abbrev pub last_line_of : Said → List ℕ
last_line_of Nothing = []
last_line_of (OfKind format kind) = []
last_line_of (OfHistory format kind first joined commands) =
    let records = records_in kind first commands in end_line (label_count records) (fault_of kind records)

-- the end line if the text has its regular end, otherwise empty
abbrev pub last_line_at : Ending → Said → List ℕ
last_line_at Regular said = last_line_of said
last_line_at (Syntax line) said = []
last_line_at (Truncated line) said = []
last_line_at (LineTooLong line) said = []
last_line_at (Full line) said = []

-- the output for a text: the reply lines and, if the text has its regular end, the end line
abbrev pub output_of : List ℕ → List ℕ
output_of text = replies_of (said_by text) ++ last_line_at (ending_of text) (said_by text)

-- holds if the report states the kind, the counts and the fault of the history of these commands
pub record IsReportOf (kind : Kind) (first : List (List ℕ)) (commands : List Command) (report : Report) : Type 0 where
  pub kind_is : report.kind ≡ kind
  pub calls : report.calls ≡ length commands
  pub labels : report.labels ≡ label_count (records_in kind first commands)
  pub refused : report.refused ≡ count_by is_refused (answers_in kind first commands)
  pub fault : report.fault ≡ fault_of kind (records_in kind first commands)

-- holds if the content of lines is a history, and this is its report
abbrev pub Reports : Said → Report → Type 0
Reports Nothing report = ⊥
Reports (OfKind format kind) report = ⊥
Reports (OfHistory format kind first joined commands) report = IsReportOf kind first commands report

-- ---- the exit status

abbrev pub status_of : Result Outcome CheckFault → ℕ
status_of (Err fault) = 2
status_of (Ok outcome) =
    if is_some outcome.report.fault then 1 else if outcome.report.refused == 0 then 0 else 3
