-- A program that explains a text: what it reads and writes, and how it ends.
use Rattle.std.specs.Prelude.{◌≡◌, ◌⊎◌, ℕ, List, [], ◌++◌, Option, Some, None, IfSome, Result, Ok, Err, ⊤}
use Rattle.std.specs.Io.KnownBytes.{IsAtEnd, Appends}
use Rattle.ra_history_lines.specs.Replies.{end_line}
use Rattle.ra_monitor.specs.declared.report.Report.{Report}
use Rattle.ra_monitor.specs.declared.setup.Setup.{Setup}
use Rattle.ra_monitor.specs.Monitor.{Monitor, MonitorEntry}
use Rattle.ra_explain.specs.declared.explanation.Explanation.{Explanation}
use Rattle.ra_explain.specs.declared.explanation.Purpose.{Purpose}
use Rattle.ra_explain.specs.declared.explanation.Purpose.TheVariants.{Drawing, Object, Text}
use Rattle.ra_explain.specs.Explains.{Explains}
use Rattle.ra_explain_text.specs.Json.{object_of}
use Rattle.ra_explain_diagram.specs.Drawings.{PutsDrawing}
use Rattle.ra_explain_diagram.specs.Pages.{PutsDocument, PutsPage}
use Rattle.ra_history_text.specs.declared.fault.CheckFault.{CheckFault}
use Rattle.ra_history_text.specs.declared.fault.CheckFault.TheVariants.{Endless, NoMemory, Write}
use Rattle.ra_history_text.specs.declared.outcome.Outcome.{Outcome}
use Rattle.ra_history_text.specs.declared.limits.TheConstants.{MOST_READS}
use Rattle.ra_history_text.specs.Faults.{check_fault_words}
use Rattle.ra_history_text.specs.Output.{Reports}
use Rattle.ra_history_text.specs.Run.{StopsCheck, HasGiven}
use Rattle.ra_history_text.specs.Written.{StopsLine}
use Rattle.ra_history_text.specs.Sessions.{IsToldBy, names_said}
use Rattle.ra_history_text.specs.Text.{Regular, Said, ending_of, said_by}
use Rattle.ra_cli_common.specs.declared.ending.Ending.{Ending}
use Rattle.ra_cli_common.specs.Check.{status_of_outcome}
use Rattle.ra_cli_common.specs.Endings.{EndsWithLine, StopsProgram}
use Rattle.ra_explain_cli.specs.declared.asked.Form.{Form}
use Rattle.ra_explain_cli.specs.declared.asked.Form.TheVariants.{Page, Json, Svg, Html, Sequence}

-- the purpose of the explanation that a page shows; none for the sequence
abbrev pub purpose_for : Form → Option Purpose
purpose_for Page = Some Text
purpose_for Html = Some Text
purpose_for Json = Some Object
purpose_for Svg = Some Drawing
purpose_for Sequence = None

-- Holds if the explanation was appended in this form: the text with a picture behind it, the object, a drawing with the
-- check's end line as its title, or a document with that title and the text.
abbrev pub PutsExplanation : Form → Explanation → List (List ℕ) → List ℕ → List ℕ → Type 0
PutsExplanation Page e names old new = PutsPage names e old new
PutsExplanation Json e names old new = new ≡ old ++ object_of names e
PutsExplanation Html e names old new = PutsDocument names e old new
PutsExplanation Svg e names old new = PutsDrawing e.report old new
PutsExplanation Sequence e names old new = ⊤

-- holds if the body of a page shows an explanation of this log for this purpose; without a purpose it is a sequence,
-- which is not described
abbrev pub IsBodyFor : Option Purpose → Form → Setup → List MonitorEntry → List (List ℕ) → List ℕ → Type 0
IsBodyFor None form setup log names body = ⊤
IsBodyFor (Some purpose) form setup log names body =
    (e : Explanation) × Explains setup log purpose e × PutsExplanation form e names [] body

abbrev pub IsBody : Form → Setup → List MonitorEntry → List (List ℕ) → List ℕ → Type 0
IsBody form setup log names body = IsBodyFor (purpose_for form) form setup log names body

-- the end line of a check, before the body of a plain page
abbrev pub head_for : Form → Report → List ℕ
head_for Page report = end_line report.labels report.fault
head_for form report = []

-- Holds if the page shows the explanation of these lines; a plain page begins with the end line of a check with this
-- report.
abbrev pub IsPage : Form → Said → Report → List ℕ → Type 0
IsPage form said report page = (body : List ℕ) × (monitor : Monitor) × IsToldBy said monitor
    × IsBody form monitor.setup monitor.log (names_said said) body × (page ≡ head_for form report ++ body)

-- Holds if the allocation of the page failed, nothing is written, and that is reported; or the page is written, and the
-- status is that of the check; or a part of it is written, and that is reported.
abbrev pub EndsExplained : Form → Said → Outcome → Ending → (old new err_old err_new : Option (List ℕ)) → Type 0
EndsExplained form said outcome ending old new err_old err_new =
    ((new ≡ old) × StopsProgram ending err_old err_new (check_fault_words NoMemory))
    ⊎ ((page : List ℕ) × IsPage form said outcome.report page
    × EndsWithLine page (status_of_outcome outcome) ending old new err_old err_new)

-- Holds if the fault is reported and text about it is written; or a part of this is written, and that is reported.
abbrev pub EndsStopped : CheckFault → Ending → (old new err_old err_new : Option (List ℕ)) → Type 0
EndsStopped fault ending old new err_old err_new = (words : List ℕ)
    × ((Appends old new words × StopsProgram ending err_old err_new (check_fault_words fault))
    ⊎ (StopsLine words old new Write × StopsProgram ending err_old err_new (check_fault_words Write)))

-- holds if the text has its regular end, these are its lines, and this is the report of their content
pub record IsAnswered (text : List ℕ) (said : Said) (outcome : Outcome) : Type 0 where
  pub ends : ending_of text ≡ Regular
  pub lines : said ≡ said_by text
  pub reported : Reports (said_by text) outcome.report

-- holds if a check of the text can stop with this fault while the reader has these bytes left
abbrev pub Stops : List ℕ → Option (List ℕ) → CheckFault → Type 0
Stops text left fault = (old : Option (List ℕ)) × (new : Option (List ℕ)) × StopsCheck text left old new fault

-- Holds if a check with this result ends so: all was read and its outcome is explained; or it stopped, and its fault is
-- reported.
abbrev pub EndsExplanation : Form → Result Outcome CheckFault → Ending →
    (text left old new err_old err_new : Option (List ℕ)) → Type 0
EndsExplanation form (Ok outcome) ending text left old new err_old err_new = (said : Said)
    × IsAtEnd left × IfSome text (λ bytes. IsAnswered bytes said outcome)
    × EndsExplained form said outcome ending old new err_old err_new
EndsExplanation form (Err fault) ending text left old new err_old err_new =
    EndsStopped fault ending old new err_old err_new × IfSome text (λ bytes. Stops bytes left fault)
    × (fault ≡ Endless → HasGiven text left MOST_READS)

-- holds if the program explains a text, and ends as the result of its check requires
abbrev pub ExplainsText : Form → Ending → (text left old new err_old err_new : Option (List ℕ)) → Type 0
ExplainsText form ending text left old new err_old err_new =
    (answer : Result Outcome CheckFault) × EndsExplanation form answer ending text left old new err_old err_new
