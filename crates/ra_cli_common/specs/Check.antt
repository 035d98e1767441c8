-- A program that checks a text: what it reads and writes, and how it ends.
use Rattle.std.specs.Prelude.{◌≡◌, ℕ, Bool, true, false, List, Option, IfSome, Result, Ok, Err}
use Rattle.std.specs.Io.KnownBytes.{IsAtEnd}
use Rattle.ra_history_text.specs.declared.fault.CheckFault.{CheckFault}
use Rattle.ra_history_text.specs.declared.fault.CheckFault.TheVariants.{Endless}
use Rattle.ra_history_text.specs.declared.outcome.Outcome.{Outcome}
use Rattle.ra_history_text.specs.declared.limits.TheConstants.{MOST_READS}
use Rattle.ra_history_text.specs.Faults.{check_fault_words}
use Rattle.ra_history_text.specs.Output.{status_of}
use Rattle.ra_history_text.specs.Run.{WritesAnswer, StopsCheck, HasGiven}
use Rattle.ra_cli_report.specs.Report.{report_line}
use Rattle.ra_cli_common.specs.declared.ending.Ending.{Ending}
use Rattle.ra_cli_common.specs.Endings.{ends_silently, EndsWithLine, StopsProgram}

-- the exit status of a check with this outcome
abbrev pub status_of_outcome : Outcome → ℕ
status_of_outcome outcome = status_of (Ok outcome)

-- holds if the answer is written, and after it the report's line if it is requested
abbrev pub EndsAnswered : Bool → Outcome → Ending → (answered new err_old err_new : Option (List ℕ)) → Type 0
EndsAnswered false outcome ending answered new err_old err_new =
    (ending ≡ ends_silently (status_of_outcome outcome)) × (new ≡ answered)
EndsAnswered true outcome ending answered new err_old err_new =
    EndsWithLine (report_line outcome.report) (status_of_outcome outcome) ending answered new err_old err_new

-- Holds if a check with this result ends so: all was read, and the output stated for it was written; or the check
-- stopped, and its fault is reported.
abbrev pub EndsCheck : Bool → Result Outcome CheckFault → Ending →
    (text left old new err_old err_new : Option (List ℕ)) → Type 0
EndsCheck report (Ok outcome) ending text left old new err_old err_new =
    IsAtEnd left × ((answered : Option (List ℕ))
    × IfSome text (λ bytes. WritesAnswer bytes old answered outcome.report)
    × EndsAnswered report outcome ending answered new err_old err_new)
EndsCheck report (Err fault) ending text left old new err_old err_new =
    StopsProgram ending err_old err_new (check_fault_words fault)
    × IfSome text (λ bytes. StopsCheck bytes left old new fault)
    × (fault ≡ Endless → HasGiven text left MOST_READS)

-- holds if the program checks a text, and ends as the result of the check requires
abbrev pub ChecksText : Bool → Ending → (text left old new err_old err_new : Option (List ℕ)) → Type 0
ChecksText report ending text left old new err_old err_new =
    (answer : Result Outcome CheckFault) × EndsCheck report answer ending text left old new err_old err_new
