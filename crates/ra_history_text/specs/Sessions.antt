-- The effect of one call of a session.
use Rattle.std.specs.Prelude.{◌≡◌, ◌⊎◌, ℕ, true, Option, None, Some, ◌+◌, ◌≤◌, List, [], ◌∷◌, ◌++◌, length, Ok, Err, MatchOption, ⊤}
use Rattle.ra_history_text.specs.declared.fault.CheckFault.{CheckFault}
use Rattle.ra_history_text.specs.declared.fault.CheckFault.TheVariants.{NoMemory}
use Rattle.ra_history_text.specs.declared.session.Stage.{Stage}
use Rattle.ra_history_text.specs.declared.session.Stage.TheVariants as stage
use Rattle.ra_monitor.specs.declared.report.Report.{Report}
use Rattle.ra_monitor.specs.Monitor.{Monitor, commands_of}
use Rattle.ra_history_text.specs.Faults.{ending_told}
use Rattle.ra_history_lines.specs.declared.format.Format.{Format}
use Rattle.ra_history_lines.specs.declared.limits.TheConstants.{LONGEST_LINE}
use Rattle.ra_history_lines.specs.Grammar.{fields_of}
use Rattle.ra_history_text.specs.Recording.{said_of}
use Rattle.ra_history_text.specs.Output.{replies_of, last_line_of, Reports}
use Rattle.ra_history_lines.specs.Reading.{command_read, may_have_list}
use Rattle.ra_history_text.specs.Text.{Said, Nothing, OfKind, OfHistory, Progress, Regular, stop_at, line_taken, taken, ending_at}

-- the content of the lines that led to a stage
abbrev pub said_at : Stage → Said
said_at stage.Nothing = Nothing
said_at (stage.OfKind format kind) = OfKind format kind
said_at (stage.OfHistory history) = said_of history

-- holds if the bytes grow by exactly the reply lines that the new lines add
pub record AddsReplies (old new : Said) (out_old out_new : List ℕ) : Type 0 where
  pub more : List ℕ
  pub replies : replies_of new ≡ replies_of old ++ more
  pub out : out_new ≡ out_old ++ more

-- ---- a line

-- holds if this line may need an allocation: it may list names, it spells a command, or it may have a list
abbrev pub TakesMemory : Said → List ℕ → Type 0
TakesMemory Nothing line = ⊥
TakesMemory (OfKind format kind) line = ⊤
TakesMemory (OfHistory format kind first joined commands) line =
    (command_read format kind (first ++ joined) (fields_of line) ≡ None → ⊥)
    ⊎ (may_have_list kind (fields_of line) ≡ true)

-- the condition for each fault with which a whole line is rejected
abbrev pub StopsLine : Said → List ℕ → CheckFault → Type 0
StopsLine said line fault =
    MatchOption (ending_told fault) ((fault ≡ NoMemory) × TakesMemory said line)
    (λ ending. line_taken said line ≡ Err (stop_at said ending))

-- ---- a part of a line, and a whole piece

-- the condition for each fault with which the next line cannot be extended by this part, which has no line feed
abbrev pub StopsExtending : Progress → List ℕ → CheckFault → Type 0
StopsExtending progress part fault =
    MatchOption (ending_told fault) ((fault ≡ NoMemory) × (length progress.partial + length part ≤ LONGEST_LINE))
    (λ ending. taken progress part ≡ Err (stop_at progress.said ending))

-- The condition for each fault with which the line that this last part completes is rejected. If it did not come in
-- parts, an allocation can fail only where `TakesMemory` holds.
abbrev pub StopsClosing : Progress → List ℕ → CheckFault → Type 0
StopsClosing progress last fault =
    MatchOption (ending_told fault) ((fault ≡ NoMemory) × (progress.partial ≡ [] → TakesMemory progress.said last))
    (λ ending. taken progress (last ++ 10 ∷ []) ≡ Err (stop_at progress.said ending))

-- holds if the piece stops with this fault, after the reply lines of the lines before were added
pub record StopsInside (old : Progress) (piece out_old out_new : List ℕ) (fault : CheckFault) : Type 0 where
  -- the content of the lines before
  pub said : Said
  -- a prefix of the piece that leads to the fault
  pub front : List ℕ
  pub behind : List ℕ
  pub parts : piece ≡ front ++ behind
  pub why : MatchOption (ending_told fault)
      ((fault ≡ NoMemory) × ((partial : List ℕ) × (taken old front ≡ Ok (record { said = said; partial = partial }))))
      (λ ending. taken old front ≡ Err (stop_at said ending))
  pub replied : AddsReplies old.said said out_old out_new

-- holds if a prefix of the piece is accepted and this rest of it is left
pub record IsFedUpTo (old new : Progress) (piece rest out_old out_new : List ℕ) : Type 0 where
  pub front : List ℕ
  pub parts : piece ≡ front ++ rest
  pub is_taken : taken old front ≡ Ok new
  pub replied : AddsReplies old.said new.said out_old out_new

-- ---- what is known of the history

abbrev pub SaysNoHistory : Said → Type 0
SaysNoHistory Nothing = ⊤
SaysNoHistory (OfKind format kind) = ⊤
SaysNoHistory (OfHistory format kind first joined commands) = ⊥

-- the format that the first line names, if there is one
abbrev pub format_said : Said → Option Format
format_said Nothing = None
format_said (OfKind format kind) = Some format
format_said (OfHistory format kind first joined commands) = Some format

-- holds if the lines give a history, and this monitor has its kind, its number of initial replicas and its commands
abbrev pub IsToldBy : Said → Monitor → Type 0
IsToldBy Nothing monitor = ⊥
IsToldBy (OfKind format kind) monitor = ⊥
IsToldBy (OfHistory format kind first joined commands) monitor = (monitor.setup.kind ≡ kind)
    × (monitor.setup.replicas ≡ length first) × (commands_of monitor.log ≡ commands)

-- the names of the current replicas
abbrev pub names_said : Said → List (List ℕ)
names_said Nothing = []
names_said (OfKind format kind) = []
names_said (OfHistory format kind first joined commands) = first ++ joined

-- ---- the end

-- holds if the text ends regularly here, its end line is appended to the bytes, and this is the report
pub record EndsText (progress : Progress) (out_old out_new : List ℕ) (report : Report) : Type 0 where
  pub regular : ending_at progress ≡ Regular
  pub out : out_new ≡ out_old ++ last_line_of progress.said
  pub reported : Reports progress.said report

-- the condition for each fault with which the text does not end here; only for the end line can an allocation fail
abbrev pub StopsEnding : Progress → CheckFault → Type 0
StopsEnding progress fault =
    MatchOption (ending_told fault) ((fault ≡ NoMemory) × (ending_at progress ≡ Regular))
    (λ ending. ending_at progress ≡ ending)
