-- A whole run: what was read, and what was written.
use Rattle.std.specs.Prelude.{◌≡◌, ℕ, ◌+◌, ◌<◌, ◌≤◌, true, List, [], ◌++◌, length, Option, Some, None, Ok, ⊤}
use Rattle.std.specs.Io.KnownBytes.{Appends}
use Rattle.ra_monitor.specs.declared.report.Report.{Report}
use Rattle.ra_history_text.specs.declared.fault.CheckFault.{CheckFault}
use Rattle.ra_history_text.specs.declared.fault.CheckFault.TheVariants as fault
use Rattle.ra_history_text.specs.Output.{output_of, replies_of, Reports}
use Rattle.ra_history_text.specs.Text.{Progress, Ending, Regular, Syntax, Truncated, LineTooLong, Full, text_start, taken, ending_of, said_by, does_not_stop}

-- holds if the text has its regular end, its output was written, and this is its report
pub record WritesAnswer (text : List ℕ) (old new : Option (List ℕ)) (report : Report) : Type 0 where
  pub ends : ending_of text ≡ Regular
  pub written : Appends old new (output_of text)
  pub reported : Reports (said_by text) report

-- holds if the text has this ending, and its output was written
pub record WritesUpTo (text : List ℕ) (old new : Option (List ℕ)) (ending : Ending) : Type 0 where
  pub ends : ending_of text ≡ ending
  pub written : Appends old new (output_of text)

-- holds if no line of these bytes stops the text, and the replies to the whole lines were written
pub record WritesReplies (read : List ℕ) (old new : Option (List ℕ)) : Type 0 where
  pub going_on : does_not_stop read ≡ true
  pub written : Appends old new (replies_of (said_by read))

-- holds if a part of the output for the text was written, and not all of it
pub record WritesPart (text : List ℕ) (old new : Option (List ℕ)) : Type 0 where
  pub part : List ℕ
  pub more : List ℕ
  pub parts : output_of text ≡ part ++ more
  pub short : 0 < length more
  pub written : Appends old new part

-- holds if this prefix of the text was read, and the rest is left
abbrev pub IsReadUpTo : List ℕ → List ℕ → Option (List ℕ) → Type 0
IsReadUpTo text read None = ⊥
IsReadUpTo text read (Some left) = text ≡ read ++ left

-- the condition for each fault with which a check stops while the reader has these bytes left
abbrev pub StopsCheck : List ℕ → Option (List ℕ) → Option (List ℕ) → Option (List ℕ) → CheckFault → Type 0
StopsCheck text left old new (fault.Syntax line) = WritesUpTo text old new (Syntax line)
StopsCheck text left old new (fault.Truncated line) = WritesUpTo text old new (Truncated line)
StopsCheck text left old new (fault.LineTooLong line) = WritesUpTo text old new (LineTooLong line)
StopsCheck text left old new (fault.Full line) = WritesUpTo text old new (Full line)
StopsCheck text left old new fault.Read = (read : List ℕ) × IsReadUpTo text read left × WritesReplies read old new
StopsCheck text left old new fault.Endless = (read : List ℕ) × IsReadUpTo text read left × WritesReplies read old new
StopsCheck text left old new fault.NoMemory =
    (front : List ℕ) × (behind : List ℕ) × (text ≡ front ++ behind) × WritesReplies front old new
StopsCheck text left old new fault.Write = WritesPart text old new

-- holds if a reader whose bytes are known has returned at least this many
abbrev pub HasGiven : Option (List ℕ) → Option (List ℕ) → ℕ → Type 0
HasGiven None new count = ⊤
HasGiven (Some all) None count = ⊥
HasGiven (Some all) (Some rest) count = count + length rest ≤ length all

-- ---- before a read

-- holds if the bytes read so far led to this progress, where the reader's bytes are known
abbrev pub HasRead : Option (List ℕ) → Option (List ℕ) → Progress → Type 0
HasRead None new progress = ⊤
HasRead (Some all) None progress = ⊥
HasRead (Some all) (Some rest) progress =
    (read : List ℕ) × (all ≡ read ++ rest) × (taken text_start read ≡ Ok progress)

-- holds if the bytes read so far led to this progress, and the reply lines so far are written
pub record IsRunning (reader_old reader_new writer_old writer_new : Option (List ℕ)) (progress : Progress)
    (out : List ℕ) : Type 0 where
  pub read : HasRead reader_old reader_new progress
  pub written : Appends writer_old writer_new (replies_of progress.said)
  pub nothing : out ≡ []
