-- The faults of a check: how those of a text end it, and their messages.
use Rattle.std.specs.Prelude.{ℕ, List, ◌++◌, Option, Some, None, codes, decimal}
use Rattle.ra_history_lines.specs.declared.fault.LineFault.{LineFault}
use Rattle.ra_history_lines.specs.declared.fault.LineFault.TheVariants as line_fault
use Rattle.ra_history_text.specs.declared.fault.CheckFault.{CheckFault}
use Rattle.ra_history_text.specs.declared.fault.CheckFault.TheVariants as fault
use Rattle.ra_history_text.specs.Text.{Ending, Syntax, Truncated, LineTooLong, Full}

-- the ending of the text that the fault reports; none for a fault of the reader, the writer or an allocation
abbrev pub ending_told : CheckFault → Option Ending
ending_told fault.Read = None
ending_told fault.Write = None
ending_told (fault.Syntax line) = Some (Syntax line)
ending_told (fault.Truncated line) = Some (Truncated line)
ending_told (fault.LineTooLong line) = Some (LineTooLong line)
ending_told fault.NoMemory = None
ending_told fault.Endless = None
ending_told (fault.Full line) = Some (Full line)

-- the fault of a check for this fault at this line
abbrev pub fault_at_line : LineFault → ℕ → CheckFault
fault_at_line line_fault.Syntax line = fault.Syntax line
fault_at_line line_fault.NoMemory line = fault.NoMemory

-- ---- messages

-- the message about the line with this number
abbrev pub line_words : ℕ → List ℕ → List ℕ
line_words line what = codes "line " ++ (decimal line ++ what)

abbrev pub check_fault_words : CheckFault → List ℕ
check_fault_words fault.Read = codes "read fault"
check_fault_words fault.Write = codes "write fault"
check_fault_words (fault.Syntax line) = line_words line (codes ": syntax")
check_fault_words (fault.Truncated line) = line_words line (codes ": truncated")
check_fault_words (fault.LineTooLong line) = line_words line (codes ": too long")
check_fault_words fault.NoMemory = codes "no memory"
check_fault_words fault.Endless = codes "endless input"
check_fault_words (fault.Full line) = line_words line (codes ": full")
