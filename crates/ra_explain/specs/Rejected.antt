-- The first rejected entries of a log.
use Rattle.std.specs.Prelude.{ℕ, ◌+◌, nat_lt, ◌&&◌, List, [], ◌∷◌, ◌++◌, length, if◌then◌else◌}
use Rattle.ra_monitor.specs.Monitor.{MonitorEntry}
use Rattle.ra_monitor.specs.Replies.{is_refused}

-- the positions with that of this entry, if it is rejected and fewer than ten are there
abbrev pub with_rejected : List ℕ → ℕ → MonitorEntry → List ℕ
with_rejected places at entry =
    if is_refused entry.reply && nat_lt (length places) 10 then places ++ at ∷ [] else places

-- the positions after these entries, the first of which is at this position
abbrev pub rejected_from : ℕ → List ℕ → List MonitorEntry → List ℕ
rejected_from at places [] = places
rejected_from at places (entry ∷ log) = rejected_from (at + 1) (with_rejected places at entry) log

-- The positions of the first rejected entries of the log, at most ten.
abbrev pub first_rejected : List MonitorEntry → List ℕ
first_rejected log = rejected_from 0 [] log
