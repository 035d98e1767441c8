-- The content of a row in a diagram.
use Rattle.std.specs.Prelude.{◌≡◌, ℕ, ◌+◌, ◌-◌, ◌==◌, nat_lt, nat_le, Bool, true, false, ◌&&◌, ◌||◌, List, [], ◌∷◌, ◌++◌, Contains, Option, Some, None, option_map, option_and_then, slice_get, codes, decimal, if◌then◌else◌, ⊤}
use Rattle.ra_labels.specs.declared.command.Command.{Command}
use Rattle.ra_labels.specs.declared.command.Command.TheVariants.{Operate, Deliver, Join, Verdict}
use Rattle.ra_labels.specs.declared.reply.Reply.{Reply}
use Rattle.ra_labels.specs.declared.reply.Reply.TheVariants.{Ok, Got, Joined}
use Rattle.ra_history_writer.specs.Spelling.{line_of}
use Rattle.ra_monitor.specs.Monitor.{MonitorEntry}
use Rattle.ra_explain.specs.declared.changes.Change.TheVariants.{Gets, Misses, ComesBefore}
use Rattle.ra_explain.specs.declared.remedies.Remedies.{Remedies}
use Rattle.ra_explain.specs.declared.violation.Violation.{Violation}
use Rattle.ra_explain.specs.Origin.{origin_of}
use Rattle.ra_explain_text.specs.Quotes.{line_words}
use Rattle.ra_explain_diagram.specs.declared.drawing.Row.{Row}
use Rattle.ra_explain_diagram.specs.declared.drawing.Row.TheVariants as row
use Rattle.ra_explain_diagram.specs.declared.event.Event.{Event}

-- the replica of a command, if it has one
abbrev pub replica_of : Command → Option ℕ
replica_of (Operate by op clock) = Some by
replica_of (Deliver to label) = Some to
replica_of (Join joined from) = Some joined
replica_of Verdict = None

-- the replica that issued label n, given the labels' positions
abbrev pub issuer_of : List MonitorEntry → List ℕ → ℕ → Option ℕ
issuer_of log places n = option_map (λ origin. origin.replica) (origin_of log places n)

-- the replica that the command's label or state comes from, if it is another one's
abbrev pub source_of : List MonitorEntry → List ℕ → Command → Option ℕ
source_of log places (Deliver to label) = issuer_of log places label
source_of log places (Join joined from) = Some from
source_of log places command = None

-- the bytes behind the first space (byte 32), given whether it came before
abbrev pub behind_space : Bool → List ℕ → List ℕ
behind_space is_behind [] = []
behind_space is_behind (byte ∷ bytes) =
    (if is_behind then byte ∷ [] else []) ++ behind_space (is_behind || (byte == 32)) bytes

-- what happened at the replica: a label with its number and the line of its command without the name, or a delivery
abbrev pub event_words : List (List ℕ) → Reply → Command → List ℕ
event_words names (Ok label) command = decimal label ++ (codes ": " ++ behind_space false (line_of names command))
event_words names (Got label) command = codes "got " ++ decimal label
event_words names (Joined replica) command = codes "joins"
event_words names reply command = []

-- Holds if the event is that of the log's entry at this position: its line, what happened, its replica, and where it
-- came from.
pub record IsOfLog (names : List (List ℕ)) (log : List MonitorEntry) (places : List ℕ) (place : ℕ) (dashed : Bool)
    (event : Event) : Type 0 where
  pub entry : MonitorEntry
  pub found : slice_get log place ≡ Some entry
  pub at : event.place ≡ place
  pub source : event.from ≡ source_of log places entry.command
  pub replica : event.to ≡ replica_of entry.command
  pub head : event.head.items ≡ line_words place
  pub words : event.words.items ≡ event_words names entry.reply entry.command
  pub is_dashed : event.is_dashed ≡ dashed
  pub is_asked : event.is_asked ≡ false

-- holds if the event is the violating label, at its own line
pub record IsViolating (names : List (List ℕ)) (v : Violation) (event : Event) : Type 0 where
  pub at : event.place ≡ v.place
  pub replica : event.to ≡ Some v.replica
  pub head : event.head.items ≡ line_words v.place
  pub words : event.words.items
      ≡ decimal v.fault.label ++ (codes "? " ++ behind_space false (line_of names v.reported))
  pub source : event.from ≡ None
  pub is_dashed : event.is_dashed ≡ false
  pub is_asked : event.is_asked ≡ true

-- holds if the event is the violating label as a remedy: at this position of the log
pub record IsEarlier (names : List (List ℕ)) (v : Violation) (place : ℕ) (event : Event) : Type 0 where
  pub at : event.place ≡ place
  pub replica : event.to ≡ Some v.replica
  pub head : event.head.items ≡ codes "or here"
  pub words : event.words.items
      ≡ decimal v.fault.label ++ (codes ": " ++ behind_space false (line_of names v.reported))
  pub source : event.from ≡ None
  pub is_dashed : event.is_dashed ≡ true
  pub is_asked : event.is_asked ≡ true

-- holds if the event is the delivery of label n as a remedy, just before the violating label
pub record IsDelivered (log : List MonitorEntry) (places : List ℕ) (v : Violation) (n : ℕ)
    (event : Event) : Type 0 where
  pub at : event.place ≡ v.place
  pub replica : event.to ≡ Some v.replica
  pub head : event.head.items ≡ codes "or with"
  pub words : event.words.items ≡ codes "got " ++ decimal n
  pub source : event.from ≡ issuer_of log places n
  pub is_dashed : event.is_dashed ≡ true
  pub is_asked : event.is_asked ≡ false

-- holds if the row of a diagram shows no event: it folds entries, or the log has none at its position
abbrev pub ShowsNone : List MonitorEntry → Row → Type 0
ShowsNone log (row.Fold count) = ⊤
ShowsNone log (row.Entry place) = slice_get log place ≡ None
ShowsNone log (row.Without place) = slice_get log place ≡ None
ShowsNone log row = ⊥

-- holds if the event is what the row of a diagram shows
abbrev pub IsDrawn : List (List ℕ) → List MonitorEntry → List ℕ → Violation → Row → Event → Type 0
IsDrawn names log places v (row.Entry place) event = IsOfLog names log places place false event
IsDrawn names log places v (row.Without place) event = IsOfLog names log places place true event
IsDrawn names log places v row.Asked event = IsViolating names v event
IsDrawn names log places v (row.Before place) event = IsEarlier names v place event
IsDrawn names log places v (row.With label) event = IsDelivered log places v label event
IsDrawn names log places v (row.Fold count) event = ⊥

-- holds if the row is for no change, or for one of the remedies
abbrev pub IsHelpful : Remedies → Row → Type 0
IsHelpful remedies (row.With label) = Contains remedies.found.items (Gets label)
IsHelpful remedies (row.Without place) = Contains remedies.found.items (Misses place)
IsHelpful remedies (row.Before place) = Contains remedies.found.items (ComesBefore place)
IsHelpful remedies row = ⊤

-- ---- the rows of a diagram as a way through the log

-- the position behind this one if the row is that of an entry at it, before the violating label
abbrev pub behind_entry : (asked at place : ℕ) → Option ℕ
behind_entry asked at place = if (place == at) && nat_lt at asked then Some (at + 1) else None

-- The position to which the row leads from this one, given that of the violating label; none if the row may not stand
-- there. A remedy stands before the entry at its position.
abbrev pub led_by : ℕ → ℕ → Row → Option ℕ
led_by asked at (row.Fold count) = if nat_le (at + count) asked then Some (at + count) else None
led_by asked at (row.Entry place) = behind_entry asked at place
led_by asked at (row.Without place) = behind_entry asked at place
led_by asked at (row.With label) = if at == asked then Some at else None
led_by asked at (row.Before place) = if (place == at) && nat_le at asked then Some at else None
led_by asked at row.Asked = if at == asked then Some (at + 1) else None

-- the position to which the rows lead from this one, each from that of the row before it
abbrev pub led_from : ℕ → ℕ → List Row → Option ℕ
led_from asked at [] = Some at
led_from asked at (row ∷ rows) = option_and_then (λ next. led_from asked next rows) (led_by asked at row)

-- holds if the rows lead from the first entry of the log to this position, without a gap
abbrev pub LeadTo : ℕ → ℕ → List Row → Type 0
LeadTo asked at rows = led_from asked 0 rows ≡ Some at

-- the row of the entries between these positions, if there are any
abbrev pub fold_between : ℕ → ℕ → List Row
fold_between from to = if nat_lt from to then row.Fold (to - from) ∷ [] else []
