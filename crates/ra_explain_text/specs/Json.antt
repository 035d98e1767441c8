-- The explanation as a JSON object. A command is spelled as the writer of histories spells it.
use Rattle.std.specs.Prelude.{ℕ, Bool, true, false, ◌&&◌, List, [], ◌∷◌, ◌++◌, length, Option, Some, None, is_none, codes, decimal}
use Rattle.std.specs.Option.{option_map_or}
use Rattle.ra_labels.specs.declared.command.Command.{Command}
use Rattle.ra_labels.specs.declared.edge.Edge.{Edge}
use Rattle.ra_history_lines.specs.Replies.{cause_word}
use Rattle.ra_history_writer.specs.Spelling.{line_of, name_of}
use Rattle.ra_explain.specs.declared.agreement.Disagreement.{Disagreement}
use Rattle.ra_explain.specs.declared.changes.Change.{Change}
use Rattle.ra_explain.specs.declared.changes.Change.TheVariants.{Gets, Misses, ComesBefore}
use Rattle.ra_explain.specs.declared.conflict.Conflict.{Conflict}
use Rattle.ra_explain.specs.declared.explanation.Explanation.{Explanation}
use Rattle.ra_explain.specs.declared.remedies.Remedies.{Remedies}
use Rattle.ra_explain.specs.declared.undelivered.Undelivered.{Undelivered}
use Rattle.ra_explain.specs.declared.violation.Violation.{Violation}
use Rattle.ra_explain_text.specs.Certificates.{certificate_text}
use Rattle.ra_explain_text.specs.Numbers.{label_line, line_number, size_word}
use Rattle.ra_explain_text.specs.Opinions.{opinion_text, list_text}
use Rattle.ra_explain_text.specs.Possible.{possible_text}

-- ---- a violation

-- the line of the expected command as a string, or null
abbrev pub expected_value : List (List ℕ) → Option Command → List ℕ
expected_value names (Some command) = 34 ∷ (line_of names command ++ 34 ∷ [])
expected_value names None = codes "null"

abbrev pub change_member : Change → List ℕ
change_member (Gets label) = codes "{\"gets\":" ++ decimal label
change_member (Misses at) = codes "{\"misses_line\":" ++ decimal (line_number at)
change_member (ComesBefore at) = codes "{\"comes_before_line\":" ++ decimal (line_number at)

-- one remedy
abbrev pub change_value : Change → List ℕ
change_value change = change_member change ++ codes "}"

-- each remedy with a comma (byte 44) before it
abbrev pub more_changes : List Change → List ℕ
more_changes [] = []
more_changes (change ∷ changes) = 44 ∷ (change_value change ++ more_changes changes)

abbrev pub changes_value : List Change → List ℕ
changes_value [] = []
changes_value (change ∷ changes) = change_value change ++ more_changes changes

abbrev pub fault_members : Violation → List ℕ
fault_members v = codes "{\"answer\":\"no\",\"label\":" ++ (decimal v.fault.label
    ++ (codes ",\"cause\":\"" ++ (cause_word v.fault.cause
    ++ (codes "\",\"line\":" ++ decimal (line_number v.place)))))

-- the replica, the reported command, and the expected one
abbrev pub command_members : List (List ℕ) → Violation → List ℕ
command_members names v = codes ",\"replica\":\"" ++ (name_of names v.replica
    ++ (codes "\",\"told\":\"" ++ (line_of names v.reported
    ++ (codes "\",\"right\":" ++ expected_value names v.expected))))

-- the remedies, and how many changes were tried
abbrev pub remedies_members : Remedies → List ℕ
remedies_members remedies = codes ",\"would_be_right\":[" ++ (changes_value remedies.found.items
    ++ (codes "],\"tried\":" ++ size_word (length remedies.tried.items)))

abbrev pub violation_members : List (List ℕ) → Violation → Remedies → List ℕ
violation_members names v remedies = fault_members v ++ (command_members names v ++ remedies_members remedies)

-- ---- a violation by the order of a list

-- an edge: its ends, and the label that requires it with its line
abbrev pub edge_value : List ℕ → Edge → List ℕ
edge_value places edge = (codes "{\"before\":" ++ decimal edge.before)
    ++ ((codes ",\"after\":" ++ decimal edge.after)
    ++ ((codes ",\"label\":" ++ decimal edge.label)
    ++ ((codes ",\"line\":" ++ decimal (label_line places edge.label)) ++ codes "}")))

-- each edge with a comma (byte 44) before it
abbrev pub more_edges : List ℕ → List Edge → List ℕ
more_edges places [] = []
more_edges places (edge ∷ edges) = 44 ∷ (edge_value places edge ++ more_edges places edges)

abbrev pub edges_value : List ℕ → List Edge → List ℕ
edges_value places [] = []
edges_value places (edge ∷ edges) = edge_value places edge ++ more_edges places edges

-- the command that would hold, if one was found
abbrev pub holds_member : List (List ℕ) → Option Command → List ℕ
holds_member names (Some command) = codes ",\"holds\":\"" ++ (line_of names command ++ codes "\"")
holds_member names None = []

-- whether two labels show two elements in different orders
abbrev pub pairs_member : Option Disagreement → List ℕ
pairs_member (Some pairs) = codes ",\"pairs\":\"differ\""
pairs_member None = codes ",\"pairs\":\"agree\""

abbrev pub conflict_members : List (List ℕ) → List ℕ → Conflict → List ℕ
conflict_members names places conflict = codes ",\"cycle\":[" ++ (edges_value places conflict.cycle.items
    ++ (codes "]" ++ (holds_member names conflict.holding ++ pairs_member conflict.pairs)))

-- the same if the violation is one by the order of a list
abbrev pub conflict_text : List (List ℕ) → List ℕ → Option Conflict → List ℕ
conflict_text names places (Some conflict) = conflict_members names places conflict
conflict_text names places None = []

-- ---- a pass

abbrev pub pass_members : ℕ → List ℕ
pass_members labels = codes "{\"answer\":\"yes\",\"labels\":" ++ decimal labels

-- ---- rejected lines, and what was not delivered

-- the numbers of the lines at these positions of the log, each with a comma before it
abbrev pub more_lines : List ℕ → List ℕ
more_lines [] = []
more_lines (place ∷ places) = 44 ∷ (decimal (line_number place) ++ more_lines places)

abbrev pub lines_value : List ℕ → List ℕ
lines_value [] = []
lines_value (place ∷ places) = decimal (line_number place) ++ more_lines places

abbrev pub opening : Bool → List ℕ
opening true = codes "\""
opening false = codes ",\""

-- a replica that lacks updates: their number, and the oldest of their labels
abbrev pub lack_member : List (List ℕ) → Bool → Undelivered → ℕ → List ℕ
lack_member names is_first lack oldest =
    opening is_first ++ (name_of names lack.replica ++ (codes "\":{\"updates\":" ++ (size_word lack.updates
    ++ ((codes ",\"oldest\":" ++ decimal oldest) ++ codes "}"))))

-- the same of a replica that may lack none
abbrev pub lack_text : List (List ℕ) → Bool → Undelivered → List ℕ
lack_text names is_first lack = option_map_or (lack_member names is_first lack) lack.oldest []

-- those of these replicas that lack updates, given whether none came before
abbrev pub lacks_members : List (List ℕ) → Bool → List Undelivered → List ℕ
lacks_members names is_first [] = []
lacks_members names is_first (lack ∷ lacks) =
    lack_text names is_first lack ++ lacks_members names (is_first && is_none lack.oldest) lacks

-- ---- the object

abbrev pub answer_members : List (List ℕ) → Explanation → Option Violation → List ℕ
answer_members names e (Some violation) =
    violation_members names violation e.remedies
    ++ (conflict_text names e.places e.conflict ++ (opinion_text e.second_opinion ++ (possible_text e.possible
    ++ (certificate_text e.second_opinion e.places e.certificate.items ++ list_text e.one_list))))
answer_members names e None = pass_members e.report.labels

-- the object of an explanation, with a line feed
abbrev pub object_of : List (List ℕ) → Explanation → List ℕ
object_of names e = answer_members names e e.violation
    ++ ((codes ",\"refused\":" ++ decimal e.report.refused)
    ++ (codes ",\"refused_lines\":[" ++ (lines_value e.rejected.items
    ++ (codes "],\"lacks\":{" ++ (lacks_members names true e.undelivered.items ++ codes "}}\n")))))
