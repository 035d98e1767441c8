-- The explanation as text. All of it follows from the explanation, but for the notes on the reasons of a violation: the
-- head of a note is one of those of `Head`, and no definition says which facts follow it.
use Rattle.std.specs.Prelude.{◌≡◌, ℕ, ◌-◌, ◌==◌, nat_lt, min, Bool, true, false, ◌||◌, List, [], ◌∷◌, ◌++◌, length, take, slice_get, Option, Some, None, codes, decimal, if◌then◌else◌}
use Rattle.std.specs.List.{list_any}
use Rattle.std.specs.Option.{option_map_or}
use Rattle.ra_labels.specs.declared.command.Command.{Command}
use Rattle.ra_labels.specs.declared.command.Command.TheVariants.{Operate, Deliver}
use Rattle.ra_labels.specs.declared.kind.Kind.{Kind}
use Rattle.ra_labels.specs.declared.kind.Kind.TheVariants as kinds
use Rattle.ra_labels.specs.declared.operation.Op.{Op}
use Rattle.ra_labels.specs.declared.operation.Op.TheVariants as op
use Rattle.ra_labels.specs.declared.list_operation.ListOp.TheVariants as list
use Rattle.ra_labels.specs.declared.reply.Cause.{Cause}
use Rattle.ra_labels.specs.declared.reply.Cause.TheVariants as cause
use Rattle.ra_history_writer.specs.Spelling.{name_of}
use Rattle.ra_explain.specs.declared.changes.Change.{Change}
use Rattle.ra_explain.specs.declared.changes.Change.TheVariants.{Gets, Misses, ComesBefore}
use Rattle.ra_explain.specs.declared.explanation.Explanation.{Explanation}
use Rattle.ra_explain.specs.declared.remedies.Remedies.{Remedies}
use Rattle.ra_explain.specs.declared.violation.Violation.{Violation}
use Rattle.ra_explain_text.specs.Lacks.{undelivered_rows}
use Rattle.ra_explain_text.specs.Opinions.{opinion_row}
use Rattle.ra_explain_text.specs.Rejections.{rejected_rows}
use Rattle.ra_explain_text.specs.Rows.{cut_line, row, notes_bytes}
use Rattle.ra_explain_text.specs.Quotes.{act_words, line_words, with_label}
use Rattle.ra_explain_text.specs.declared.notes.Note.{Note}

-- ---- a violation

-- what is wrong with the order of such a violation
abbrev pub order_words : Kind → List ℕ
order_words kinds.List = codes "no single order explains it with the lines before."
order_words other = codes "its clock is not greater than each clock that it sees."

-- what is wrong with the result of such a violation
abbrev pub query_words : Kind → List ℕ
query_words kinds.Any = codes "another read that sees the same updates returned another value."
query_words other = codes "its result does not follow from the updates that it sees."

abbrev pub reason_words : Kind → Cause → List ℕ
reason_words kind cause.Query = query_words kind
reason_words kind cause.Order = order_words kind
reason_words kind cause.Update = codes "it cannot be applied at its position in the order."

-- the line, the label, and the reason of the violation
abbrev pub sentence_line : Kind → Violation → List ℕ
sentence_line kind v = line_words v.place ++ ((codes " is a violation (label " ++ decimal v.fault.label)
    ++ (codes "): " ++ reason_words kind v.fault.cause))

abbrev pub sentence : Kind → Violation → List ℕ
sentence kind v = codes "\n" ++ (cut_line (sentence_line kind v) ++ codes "\n\n")

abbrev pub reported_row : List (List ℕ) → Violation → List ℕ
reported_row names v = row (codes "reported") (act_words names v.reported)

-- what is expected of an operation for which no result is possible
abbrev pub no_result_of : Op → List ℕ
no_result_of (op.List (list.Insert insertion)) = codes "neighbours that its replica has received, or 0 for none"
no_result_of (op.List (list.Remove x)) = codes "an element that its replica has received"
no_result_of (op.AnyRead value) = codes "the value of the earlier read that sees the same updates"
no_result_of (op.MvRead values) = codes "the values of the writes that it sees and that no other one of these saw"
no_result_of other = codes "no result: the updates that it sees cannot be applied by themselves"

abbrev pub no_result : Command → List ℕ
no_result (Operate by operation clock) = no_result_of operation
no_result other = codes "no result: the updates that it sees cannot be applied by themselves"

-- the expected result of a query, or what is expected where none is possible
abbrev pub expected_words : List (List ℕ) → Command → Option Command → List ℕ
expected_words names reported (Some command) = act_words names command
expected_words names reported None = no_result reported

abbrev pub expected_for : List (List ℕ) → Cause → Command → Option Command → List ℕ
expected_for names cause.Query reported expected = row (codes "expected") (expected_words names reported expected)
expected_for names other reported expected = []

abbrev pub expected_row : List (List ℕ) → Violation → List ℕ
expected_row names v = expected_for names v.fault.cause v.reported v.expected

-- ---- its remedies

-- the text with the label, whose delivery to the replica would help
abbrev pub delivered_words : List (List ℕ) → Explanation → ℕ → List ℕ → ℕ → List ℕ
delivered_words names e replica text label =
    with_label names e.log.items e.places text label (codes " had been delivered to " ++ name_of names replica)

abbrev pub missing_words : List (List ℕ) → ℕ → ℕ → List ℕ
missing_words names replica at =
    codes " had not been delivered to " ++ (name_of names replica ++ (codes " in " ++ line_words at))

-- the text with the label, without whose delivery at this position the violating label would hold
abbrev pub missed_label : List (List ℕ) → Explanation → ℕ → ℕ → List ℕ → ℕ → List ℕ
missed_label names e replica at text label =
    with_label names e.log.items e.places text label (missing_words names replica at)

abbrev pub missed_command : List (List ℕ) → Explanation → ℕ → ℕ → List ℕ → Command → List ℕ
missed_command names e replica at text (Deliver to label) = missed_label names e replica at text label
missed_command names e replica at text command = text

abbrev pub missed_words : List (List ℕ) → Explanation → ℕ → ℕ → List ℕ → List ℕ
missed_words names e replica at text =
    option_map_or (λ entry. missed_command names e replica at text entry.command) (slice_get e.log.items at) text

abbrev pub before_words : ℕ → ℕ → List ℕ
before_words place at = line_words place ++ (codes " had come before " ++ line_words at)

-- the text with a change with which the label would hold
abbrev pub with_change : List (List ℕ) → Explanation → Violation → List ℕ → Change → List ℕ
with_change names e v text (Gets label) = delivered_words names e v.replica text label
with_change names e v text (Misses at) = missed_words names e v.replica at text
with_change names e v text (ComesBefore at) = text ++ before_words v.place at

abbrev pub change_words : List (List ℕ) → Explanation → Violation → Change → List ℕ
change_words names e v change = with_change names e v [] change

abbrev pub more_remedies : List (List ℕ) → Explanation → Violation → List Change → List ℕ
more_remedies names e v [] = []
more_remedies names e v (change ∷ changes) =
    row (codes "or") (change_words names e v change) ++ more_remedies names e v changes

-- each of these changes on a line
abbrev pub listed_remedies : List (List ℕ) → Explanation → Violation → List Change → List ℕ
listed_remedies names e v [] = []
listed_remedies names e v (change ∷ changes) =
    row (codes "explained if") (change_words names e v change) ++ more_remedies names e v changes

-- the remedies that are shown: the first five
abbrev pub shown : Remedies → List Change
shown remedies = take 5 remedies.found.items

abbrev pub with_word : ℕ → List ℕ
with_word count = if count == 1 then codes "with " else codes "with one of "

abbrev pub changes_words : ℕ → List ℕ
changes_words count = decimal count ++ (if count == 1 then codes " other change" else codes " other changes")

abbrev pub others_words : ℕ → List ℕ
others_words count = with_word count ++ (changes_words count ++ codes " of this kind")

-- the number of the remedies that are not shown
abbrev pub others_row : ℕ → List ℕ
others_row count = if count == 0 then [] else row (codes "or") (others_words (min count 4294967295))

abbrev pub is_missing : Change → Bool
is_missing (Misses at) = true
is_missing change = false

abbrev pub depending_row : List Change → List ℕ
depending_row changes = if list_any is_missing changes
    then row [] (codes "updates that depend on a label are then not delivered either") else []

abbrev pub several_tried : ℕ → List ℕ
several_tried tried = (codes "none of the " ++ decimal tried) ++ codes " changes that were tried explains it"

abbrev pub tried_words : ℕ → List ℕ
tried_words tried =
    if tried == 1 then codes "the one change that was tried does not explain it" else several_tried tried

-- the number of the changes that were tried, if none was found
abbrev pub tried_row : ℕ → ℕ → List ℕ
tried_row found tried = if (nat_lt 0 found) || (tried == 0) then []
    else row (codes "tried") (tried_words (min tried 4294967295))

abbrev pub rest_rows : Remedies → List ℕ
rest_rows remedies = others_row (length remedies.found.items - 5)
    ++ (depending_row (shown remedies) ++ tried_row (length remedies.found.items) (length remedies.tried.items))

abbrev pub remedy_rows : List (List ℕ) → Explanation → Violation → List ℕ
remedy_rows names e v = listed_remedies names e v (shown e.remedies) ++ rest_rows e.remedies

-- ---- a pass

abbrev pub holding_words : ℕ → List ℕ
holding_words labels = (decimal labels ++ (if labels == 1 then codes " label holds" else codes " labels hold"))
    ++ codes ": one order explains all results."

abbrev pub pass_line : ℕ → List ℕ
pass_line labels =
    if labels == 0 then codes "no operation was accepted, so nothing was checked." else holding_words labels

abbrev pub pass_sentence : ℕ → List ℕ
pass_sentence labels = codes "\n" ++ (pass_line labels ++ codes "\n\n")

-- what all labels of a pass leave open
abbrev pub pass_text : List (List ℕ) → Explanation → List ℕ
pass_text names e = pass_sentence e.report.labels ++ (undelivered_rows names e ++ rejected_rows names e)

-- ---- the text

-- the text of a violation, with these notes before the remedies
abbrev pub violation_text : List (List ℕ) → Explanation → List Note → Violation → List ℕ
violation_text names e notes v = sentence e.setup.kind v ++ (reported_row names v
    ++ (expected_row names v ++ (opinion_row v.fault.label e.second_opinion ++ (notes_bytes notes
    ++ (remedy_rows names e v ++ rejected_rows names e)))))

-- the same of a violation or of a pass
abbrev pub words_for : List (List ℕ) → Explanation → List Note → Option Violation → List ℕ
words_for names e notes (Some v) = violation_text names e notes v
words_for names e notes None = pass_text names e

-- Holds if these bytes are the text of the explanation, whatever the notes of a violation say.
abbrev pub IsText : List (List ℕ) → Explanation → List ℕ → Type 0
IsText names e bytes = (notes : List Note) × (bytes ≡ words_for names e notes e.violation)
