-- The rejected lines of a history, each with its reason.
use Rattle.std.specs.Prelude.{ℕ, ◌-◌, ◌==◌, Bool, true, false, min, List, [], ◌∷◌, ◌++◌, length, drop, slice_get, Option, Some, None, is_none, option_map, codes, decimal, if◌then◌else◌}
use Rattle.std.specs.Option.{option_map_or, option_eq}
use Rattle.ra_labels.specs.declared.command.Command.{Command}
use Rattle.ra_labels.specs.declared.command.Command.TheVariants.{Operate, Deliver}
use Rattle.ra_labels.specs.declared.kind.Kind.{Kind}
use Rattle.ra_labels.specs.declared.kind.Kind.TheVariants as kind
use Rattle.ra_labels.specs.declared.operation.Op.{Op}
use Rattle.ra_labels.specs.declared.operation.Op.TheVariants as op
use Rattle.ra_labels.specs.declared.refusal.Refusal.{Refusal}
use Rattle.ra_labels.specs.declared.refusal.Refusal.TheVariants as refusal
use Rattle.ra_labels.specs.declared.reply.Reply.{Reply}
use Rattle.ra_labels.specs.declared.reply.Reply.TheVariants as reply
use Rattle.ra_history_lines.specs.Replies.{reply_line}
use Rattle.ra_explain.specs.declared.explanation.Explanation.{Explanation}
use Rattle.ra_explain.specs.declared.label_filter.LabelsWith.{LabelsWith}
use Rattle.ra_explain.specs.declared.label_filter.LabelsWith.TheVariants as brought
use Rattle.ra_explain.specs.Explanation.{delivery_of}
use Rattle.ra_explain.specs.LabelFilter.{labels_with}
use Rattle.ra_explain.specs.Origin.{origin_of}
use Rattle.ra_explain_text.specs.Quotes.{act_words, line_words, trimmed, with_label}
use Rattle.ra_explain_text.specs.Rows.{row}

-- ---- the line

-- The line and what it says. The name of an unknown replica is not kept, so a line with one is shown by its number.
abbrev pub rejected_line : List (List ℕ) → ℕ → Command → Refusal → List ℕ
rejected_line names place command refusal.UnknownReplica = line_words place
rejected_line names place command refusal.TooManyReplicas = line_words place
rejected_line names place command why = line_words place ++ (codes ": " ++ act_words names command)

-- the words of a rejection, which stand behind `refused ` in its reply
abbrev pub rejection_word : Refusal → List ℕ
rejection_word why = trimmed (drop 8 (reply_line (reply.Refused why)))

-- ---- the reason

-- `true` for an update of an LWW set
abbrev pub is_clocked_op : Op → Bool
is_clocked_op (op.LwwAdd x) = true
is_clocked_op (op.LwwRemove x) = true
is_clocked_op operation = false

abbrev pub is_clocked : Command → Bool
is_clocked (Operate by operation clock) = is_clocked_op operation
is_clocked command = false

-- `true` for an update of an OR-Set
abbrev pub is_tagged_op : Op → Bool
is_tagged_op (op.OrAdd x id) = true
is_tagged_op (op.OrRemove x ids) = true
is_tagged_op operation = false

abbrev pub is_tagged : Command → Bool
is_tagged (Operate by operation clock) = is_tagged_op operation
is_tagged command = false

abbrev pub operations_of : Kind → List ℕ
operations_of kind.Counter = codes "a counter's operations are inc, dec and read"
operations_of kind.Register = codes "a register's operations are write and read"
operations_of kind.LwwSet = codes "an LWW set's operations are add, remove and read"
operations_of kind.OrSet = codes "an OR-Set's operations are add, remove and read"
operations_of kind.Rga = codes "a list's operations are after, remove and read"
operations_of kind.List = codes "a list's operations are insert, remove, read and part"
operations_of kind.Any = codes "the operations of any type are update and read"
operations_of kind.MvRegister = codes "a multi-value register's operations are write and read"

-- why this kind does not have the operation of the command
abbrev pub wrong_kind : Kind → Command → List ℕ
wrong_kind kind.OrSet command = if is_clocked command
    then codes "an OR-Set's add and remove need an identifier, as add 4 #1" else operations_of kind.OrSet
wrong_kind kind.LwwSet command = if is_tagged command
    then codes "an LWW set's operations have a clock, as @1, and no identifier" else operations_of kind.LwwSet
wrong_kind other command = operations_of other

abbrev pub clock_missing : Command → List ℕ
clock_missing (Operate by operation (Some clock)) = codes "the clock is 0: clocks begin at 1"
clock_missing command = codes "a clock is missing, for example @1"

-- how the label came to be seen at the replica
abbrev pub why_delivered : Explanation → ℕ → ℕ → List ℕ
why_delivered e replica label =
    if option_eq (λ a b. a == b) (option_map (λ it. it.replica) (origin_of e.log.items e.places label)) (Some replica)
    then codes "the replica issued the label itself"
    else if is_none (delivery_of e.log.items replica label) then codes "the replica had the label when it joined"
    else codes "the label was delivered to the replica before"

abbrev pub why_seen : Explanation → Command → List ℕ
why_seen e (Deliver replica label) = why_delivered e replica label
why_seen e command = codes "the label was delivered to the replica before"

-- the stamp of the command, if it has one
abbrev pub stamp_of : Command → Option LabelsWith
stamp_of (Operate by operation (Some clock)) = Some (brought.Stamp (record { clock = clock; replica = by }))
stamp_of command = None

abbrev pub identifier_in : Op → Option LabelsWith
identifier_in (op.OrAdd x id) = Some (brought.Identifier id)
identifier_in operation = None

-- the identifier that the command gives, if it gives one
abbrev pub identifier_of : Command → Option LabelsWith
identifier_of (Operate by operation clock) = identifier_in operation
identifier_of command = None

-- the text with the first of these labels
abbrev pub with_first : List (List ℕ) → Explanation → List ℕ → List ℕ → List ℕ
with_first names e text [] = text ++ codes "another label"
with_first names e text (n ∷ more) = with_label names e.log.items e.places text n []

-- the text with the first label that has this unique key
abbrev pub with_owner : List (List ℕ) → Explanation → List ℕ → Option LabelsWith → List ℕ
with_owner names e text None = text ++ codes "another label"
with_owner names e text (Some key) = with_first names e text (labels_with e.log.items e.places key)

-- the text with the reason why the command was rejected
abbrev pub with_reason : List (List ℕ) → Explanation → List ℕ → Command → Refusal → List ℕ
with_reason names e text command refusal.UnknownReplica =
    text ++ codes "it names a replica that neither line 2 nor a join names"
with_reason names e text command refusal.WrongKind = text ++ wrong_kind e.setup.kind command
with_reason names e text command refusal.BadList = text ++ codes "the list is not strictly increasing"
with_reason names e text command refusal.StampMissing = text ++ clock_missing command
with_reason names e text command refusal.StampUnwanted = text ++ codes "this operation may not have a clock"
with_reason names e text command refusal.StampTaken =
    with_owner names e (text ++ codes "its clock is used by ") (stamp_of command)
with_reason names e text command refusal.IdTaken =
    with_owner names e (text ++ codes "its identifier is used by ") (identifier_of command)
with_reason names e text command refusal.UnknownLabel = text ++ codes "no operation has this label so far"
with_reason names e text command refusal.NotAnUpdate =
    text ++ codes "the label is a query: queries are not delivered"
with_reason names e text command refusal.AlreadySeen = text ++ why_seen e command
with_reason names e text command (refusal.NotCausal missing) =
    with_label names e.log.items e.places text missing (codes " has to be delivered first")
with_reason names e text command refusal.ReplicaThere = text ++ codes "the replica exists already"
with_reason names e text command refusal.TooManyReplicas =
    text ++ codes "there are 64 replicas, and no more may join"

-- ---- the rows

-- the word of the rejection, and its reason
abbrev pub reason_line : List (List ℕ) → Explanation → Command → Refusal → List ℕ
reason_line names e command why = with_reason names e (rejection_word why ++ codes ": ") command why

abbrev pub refusal_rows : List (List ℕ) → Explanation → ℕ → Command → Refusal → List ℕ
refusal_rows names e place command why = row (codes "rejected") (rejected_line names place command why)
    ++ row [] (reason_line names e command why)

abbrev pub reply_rows : List (List ℕ) → Explanation → ℕ → Command → Reply → List ℕ
reply_rows names e place command (reply.Refused why) = refusal_rows names e place command why
reply_rows names e place command other = []

-- the rows of the entry at this position of the log, if it was rejected
abbrev pub rows_at : List (List ℕ) → Explanation → ℕ → List ℕ
rows_at names e place =
    option_map_or (λ entry. reply_rows names e place entry.command entry.reply) (slice_get e.log.items place) []

abbrev pub rows_at_each : List (List ℕ) → Explanation → List ℕ → List ℕ
rows_at_each names e [] = []
rows_at_each names e (place ∷ places) = rows_at names e place ++ rows_at_each names e places

-- the number of the rejected lines that are not named
abbrev pub others_rejected : ℕ → List ℕ
others_rejected count = if count == 0 then []
    else row (codes "rejected") (decimal count ++ (if count == 1 then codes " more line" else codes " more lines"))

abbrev pub rejected_rows : List (List ℕ) → Explanation → List ℕ
rejected_rows names e = rows_at_each names e e.rejected.items
    ++ others_rejected (e.report.refused - min (length e.rejected.items) 4294967295)
