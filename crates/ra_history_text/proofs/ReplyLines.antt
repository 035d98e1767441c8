-- Lemmas on the reply lines to what lines say, as lines are added.
use Rattle.std.proofs.Common.{◌≡◌, ℕ, List, [], ◌∷◌, ◌++◌, length, Option, Some, None, Result, Ok, Err, refl, sym, ap, subst, ◌∙◌, inl, inr}
use Rattle.std.specs.Prelude.{flat_map}
use Rattle.std.proofs.lemmas.Bool.{cases_Bool}
use Rattle.std.proofs.lemmas.List.{append_assoc, append-nil}
use Rattle.std.proofs.lemmas.List.Concat.{flat_map-append}
use Rattle.ra_labels.specs.declared.kind.Kind.{Kind}
use Rattle.ra_labels.specs.declared.command.Command.{Command}
use Rattle.ra_labels.specs.declared.reply.Reply.{Reply}
use Rattle.ra_labels.specs.Records.{Records}
use Rattle.ra_labels.specs.Answer.{answer_of, answers_to, records_after, records_after_all}
use Rattle.ra_history_lines.specs.declared.format.Format.{Format}
use Rattle.ra_history_lines.specs.Grammar.{fields_of, names_behind}
use Rattle.ra_history_lines.specs.Replies.{reply_line}
use Rattle.ra_history_text.specs.Output.{answers_in, replies_of, last_line_at, output_of}
use Rattle.ra_history_lines.specs.Fields.{BeginsWith}
use Rattle.ra_history_lines.specs.Reading.{command_read}
use Rattle.ra_history_text.specs.Text.{Said, Nothing, OfKind, OfHistory, Progress, Stop, records_in, with_command, said_behind}
use Rattle.ra_history_text.specs.Text.{is_full, text_start, line_taken_as, byte_taken, unless_stopped, taken, end_of}
use Rattle.ra_history_lines.proofs.TheoremIndex.{mapped}
use Rattle.ra_history_text.proofs.TakenBytes.{byte_cases, taken_then}

pub begins_same : (xs : List ℕ) → BeginsWith xs xs
begins_same xs = ([], sym (append-nil xs))

pub begins_then : (xs ys zs : List ℕ) → BeginsWith xs ys → BeginsWith ys zs → BeginsWith xs zs
begins_then xs ys zs p q = (p.0 ++ q.0, q.1 ∙ ap (λ (bs : List ℕ). bs ++ q.0) p.1 ∙ append_assoc xs p.0 q.0)

-- ---- one more command

pub answers_push : (kind : Kind) (n : ℕ) (records : Records) (commands : List Command) (command : Command)
    → answers_to kind n records (commands ++ command ∷ []) ≡ answers_to kind n records commands
    ++ answer_of kind n (records_after_all kind n records commands) command ∷ []
answers_push kind n records [] command = refl
answers_push kind n records (first ∷ commands) command =
    ap (λ (replies : List Reply). answer_of kind n records first ∷ replies)
    (answers_push kind n (records_after kind n records first) commands command)

-- its reply line is appended to the others
pub replies_push : (format : Format) (kind : Kind) (first joined behind : List (List ℕ)) (commands : List Command)
    (command : Command)
    → replies_of (OfHistory format kind first behind (commands ++ command ∷ []))
    ≡ replies_of (OfHistory format kind first joined commands) ++ reply_line
    (answer_of kind (length first) (records_in kind first commands) command)
replies_push format kind first joined behind commands command =
    let answers = answers_in kind first commands in
    let reply = answer_of kind (length first) (records_in kind first commands) command in
    ap (flat_map reply_line) (answers_push kind (length first) [] commands command)
    ∙ flat_map-append reply_line answers (reply ∷ [])
    ∙ ap (λ (bs : List ℕ). flat_map reply_line answers ++ bs) (append-nil (reply_line reply))

-- ---- more lines

line_begins : (said next : Said) (line : List ℕ) → said_behind said line ≡ Some next
    → BeginsWith (replies_of said) (replies_of next)
line_begins Nothing next line e = (replies_of next, refl)
line_begins (OfKind format kind) next line e = (replies_of next, refl)
line_begins (OfHistory format kind first joined commands) next line e =
    let m = mapped (with_command format kind first joined commands line)
    (command_read format kind (first ++ joined) (fields_of line)) next e in
    let records = records_in kind first commands in
    subst (λ (s : Said). BeginsWith (replies_of (OfHistory format kind first joined commands)) (replies_of s)) m.2 (
      reply_line (answer_of kind (length first) records m.0),
      replies_push format kind first joined (names_behind kind (length first) records joined line m.0) commands m.0,
    )

-- the replies up to an end begin with the earlier ones
abbrev BeginsAt : Said → Result Progress Stop → Type 0
BeginsAt said r = BeginsWith (replies_of said) (replies_of (end_of r).said)

taken_as_begins : (said : Said) (o : Option Said)
    → ((next : Said) → o ≡ Some next → BeginsWith (replies_of said) (replies_of next))
    → BeginsAt said (line_taken_as said o)
taken_as_begins said None begins = begins_same (replies_of said)
taken_as_begins said (Some next) begins =
    elim (cases_Bool (is_full said)) [
      | inl full ↦ rw full (begins_same (replies_of said))
      | inr room ↦ rw room (begins next refl)
    ]

byte_begins : (p : Progress) (byte : ℕ) → BeginsAt p.said (byte_taken p byte)
byte_begins p byte = byte_cases p byte (BeginsAt p.said)
    (λ feed. taken_as_begins p.said (said_behind p.said p.partial) (λ next e. line_begins p.said next p.partial e))
    (λ other room. begins_same (replies_of p.said)) (λ other full. begins_same (replies_of p.said))

step_begins : (said : Said) (r : Result Progress Stop) (bytes : List ℕ) → BeginsAt said r
    → ((next : Progress) → BeginsAt next.said (taken next bytes))
    → BeginsAt said (unless_stopped r (λ next. taken next bytes))
step_begins said (Ok next) bytes here later =
    begins_then (replies_of said) (replies_of next.said) (replies_of (end_of (taken next bytes)).said) here (later next)
step_begins said (Err stop) bytes here later = here

pub taken_begins : (bytes : List ℕ) (p : Progress) → BeginsAt p.said (taken p bytes)
taken_begins [] p = begins_same (replies_of p.said)
taken_begins (byte ∷ bytes) p = step_begins p.said (byte_taken p byte) bytes (byte_begins p byte)
    (λ next. taken_begins bytes next)

-- ---- the output of a whole text

-- the output for a front that does not stop is the beginning of the text's output
pub output_begins : (front back : List ℕ) (p : Progress) → taken text_start front ≡ Ok p
    → BeginsWith (replies_of p.said) (output_of (front ++ back))
output_begins front back p is =
    let whole = taken_then text_start p front back is in
    let r = taken p back in
    let here = taken_begins back p in
    let all : BeginsWith (replies_of p.said)
    (replies_of (end_of r).said ++ last_line_at (end_of r).ending (end_of r).said) = (
      here.0 ++ last_line_at (end_of r).ending (end_of r).said,
      ap (λ (bs : List ℕ). bs ++ last_line_at (end_of r).ending (end_of r).said) here.1
          ∙ append_assoc (replies_of p.said) here.0 (last_line_at (end_of r).ending (end_of r).said),
    ) in
    subst (λ (s : Result Progress Stop). BeginsWith (replies_of p.said)
    (replies_of (end_of s).said ++ last_line_at (end_of s).ending (end_of s).said)) (sym whole) all
