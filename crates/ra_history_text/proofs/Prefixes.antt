-- Lemmas on the output for a part of a text, compared with that for the whole text.
use Rattle.std.proofs.Common.{◌≡◌, ◌+◌, ◌-◌, ◌<◌, ℕ, true, eqb, cond, List, [], ◌∷◌, ◌++◌, length, Option, Some}
use Rattle.std.proofs.Common.{Result, Ok, Err, refl, sym, ap, subst, ◌∙◌, arith}
use Rattle.std.specs.Prelude.{flat_map, is_ok}
use Rattle.std.proofs.lemmas.Bool.{ne_eqb}
use Rattle.std.proofs.lemmas.List.{append_assoc, length-append, length_push}
use Rattle.std.proofs.lemmas.List.Sums.{sum_by-cons}
use Rattle.ra_labels.specs.declared.kind.Kind.{Kind}
use Rattle.ra_labels.specs.declared.command.Command.{Command}
use Rattle.ra_labels.specs.declared.reply.Fault.{Fault}
use Rattle.ra_labels.specs.declared.reply.Reply.{Reply}
use Rattle.ra_labels.specs.Fault.{fault_of}
use Rattle.ra_labels.specs.Records.{Records, label_count}
use Rattle.ra_labels.specs.Answer.{answers_to, records_after}
use Rattle.ra_history_text.specs.declared.fault.CheckFault.{CheckFault}
use Rattle.ra_history_text.specs.declared.fault.CheckFault.TheVariants as check_fault
use Rattle.ra_history_lines.specs.Grammar.{fields_of}
use Rattle.ra_history_lines.specs.Replies.{reply_line, end_words, end_line}
use Rattle.ra_history_text.specs.Output.{answers_in, replies_of, last_line_of, last_line_at, output_of}
use Rattle.ra_history_lines.specs.Fields.{BeginsWith}
use Rattle.ra_history_text.specs.TheoremTerms.{line_feeds, IsOfReader, IsLess, GrowsByPart, GrowsByReplies, AnswersEach}
use Rattle.ra_history_lines.specs.Reading.{head_read, names_read, command_read}
use Rattle.ra_history_text.specs.Run.{WritesReplies, StopsCheck}
use Rattle.ra_history_text.specs.Text.{Said, Nothing, OfKind, OfHistory, Progress, Stop, Ending, Regular}
use Rattle.ra_history_text.specs.Text.{next_line, records_in, with_command, of_head, said_behind, has_names}
use Rattle.ra_history_text.specs.Text.{text_start, byte_taken, taken, end_of, ending_of, said_by, does_not_stop}
use Rattle.ra_history_lines.proofs.TheoremIndex.{mapped}
use Rattle.ra_history_text.proofs.ReplyLines.{taken_begins, output_begins}
use Rattle.ra_history_text.proofs.TakenBytes.{byte_cases, taken_then}
use Rattle.ra_history_text.proofs.Texts.{taken_as_found, going_on, regular_progress}

-- ---- a part that does not stop

-- the progress that it led to
pub led_to : (r : Result Progress Stop) → is_ok r ≡ true → (p : Progress) × (r ≡ Ok p)
led_to (Ok p) e = (p, refl)
led_to (Err stop) e = absurd cc

pub front_begins : (front back : List ℕ) → does_not_stop front ≡ true
    → BeginsWith (replies_of (said_by front)) (output_of (front ++ back))
front_begins front back e =
    let at = led_to (taken text_start front) e in
    subst (λ (said : Said). BeginsWith (replies_of said) (output_of (front ++ back)))
    (sym (ap (λ r. (end_of r).said) at.1)) (output_begins front back at.0 at.1)

-- ---- a text with a regular end

-- the last line is not empty
some_end : (labels : ℕ) (fault : Option Fault) → 0 < length (end_line labels fault)
some_end labels fault = omega (arith, length-append (end_words labels fault) (10 ∷ []))

some_last_line : (said : Said) → has_names said ≡ true → 0 < length (last_line_of said)
some_last_line Nothing e = absurd cc
some_last_line (OfKind format kind) e = absurd cc
some_last_line (OfHistory format kind first joined commands) e =
    some_end (label_count (records_in kind first commands)) (fault_of kind (records_in kind first commands))

regular_output : (text : List ℕ) → ending_of text ≡ Regular
    → output_of text ≡ replies_of (said_by text) ++ last_line_of (said_by text)
regular_output text regular = ap (λ (e : Ending). replies_of (said_by text) ++ last_line_at e (said_by text)) regular

-- a part that does not stop has less output
part_is_less : (front back : List ℕ) → does_not_stop front ≡ true → ending_of (front ++ back) ≡ Regular
    → IsLess (replies_of (said_by front)) (output_of (front ++ back))
part_is_less front back going regular =
    let text : List ℕ = front ++ back in
    let at = led_to (taken text_start front) going in
    let front_said : said_by front ≡ at.0.said = ap (λ r. (end_of r).said) at.1 in
    let here : BeginsWith (replies_of at.0.said) (replies_of (end_of (taken at.0 back)).said) =
    taken_begins back at.0 in
    let all_said : said_by text ≡ (end_of (taken at.0 back)).said =
    ap (λ r. (end_of r).said) (taken_then text_start at.0 front back at.1) in
    let whole = regular_progress text regular in
    let named : has_names (said_by text) ≡ true = ap (λ r. has_names (end_of r).said) whole.1 ∙ whole.2 in
    let last : List ℕ = last_line_of (said_by text) in (
      here.0 ++ last,
      regular_output text regular ∙ ap (λ (s : Said). replies_of s ++ last) all_said
          ∙ ap (λ (bs : List ℕ). bs ++ last) here.1
          ∙ ap (λ (s : Said). (replies_of s ++ here.0) ++ last) (sym front_said)
          ∙ append_assoc (replies_of (said_by front)) here.0 last,
      omega (arith, length-append here.0 last, some_last_line (said_by text) named),
    )

part_of_text : (text front back old new : List ℕ) → text ≡ front ++ back → WritesReplies front (Some old) (Some new)
    → ending_of text ≡ Regular
    → GrowsByPart old new (output_of text)
part_of_text text front back old new parts writes regular =
    let less = part_is_less front back writes.going_on (ap ending_of (sym parts) ∙ regular) in (
      replies_of (said_by front),
      writes.written,
      subst
          (λ (t : List ℕ). IsLess (replies_of (said_by front)) (output_of t)) (sym parts) less,
    )

pub unwritten : (text left old new : List ℕ) (fault : CheckFault) → ending_of text ≡ Regular
    → StopsCheck text (Some left) (Some old) (Some new) fault
    → GrowsByPart old new (output_of text)
unwritten text left old new check_fault.Read regular stops =
    part_of_text text stops.0 left old new stops.1 stops.2 regular
unwritten text left old new check_fault.Endless regular stops =
    part_of_text text stops.0 left old new stops.1 stops.2 regular
unwritten text left old new check_fault.NoMemory regular stops =
    part_of_text text stops.0 stops.1 old new stops.2 stops.3 regular
unwritten text left old new check_fault.Write regular stops =
    (stops.part, stops.written, (stops.more, stops.parts, stops.short))
unwritten text left old new _ regular stops =
    absurd (let both = sym regular ∙ stops.ends in cc)

-- ---- reply lines

-- the replies to what lines say, one line each
abbrev replies_in : Said → List Reply
replies_in Nothing = []
replies_in (OfKind format kind) = []
replies_in (OfHistory format kind first joined commands) = answers_in kind first commands

replies_are : (said : Said) → replies_of said ≡ flat_map reply_line (replies_in said)
replies_are Nothing = refl
replies_are (OfKind format kind) = refl
replies_are (OfHistory format kind first joined commands) = refl

pub whole_lines : (text left old new : List ℕ) → StopsCheck text (Some left) (Some old) (Some new) check_fault.NoMemory
    → GrowsByReplies old new
whole_lines text left old new stops =
    let said = said_by stops.0 in
    (replies_in said, stops.3.written ∙ ap (λ (bs : List ℕ). old ++ bs) (replies_are said))

as_many_answers : (kind : Kind) (n : ℕ) (records : Records) (commands : List Command)
    → length (answers_to kind n records commands) ≡ length commands
as_many_answers kind n records [] = refl
as_many_answers kind n records (c ∷ commands) =
    omega (arith, as_many_answers kind n (records_after kind n records c) commands)

-- ---- the number of complete lines

line_counted : (said next : Said) (line : List ℕ) → said_behind said line ≡ Some next
    → next_line next ≡ next_line said + 1
line_counted Nothing next line e =
    let m = mapped of_head (head_read line) next e in
    ap next_line (sym m.2)
line_counted (OfKind format kind) next line e =
    let m = mapped (λ ns. OfHistory format kind ns [] []) (names_read format line) next e in
    ap next_line (sym m.2)
line_counted (OfHistory format kind first joined commands) next line e =
    let m = mapped (with_command format kind first joined commands line)
    (command_read format kind (first ++ joined) (fields_of line)) next e in
    ap next_line (sym m.2) ∙ omega (arith, length_push commands m.0)

feeds_cons : (byte : ℕ) (bytes : List ℕ) → line_feeds (byte ∷ bytes) ≡ cond (eqb byte 10) 1 0 + line_feeds bytes
feeds_cons byte bytes = sum_by-cons (λ x. cond (eqb x 10) 1 0) byte bytes

-- a byte completes one line if it is a line feed, and else none
byte_counted : (p q : Progress) (byte : ℕ) → byte_taken p byte ≡ Ok q
    → next_line q.said ≡ next_line p.said + cond (eqb byte 10) 1 0
byte_counted p q byte = byte_cases p byte (λ r. r ≡ Ok q → next_line q.said ≡ next_line p.said + cond (eqb byte 10) 1 0)
    (λ feed e.
    let made = taken_as_found p.said (said_behind p.said p.partial) q e in
    let one : ◌≡◌ {A = ℕ} (cond (eqb byte 10) 1 0) 1 = rw feed refl in
    omega (arith, ap (λ (r : Progress). next_line r.said) made.3, line_counted p.said made.0 p.partial made.1, one))
    (λ other room e.
    let none : ◌≡◌ {A = ℕ} (cond (eqb byte 10) 1 0) 0 = rw (ne_eqb byte 10 other) refl in
    omega (arith, ap (λ r. next_line (end_of r).said) e, none))
    (λ other full e. absurd cc)

pub feeds_counted : (bytes : List ℕ) (p q : Progress) → taken p bytes ≡ Ok q
    → next_line q.said ≡ next_line p.said + line_feeds bytes
feeds_counted [] p q e =
    let same : p ≡ q = cc in
    omega (arith, ap (λ (r : Progress). next_line r.said) same)
feeds_counted (byte ∷ bytes) p q e =
    let found = going_on (byte_taken p byte) q (λ next. taken next bytes) e in
    let later = feeds_counted bytes found.0 q found.2 in
    omega (arith, later, feeds_cons byte bytes, byte_counted p found.0 byte found.1)

as_many_replies : (said : Said) (feeds : ℕ) → next_line said ≡ 1 + feeds → length (replies_in said) ≡ feeds - 2
as_many_replies Nothing feeds e = omega (arith, e)
as_many_replies (OfKind format kind) feeds e = omega (arith, e)
as_many_replies (OfHistory format kind first joined commands) feeds e =
    omega (arith, e, as_many_answers kind (length first) [] commands)

read_is_answered : (read old new : List ℕ) → WritesReplies read (Some old) (Some new) → AnswersEach read old new
read_is_answered read old new writes =
    let at = led_to (taken text_start read) writes.going_on in
    let said : said_by read ≡ at.0.said = ap (λ r. (end_of r).said) at.1 in
    let counted : next_line at.0.said ≡ 1 + line_feeds read = feeds_counted read text_start at.0 at.1 in (
      replies_in (said_by read),
      writes.written ∙ ap (λ (bs : List ℕ). old ++ bs) (replies_are (said_by read)),
      as_many_replies (said_by read) (line_feeds read) (ap next_line said ∙ counted),
    )

pub each_is_answered : (text left old new : List ℕ) (fault : CheckFault) → IsOfReader fault
    → StopsCheck text (Some left) (Some old) (Some new) fault
    → (read : List ℕ) × (text ≡ read ++ left) × AnswersEach read old new
each_is_answered text left old new check_fault.Read own stops =
    (stops.0, stops.1, read_is_answered stops.0 old new stops.2)
each_is_answered text left old new check_fault.Endless own stops =
    (stops.0, stops.1, read_is_answered stops.0 old new stops.2)
each_is_answered text left old new _ own stops = absurd own
