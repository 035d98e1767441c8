-- Lemmas on runs that stop before the regular end.
use Rattle.std.proofs.Common.{◌≡◌, inl, inr, ℕ, eqb, List, [], ◌++◌, Option, Some, None, IfSome}
use Rattle.std.proofs.Common.{Result, Ok, Err, IfErr, refl, sym, ap, subst, ◌∙◌, ◌+◌, ◌<◌, ◌≤◌, take, length, arith}
use Rattle.std.specs.Prelude.{OnOk, IsErrAnd, is_ok, ◌&&◌}
use Rattle.std.specs.Io.KnownBytes.{Appends, Consumes, IsAtEnd, Keeps}
use Rattle.std.proofs.lemmas.List.{append_assoc, append-nil, length-append, length-take-le}
use Rattle.ra_monitor.specs.declared.report.Report.{Report}
use Rattle.ra_history_text.specs.declared.fault.CheckFault.{CheckFault}
use Rattle.ra_history_text.specs.declared.fault.CheckFault.TheVariants as check_fault
use Rattle.ra_history_text.specs.Faults.{ending_told}
use Rattle.ra_history_lines.specs.Fields.{BeginsWith}
use Rattle.ra_history_text.specs.Output.{replies_of, last_line_of, last_line_at, output_of}
use Rattle.ra_history_text.specs.Run.{WritesUpTo, WritesReplies, WritesPart, StopsCheck, HasGiven, IsRunning}
use Rattle.ra_history_text.specs.Sessions.{AddsReplies, StopsInside, EndsText, StopsEnding}
use Rattle.ra_history_text.specs.Text.{Said, Progress, Stop, Ending, Regular, Truncated}
use Rattle.ra_history_text.specs.Text.{has_names, next_line, text_start, stop_at, taken, ending_at, end_of}
use Rattle.ra_history_text.specs.Written.{HasWritten}
use Rattle.ra_history_text.proofs.ReplyLines.{output_begins}
use Rattle.ra_history_text.proofs.Runs.{where_known, where_whole, Appends-then, put_alone, written_replies, ends_at, said_at_end, output_at_end, output_regular}
use Rattle.ra_history_lines.proofs.TheoremIndex.{chosen}
use Rattle.ra_history_text.proofs.TakenBytes.{taken_then, stopped_then}

-- ---- within a text

-- the consumed part led to this progress, and its replies are written
pub replies_written : (read : List ℕ) (p : Progress) (old new : Option (List ℕ)) → taken text_start read ≡ Ok p
    → Appends old new (replies_of p.said) → WritesReplies read old new
replies_written read p old new is written = record {
  going_on = ap (λ r. is_ok r) is;
  written = subst (λ s. Appends old new (replies_of s)) (sym (said_at_end read p is)) written;
}

pub halts_between : (r0 r1 r2 w0 w1 : Option (List ℕ)) (p : Progress) (out : List ℕ) → IsRunning r0 r1 w0 w1 p out
    → Consumes r1 r2 [] → IfSome r0 (λ text. StopsCheck text r2 w0 w1 check_fault.Read)
halts_between r0 r1 r2 w0 w1 p out running consumes =
    where_known r0 r1 r2 p [] (λ text left. StopsCheck text left w0 w1 check_fault.Read) running.read consumes
    (λ all read left parts is. (read, parts, replies_written read p w0 w1 is running.written))

pub none_consumed : (known : Option (List ℕ)) → Consumes known known []
none_consumed None = tt
none_consumed (Some all) = refl

pub kept_whole : (old new : Option (List ℕ)) → Keeps old new → Consumes old new []
kept_whole None new keeps = tt
kept_whole (Some all) None keeps = absurd keeps
kept_whole (Some all) (Some same) keeps = sym keeps

-- ---- at the end of the text

-- there is no last line if the end is not regular
cut_short : (text : List ℕ) (p : Progress) (n : ℕ) (old new : Option (List ℕ)) → taken text_start text ≡ Ok p
    → ending_at p ≡ Truncated n
    → Appends old new (replies_of p.said) → WritesUpTo text old new (Truncated n)
cut_short text p n old new is ending written =
    let nothing : output_of text ≡ replies_of p.said =
    output_at_end text p is ∙ ap (λ (e : Ending). replies_of p.said ++ last_line_at e p.said) ending
    ∙ append-nil (replies_of p.said) in
    record { ends = ends_at text p is ∙ ending; written = subst (Appends old new) (sym nothing) written }

why_ending : (text : List ℕ) (p : Progress) (old new : Option (List ℕ)) (left : Option (List ℕ)) (fault : CheckFault)
    → taken text_start text ≡ Ok p → StopsEnding p fault
    → Appends old new (replies_of p.said) → StopsCheck text left old new fault
why_ending text p old new left (check_fault.Truncated n) is stops written = cut_short text p n old new is stops written
why_ending text p old new left check_fault.NoMemory is stops written =
    (text, [], sym (append-nil text), replies_written text p old new is written)
why_ending text p old new left check_fault.Read is stops written = absurd (let other = stops.0 in cc)
why_ending text p old new left check_fault.Write is stops written = absurd (let other = stops.0 in cc)
why_ending text p old new left check_fault.Endless is stops written = absurd (let other = stops.0 in cc)
why_ending text p old new left _ is stops written =
    elim (chosen (has_names p.said && eqb (length p.partial) 0) Regular (Truncated (next_line p.said)) _ stops) [
      | inl regular ↦ absurd (let never = regular.1 in cc)
      | inr short ↦ absurd (let never = short.1 in cc)
    ]

pub halts_ending : (r0 r1 r2 w0 w1 : Option (List ℕ)) (p : Progress) (out : List ℕ) (fault : CheckFault)
    → IsRunning r0 r1 w0 w1 p out → Consumes r1 r2 [] × IsAtEnd r2
    → StopsEnding p fault → IfSome r0 (λ text. StopsCheck text r2 w0 w1 fault)
halts_ending r0 r1 r2 w0 w1 p out fault running ended stops =
    where_whole r0 r1 r2 p (λ text. StopsCheck text r2 w0 w1 fault) running.read ended
    (λ text is. why_ending text p w0 w1 r2 fault is stops running.written)

-- ---- the writer fails

-- the earlier output and a part of these bytes are the beginning of the text's output
part_written : (text : List ℕ) (w0 w1 w2 : Option (List ℕ)) (before bytes later rest : List ℕ)
    → output_of text ≡ (before ++ bytes) ++ later
    → 0 < length rest → Appends w0 w1 before → HasWritten w1 w2 bytes rest → WritesPart text w0 w2
part_written text w0 w1 w2 before bytes later rest whole short written more = record {
  part = before ++ more.prefix;
  more = rest ++ later;
  parts =
      whole ∙ ap (λ (bs : List ℕ). (before ++ bs) ++ later) more.parts
      ∙ ap (λ (bs : List ℕ). bs ++ later) (sym (append_assoc before more.prefix rest))
      ∙ append_assoc (before ++ more.prefix) rest later;
  short = omega (arith, short, length-append rest later);
  written = Appends-then w0 w1 w2 before more.prefix written more.appends;
}

pub halts_writing_end : (r0 r1 r2 w0 w1 w2 : Option (List ℕ)) (p : Progress) (out1 out2 unwritten : List ℕ)
    (report : Report)
    → 0 < length unwritten → IsRunning r0 r1 w0 w1 p out1 → Consumes r1 r2 [] × IsAtEnd r2
    → EndsText p out1 out2 report
    → HasWritten w1 w2 out2 unwritten → IfSome r0 (λ text. StopsCheck text r2 w0 w2 check_fault.Write)
halts_writing_end r0 r1 r2 w0 w1 w2 p out1 out2 unwritten report short running ended ends written =
    let gathered : out2 ≡ last_line_of p.said = put_alone out1 out2 (last_line_of p.said) running.nothing ends.out in
    where_whole r0 r1 r2 p (λ text. WritesPart text w0 w2) running.read ended (λ text is.
    part_written text w0 w1 w2 (replies_of p.said) out2 [] unwritten
    (output_regular text p is ends.regular ∙ ap (λ (bs : List ℕ). replies_of p.said ++ bs) (sym gathered)
    ∙ sym (append-nil (replies_of p.said ++ out2))) short running.written written)

-- ---- within a piece

-- the text after the part that was read and the front of the next piece
goes_on : (all read piece left front behind : List ℕ) → all ≡ read ++ (piece ++ left) → piece ≡ front ++ behind
    → all ≡ (read ++ front) ++ (behind ++ left)
goes_on all read piece left front behind parts fed =
    parts ∙ ap (λ (bs : List ℕ). read ++ (bs ++ left)) fed
    ∙ ap (λ (bs : List ℕ). read ++ bs) (append_assoc front behind left)
    ∙ sym (append_assoc read front (behind ++ left))

-- the text stops where the piece does
all_stops : (all read front later : List ℕ) (p : Progress) (stop : Stop) → all ≡ (read ++ front) ++ later
    → taken text_start read ≡ Ok p → taken p front ≡ Err stop
    → taken text_start all ≡ Err stop
all_stops all read front later p stop parts is stops =
    ap (taken text_start) parts
    ∙ stopped_then text_start stop (read ++ front) later (taken_then text_start p read front is ∙ stops)

-- the output for a text that stops
stop_written : (text : List ℕ) (said : Said) (e : Ending) (old new : Option (List ℕ)) → last_line_at e said ≡ []
    → taken text_start text ≡ Err (stop_at said e)
    → Appends old new (replies_of said) → WritesUpTo text old new e
stop_written text said e old new none is written = record {
  ends = ap (λ r. (end_of r).ending) is;
  written = subst (Appends old new) (sym (
      ap (λ r. replies_of (end_of r).said ++ last_line_at (end_of r).ending (end_of r).said) is
      ∙ ap (λ (bs : List ℕ). replies_of said ++ bs) none ∙ append-nil (replies_of said))) written;
}

-- the check stops for the same reason as the piece
why_feeding : (all read piece left out1 out2 : List ℕ) (p : Progress) (w0 w2 : Option (List ℕ)) (fault : CheckFault)
    → all ≡ read ++ (piece ++ left)
    → taken text_start read ≡ Ok p → (stopped : StopsInside p piece out1 out2 fault)
    → Appends w0 w2 (replies_of stopped.said)
    → StopsCheck all (Some left) w0 w2 fault
why_feeding all read piece left out1 out2 p w0 w2 check_fault.NoMemory parts is stopped written =
    let q : Progress = record { said = stopped.said; partial = stopped.why.1.0 } in (
      read ++ stopped.front,
      stopped.behind ++ left,
      goes_on all read piece left stopped.front stopped.behind parts stopped.parts,
      replies_written (read ++ stopped.front) q w0 w2
          (taken_then text_start p read stopped.front is ∙ stopped.why.1.1) written,
    )
why_feeding all read piece left out1 out2 p w0 w2 check_fault.Read parts is stopped written =
    absurd (let other = stopped.why.0 in cc)
why_feeding all read piece left out1 out2 p w0 w2 check_fault.Write parts is stopped written =
    absurd (let other = stopped.why.0 in cc)
why_feeding all read piece left out1 out2 p w0 w2 check_fault.Endless parts is stopped written =
    absurd (let other = stopped.why.0 in cc)
why_feeding all read piece left out1 out2 p w0 w2 _ parts is stopped written =
    stop_written all stopped.said _ w0 w2 refl
    (all_stops all read stopped.front (stopped.behind ++ left) p (stop_at stopped.said _)
    (goes_on all read piece left stopped.front stopped.behind parts stopped.parts) is stopped.why) written

pub halts_feeding : (r0 r1 r2 w0 w1 w2 : Option (List ℕ)) (p : Progress) (out1 out2 piece : List ℕ) (fault : CheckFault)
    → IsRunning r0 r1 w0 w1 p out1 → Consumes r1 r2 piece → StopsInside p piece out1 out2 fault → Appends w1 w2 out2
    → IfSome r0 (λ text. StopsCheck text r2 w0 w2 fault)
halts_feeding r0 r1 r2 w0 w1 w2 p out1 out2 piece fault running consumes stopped appends =
    where_known r0 r1 r2 p piece (λ text left. StopsCheck text left w0 w2 fault) running.read consumes
    (λ all read left parts is. why_feeding all read piece left out1 out2 p w0 w2 fault parts is stopped
    (written_replies w0 w1 w2 p.said stopped.said out1 out2 running.written running.nothing stopped.replied appends))

-- the output at a fault is the beginning of the text's output
begins_at_stop : (all read piece left out1 out2 : List ℕ) (p : Progress) (fault : CheckFault)
    → all ≡ read ++ (piece ++ left) → taken text_start read ≡ Ok p
    → (stopped : StopsInside p piece out1 out2 fault) → (o : Option Ending) → ending_told fault ≡ o
    → BeginsWith (replies_of stopped.said) (output_of all)
begins_at_stop all read piece left out1 out2 p fault parts is stopped None told =
    let why = rw told at stopped.why in
    let q : Progress = record { said = stopped.said; partial = why.1.0 } in
    let whole = goes_on all read piece left stopped.front stopped.behind parts stopped.parts in
    subst (λ (text : List ℕ). BeginsWith (replies_of stopped.said) (output_of text)) (sym whole)
    (output_begins (read ++ stopped.front) (stopped.behind ++ left) q
    (taken_then text_start p read stopped.front is ∙ why.1.1))
begins_at_stop all read piece left out1 out2 p fault parts is stopped (Some ending) told =
    let why = rw told at stopped.why in
    let whole = goes_on all read piece left stopped.front stopped.behind parts stopped.parts in
    let stops = all_stops all read stopped.front (stopped.behind ++ left) p
    (stop_at stopped.said ending) whole is why in (
      last_line_at ending stopped.said,
      ap (λ r. replies_of (end_of r).said ++ last_line_at (end_of r).ending (end_of r).said) stops,
    )

-- the replies that a piece adds, whether it was consumed or stopped, and the beginning of the text's output
pub record Fed (all : List ℕ) (old : Said) (out1 out2 : List ℕ) : Type 0 where
  pub said : Said
  pub replied : AddsReplies old said out1 out2
  pub begins : BeginsWith (replies_of said) (output_of all)

fed_anyway : {T : Type 0} (r : Result T CheckFault) (all read piece left out1 out2 : List ℕ) (old new : Progress)
    → all ≡ read ++ (piece ++ left)
    → taken text_start read ≡ Ok old → OnOk r (taken old piece ≡ Ok new)
    → OnOk r (AddsReplies old.said new.said out1 out2) → IfErr r (StopsInside old piece out1 out2)
    → Fed all old.said out1 out2
fed_anyway (Ok x) all read piece left out1 out2 old new parts is taken_so replied stopped =
    let whole : all ≡ (read ++ piece) ++ left = parts ∙ sym (append_assoc read piece left) in
    record {
      said = new.said;
      replied = replied;
      begins =
          subst (λ (text : List ℕ). BeginsWith (replies_of new.said) (output_of text)) (sym whole)
          (output_begins (read ++ piece) left new (taken_then text_start old read piece is ∙ taken_so));
    }
fed_anyway (Err fault) all read piece left out1 out2 old new parts is taken_so replied stopped = record {
  said = stopped.said;
  replied = stopped.replied;
  begins = begins_at_stop all read piece left out1 out2 old fault parts is stopped (ending_told fault) refl;
}

pub halts_writing : {T : Type 0} (r : Result T CheckFault) (r0 r1 r2 w0 w1 w2 : Option (List ℕ)) (old new : Progress)
    (out1 out2 piece unwritten : List ℕ)
    → 0 < length unwritten → IsRunning r0 r1 w0 w1 old out1 → Consumes r1 r2 piece
    → OnOk r (taken old piece ≡ Ok new) → OnOk r (AddsReplies old.said new.said out1 out2)
    → IfErr r (StopsInside old piece out1 out2)
    → HasWritten w1 w2 out2 unwritten → IfSome r0 (λ text. StopsCheck text r2 w0 w2 check_fault.Write)
halts_writing r r0 r1 r2 w0 w1 w2 old new out1 out2 piece unwritten short running consumes taken_so replied stopped
    written =
    where_known r0 r1 r2 old piece (λ text left. WritesPart text w0 w2) running.read consumes
    (λ all read left parts is.
    let fed = fed_anyway r all read piece left out1 out2 old new parts is taken_so replied stopped in
    let gathered : out2 ≡ fed.replied.more = put_alone out1 out2 fed.replied.more running.nothing fed.replied.out in
    let whole : output_of all ≡ (replies_of old.said ++ out2) ++ fed.begins.0 =
    fed.begins.1 ∙ ap (λ (bs : List ℕ). bs ++ fed.begins.0)
    (fed.replied.replies ∙ ap (λ (bs : List ℕ). replies_of old.said ++ bs) (sym gathered)) in
    part_written all w0 w1 w2 (replies_of old.said) out2 fed.begins.0 unwritten whole short running.written written)

-- a fault that is passed on by `?`
pub passed_on : {T : Type 0} (r : Result T CheckFault) (P : CheckFault → Type 0) (fault : CheckFault)
    → IsErrAnd r (λ same. same ≡ fault) → P fault → IfErr r P
passed_on (Ok x) P fault is holds = absurd is
passed_on (Err same) P fault is holds = subst P (sym is) holds

-- ---- the number of bytes read

pub given_none : (known : Option (List ℕ)) → HasGiven known known 0
given_none None = tt
given_none (Some all) = omega arith

pub given_more : (r0 r1 r2 : Option (List ℕ)) (reads count : ℕ) (buffer : List ℕ) → HasGiven r0 r1 reads
    → Consumes r1 r2 (take count buffer) → 0 < count → count ≤ length buffer
    → HasGiven r0 r2 (reads + 1)
given_more None r1 r2 reads count buffer given consumes some bound = tt
given_more (Some all) None r2 reads count buffer given consumes some bound = absurd given
given_more (Some all) (Some rest) None reads count buffer given consumes some bound = absurd consumes
given_more (Some all) (Some rest) (Some left) reads count buffer given consumes some bound =
    omega (
      arith,
      given,
      ap length consumes,
      length-append
          (take count buffer) left,
      length-take-le count buffer bound,
      some,
    )

pub given_less : (r0 r1 : Option (List ℕ)) (less more : ℕ) → less ≤ more → HasGiven r0 r1 more → HasGiven r0 r1 less
given_less None r1 less more below given = tt
given_less (Some all) None less more below given = absurd given
given_less (Some all) (Some rest) less more below given = omega (arith, below, given)
