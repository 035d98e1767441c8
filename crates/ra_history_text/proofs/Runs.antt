-- Lemmas on readers and writers over a whole run.
use Rattle.std.proofs.Common.{◌≡◌, ℕ, List, [], ◌++◌, take, drop, Option, Some, None, IfSome, Ok, refl, sym, ap, subst, ◌∙◌, ◌<◌, length}
use Rattle.std.specs.Io.KnownBytes.{Appends, Consumes, IsAtEnd}
use Rattle.std.proofs.lemmas.List.{append_assoc, append-nil, take-append-drop}
use Rattle.ra_monitor.specs.declared.report.Report.{Report}
use Rattle.ra_history_text.specs.Output.{replies_of, last_line_of, last_line_at, output_of, Reports}
use Rattle.ra_history_text.specs.Run.{WritesAnswer, HasRead, IsRunning}
use Rattle.ra_history_text.specs.Sessions.{AddsReplies, EndsText}
use Rattle.ra_history_text.specs.Text.{Said, Progress, Ending, Regular, text_start, taken, ending_at, end_of, ending_of, said_by}
use Rattle.ra_history_text.specs.Written.{HasWritten}
use Rattle.ra_history_text.proofs.TakenBytes.{taken_then}

-- ---- writers

Appends-nil : (known : Option (List ℕ)) → Appends known known []
Appends-nil None = tt
Appends-nil (Some xs) = sym (append-nil xs)

pub Appends-then : (a b c : Option (List ℕ)) (xs ys : List ℕ) → Appends a b xs → Appends b c ys → Appends a c (xs ++ ys)
Appends-then None b c xs ys p q = tt
Appends-then (Some held) None c xs ys p q = absurd p
Appends-then (Some held) (Some more) None xs ys p q = absurd q
Appends-then (Some held) (Some more) (Some all) xs ys p q = q ∙ ap (λ (zs : List ℕ). zs ++ ys) p
    ∙ append_assoc held xs ys

pub written_more : (old mid new : Option (List ℕ)) (bytes rest behind : List ℕ) (n : ℕ) → HasWritten old mid bytes rest
    → Appends mid new (take n rest) → behind ≡ drop n rest → HasWritten old new bytes behind
written_more old mid new bytes rest behind n written appends is = record {
  prefix = written.prefix ++ take n rest;
  parts =
      written.parts ∙ ap (λ (bs : List ℕ). written.prefix ++ bs)
      (sym (take-append-drop n rest) ∙ ap (λ (bs : List ℕ). take n rest ++ bs) (sym is))
      ∙ sym (append_assoc written.prefix (take n rest) behind);
  appends = Appends-then old mid new written.prefix (take n rest) written.appends appends;
}

-- ---- the output buffer of the writer

-- bytes appended to an empty buffer are its whole content
pub put_alone : (out1 out2 more : List ℕ) → out1 ≡ [] → out2 ≡ out1 ++ more → out2 ≡ more
put_alone out1 out2 more nothing put = put ∙ ap (λ (bs : List ℕ). bs ++ more) nothing

-- ---- a run

read_none : (known : Option (List ℕ)) (p : Progress) → p ≡ text_start → HasRead known known p
read_none None p is = tt
read_none (Some all) p is = ([], refl, ap Ok (sym is))

pub run_first : (reader writer : Option (List ℕ)) (p : Progress) (out : List ℕ) → p ≡ text_start → out ≡ []
    → IsRunning reader reader writer writer p out
run_first reader writer p out is nothing = record {
  read = read_none reader p is;
  written = subst (λ (q : Progress). Appends writer writer (replies_of q.said)) (sym is) (Appends-nil writer);
  nothing = nothing;
}

read_more : (first mid last : Option (List ℕ)) (old new : Progress) (piece : List ℕ) → HasRead first mid old
    → Consumes mid last piece → taken old piece ≡ Ok new → HasRead first last new
read_more None mid last old new piece read consumes is = tt
read_more (Some all) None last old new piece read consumes is = absurd read
read_more (Some all) (Some rest) None old new piece read consumes is = absurd consumes
read_more (Some all) (Some rest) (Some later) old new piece read consumes is = (
  read.0 ++ piece,
  read.1 ∙ ap (λ (bs : List ℕ). read.0 ++ bs) consumes ∙ sym (append_assoc read.0 piece later),
  taken_then text_start old read.0 piece read.2 ∙ is,
)

-- if the text is known, so are the part that was read and the rest
pub where_known : (r0 r1 r2 : Option (List ℕ)) (p : Progress) (piece : List ℕ)
    (P : List ℕ → Option (List ℕ) → Type 0) → HasRead r0 r1 p → Consumes r1 r2 piece
    → ((all read left : List ℕ) → all ≡ read ++ (piece ++ left) → taken text_start read ≡ Ok p → P all (Some left))
    → IfSome r0 (λ text. P text r2)
where_known None r1 r2 p piece P read consumes leads = tt
where_known (Some all) None r2 p piece P read consumes leads = absurd read
where_known (Some all) (Some rest) None p piece P read consumes leads = absurd consumes
where_known (Some all) (Some rest) (Some left) p piece P read consumes leads =
    leads all read.0 left (read.1 ∙ ap (λ (bs : List ℕ). read.0 ++ bs) consumes) read.2

-- the writer has the replies so far, and those that a piece adds
pub written_replies : (w0 w1 w2 : Option (List ℕ)) (old new : Said) (out1 out2 : List ℕ)
    → Appends w0 w1 (replies_of old) → out1 ≡ []
    → AddsReplies old new out1 out2 → Appends w1 w2 out2 → Appends w0 w2 (replies_of new)
written_replies w0 w1 w2 old new out1 out2 written nothing adds appends =
    let gathered : out2 ≡ adds.more = put_alone out1 out2 adds.more nothing adds.out in
    subst (Appends w0 w2) (sym adds.replies)
    (Appends-then w0 w1 w2 (replies_of old) adds.more written (subst (Appends w1 w2) gathered appends))

pub run_next : (r0 r1 r2 w0 w1 w2 : Option (List ℕ)) (old new : Progress) (out1 out2 out3 piece : List ℕ)
    → IsRunning r0 r1 w0 w1 old out1 → Consumes r1 r2 piece → taken old piece ≡ Ok new
    → AddsReplies old.said new.said out1 out2
    → Appends w1 w2 out2 → out3 ≡ [] → IsRunning r0 r2 w0 w2 new out3
run_next r0 r1 r2 w0 w1 w2 old new out1 out2 out3 piece running consumes is adds appends nothing = record {
  read = read_more r0 r1 r2 old new piece running.read consumes is;
  written = written_replies w0 w1 w2 old.said new.said out1 out2 running.written running.nothing adds appends;
  nothing = nothing;
}

-- a read that returns no byte into a buffer with room: nothing is left
pub read_none_left : (r1 r2 : Option (List ℕ)) (count : ℕ) (buffer : List ℕ) → count ≡ 0 → 0 < length buffer
    → Consumes r1 r2 (take count buffer) × (count ≡ 0 → 0 < length buffer → IsAtEnd r2) → Consumes r1 r2 [] × IsAtEnd r2
read_none_left r1 r2 count buffer none room read =
    (subst (λ (k : ℕ). Consumes r1 r2 (take k buffer)) none read.0, read.1 none room)

-- ---- at the end

-- if the text is known, all of it was read
pub where_whole : (r0 r1 r2 : Option (List ℕ)) (p : Progress) (P : List ℕ → Type 0) → HasRead r0 r1 p
    → Consumes r1 r2 [] × IsAtEnd r2 → ((text : List ℕ) → taken text_start text ≡ Ok p → P text) → IfSome r0 P
where_whole None r1 r2 p P read ended leads = tt
where_whole (Some all) None r2 p P read ended leads = absurd read
where_whole (Some all) (Some rest) None p P read ended leads = absurd ended.0
where_whole (Some all) (Some rest) (Some left) p P read ended leads =
    leads all (ap (taken text_start)
    (read.1 ∙ ap (λ (bs : List ℕ). read.0 ++ bs) (ended.0 ∙ ended.1) ∙ append-nil read.0) ∙ read.2)

-- and so the progress is that of the text
pub comes_as_far : (r0 r1 r2 : Option (List ℕ)) (p : Progress) → HasRead r0 r1 p → Consumes r1 r2 [] × IsAtEnd r2
    → IfSome r0 (λ text. taken text_start text ≡ Ok p)
comes_as_far r0 r1 r2 p read ended = where_whole r0 r1 r2 p (λ text. taken text_start text ≡ Ok p) read ended
    (λ text is. is)

-- so the text ends as this progress does
pub ends_at : (text : List ℕ) (p : Progress) → taken text_start text ≡ Ok p → ending_of text ≡ ending_at p
ends_at text p is = ap (λ r. (end_of r).ending) is

pub said_at_end : (text : List ℕ) (p : Progress) → taken text_start text ≡ Ok p → said_by text ≡ p.said
said_at_end text p is = ap (λ r. (end_of r).said) is

pub output_at_end : (text : List ℕ) (p : Progress) → taken text_start text ≡ Ok p
    → output_of text ≡ replies_of p.said ++ last_line_at (ending_at p) p.said
output_at_end text p is = ap (λ r. replies_of (end_of r).said ++ last_line_at (end_of r).ending (end_of r).said) is

-- with the last line of a text that has its regular end
pub output_regular : (text : List ℕ) (p : Progress) → taken text_start text ≡ Ok p → ending_at p ≡ Regular
    → output_of text ≡ replies_of p.said ++ last_line_of p.said
output_regular text p is regular = output_at_end text p is
    ∙ ap (λ (e : Ending). replies_of p.said ++ last_line_at e p.said) regular

pub run_last : (r0 r1 r2 w0 w1 w2 : Option (List ℕ)) (p : Progress) (out1 out2 : List ℕ) (report : Report)
    → IsRunning r0 r1 w0 w1 p out1 → Consumes r1 r2 [] × IsAtEnd r2 → EndsText p out1 out2 report → Appends w1 w2 out2
    → IfSome r0 (λ text. WritesAnswer text w0 w2 report)
run_last r0 r1 r2 w0 w1 w2 p out1 out2 report running ended ends appends =
    let gathered : out2 ≡ last_line_of p.said = put_alone out1 out2 (last_line_of p.said) running.nothing ends.out in
    where_whole r0 r1 r2 p (λ text. WritesAnswer text w0 w2 report) running.read ended (λ text is. record {
      ends = ends_at text p is ∙ ends.regular;
      written =
          subst (Appends w0 w2) (sym (output_regular text p is ends.regular))
          (Appends-then w0 w1 w2 (replies_of p.said) (last_line_of p.said) running.written
          (subst (Appends w1 w2) gathered appends));
      reported = subst (λ s. Reports s report) (sym (said_at_end text p is)) ends.reported;
    })
