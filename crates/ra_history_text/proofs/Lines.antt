-- Lemmas on the effect of a line at each position in a text, in one piece or in parts.
use Rattle.std.proofs.Common.{◌≡◌, ℕ, false, eqb, List, [], ◌++◌, length, Option, Some, None, Ok, Err, refl, sym}
use Rattle.std.proofs.Common.{ap, ◌∙◌, arith, ◌≢◌, inl, inr, Bool, cond, leb, ◌-◌, ◌<◌, ◌≤◌, ◌∷◌, All, Result, IfErr, subst}
use Rattle.std.proofs.lemmas.Bool.{eqb-false, ne_eqb, cases_Bool, leb-true, leb-false}
use Rattle.std.specs.Prelude.{option_map, MatchOption, OnOk}
use Rattle.ra_labels.specs.declared.kind.Kind.{Kind}
use Rattle.ra_labels.specs.declared.command.Command.{Command}
use Rattle.ra_labels.specs.declared.reply.Reply.{Reply}
use Rattle.ra_history_lines.specs.declared.format.Format.{Format}
use Rattle.ra_history_lines.specs.Grammar.{ListsNames, fields_of, joined_by}
use Rattle.ra_history_text.specs.Recording.{Recording, said_of, TakesCommand}
use Rattle.ra_history_lines.specs.Replies.{reply_line}
use Rattle.ra_history_text.specs.Output.{replies_of}
use Rattle.ra_history_lines.specs.Reading.{head_read, command_read}
use Rattle.ra_history_text.specs.Sessions.{AddsReplies, StopsExtending, StopsClosing, TakesMemory, StopsLine}
use Rattle.ra_history_text.specs.Text.{Nothing, OfKind, OfHistory, Syntax, of_head, with_command, line_start, stop_at, line_taken_as}
use Rattle.ra_history_text.specs.Text.{line_taken, Said, Progress, Ending, LineTooLong, Full, next_line, taken}
use Rattle.ra_history_lines.proofs.TheoremIndex.{names_line_read_iff-only as names_read-listed, names_line_read_iff-none as names_read-none}
use Rattle.ra_history_text.proofs.ReplyLines.{replies_push}
use Rattle.std.proofs.lemmas.List.{append-nil}
use Rattle.ra_history_text.specs.Faults.{ending_told, fault_at_line}
use Rattle.ra_history_text.specs.declared.fault.CheckFault.{CheckFault}
use Rattle.ra_history_text.specs.declared.fault.CheckFault.TheVariants.{NoMemory}
use Rattle.ra_history_lines.specs.declared.fault.LineFault.{LineFault}
use Rattle.ra_history_lines.specs.declared.fault.LineFault.TheVariants as line_fault
use Rattle.ra_history_text.proofs.FedPieces.{stop_gathering, stop_gathered}
use Rattle.ra_history_text.proofs.TakenBytes.{taken_line, taken_part, taken_long}

-- ---- the first line

pub first_taken : (line : List ℕ) (head : Format × Kind) → head_read line ≡ Some head
    → line_taken Nothing line ≡ Ok (line_start (OfKind head.0 head.1))
first_taken line head e = ap (λ (o : Option (Format × Kind)). line_taken_as Nothing (option_map of_head o)) e

pub first_stops : (line : List ℕ) → head_read line ≡ None → line_taken Nothing line ≡ Err (stop_at Nothing (Syntax 1))
first_stops line e = ap (λ (o : Option (Format × Kind)). line_taken_as Nothing (option_map of_head o)) e

-- ---- the line of names

-- what a line of names says
abbrev begun : Format → Kind → List (List ℕ) → Said
begun format kind names = OfHistory format kind names [] []

-- ---- a command

-- its reply line is appended to the others
pub command_replied : (old new : Recording) (line : List ℕ) (command : Command) (reply : Reply) (out_old out_new : List ℕ)
    → TakesCommand old new line command reply
    → out_new ≡ out_old ++ reply_line reply → AddsReplies (said_of old) (said_of new) out_old out_new
command_replied old new line command reply out_old out_new takes put = record {
  more = reply_line reply;
  replies =
      ap (λ (h : Recording). replies_of (said_of h)) takes.taken
      ∙ replies_push old.format old.kind old.first old.joined (joined_by reply old.joined line) old.commands command
      ∙ ap (λ (r : Reply). replies_of (said_of old) ++ reply_line r) (sym takes.answered);
  out = put;
}

-- and the line is consumed
pub command_taken : (old new : Recording) (line : List ℕ) (command : Command) (reply : Reply)
    → command_read old.format old.kind (old.first ++ old.joined) (fields_of line) ≡ Some command
    → TakesCommand old new line command reply → line_taken (said_of old) line ≡ Ok (line_start (said_of new))
command_taken old new line command reply read takes =
    let grown : List Command = old.commands ++ command ∷ [] in
    let next : Said = with_command old.format old.kind old.first old.joined old.commands line command in
    let room = ne_eqb (length old.commands) 1048576 (λ full. absurd (omega (arith, full, takes.room))) in
    let said : said_of new ≡ next = ap said_of takes.taken
    ∙ ap (λ (r : Reply). OfHistory old.format old.kind old.first (joined_by r old.joined line) grown) takes.answered in
    ap (λ (o : Option Command). line_taken_as (said_of old)
    (option_map (with_command old.format old.kind old.first old.joined old.commands line) o)) read
    ∙ ap (λ (b : Bool). cond b (Err (stop_at (said_of old) (Full (next_line (said_of old)))))
    (Ok (line_start next))) room
    ∙ ap (λ (s : Said). Ok (line_start s)) (sym said)

-- ---- the start of the history

pub history_begins : (format : Format) (kind : Kind) (line : List ℕ) (names : List (List ℕ)) (history : Recording)
    → ListsNames format line names → history.format ≡ format → history.kind ≡ kind → history.first ≡ names
    → history.joined ≡ [] → history.commands ≡ []
    → line_taken (OfKind format kind) line ≡ Ok (line_start (said_of history))
history_begins format kind line names history lists formats kinds listed none nothing =
    rw (formats, kinds, listed, none, nothing)
    (ap (λ (o : Option (List (List ℕ))). line_taken_as (OfKind format kind) (option_map (begun format kind) o))
    (names_read-listed format line names lists))

pub names_fault : (format : Format) (kind : Kind) (line : List ℕ) (fault : LineFault) (at : CheckFault)
    → at ≡ fault_at_line fault 2
    → (fault ≡ line_fault.Syntax → (names : List (List ℕ)) → ListsNames format line names → ⊥)
    → StopsLine (OfKind format kind) line at
names_fault format kind line line_fault.Syntax at is none =
    rw is (ap (λ (o : Option (List (List ℕ))). line_taken_as (OfKind format kind) (option_map (begun format kind) o))
    (names_read-none format line (none refl)))
names_fault format kind line line_fault.NoMemory at is none = rw is (refl, tt)

-- ---- a part of a line

pub extend_takes : (p q : Progress) (part items : List ℕ) → p ≡ q → items ≡ p.partial ++ part → All (λ b. b ≢ 10) part
    → length part ≤ 1048576 - length p.partial
    → taken q part ≡ Ok (record { said = p.said; partial = items })
extend_takes p q [] items same is none short =
    ap Ok (sym same) ∙ ap (λ (bs : List ℕ). Ok (record { said = p.said; partial = bs }))
    (sym (append-nil p.partial) ∙ sym is)
extend_takes p q (byte ∷ part) items same is none short =
    ap (λ (r : Progress). taken r (byte ∷ part)) (sym same) ∙ taken_part p (byte ∷ part) none (omega (arith, short))
    ∙ ap (λ (bs : List ℕ). Ok (record { said = p.said; partial = bs })) (sym is)

pub extend_stops : (p q : Progress) (part : List ℕ) (n : ℕ) → p ≡ q → n ≡ next_line p.said → All (λ b. b ≢ 10) part
    → 1048576 - length p.partial < length part
    → taken q part ≡ Err (stop_at q.said (LineTooLong n))
extend_stops p q part n same line none long =
    ap (λ (r : Progress). taken r part) (sym same) ∙ taken_long p part none (omega arith) (omega arith)
    ∙ ap (λ (m : ℕ). Err (stop_at p.said (LineTooLong m))) (sym line)
    ∙ ap (λ (r : Progress). Err (stop_at r.said (LineTooLong n))) same

-- ---- a line in one piece

-- consuming the line and its line feed is one step of `line_taken`
whole_line : (p q : Progress) (last : List ℕ) → p ≡ q → p.partial ≡ [] → All (λ b. b ≢ 10) last → length last ≤ 1048576
    → taken q (last ++ 10 ∷ []) ≡ line_taken p.said last
whole_line p q last same nothing none short =
    let none_before : length p.partial ≡ 0 = ap length nothing in
    ap (λ (r : Progress). taken r (last ++ 10 ∷ [])) (sym same)
    ∙ taken_line p (record { said = p.said; partial = p.partial ++ last }) last
    (taken_part p last none (omega (arith, none_before, short)))
    ∙ ap (λ (bs : List ℕ). line_taken p.said (bs ++ last)) nothing

pub close_whole : {T E : Type 0} (r : Result T E) (p q : Progress) (said : Said) (items last : List ℕ) → p ≡ q
    → p.partial ≡ [] → OnOk r (items ≡ p.partial) → All (λ b. b ≢ 10) last → length last ≤ 1048576
    → OnOk r (line_taken p.said last ≡ Ok (line_start said))
    → OnOk r (taken q (last ++ 10 ∷ []) ≡ Ok (record { said = said; partial = items }))
close_whole (Err e) p q said items last same nothing same_partial none short is = tt
close_whole (Ok x) p q said items last same nothing same_partial none short is =
    whole_line p q last same nothing none short ∙ is
    ∙ ap (λ (bs : List ℕ). Ok (record { said = said; partial = bs })) (sym (same_partial ∙ nothing))

stops_whole : (p q : Progress) (last : List ℕ) (fault : CheckFault) (o : Option Ending) → p ≡ q
    → taken q (last ++ 10 ∷ []) ≡ line_taken p.said last
    → MatchOption o ((fault ≡ NoMemory) × TakesMemory p.said last)
    (λ ending. line_taken p.said last ≡ Err (stop_at p.said ending))
    → MatchOption o ((fault ≡ NoMemory) × (q.partial ≡ [] → TakesMemory q.said last))
    (λ ending. taken q (last ++ 10 ∷ []) ≡ Err (stop_at q.said ending))
stops_whole p q last fault None same whole stops =
    (stops.0, λ nothing. subst (λ (r : Progress). TakesMemory r.said last) same stops.1)
stops_whole p q last fault (Some ending) same whole stops = whole ∙ stops
    ∙ ap (λ (r : Progress). Err (stop_at r.said ending)) same

pub close_whole_stops : {T : Type 0} (r : Result T CheckFault) (p q : Progress) (last : List ℕ) → p ≡ q → p.partial ≡ []
    → All (λ b. b ≢ 10) last → length last ≤ 1048576
    → IfErr r (StopsLine p.said last) → IfErr r (StopsClosing q last)
close_whole_stops (Ok x) p q last same nothing none short stops = tt
close_whole_stops (Err fault) p q last same nothing none short stops =
    stops_whole p q last fault (ending_told fault) same (whole_line p q last same nothing none short) stops

-- ---- a line that arrived in parts

pub gathering_stops : (old : Progress) (last : List ℕ) (fault : CheckFault)
    → (old.partial ≡ [] → length last ≤ 1048576 → ⊥) → StopsExtending old last fault → StopsClosing old last fault
gathering_stops old last fault in_parts stops = stop_gathering old last fault (ending_told fault) in_parts stops

-- so the line arrived in parts
pub no_parts : (p q : Progress) (len : ℕ) (empty : Bool) → p ≡ q → len ≡ length p.partial → empty ≡ eqb len 0
    → empty ≡ false → q.partial ≡ [] → ⊥
no_parts p q len empty same is tested some nothing =
    eqb-false len 0 (sym tested ∙ some) (is ∙ ap (λ (r : Progress). length r.partial) same ∙ ap length nothing)

-- if the line arrived in parts, the last part is not all of it
none_alone : (old mid : Progress) (last : List ℕ) → All (λ b. b ≢ 10) last → taken old last ≡ Ok mid
    → (old.partial ≡ [] → length last ≤ 1048576 → ⊥) → old.partial ≡ [] → mid.partial ≡ last
none_alone old mid last none is in_parts nothing =
    elim (cases_Bool (leb (length last) 1048576)) [
      | inl short ↦ absurd (in_parts nothing (leb-true (length last) 1048576 short))
      | inr long ↦
          let none_before : length old.partial ≡ 0 = ap length nothing in
          let above = leb-false (length last) 1048576 long in
          let stops = taken_long old last none (omega (arith, above)) (omega (arith, none_before, above)) in
          absurd (let both = sym is ∙ stops in cc)
    ]

pub gathered_stops : (old mid gathered : Progress) (last line : List ℕ) (fault : CheckFault) → All (λ b. b ≢ 10) last
    → taken old last ≡ Ok mid → mid.said ≡ old.said
    → (old.partial ≡ [] → length last ≤ 1048576 → ⊥) → gathered ≡ mid → line ≡ gathered.partial
    → StopsLine gathered.said line fault → StopsClosing old last fault
gathered_stops old mid gathered last line fault none is said in_parts same whole stops =
    let here : StopsLine mid.said mid.partial fault =
    subst (λ (p : Progress). StopsLine p.said p.partial fault) same
    (subst (λ (bs : List ℕ). StopsLine gathered.said bs fault) whole stops) in
    stop_gathered old mid last fault (ending_told fault) is said (none_alone old mid last none is in_parts) here

pub gathered_takes : (old mid gathered : Progress) (last line items : List ℕ) (said : Said) → taken old last ≡ Ok mid
    → gathered ≡ mid → line ≡ gathered.partial
    → line_taken gathered.said line ≡ Ok (line_start said) → items ≡ []
    → taken old (last ++ 10 ∷ []) ≡ Ok (record { said = said; partial = items })
gathered_takes old mid gathered last line items said is same whole line_is cleared =
    taken_line old mid last is ∙ ap (λ (p : Progress). line_taken p.said p.partial) (sym same)
    ∙ ap (line_taken gathered.said) (sym whole) ∙ line_is
    ∙ ap (λ (bs : List ℕ). Ok (record { said = said; partial = bs })) (sym cleared)
