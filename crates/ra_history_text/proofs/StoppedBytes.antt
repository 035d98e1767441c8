-- Lemmas that lead from the end of a text to its lines: the byte at which a text stops, and the lines before it.
use Rattle.std.proofs.Common.{◌≡◌, ◌≢◌, inl, inr, ℕ, ◌<◌, ◌≤◌, Bool, true, false, eqb, List}
use Rattle.std.proofs.Common.{[], ◌∷◌, ◌++◌, length, Option, Some, None, Result, Ok, Err, refl, sym, ap, subst}
use Rattle.std.proofs.Common.{◌∙◌, arith}
use Rattle.std.specs.Prelude.{◌⊎◌, ◌&&◌}
use Rattle.std.specs.List.{AllByRecursion}
use Rattle.std.proofs.lemmas.Bool.{eqb-false}
use Rattle.std.proofs.lemmas.List.{append_assoc, length_push}
use Rattle.std.proofs.lemmas.List.Elements.{All-append}
use Rattle.ra_history_lines.specs.Grammar.{IsLine, bytes_of}
use Rattle.ra_history_text.specs.Text.{Said, Nothing, Ending, Regular, Syntax, Truncated, LineTooLong, Full}
use Rattle.ra_history_text.specs.Text.{Progress, Stop, stop_at, next_line, said_behind, is_full}
use Rattle.ra_history_text.specs.Text.{has_names, text_start, line_taken_as, byte_taken}
use Rattle.ra_history_text.specs.Text.{unless_stopped, taken, ending_at, end_of, ending_of, said_by}
use Rattle.ra_history_text.specs.Endings.{LinesSay, SpellsNothing, SpellsOneTooMany, HasLinesBefore, HasSyntaxFault, IsTruncated}
use Rattle.ra_history_text.specs.Endings.{HasLongLine, HasCommandTooMany}
use Rattle.ra_history_lines.proofs.TheoremIndex.{chosen}
use Rattle.ra_history_text.proofs.TakenBytes.{byte_cases}
use Rattle.ra_history_text.proofs.Texts.{Leads, no_bytes, one_byte}
use Rattle.ra_history_text.proofs.Texts.{line_push, line_in_front, lines_found, taken_as_found}
use Rattle.ra_history_text.proofs.Endings.{say_from_leads, line_behind, lines_are_few, nothing_spelled}
use Rattle.ra_history_text.proofs.Endings.{one_more_spelled}

-- ---- from the end of a text to its lines

-- a stopped text: complete lines, the beginning of the next one, and the byte that stops it
record IsStopped (p : Progress) (bytes : List ℕ) (stop : Stop) : Type 0 where
  pub at : Progress
  pub byte : ℕ
  pub behind : List ℕ
  pub lines : List (List ℕ)
  pub are_lines : AllByRecursion IsLine lines
  pub leads : Leads p.said lines at.said
  pub is_line : IsLine at.partial
  pub parts : p.partial ++ bytes ≡ bytes_of lines ++ (at.partial ++ byte ∷ behind)
  pub stops : byte_taken at byte ≡ Err stop

now_or_later : (r : Result Progress Stop) (f : Progress → Result Progress Stop) (stop : Stop)
    → unless_stopped r f ≡ Err stop → (r ≡ Err stop) ⊎ ((p : Progress) × (r ≡ Ok p) × (f p ≡ Err stop))
now_or_later (Ok p) f stop e = inr (p, refl, e)
now_or_later (Err other) f stop e = inl e

-- what holds after a byte that did not stop the text
byte_passed : (p next : Progress) (byte : ℕ) (bytes : List ℕ) (stop : Stop) → IsLine p.partial
    → byte_taken p byte ≡ Ok next → (IsLine next.partial → IsStopped next bytes stop)
    → IsStopped p (byte ∷ bytes) stop
byte_passed p next byte bytes stop is = byte_cases p byte (λ r. r ≡ Ok next
    → (IsLine next.partial → IsStopped next bytes stop) → IsStopped p (byte ∷ bytes) stop)
    (λ feed e later.
    let made = taken_as_found p.said (said_behind p.said p.partial) next e in
    let rest = later (subst (λ (r : Progress). IsLine r.partial) (sym made.3) no_bytes) in
    let empty : next.partial ≡ [] = ap (λ (r : Progress). r.partial) made.3 in
    let said : next.said ≡ made.0 = ap (λ (r : Progress). r.said) made.3 in
    record {
      at = rest.at;
      byte = rest.byte;
      behind = rest.behind;
      lines = p.partial ∷ rest.lines;
      are_lines = (is, rest.are_lines);
      leads = (made.0, made.1, made.2, subst (λ (s : Said). Leads s rest.lines rest.at.said) said rest.leads);
      is_line = rest.is_line;
      parts = line_in_front p.partial (bytes_of rest.lines) (rest.at.partial ++ rest.byte ∷ rest.behind) bytes byte feed
          (sym (ap (λ (bs : List ℕ). bs ++ bytes) empty) ∙ rest.parts);
      stops = rest.stops;
    })
    (λ other room e later.
    let same : next ≡ record { said = p.said; partial = p.partial ++ byte ∷ [] } = sym (let same = e in cc) in
    let grown : next.partial ≡ p.partial ++ byte ∷ [] = ap (λ (r : Progress). r.partial) same in
    let said : next.said ≡ p.said = ap (λ (r : Progress). r.said) same in
    let rest = later (subst IsLine (sym grown) (line_push p.partial byte is other room)) in
    record {
      at = rest.at;
      byte = rest.byte;
      behind = rest.behind;
      lines = rest.lines;
      are_lines = rest.are_lines;
      leads = subst (λ (s : Said). Leads s rest.lines rest.at.said) said rest.leads;
      is_line = rest.is_line;
      parts = sym (append_assoc p.partial (byte ∷ []) bytes) ∙ sym (ap (λ (bs : List ℕ). bs ++ bytes) grown)
          ∙ rest.parts;
      stops = rest.stops;
    })
    (λ other full e later. absurd cc)

stop_found : (bytes : List ℕ) (p : Progress) (stop : Stop) → IsLine p.partial → taken p bytes ≡ Err stop
    → IsStopped p bytes stop
stop_found [] p stop is e = absurd cc
stop_found (byte ∷ bytes) p stop is e =
    elim (now_or_later (byte_taken p byte) (λ next. taken next bytes) stop e) [
      | inl now ↦ record {
        at = p;
        byte = byte;
        behind = bytes;
        lines = [];
        are_lines = tt;
        leads = refl;
        is_line = is;
        parts = refl;
        stops = now;
      }
      | inr later ↦ byte_passed p later.0 byte bytes stop is later.1
          (λ line. stop_found bytes later.0 stop line later.2)
    ]

-- the reasons for which a byte stops a text
data Reason (at : Progress) (byte : ℕ) (stop : Stop) : Type 0 where
  OfSyntax : byte ≡ 10 → said_behind at.said at.partial ≡ None → stop ≡ stop_at at.said (Syntax (next_line at.said))
      → Reason at byte stop
  OfFull : byte ≡ 10 → (next : Said) → said_behind at.said at.partial ≡ Some next → is_full at.said ≡ true
      → stop ≡ stop_at at.said (Full (next_line at.said)) → Reason at byte stop
  OfLength : byte ≢ 10 → 1048576 ≤ length at.partial → stop ≡ stop_at at.said (LineTooLong (next_line at.said))
      → Reason at byte stop

line_reason : (at : Progress) (byte : ℕ) (stop : Stop) (o : Option Said) → byte ≡ 10
    → said_behind at.said at.partial ≡ o → line_taken_as at.said o ≡ Err stop → Reason at byte stop
line_reason at byte stop None feed is e = OfSyntax feed is (sym (let same = e in cc))
line_reason at byte stop (Some next) feed is e =
    elim (chosen (is_full at.said) _ _ _ e) [
      | inl full ↦ OfFull feed next is full.0 (sym (let same = full.1 in cc))
      | inr room ↦ absurd (let never = room.1 in cc)
    ]

reason_of : (at : Progress) (byte : ℕ) (stop : Stop) → byte_taken at byte ≡ Err stop → Reason at byte stop
reason_of at byte stop = byte_cases at byte (λ r. r ≡ Err stop → Reason at byte stop)
    (λ feed e. line_reason at byte stop (said_behind at.said at.partial) feed refl e)
    (λ other room e. absurd cc)
    (λ other full e. OfLength other full (sym (let same = e in cc)))

-- the number of the line with a fault
abbrev line_with : Ending → ℕ
line_with Regular = 0
line_with (Syntax line) = line
line_with (Truncated line) = line
line_with (LineTooLong line) = line
line_with (Full line) = line

-- the lines before the one at which a text stops
begins_with : (text rest : List ℕ) (lines : List (List ℕ)) (at said : Said) (number : ℕ)
    → AllByRecursion IsLine lines → Leads Nothing lines at → text ≡ bytes_of lines ++ rest → at ≡ said
    → number ≡ next_line at → HasLinesBefore text said number rest
begins_with text rest lines at said number are leads whole same is =
    let say = say_from_leads lines at leads in
    record {
      lines = lines;
      are_lines = are;
      say = subst (LinesSay lines) same say;
      whole = whole;
      numbered = is ∙ line_behind lines at say;
    }

-- the text stops with this ending
record Stops (text : List ℕ) (ending : Ending) (said : Said) : Type 0 where
  pub stop : Stop
  pub is : taken text_start text ≡ Err stop
  pub ends : stop.ending ≡ ending
  pub says : stop.said ≡ said

-- whether a text stops at this fault before its end
abbrev IsStop : Ending → Type 0
IsStop Regular = ⊥
IsStop (Syntax line) = Unit {0}
IsStop (Truncated line) = ⊥
IsStop (LineTooLong line) = Unit {0}
IsStop (Full line) = Unit {0}

no_end_is_stop : (p : Progress) (ending : Ending) → IsStop ending → ending_at p ≡ ending → ⊥
no_end_is_stop p ending is e =
    elim (chosen (has_names p.said && eqb (length p.partial) 0) _ _ _ e) [
      | inl regular ↦ subst IsStop (sym regular.1) is
      | inr early ↦ subst IsStop (sym early.1) is
    ]

stops_from : (text : List ℕ) (ending : Ending) (said : Said) (r : Result Progress Stop) → taken text_start text ≡ r
    → IsStop ending → (end_of r).ending ≡ ending → (end_of r).said ≡ said → Stops text ending said
stops_from text ending said (Ok p) is stop ends says = absurd (no_end_is_stop p ending stop ends)
stops_from text ending said (Err s) is stop ends says = record { stop = s; is = is; ends = ends; says = says }

stops_at : (text : List ℕ) (ending : Ending) (said : Said) → IsStop ending → ending_of text ≡ ending
    → said_by text ≡ said → Stops text ending said
stops_at text ending said is ends says = stops_from text ending said (taken text_start text) refl is ends says

-- the line number and the content of a stop for a reason
same_said : {stop : Stop} {at said : Said} {ending : Ending} → stop ≡ stop_at at ending → stop.said ≡ said → at ≡ said
same_said is says = sym (ap (λ (s : Stop). s.said) is) ∙ says

same_ending : {stop : Stop} {at : Said} {ending other : Ending} → stop ≡ stop_at at ending → stop.ending ≡ other
    → other ≡ ending
same_ending is ends = sym ends ∙ ap (λ (s : Stop). s.ending) is

pub syntax_found : (text : List ℕ) (said : Said) (number : ℕ) → ending_of text ≡ Syntax number → said_by text ≡ said
    → HasSyntaxFault text said number
syntax_found text said number ends says =
    let it = stops_at text (Syntax number) said tt ends says in
    let s = stop_found text text_start it.stop no_bytes it.is in
    elim (reason_of s.at s.byte it.stop s.stops) [
      | OfSyntax feed none is ↦
          let same = same_said is it.says in
          let numbered = ap line_with (same_ending is it.ends) in
          record {
            line = s.at.partial;
            behind = s.behind;
            before = begins_with text (s.at.partial ++ 10 ∷ s.behind) s.lines s.at.said said number s.are_lines s.leads
                (s.parts ∙ ap (λ (b : ℕ). bytes_of s.lines ++ (s.at.partial ++ b ∷ s.behind)) feed) same numbered;
            is_line = s.is_line;
            nothing = subst (λ (a : Said). SpellsNothing a s.at.partial) same
                (nothing_spelled s.at.said s.at.partial none);
          }
      | OfFull feed next some full is ↦
          absurd (let never = same_ending is it.ends in cc)
      | OfLength other long is ↦
          absurd (let never = same_ending is it.ends in cc)
    ]

pub full_found : (text : List ℕ) (said : Said) (number : ℕ) → ending_of text ≡ Full number → said_by text ≡ said
    → HasCommandTooMany text said number
full_found text said number ends says =
    let it = stops_at text (Full number) said tt ends says in
    let s = stop_found text text_start it.stop no_bytes it.is in
    elim (reason_of s.at s.byte it.stop s.stops) [
      | OfSyntax feed none is ↦
          absurd (let never = same_ending is it.ends in cc)
      | OfFull feed next some full is ↦
          let same = same_said is it.says in
          let numbered = ap line_with (same_ending is it.ends) in
          record {
            line = s.at.partial;
            behind = s.behind;
            before = begins_with text (s.at.partial ++ 10 ∷ s.behind) s.lines s.at.said said number s.are_lines s.leads
                (s.parts ∙ ap (λ (b : ℕ). bytes_of s.lines ++ (s.at.partial ++ b ∷ s.behind)) feed) same numbered;
            is_line = s.is_line;
            one_more = subst (λ (a : Said). SpellsOneTooMany a s.at.partial) same
                (one_more_spelled s.at.said next s.at.partial some full);
          }
      | OfLength other long is ↦
          absurd (let never = same_ending is it.ends in cc)
    ]

pub long_found : (text : List ℕ) (said : Said) (number : ℕ) → ending_of text ≡ LineTooLong number → said_by text ≡ said
    → HasLongLine text said number
long_found text said number ends says =
    let it = stops_at text (LineTooLong number) said tt ends says in
    let s = stop_found text text_start it.stop no_bytes it.is in
    elim (reason_of s.at s.byte it.stop s.stops) [
      | OfSyntax feed none is ↦
          absurd (let never = same_ending is it.ends in cc)
      | OfFull feed next some full is ↦
          absurd (let never = same_ending is it.ends in cc)
      | OfLength other long is ↦
          let same = same_said is it.says in
          let numbered = ap line_with (same_ending is it.ends) in
          let short = s.is_line.short in
          record {
            line = s.at.partial ++ s.byte ∷ [];
            behind = s.behind;
            before = begins_with text ((s.at.partial ++ s.byte ∷ []) ++ s.behind) s.lines s.at.said said number
                s.are_lines s.leads
                (s.parts ∙ ap (λ (bs : List ℕ). bytes_of s.lines ++ bs)
                (sym (append_assoc s.at.partial (s.byte ∷ []) s.behind)))
                same numbered;
            one = All-append (λ b. b ≢ 10) s.at.partial (s.byte ∷ []) s.is_line.one (one_byte s.byte other);
            long = omega (arith, length_push s.at.partial s.byte, long, short);
          }
    ]

-- a stop is not the early end of a text
no_stop_is_truncated : (text : List ℕ) (stop : Stop) (number : ℕ) → taken text_start text ≡ Err stop
    → stop.ending ≡ Truncated number → ⊥
no_stop_is_truncated text stop number is ends =
    let s = stop_found text text_start stop no_bytes is in
    elim (reason_of s.at s.byte stop s.stops) [
      | OfSyntax feed none why ↦
          let never = same_ending why ends in cc
      | OfFull feed next some full why ↦
          let never = same_ending why ends in cc
      | OfLength other long why ↦
          let never = same_ending why ends in cc
    ]

why_early : (b : Bool) (rest : List ℕ) → (b && eqb (length rest) 0) ≡ false → (0 < length rest) ⊎ (b ≡ false)
why_early false rest e = inr refl
why_early true rest e = let some = eqb-false (length rest) 0 e in inl (omega (arith, some))

early_found : (p : Progress) (number : ℕ) → ending_at p ≡ Truncated number
    → (number ≡ next_line p.said) × ((0 < length p.partial) ⊎ (has_names p.said ≡ false))
early_found p number e =
    elim (chosen (has_names p.said && eqb (length p.partial) 0) _ _ _ e) [
      | inl regular ↦ absurd (let never = regular.1 in cc)
      | inr early ↦ (sym (ap line_with early.1), why_early (has_names p.said) p.partial early.0)
    ]

early_or_few : (lines : List (List ℕ)) (said : Said) (number : ℕ) (rest : List ℕ) → LinesSay lines said
    → number ≡ next_line said → (0 < length rest) ⊎ (has_names said ≡ false) → (0 < length rest) ⊎ (number ≤ 2)
early_or_few lines said number rest say is (inl some) = inl some
early_or_few lines said number rest say is (inr none) =
    let few = lines_are_few lines said say none in
    let behind = line_behind lines said say in
    inr (omega (arith, is, behind, few))

truncated_from : (text : List ℕ) (said : Said) (number : ℕ) (r : Result Progress Stop) → taken text_start text ≡ r
    → (end_of r).ending ≡ Truncated number → (end_of r).said ≡ said → IsTruncated text said number
truncated_from text said number (Err stop) is ends says = absurd (no_stop_is_truncated text stop number is ends)
truncated_from text said number (Ok p) is ends says =
    let found = lines_found text text_start p no_bytes is in
    let early = early_found p number ends in
    let say = say_from_leads found.lines p.said found.leads in
    record {
      rest = p.partial;
      before = begins_with text p.partial found.lines p.said said number found.are_lines found.leads found.parts says
          early.0;
      is_line = found.is_line;
      early = early_or_few found.lines p.said number p.partial say early.0 early.1;
    }

pub truncated_found : (text : List ℕ) (said : Said) (number : ℕ) → ending_of text ≡ Truncated number
    → said_by text ≡ said → IsTruncated text said number
truncated_found text said number ends says =
    truncated_from text said number (taken text_start text) refl ends says
