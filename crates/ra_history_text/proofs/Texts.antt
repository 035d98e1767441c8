-- Lemmas on the regular end: a text has it exactly if it is the lines of a history.
use Rattle.std.proofs.Common.{◌≡◌, ◌≢◌, inl, inr, ℕ, zero, suc, ◌+◌, ◌<◌, ◌≤◌, Bool, true, false, eqb, cond, List}
use Rattle.std.proofs.Common.{[], ◌∷◌, ◌++◌, length, All, Option, Some, None, Result, Ok, Err, refl, sym, ap, subst}
use Rattle.std.proofs.Common.{◌∙◌, arith}
use Rattle.std.specs.Prelude.{◌&&◌, option_map}
use Rattle.std.specs.List.{AllByRecursion}
use Rattle.std.proofs.lemmas.Bool.{and_parts, ne_eqb, eqb-true, eqb-false}
use Rattle.std.proofs.lemmas.List.{append_assoc, append-nil, length_push, nil_from_length}
use Rattle.std.proofs.lemmas.List.Elements.{All-append}
use Rattle.ra_labels.specs.declared.kind.Kind.{Kind}
use Rattle.ra_labels.specs.declared.command.Command.{Command}
use Rattle.ra_labels.specs.Records.{Records}
use Rattle.ra_labels.specs.Answer.{records_after}
use Rattle.ra_history_lines.specs.declared.format.Format.{Format}
use Rattle.ra_history_lines.specs.Grammar.{IsLine, bytes_of, fields_of, first_line, names_behind, SpellEach, Says}
use Rattle.ra_history_lines.specs.Reading.{head_read, names_read, command_read}
use Rattle.ra_history_text.specs.Text.{Said, Nothing, OfKind, OfHistory, Progress, Stop, Regular, Full, stop_at}
use Rattle.ra_history_text.specs.Text.{next_line, records_in, with_command, of_head, said_behind, is_full, has_names, line_start, text_start}
use Rattle.ra_history_text.specs.Text.{line_taken_as, line_taken, byte_taken, unless_stopped, taken, end_of, ending_of}
use Rattle.ra_history_text.specs.Text.{said_by}
use Rattle.ra_history_lines.proofs.TheoremIndex.{command_line_read_iff-found as command_found}
use Rattle.ra_history_lines.proofs.TheoremIndex.{command_line_read_iff-only as command_only}
use Rattle.ra_history_lines.proofs.TheoremIndex.{first_line_read_iff-only as head_only, first_line_read_iff-found as head_found}
use Rattle.ra_history_lines.proofs.TheoremIndex.{names_line_read_iff-found as names_read-Some}
use Rattle.ra_history_lines.proofs.TheoremIndex.{names_line_read_iff-only as names_read-listed, mapped, chosen}
use Rattle.ra_theorems.proofs.TheoremIndex.{answers_append-records}
use Rattle.ra_history_text.proofs.TakenBytes.{byte_cases, taken_then, taken_line, taken_part}

-- ---- lines, one after another

-- these lines lead from what the earlier lines say to this
abbrev pub Leads : Said → List (List ℕ) → Said → Type 0
Leads said [] last = said ≡ last
Leads said (line ∷ lines) last = (next : Said) × (said_behind said line ≡ Some next) × (is_full said ≡ false)
    × Leads next lines last

-- a line that is consumed
line_is_taken : (said next : Said) (line : List ℕ) → said_behind said line ≡ Some next → is_full said ≡ false
    → line_taken said line ≡ Ok (line_start next)
line_is_taken said next line is room = ap (line_taken_as said) is
    ∙ ap (λ (b : Bool). cond b (Err (stop_at said (Full (next_line said)))) (Ok (line_start next))) room

pub taken_as_found : (said : Said) (o : Option Said) (q : Progress) → line_taken_as said o ≡ Ok q
    → (next : Said) × (o ≡ Some next) × (is_full said ≡ false) × (q ≡ line_start next)
taken_as_found said None q e = absurd cc
taken_as_found said (Some next) q e =
    elim (chosen (is_full said) _ _ _ e) [
      | inl full ↦ absurd (let never = full.1 in cc)
      | inr room ↦ (next, refl, room.0, let same = room.1 in cc)
    ]

-- ---- from lines to bytes

-- a complete line, from its first byte to its line feed
pub taken_whole : (said : Said) (line : List ℕ) → IsLine line
    → taken (line_start said) (line ++ 10 ∷ []) ≡ line_taken said line
taken_whole said line is =
    taken_line (line_start said) (record { said = said; partial = line }) line
    (taken_part (line_start said) line is.one (omega (arith, is.short)))

pub taken_lines : (said last : Said) (lines : List (List ℕ)) → AllByRecursion IsLine lines → Leads said lines last
    → taken (line_start said) (bytes_of lines) ≡ Ok (line_start last)
taken_lines said last [] are leads = ap (λ (s : Said). Ok (line_start s)) leads
taken_lines said last (line ∷ lines) are leads =
    taken_then (line_start said) (line_start leads.0) (line ++ 10 ∷ []) (bytes_of lines)
    (taken_whole said line are.0 ∙ line_is_taken said leads.0 line leads.1 leads.2)
    ∙ taken_lines leads.0 last lines are.1 leads.3

-- the records after one more command
records_more : (kind : Kind) (first : List (List ℕ)) (before : List Command) (c : Command)
    → records_in kind first (before ++ c ∷ []) ≡ records_after kind (length first) (records_in kind first before) c
records_more kind first before c = answers_append-records kind (length first) [] before (c ∷ [])

-- the lines of commands
pub leads_commands : (format : Format) (kind : Kind) (first joined all lines : List (List ℕ)) (records : Records)
    (before commands : List Command)
    → records ≡ records_in kind first before
    → SpellEach format kind first records joined lines commands all
    → length before + length commands ≤ 1048576
    → Leads (OfHistory format kind first joined before) lines (OfHistory format kind first all (before ++ commands))
leads_commands format kind first joined all [] records before [] are each few =
    ap (λ (names : List (List ℕ)). OfHistory format kind first names before) each
    ∙ ap (OfHistory format kind first all) (sym (append-nil before))
leads_commands format kind first joined all [] records before (c ∷ commands) are each few = absurd each
leads_commands format kind first joined all (line ∷ lines) records before [] are each few = absurd each
leads_commands format kind first joined all (line ∷ lines) records before (c ∷ commands) are each few =
    let n : ℕ = length first in
    let next : Said = with_command format kind first joined before line c in
    let here = ap (option_map (with_command format kind first joined before line))
    (command_only format kind (first ++ joined) (fields_of line) c each.0) in
    let room = ne_eqb (length before) 1048576 (λ full. absurd (omega (arith, full, few))) in
    let behind = names_behind kind n records joined line c in
    let same : behind ≡ names_behind kind n (records_in kind first before) joined line c =
    ap (λ (rs : Records). names_behind kind n rs joined line c) are in
    let later = leads_commands format kind first behind all lines (records_after kind n records c) (before ++ c ∷ [])
    commands
    (ap (λ (rs : Records). records_after kind n rs c) are ∙ sym (records_more kind first before c)) each.1
    (omega (arith, length_push before c, few)) in
    let named = subst (λ (names : List (List ℕ)). Leads (OfHistory format kind first names (before ++ c ∷ [])) lines
    (OfHistory format kind first all ((before ++ c ∷ []) ++ commands))) same later in (
      next,
      here,
      room,
      subst (λ (cs : List Command). Leads next lines (OfHistory format kind first all cs))
          (append_assoc before (c ∷ []) commands) named,
    )

leads_text : (text : List ℕ) (format : Format) (kind : Kind) (first joined : List (List ℕ)) (commands : List Command)
    (says : Says text format kind first joined commands)
    → Leads Nothing (first_line format kind ∷ says.second ∷ says.lines) (OfHistory format kind first joined commands)
leads_text text format kind first joined commands says = (
  OfKind format kind,
  ap (option_map of_head) (head_only format kind),
  refl,
  (
    OfHistory format kind first [] [],
    ap (option_map (λ ns. OfHistory format kind ns [] [])) (names_read-listed format says.second first says.lists),
    refl,
    leads_commands format kind first [] joined says.lines [] [] commands refl says.spell (omega (arith, says.few)),
  ),
)

pub taken_text : (text : List ℕ) (format : Format) (kind : Kind) (first joined : List (List ℕ))
    (commands : List Command) → Says text format kind first joined commands
    → taken text_start text ≡ Ok (line_start (OfHistory format kind first joined commands))
taken_text text format kind first joined commands says =
    ap (taken text_start) says.whole
    ∙ taken_lines Nothing (OfHistory format kind first joined commands)
    (first_line format kind ∷ says.second ∷ says.lines) says.are_lines
    (leads_text text format kind first joined commands says)

-- ---- from bytes to lines

-- consumed bytes: complete lines, which lead to the current content, and the beginning of the next line
pub record AreLines (p q : Progress) (bytes : List ℕ) : Type 0 where
  pub lines : List (List ℕ)
  pub are_lines : AllByRecursion IsLine lines
  pub leads : Leads p.said lines q.said
  pub parts : p.partial ++ bytes ≡ bytes_of lines ++ q.partial
  pub is_line : IsLine q.partial

pub no_bytes : IsLine []
no_bytes = record { one = λ k d below. absurd (omega (arith, below)); short = omega arith }

pub one_byte : (byte : ℕ) → byte ≢ 10 → All (λ b. b ≢ 10) (byte ∷ [])
one_byte byte none zero d below = none
one_byte byte none (suc k) d below = absurd (omega (arith, below))

-- a line and its line feed before other lines, with the bytes behind these
pub line_in_front : (line lines behind bytes : List ℕ) (byte : ℕ) → byte ≡ 10 → bytes ≡ lines ++ behind
    → line ++ byte ∷ bytes ≡ ((line ++ 10 ∷ []) ++ lines) ++ behind
line_in_front line lines behind bytes byte feed parts =
    ap (λ (b : ℕ). line ++ b ∷ bytes) feed ∙ ap (λ (bs : List ℕ). line ++ 10 ∷ bs) parts
    ∙ sym (append_assoc line (10 ∷ []) (lines ++ behind)) ∙ sym (append_assoc (line ++ 10 ∷ []) lines behind)

-- the successful steps
pub going_on : (r : Result Progress Stop) (q : Progress) (f : Progress → Result Progress Stop)
    → unless_stopped r f ≡ Ok q → (p : Progress) × (r ≡ Ok p) × (f p ≡ Ok q)
going_on (Ok p) q f e = (p, refl, e)
going_on (Err stop) q f e = absurd cc

pub line_push : (line : List ℕ) (byte : ℕ) → IsLine line → byte ≢ 10 → length line < 1048576 → IsLine (line ++ byte ∷ [])
line_push line byte is none room = record {
  one = All-append (λ b. b ≢ 10) line (byte ∷ []) is.one (one_byte byte none);
  short = omega (arith, length_push line byte, room);
}

byte_found : (p q : Progress) (byte : ℕ) (bytes : List ℕ) → IsLine p.partial
    → unless_stopped (byte_taken p byte) (λ next. taken next bytes) ≡ Ok q
    → ((next : Progress) → IsLine next.partial → taken next bytes ≡ Ok q → AreLines next q bytes)
    → AreLines p q (byte ∷ bytes)
byte_found p q byte bytes is = byte_cases p byte (λ r. unless_stopped r (λ next. taken next bytes) ≡ Ok q
    → ((next : Progress) → IsLine next.partial → taken next bytes ≡ Ok q → AreLines next q bytes)
    → AreLines p q (byte ∷ bytes))
    (λ feed e later.
    let found = going_on (line_taken p.said p.partial) q (λ next. taken next bytes) e in
    let made = taken_as_found p.said (said_behind p.said p.partial) found.0 found.1 in
    let rest = later (line_start made.0) no_bytes (subst (λ (r : Progress). taken r bytes ≡ Ok q) made.3 found.2) in
    record {
      lines = p.partial ∷ rest.lines;
      are_lines = (is, rest.are_lines);
      leads = (made.0, made.1, made.2, rest.leads);
      parts = line_in_front p.partial (bytes_of rest.lines) q.partial bytes byte feed rest.parts;
      is_line = rest.is_line;
    })
    (λ other room e later.
    let next : Progress = record { said = p.said; partial = p.partial ++ byte ∷ [] } in
    let rest = later next (line_push p.partial byte is other room) e in
    record {
      lines = rest.lines;
      are_lines = rest.are_lines;
      leads = rest.leads;
      parts = sym (append_assoc p.partial (byte ∷ []) bytes) ∙ rest.parts;
      is_line = rest.is_line;
    })
    (λ other full e later. absurd cc)

pub lines_found : (bytes : List ℕ) (p q : Progress) → IsLine p.partial → taken p bytes ≡ Ok q → AreLines p q bytes
lines_found [] p q is e =
    let same : p ≡ q = cc in
    record {
      lines = [];
      are_lines = tt;
      leads = ap (λ (r : Progress). r.said) same;
      parts = append-nil p.partial
          ∙ ap (λ (r : Progress). r.partial) same;
      is_line = subst (λ (r : Progress). IsLine r.partial) same is;
    }
lines_found (byte ∷ bytes) p q is e =
    byte_found p q byte bytes is e (λ next line is_taken. lines_found bytes next q line is_taken)

-- ---- from lines to a history

-- the history that lines of commands lead to
pub record AreFound (format : Format) (kind : Kind) (first joined lines : List (List ℕ)) (records : Records)
    (before : List Command) (last : Said) : Type 0 where
  pub commands : List Command
  pub all : List (List ℕ)
  pub is : OfHistory format kind first all (before ++ commands) ≡ last
  pub spell : SpellEach format kind first records joined lines commands all
  pub few : length before + length commands ≤ 1048576

pub commands_found : (format : Format) (kind : Kind) (first joined lines : List (List ℕ)) (records : Records)
    (before : List Command) (last : Said) → records ≡ records_in kind first before → length before ≤ 1048576
    → Leads (OfHistory format kind first joined before) lines last
    → AreFound format kind first joined lines records before last
commands_found format kind first joined [] records before last are few leads = record {
  commands = [];
  all = joined;
  is = ap (OfHistory format kind first joined) (append-nil before) ∙ leads;
  spell = refl;
  few = omega (arith, few);
}
commands_found format kind first joined (line ∷ lines) records before last are few leads =
    let n : ℕ = length first in
    let m = mapped (with_command format kind first joined before line)
    (command_read format kind (first ++ joined) (fields_of line)) leads.0 leads.1 in
    let apart : length before ≢ 1048576 = eqb-false (length before) 1048576 leads.2 in
    let later = subst (λ (s : Said). Leads s lines last) (sym m.2) leads.3 in
    let behind = names_behind kind n records joined line m.0 in
    let same : names_behind kind n (records_in kind first before) joined line m.0 ≡ behind =
    ap (λ (rs : Records). names_behind kind n rs joined line m.0) (sym are) in
    let named = subst (λ (names : List (List ℕ)). Leads (OfHistory format kind first names (before ++ m.0 ∷ [])) lines
    last) same later in
    let rest = commands_found format kind first behind lines (records_after kind n records m.0)
    (before ++ m.0 ∷ []) last
    (ap (λ (rs : Records). records_after kind n rs m.0) are ∙ sym (records_more kind first before m.0))
    (omega (arith, length_push before m.0, few, apart)) named in
    record {
      commands = m.0 ∷ rest.commands;
      all = rest.all;
      is = ap (OfHistory format kind first rest.all) (sym (append_assoc before (m.0 ∷ []) rest.commands)) ∙ rest.is;
      spell = (command_found format kind (first ++ joined) (fields_of line) m.0 m.1, rest.spell);
      few = omega (arith, rest.few, length_push before m.0);
    }

-- the text consists of lines that say this history
abbrev SaysIt : List ℕ → Said → Type 0
SaysIt text (OfHistory format kind first joined commands) = Says text format kind first joined commands
SaysIt text said = ⊥

-- the lines of a whole text
says_from_lines : (text : List ℕ) (lines : List (List ℕ)) (last : Said) → has_names last ≡ true
    → text ≡ bytes_of lines → AllByRecursion IsLine lines → Leads Nothing lines last → SaysIt text last
says_from_lines text [] last named parts are leads = absurd (let never = ap has_names leads ∙ named in cc)
says_from_lines text (head ∷ []) last named parts are leads =
    let m = mapped of_head (head_read head) leads.0 leads.1 in
    absurd (let never = ap has_names (m.2 ∙ leads.3) ∙ named in cc)
says_from_lines text (head ∷ second ∷ lines) last named parts are leads =
    let m = mapped of_head (head_read head) leads.0 leads.1 in
    let its : Format = m.0.0 in
    let own : Kind = m.0.1 in
    let next = subst (λ (s : Said). Leads s (second ∷ lines) last) (sym m.2) leads.3 in
    let n = mapped (λ ns. OfHistory its own ns [] []) (names_read its second) next.0 next.1 in
    let more = subst (λ (s : Said). Leads s lines last) (sym n.2) next.3 in
    let found = commands_found its own n.0 [] lines [] [] last refl (omega arith) more in
    let is_head : head ≡ first_line its own = head_found head its own m.1 in
    subst (SaysIt text) found.is (record {
      second = second;
      lines = lines;
      whole = parts ∙ ap (λ (l : List ℕ). bytes_of (l ∷ second ∷ lines)) is_head;
      are_lines = subst (λ (l : List ℕ). AllByRecursion IsLine (l ∷ second ∷ lines)) is_head are;
      lists = names_read-Some its second n.0 n.1;
      spell = found.spell;
      few = omega (arith, found.few);
    })

-- ---- the regular end

-- a text with the regular end was not stopped, and nothing follows its last line feed
regular_found : (r : Result Progress Stop) → ((stop : Stop) → r ≡ Err stop → stop.ending ≡ Regular → ⊥)
    → (end_of r).ending ≡ Regular
    → (p : Progress) × (r ≡ Ok p) × (has_names p.said ≡ true) × (p.partial ≡ [])
regular_found (Err stop) never e = absurd (never stop refl e)
regular_found (Ok p) never e =
    elim (chosen (has_names p.said && eqb (length p.partial) 0) _ _ _ e) [
      | inl is ↦
          let parts = and_parts (has_names p.said) (eqb (length p.partial) 0) is.0 in
          (p, refl, parts.0, nil_from_length p.partial (eqb-true (length p.partial) 0 parts.1))
      | inr short ↦ absurd (let never = short.1 in cc)
    ]

-- a stop is not the regular end
abbrev IsNoRegular : Result Progress Stop → Type 0
IsNoRegular r = (stop : Stop) → r ≡ Err stop → stop.ending ≡ Regular → ⊥

no_regular_line : (said : Said) (o : Option Said) → IsNoRegular (line_taken_as said o)
no_regular_line said None stop e regular = let same = ap (λ r. (end_of r).ending) e in absurd cc
no_regular_line said (Some next) stop e regular =
    elim (chosen (is_full said) _ _ _ e) [
      | inl full ↦ let same = ap (λ r. (end_of r).ending) full.1 in absurd cc
      | inr room ↦ absurd (let never = room.1 in cc)
    ]

no_regular_byte : (p : Progress) (byte : ℕ) → IsNoRegular (byte_taken p byte)
no_regular_byte p byte = byte_cases p byte IsNoRegular
    (λ feed. no_regular_line p.said (said_behind p.said p.partial))
    (λ other room stop e regular. absurd cc)
    (λ other full stop e regular. let same = ap (λ r. (end_of r).ending) e in absurd cc)

no_regular_behind : (r : Result Progress Stop) (bytes : List ℕ) → IsNoRegular r
    → ((next : Progress) → IsNoRegular (taken next bytes))
    → IsNoRegular (unless_stopped r (λ next. taken next bytes))
no_regular_behind (Ok next) bytes here later = later next
no_regular_behind (Err stop) bytes here later = here

no_regular : (bytes : List ℕ) (p : Progress) → IsNoRegular (taken p bytes)
no_regular [] p = λ stop e regular. absurd cc
no_regular (byte ∷ bytes) p = no_regular_behind (byte_taken p byte) bytes (no_regular_byte p byte)
    (λ next. no_regular bytes next)

pub regular_progress : (text : List ℕ) → ending_of text ≡ Regular
    → (p : Progress) × (taken text_start text ≡ Ok p) × (has_names p.said ≡ true) × (p.partial ≡ [])
regular_progress text e = regular_found (taken text_start text) (no_regular text text_start) e

pub says_found : (text : List ℕ) (format : Format) (kind : Kind) (first joined : List (List ℕ))
    (commands : List Command) → ending_of text ≡ Regular
    → said_by text ≡ OfHistory format kind first joined commands → Says text format kind first joined commands
says_found text format kind first joined commands regular said =
    let at = regular_progress text regular in
    let found = lines_found text text_start at.0 no_bytes at.1 in
    let is : at.0.said ≡ OfHistory format kind first joined commands = sym (ap (λ r. (end_of r).said) at.1) ∙ said in
    let shown = says_from_lines text found.lines at.0.said at.2
    (found.parts ∙ ap (λ (bs : List ℕ). bytes_of found.lines ++ bs) at.3 ∙ append-nil (bytes_of found.lines))
    found.are_lines found.leads in
    subst (SaysIt text) is shown

pub says_only : (text : List ℕ) (format : Format) (kind : Kind) (first joined : List (List ℕ))
    (commands : List Command) → Says text format kind first joined commands
    → (ending_of text ≡ Regular) × (said_by text ≡ OfHistory format kind first joined commands)
says_only text format kind first joined commands says =
    let is = taken_text text format kind first joined commands says in
    (ap (λ r. (end_of r).ending) is, ap (λ r. (end_of r).said) is)

-- such a text says a history
history_of_names : (said : Said) → has_names said ≡ true → (format : Format) × (kind : Kind)
    × (first : List (List ℕ)) × (joined : List (List ℕ)) × (commands : List Command)
    × (said ≡ OfHistory format kind first joined commands)
history_of_names Nothing e = absurd cc
history_of_names (OfKind format kind) e = absurd cc
history_of_names (OfHistory format kind first joined commands) e = (format, kind, first, joined, commands, refl)

pub regular_history : (text : List ℕ) → ending_of text ≡ Regular
    → (format : Format) × (kind : Kind) × (first : List (List ℕ)) × (joined : List (List ℕ))
    × (commands : List Command) × (said_by text ≡ OfHistory format kind first joined commands)
regular_history text regular =
    let at = regular_progress text regular in
    let found = history_of_names at.0.said at.2 in
    (found.0, found.1, found.2, found.3, found.4, ap (λ r. (end_of r).said) at.1 ∙ found.5)
