-- Lemmas that lead from the lines of a text to its end: each of the four faults, given by lines, is found byte by byte.
use Rattle.std.proofs.Common.{◌≡◌, inl, inr, ℕ, suc, ◌+◌, ◌<◌, ◌≤◌, Bool, true, false, eqb, cond, List}
use Rattle.std.proofs.Common.{[], ◌∷◌, ◌++◌, length, Option, Some, None, Ok, Err, refl, sym, ap, subst}
use Rattle.std.proofs.Common.{◌∙◌, arith}
use Rattle.std.specs.Prelude.{◌⊎◌, ◌&&◌, option_map}
use Rattle.std.proofs.lemmas.Bool.{ne_eqb, eqb-true}
use Rattle.std.proofs.lemmas.List.{append_assoc}
use Rattle.ra_labels.specs.declared.kind.Kind.{Kind}
use Rattle.ra_labels.specs.declared.command.Command.{Command}
use Rattle.ra_labels.specs.Records.{Records}
use Rattle.ra_labels.specs.Answer.{records_after}
use Rattle.ra_history_lines.specs.declared.format.Format.{Format}
use Rattle.ra_history_lines.specs.Grammar.{IsLine, bytes_of, fields_of, names_behind, SpellEach}
use Rattle.ra_history_lines.specs.Reading.{head_read, names_read, command_read}
use Rattle.ra_history_text.specs.Text.{Said, Nothing, OfKind, OfHistory, Ending, Regular, Syntax, Truncated}
use Rattle.ra_history_text.specs.Text.{LineTooLong, Full}
use Rattle.ra_history_text.specs.Text.{Progress, Stop, stop_at, next_line, with_command, of_head, said_behind, is_full}
use Rattle.ra_history_text.specs.Text.{has_names, line_start, text_start, line_taken_as, line_taken}
use Rattle.ra_history_text.specs.Text.{taken, ending_at, end_of, ending_of, said_by}
use Rattle.ra_history_text.specs.Endings.{LinesSay, SpellsNothing, SpellsOneTooMany, HasLinesBefore, HasSyntaxFault, IsTruncated}
use Rattle.ra_history_text.specs.Endings.{HasLongLine, HasCommandTooMany}
use Rattle.ra_history_lines.proofs.TheoremIndex.{command_line_read_iff-found as command_found}
use Rattle.ra_history_lines.proofs.TheoremIndex.{command_line_read_iff-only as command_only}
use Rattle.ra_history_lines.proofs.TheoremIndex.{first_line_read_iff-only as head_only, first_line_read_iff-found as head_found}
use Rattle.ra_history_lines.proofs.TheoremIndex.{names_line_read_iff-found as names_found}
use Rattle.ra_history_lines.proofs.TheoremIndex.{names_line_read_iff-only as names_only, mapped}
use Rattle.ra_history_text.proofs.TakenBytes.{taken_then, stopped_then, taken_part, taken_long}
use Rattle.ra_history_text.proofs.Texts.{Leads, taken_whole, taken_lines, leads_commands}
use Rattle.ra_history_text.proofs.Texts.{commands_found}

-- ---- what lines say, and the progress that they lead to

leads_from_say : (lines : List (List ℕ)) (said : Said) → LinesSay lines said → Leads Nothing lines said
leads_from_say [] Nothing say = refl
leads_from_say [] (OfKind format kind) say = absurd say
leads_from_say [] (OfHistory format kind first joined commands) say = absurd say
leads_from_say (head ∷ []) Nothing say = absurd say
leads_from_say (head ∷ []) (OfKind format kind) say = (
  OfKind format kind,
  ap (λ (l : List ℕ). option_map of_head (head_read l)) say ∙ ap (option_map of_head) (head_only format kind),
  refl,
  refl,
)
leads_from_say (head ∷ []) (OfHistory format kind first joined commands) say = absurd say
leads_from_say (head ∷ second ∷ lines) Nothing say = absurd say
leads_from_say (head ∷ second ∷ lines) (OfKind format kind) say = absurd say
leads_from_say (head ∷ second ∷ lines) (OfHistory format kind first joined commands) say = (
  OfKind format kind,
  ap (λ (l : List ℕ). option_map of_head (head_read l)) say.0 ∙ ap (option_map of_head) (head_only format kind),
  refl,
  (
    OfHistory format kind first [] [],
    ap (option_map (λ ns. OfHistory format kind ns [] [])) (names_only format second first say.1),
    refl,
    leads_commands format kind first [] joined lines [] [] commands refl say.2 (omega (arith, say.3)),
  ),
)

pub say_from_leads : (lines : List (List ℕ)) (said : Said) → Leads Nothing lines said → LinesSay lines said
say_from_leads [] said leads = subst (LinesSay []) leads tt
say_from_leads (head ∷ []) said leads =
    let m = mapped of_head (head_read head) leads.0 leads.1 in
    subst (LinesSay (head ∷ [])) (m.2 ∙ leads.3) (head_found head m.0.0 m.0.1 m.1)
say_from_leads (head ∷ second ∷ lines) said leads =
    let m = mapped of_head (head_read head) leads.0 leads.1 in
    let its : Format = m.0.0 in
    let own : Kind = m.0.1 in
    let next = subst (λ (s : Said). Leads s (second ∷ lines) said) (sym m.2) leads.3 in
    let n = mapped (λ ns. OfHistory its own ns [] []) (names_read its second) next.0 next.1 in
    let more = subst (λ (s : Said). Leads s lines said) (sym n.2) next.3 in
    let found = commands_found its own n.0 [] lines [] [] said refl (omega arith) more in
    subst (LinesSay (head ∷ second ∷ lines)) found.is
    (head_found head its own m.1, names_found its second n.0 n.1, found.spell, omega (arith, found.few))

-- there is one line for each command
as_many_lines : (format : Format) (kind : Kind) (first joined all lines : List (List ℕ)) (records : Records)
    (commands : List Command) → SpellEach format kind first records joined lines commands all
    → length lines ≡ length commands
as_many_lines format kind first joined all [] records [] each = refl
as_many_lines format kind first joined all [] records (c ∷ commands) each = absurd each
as_many_lines format kind first joined all (line ∷ lines) records [] each = absurd each
as_many_lines format kind first joined all (line ∷ lines) records (c ∷ commands) each =
    ap suc (as_many_lines format kind first (names_behind kind (length first) records joined line c) all lines
    (records_after kind (length first) records c) commands each.1)

-- the number of the next line
pub line_behind : (lines : List (List ℕ)) (said : Said) → LinesSay lines said → next_line said ≡ length lines + 1
line_behind [] Nothing say = refl
line_behind [] (OfKind format kind) say = absurd say
line_behind [] (OfHistory format kind first joined commands) say = absurd say
line_behind (head ∷ []) Nothing say = absurd say
line_behind (head ∷ []) (OfKind format kind) say = refl
line_behind (head ∷ []) (OfHistory format kind first joined commands) say = absurd say
line_behind (head ∷ second ∷ lines) Nothing say = absurd say
line_behind (head ∷ second ∷ lines) (OfKind format kind) say = absurd say
line_behind (head ∷ second ∷ lines) (OfHistory format kind first joined commands) say =
    let same = as_many_lines format kind first [] joined lines [] commands say.2 in omega (arith, same)

-- fewer than two lines have no names, and two have them
few_lines : (lines : List (List ℕ)) (said : Said) → LinesSay lines said → length lines + 1 ≤ 2 → has_names said ≡ false
few_lines [] Nothing say few = refl
few_lines [] (OfKind format kind) say few = absurd say
few_lines [] (OfHistory format kind first joined commands) say few = absurd say
few_lines (head ∷ []) Nothing say few = absurd say
few_lines (head ∷ []) (OfKind format kind) say few = refl
few_lines (head ∷ []) (OfHistory format kind first joined commands) say few = absurd say
few_lines (head ∷ second ∷ lines) said say few = absurd (omega (arith, few))

pub lines_are_few : (lines : List (List ℕ)) (said : Said) → LinesSay lines said → has_names said ≡ false
    → length lines + 1 ≤ 2
lines_are_few [] said say none = omega arith
lines_are_few (head ∷ []) said say none = omega arith
lines_are_few (head ∷ second ∷ lines) Nothing say none = absurd say
lines_are_few (head ∷ second ∷ lines) (OfKind format kind) say none = absurd say
lines_are_few (head ∷ second ∷ lines) (OfHistory format kind first joined commands) say none = absurd cc

-- ---- what the next line spells

none_mapped : {X Y : Type 0} (f : X → Y) (o : Option X) → ((x : X) → o ≡ Some x → ⊥) → option_map f o ≡ None
none_mapped f None never = refl
none_mapped f (Some x) never = absurd (never x refl)

nothing_behind : (said : Said) (line : List ℕ) → SpellsNothing said line → said_behind said line ≡ None
nothing_behind Nothing line nothing =
    none_mapped of_head (head_read line) (λ head e. nothing head.0 head.1 (head_found line head.0 head.1 e))
nothing_behind (OfKind format kind) line nothing =
    none_mapped (λ names. OfHistory format kind names [] []) (names_read format line)
    (λ names e. nothing names (names_found format line names e))
nothing_behind (OfHistory format kind first joined commands) line nothing =
    none_mapped (with_command format kind first joined commands line)
    (command_read format kind (first ++ joined) (fields_of line))
    (λ c e. nothing c (command_found format kind (first ++ joined) (fields_of line) c e))

pub nothing_spelled : (said : Said) (line : List ℕ) → said_behind said line ≡ None → SpellsNothing said line
nothing_spelled Nothing line none = λ format kind is.
    let found = ap (λ (l : List ℕ). option_map of_head (head_read l)) is
    ∙ ap (option_map of_head) (head_only format kind) in
    let never = sym found ∙ none in absurd cc
nothing_spelled (OfKind format kind) line none = λ names lists.
    let found = ap (option_map (λ ns. OfHistory format kind ns [] [])) (names_only format line names lists) in
    let never = sym found ∙ none in absurd cc
nothing_spelled (OfHistory format kind first joined commands) line none = λ c spells.
    let found = ap (option_map (with_command format kind first joined commands line))
    (command_only format kind (first ++ joined) (fields_of line) c spells) in
    let never = sym found ∙ none in absurd cc

one_more_taken : (said : Said) (line : List ℕ) → SpellsOneTooMany said line
    → line_taken said line ≡ Err (stop_at said (Full (next_line said)))
one_more_taken Nothing line one = absurd one
one_more_taken (OfKind format kind) line one = absurd one
one_more_taken (OfHistory format kind first joined commands) line one =
    let said : Said = OfHistory format kind first joined commands in
    let c = one.1.0 in
    let next : Said = with_command format kind first joined commands line c in
    let is = ap (option_map (with_command format kind first joined commands line))
    (command_only format kind (first ++ joined) (fields_of line) c one.1.1) in
    let full : is_full said ≡ true = ap (λ (n : ℕ). eqb n 1048576) one.0 in
    ap (line_taken_as said) is
    ∙ ap (λ (b : Bool). cond b (Err (stop_at said (Full (next_line said)))) (Ok (line_start next))) full

pub one_more_spelled : (said next : Said) (line : List ℕ) → said_behind said line ≡ Some next → is_full said ≡ true
    → SpellsOneTooMany said line
one_more_spelled Nothing next line is full = absurd cc
one_more_spelled (OfKind format kind) next line is full = absurd cc
one_more_spelled (OfHistory format kind first joined commands) next line is full =
    let m = mapped (with_command format kind first joined commands line)
    (command_read format kind (first ++ joined) (fields_of line)) next is in (
      eqb-true (length commands) 1048576 full,
      (m.0, command_found format kind (first ++ joined) (fields_of line) m.0 m.1),
    )

-- ---- from lines to the end of a text

-- the complete lines are consumed
lines_taken : (text rest : List ℕ) (said : Said) (number : ℕ) (before : HasLinesBefore text said number rest)
    → taken text_start text ≡ taken (line_start said) rest
lines_taken text rest said number before =
    ap (taken text_start) before.whole
    ∙ taken_then text_start (line_start said) (bytes_of before.lines) rest
    (taken_lines Nothing said before.lines before.are_lines (leads_from_say before.lines said before.say))

-- and so is the next one
next_taken : (text line behind : List ℕ) (said : Said) (number : ℕ)
    (before : HasLinesBefore text said number (line ++ 10 ∷ behind)) (stop : Stop) → IsLine line
    → line_taken said line ≡ Err stop → taken text_start text ≡ Err stop
next_taken text line behind said number before stop is_line stops =
    lines_taken text (line ++ 10 ∷ behind) said number before
    ∙ ap (taken (line_start said)) (sym (append_assoc line (10 ∷ []) behind))
    ∙ stopped_then (line_start said) stop (line ++ 10 ∷ []) behind (taken_whole said line is_line ∙ stops)

number_of : {text rest : List ℕ} {said : Said} {number : ℕ} → HasLinesBefore text said number rest
    → next_line said ≡ number
number_of {text} {rest} {said} {number} before =
    line_behind before.lines said before.say ∙ sym before.numbered

ends_with : (text : List ℕ) (said : Said) (fault : ℕ → Ending) (number : ℕ)
    → taken text_start text ≡ Err (stop_at said (fault (next_line said))) → next_line said ≡ number
    → (ending_of text ≡ fault number) × (said_by text ≡ said)
ends_with text said fault number stops is =
    (ap (λ r. (end_of r).ending) stops ∙ ap fault is, ap (λ r. (end_of r).said) stops)

pub syntax_only : (text : List ℕ) (said : Said) (number : ℕ) → HasSyntaxFault text said number
    → (ending_of text ≡ Syntax number) × (said_by text ≡ said)
syntax_only text said number has = ends_with text said Syntax number
    (next_taken text has.line has.behind said number has.before (stop_at said (Syntax (next_line said))) has.is_line
    (ap (line_taken_as said) (nothing_behind said has.line has.nothing)))
    (number_of has.before)

pub full_only : (text : List ℕ) (said : Said) (number : ℕ) → HasCommandTooMany text said number
    → (ending_of text ≡ Full number) × (said_by text ≡ said)
full_only text said number has = ends_with text said Full number
    (next_taken text has.line has.behind said number has.before (stop_at said (Full (next_line said))) has.is_line
    (one_more_taken said has.line has.one_more))
    (number_of has.before)

pub long_only : (text : List ℕ) (said : Said) (number : ℕ) → HasLongLine text said number
    → (ending_of text ≡ LineTooLong number) × (said_by text ≡ said)
long_only text said number has = ends_with text said LineTooLong number
    (lines_taken text (has.line ++ has.behind) said number has.before
    ∙ stopped_then (line_start said) (stop_at said (LineTooLong (next_line said))) has.line has.behind
    (taken_long (line_start said) has.line has.one (omega (arith, has.long)) (omega (arith, has.long))))
    (number_of has.before)

-- a text that ends early does not have its regular end
is_early : (b : Bool) (rest : List ℕ) → (0 < length rest) ⊎ (b ≡ false) → (b && eqb (length rest) 0) ≡ false
is_early false rest early = refl
is_early true rest (inl some) = ne_eqb (length rest) 0 (λ none. absurd (omega (arith, none, some)))
is_early true rest (inr none) = absurd cc

early_one : (text rest : List ℕ) (said : Said) (number : ℕ) → HasLinesBefore text said number rest
    → (0 < length rest) ⊎ (number ≤ 2) → (0 < length rest) ⊎ (has_names said ≡ false)
early_one text rest said number before (inl some) = inl some
early_one text rest said number before (inr few) =
    inr (few_lines before.lines said before.say (omega (arith, few, before.numbered)))

pub truncated_only : (text : List ℕ) (said : Said) (number : ℕ) → IsTruncated text said number
    → (ending_of text ≡ Truncated number) × (said_by text ≡ said)
truncated_only text said number has =
    let last : Progress = record { said = said; partial = has.rest } in
    let short = has.is_line.short in
    let reached : taken text_start text ≡ Ok last = lines_taken text has.rest said number has.before
    ∙ taken_part (line_start said) has.rest has.is_line.one (omega (arith, short)) in
    let early = is_early (has_names said) has.rest (early_one text has.rest said number has.before has.early) in
    let ends : ending_at last ≡ Truncated (next_line said) =
    ap (λ (b : Bool). cond b Regular (Truncated (next_line said))) early in (
      ap (λ r. (end_of r).ending) reached ∙ ends ∙ ap Truncated (number_of has.before),
      ap (λ r. (end_of r).said) reached,
    )
