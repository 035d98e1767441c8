-- Lemmas on the lines that are written for a history: they are the lines of a text that says it.
use Rattle.std.proofs.Common.{◌≡◌, ◌≢◌, ℕ, ◌*◌, ◌≤◌, Bool, true, false, not, eqb, List, [], ◌∷◌, ◌++◌}
use Rattle.std.proofs.Common.{length, map, All, refl, sym, ap, subst, ◌∙◌, arith}
use Rattle.std.specs.Prelude.{codes, is_some, ◌||◌, if◌then◌else◌}
use Rattle.std.specs.List.{list_all, AllByRecursion}
use Rattle.std.proofs.lemmas.Bool.{and_parts, not-true, eqb-false, false≢true}
use Rattle.std.proofs.lemmas.List.Sums.{AllPass-from_list_all}
use Rattle.std.proofs.lemmas.List.{append_assoc, append-nil, length-append, length_push}
use Rattle.ra_labels.specs.declared.kind.Kind.{Kind}
use Rattle.ra_labels.specs.declared.kind.Kind.TheVariants.{Counter}
use Rattle.ra_labels.specs.declared.command.Command.{Command}
use Rattle.ra_labels.specs.declared.command.Command.TheVariants.{Join}
use Rattle.ra_labels.specs.declared.reply.Reply.{Reply}
use Rattle.ra_labels.specs.declared.reply.Reply.TheVariants as reply
use Rattle.ra_labels.specs.Answer.{refusal_of, answer_of, with_accepted, records_after}
use Rattle.ra_labels.specs.Answer.{records_after_all}
use Rattle.ra_labels.specs.Fault.{fault_of}
use Rattle.ra_labels.specs.TheoremTerms.{is_join, ReplyMeaning}
use Rattle.ra_labels.specs.Records.{Records, replica_count}
use Rattle.ra_history_lines.specs.declared.format.Format.{Format}
use Rattle.ra_history_lines.specs.declared.format.Format.TheVariants.{Rah1, Rah2}
use Rattle.ra_history_lines.specs.Grammar.{IsLine, first_line, is_name}
use Rattle.ra_history_lines.specs.Grammar.{most_names, AreNames, ListsNames, Spells, SpellEach, Says}
use Rattle.ra_history_lines.specs.Grammar.{second_of, new_name, joined_by, names_behind}
use Rattle.ra_history_lines.specs.Names.{AreDistinctNames}
use Rattle.ra_theorems.proofs.TheoremIndex.{reply_meaning}
use Rattle.ra_history_lines.proofs.TheoremIndex.{name_bytes}
use Rattle.ra_history_text.proofs.TheoremIndex.{counts_grow}
use Rattle.ra_history_writer.specs.Spelling.{spaced, name_of, line_of, names_line, text_of, AreSmall, IsShort, AreShort, HasLine}
use Rattle.ra_history_writer.specs.Spelling.{HasNewName, IsJoined, HaveLines, NameEach}
use Rattle.ra_history_writer.proofs.SpelledLines.{ArePlain, fields-spaced, one_line, plain_name, plain_word}
use Rattle.ra_history_writer.proofs.SpelledLines.{line_fields, line_cut, line_spells}

-- ---- lines

one_of : (bytes : List ℕ) → list_all (λ b. not (eqb b 10)) bytes ≡ true → All (λ b. b ≢ 10) bytes
one_of bytes all k d below = eqb-false _ 10 (not-true _ (AllPass-from_list_all _ bytes all k d below))

first_is_line : (format : Format) (kind : Kind) → IsLine (first_line format kind)
first_is_line Rah1 Counter = record { one = one_of (first_line Rah1 Counter) refl; short = omega arith }
first_is_line Rah2 Counter = record { one = one_of (first_line Rah2 Counter) refl; short = omega arith }
first_is_line Rah1 kind = record { one = one_of (first_line Rah1 kind) refl; short = omega arith }
first_is_line Rah2 kind = record { one = one_of (first_line Rah2 kind) refl; short = omega arith }

plain_names : (names : List (List ℕ)) → list_all is_name names ≡ true → ArePlain names
plain_names [] each = tt
plain_names (name ∷ names) each =
    let parts = and_parts (is_name name) (list_all is_name names) each in
    (plain_name name parts.0, plain_names names parts.1)

names_length : (names : List (List ℕ)) → list_all is_name names ≡ true → length (spaced names) ≤ 17 * length names
names_length [] each = omega arith
names_length (name ∷ names) each =
    let parts = and_parts (is_name name) (list_all is_name names) each in
    omega (arith, (name_bytes name parts.0).0, names_length names parts.1, length-append name (spaced names))

few_enough : (format : Format) (n : ℕ) → n ≤ most_names format → n ≤ 64
few_enough Rah1 n few = omega (arith, few)
few_enough Rah2 n few = few

second_is_line : (format : Format) (names : List (List ℕ)) → AreNames format names → IsLine (names_line names)
second_is_line format names are = record {
  one = one_line (codes "replicas") names (plain_word (codes "replicas") refl) (plain_names names are.each);
  short = omega (
    arith,
    names_length names are.each,
    few_enough format (length names) are.few,
    length-append (codes "replicas") (spaced names),
  );
}

second_lists : (format : Format) (names : List (List ℕ)) → AreNames format names
    → ListsNames format (names_line names) names
second_lists format names are =
    (are, fields-spaced (codes "replicas") names (plain_word (codes "replicas") refl) (plain_names names are.each))

one_command : (format : Format) (kind : Kind) (names later : List (List ℕ)) (command : Command)
    → AreDistinctNames (names ++ later) → HasLine format kind (length names) command → HasNewName later command
    → AreSmall command → All (λ b. b ≢ 10) (line_of (names ++ later) command)
one_command format kind names later command are has new small =
    let of = line_fields format kind names later command are has new small in
    subst (All (λ b. b ≢ 10)) (sym of.is) (one_line of.first of.fields of.plain of.each)

-- ---- the number of replicas, and which of them have names

-- only a join adds a replica, and an accepted join is recorded
same_count : (n : ℕ) (records : Records) (c : Command) (b : Bool) → is_join c ≡ false
    → replica_count n (if b then records else with_accepted records c) ≡ replica_count n records
same_count n records c true other = refl
same_count n records (Join replica from) false other = absurd cc
same_count n records _ false other = refl

-- any other command leaves the names unchanged
names_stay : (kind : Kind) (n : ℕ) (records : Records) (joined : List (List ℕ)) (line : List ℕ) (c : Command)
    → is_join c ≡ false → names_behind kind n records joined line c ≡ joined
names_stay kind n records joined line c other = by_reply (answer_of kind n records c)
    (reply_meaning kind n records c)
  where
    by_reply : (reply : Reply) → ReplyMeaning kind n records c reply → joined_by reply joined line ≡ joined
    by_reply (reply.Joined replica) says = absurd (false≢true (sym other ∙ ap is_join says.3.1))
    by_reply _ says = refl

-- the records after an accepted join
join_leaves : (kind : Kind) (n : ℕ) (records : Records) (replica from : ℕ)
    → answer_of kind n records (Join replica from) ≡ reply.Joined replica
    → records_after kind n records (Join replica from) ≡ Join replica from ∷ records
join_leaves kind n records replica from joins =
    (subst (ReplyMeaning kind n records (Join replica from)) joins
    (reply_meaning kind n records (Join replica from))).1

no_new_name : (later : List (List ℕ)) (c : Command) → is_join c ≡ false → HasNewName later c
no_new_name later (Join replica from) other = absurd cc
no_new_name later _ other = tt

-- ---- lines of commands

-- a position between two lines of the text: the names of the existing replicas, the later ones, and all
record IsAmong (kind : Kind) (first joined before rest : List (List ℕ)) (records : Records)
    (commands : List Command) : Type 0 where
  all : joined ≡ before ++ rest
  now : length (first ++ before) ≡ replica_count (length first) records
  last : length (first ++ joined) ≡ replica_count (length first) (records_after_all kind
      (length first) records commands)

parted : (first joined before rest : List (List ℕ)) → joined ≡ before ++ rest
    → first ++ joined ≡ (first ++ before) ++ rest
parted first joined before rest all =
    ap (λ (js : List (List ℕ)). first ++ js) all ∙ sym (append_assoc first before rest)

-- the new replica of a join has one of the later names
new_comes : (kind : Kind) (first joined before rest : List (List ℕ)) (records : Records) (c : Command)
    (commands : List Command)
    → IsAmong kind first joined before rest records (c ∷ commands)
    → IsJoined c (answer_of kind (length first) records c) → HasNewName rest c
new_comes kind first joined before rest records (Join replica from) commands among joins =
    let n : ℕ = length first in
    omega (
      arith,
      among.now,
      among.last,
      counts_grow kind n (records_after kind n records (Join replica from)) commands,
      ap (replica_count n) (join_leaves kind n records replica from joins),
      ap length (parted first joined before rest among.all),
      length-append (first ++ before) rest,
    )
new_comes kind first joined before rest records _ commands among joins = tt

-- after a command that is no join
stays : (kind : Kind) (first joined before rest : List (List ℕ)) (records : Records) (c : Command)
    (commands : List Command) → is_join c ≡ false
    → IsAmong kind first joined before rest records (c ∷ commands)
    → IsAmong kind first joined before rest (records_after kind (length first) records c) commands
stays kind first joined before rest records c commands other among =
    let n : ℕ = length first in
    record {
      all = among.all;
      now = among.now
          ∙ sym (same_count n records c (is_some (fault_of kind records) || is_some
          (refusal_of kind n records c)) other);
      last = among.last;
    }

-- and after a join
goes_on : (kind : Kind) (first joined before rest : List (List ℕ)) (name : List ℕ) (records : Records)
    (replica from : ℕ) (commands : List Command)
    → answer_of kind (length first) records (Join replica from) ≡ reply.Joined replica
    → IsAmong kind first joined before (name ∷ rest) records (Join replica from ∷ commands)
    → IsAmong kind first joined (before ++ name ∷ []) rest
    (records_after kind (length first) records (Join replica from)) commands
goes_on kind first joined before rest name records replica from commands joins among =
    let n : ℕ = length first in
    record {
      all = among.all ∙ sym (append_assoc before (name ∷ []) rest);
      now = omega (
        arith,
        among.now,
        ap (replica_count n) (join_leaves kind n records replica from joins),
        length-append first before,
        length-append first (before ++ name ∷ []),
        length_push before name,
      );
      last = among.last;
    }

at_end : (front later : List (List ℕ)) (name : List ℕ) → name_of (front ++ name ∷ later) (length front) ≡ name
at_end [] later name = refl
at_end (own ∷ front) later name = at_end front later name

join_names : (format : Format) (kind : Kind) (first joined before rest : List (List ℕ)) (name : List ℕ)
    (replica from : ℕ)
    → joined ≡ before ++ name ∷ rest → AreDistinctNames (first ++ joined)
    → HasLine format kind (length (first ++ before)) (Join replica from)
    → new_name (line_of (first ++ joined) (Join replica from)) ≡ name
join_names format kind first joined before rest name replica from all are has =
    let parts = parted first joined before (name ∷ rest) all in
    let names : List (List ℕ) = first ++ before in
    let distinct = subst AreDistinctNames parts are in
    let one : List ℕ = name_of (names ++ name ∷ rest) replica in
    let new : new_name (line_of (names ++ name ∷ rest) (Join replica from)) ≡ one =
    ap second_of (line_cut _ (line_fields format kind names (name ∷ rest) (Join replica from) distinct has
    (omega arith) tt)) in
    ap (λ (ns : List (List ℕ)). new_name (line_of ns (Join replica from))) parts ∙ new
    ∙ ap (name_of (names ++ name ∷ rest)) has.1 ∙ at_end names rest name

-- the lines of commands, after those of these records
abbrev AreWritten : Format → Kind → List (List ℕ) → List (List ℕ) → List (List ℕ) → Records → List Command → Type 0
AreWritten format kind first joined before records commands =
    AllByRecursion IsLine (map (line_of (first ++ joined)) commands)
    × SpellEach format kind first records before (map (line_of (first ++ joined)) commands) commands joined

-- one line
record IsWritten (format : Format) (kind : Kind) (first joined before : List (List ℕ)) (c : Command) : Type 0 where
  line : IsLine (line_of (first ++ joined) c)
  says : Spells format kind (first ++ before) (line_of (first ++ joined) c) c

written_now : (format : Format) (kind : Kind) (first joined before rest : List (List ℕ)) (c : Command)
    → joined ≡ before ++ rest → AreDistinctNames (first ++ joined) → HasLine format kind (length (first ++ before)) c
    → HasNewName rest c → IsShort (first ++ joined) c → AreSmall c → IsWritten format kind first joined before c
written_now format kind first joined before rest c all are has new short small =
    let parts = parted first joined before rest all in
    let names = subst AreDistinctNames parts are in
    record {
      line = record {
        one =
            subst (λ (ns : List (List ℕ)). All (λ b. b ≢ 10) (line_of ns c)) (sym parts)
            (one_command format kind (first ++ before) rest c names has new small);
        short = short;
      };
      says = subst (λ (ns : List (List ℕ)). Spells format kind (first ++ before) (line_of ns c) c) (sym parts)
          (line_spells format kind (first ++ before) rest c names has new small);
    }

written_on : (format : Format) (kind : Kind) (first joined before behind : List (List ℕ)) (records : Records)
    (c : Command) (commands : List Command)
    → IsWritten format kind first joined before c
    → names_behind kind (length first) records before (line_of (first ++ joined) c) c ≡ behind
    → AreWritten format kind first joined behind (records_after kind (length first) records c) commands
    → AreWritten format kind first joined before records (c ∷ commands)
written_on format kind first joined before behind records c commands here names later = (
  (here.line, later.0),
  (
    here.says,
    subst
        (λ (js : List (List ℕ)). SpellEach format kind first (records_after kind (length first) records c) js
        (map (line_of (first ++ joined)) commands) commands joined) (sym names) later.1,
  ),
)

none_left : (rest : List (List ℕ)) → length rest ≡ 0 → rest ≡ []
none_left [] e = refl
none_left (name ∷ rest) e = absurd (omega (arith, e))

has_line_now : (format : Format) (kind : Kind) (first joined before rest : List (List ℕ)) (records : Records)
    (c : Command) (commands : List Command) → IsAmong kind first joined before rest records (c ∷ commands)
    → HasLine format kind (replica_count (length first) records) c
    → HasLine format kind (length (first ++ before)) c
has_line_now format kind first joined before rest records c commands among has =
    subst (λ (count : ℕ). HasLine format kind count c) (sym among.now) has

all_written : (format : Format) (kind : Kind) (first joined before rest : List (List ℕ)) (records : Records)
    (commands : List Command)
    → AreDistinctNames (first ++ joined) → IsAmong kind first joined before rest records commands
    → HaveLines format kind (length first) records commands → AreShort (first ++ joined) commands
    → AllByRecursion AreSmall commands → AreWritten format kind first joined before records commands
all_written format kind first joined before rest records [] are among have short small =
    let total = parted first joined before rest among.all in
    let none = none_left rest (omega (
      arith,
      among.now,
      among.last,
      ap length total,
      length-append (first ++ before) rest,
    )) in
    (tt, sym (among.all ∙ ap (λ (ns : List (List ℕ)). before ++ ns) none ∙ append-nil before))
all_written format kind first joined before [] records (Join replica from ∷ commands) are among have short small =
    let new = new_comes kind first joined before [] records (Join replica from) commands among have.1 in
    absurd (omega (arith, new))
all_written format kind first joined before (name ∷ rest) records (Join replica from ∷ commands) are among have short
    small =
    let n : ℕ = length first in
    let c : Command = Join replica from in
    let has = has_line_now format kind first joined before (name ∷ rest) records c commands among have.0 in
    let line : List ℕ = line_of (first ++ joined) c in
    written_on format kind first joined before (before ++ name ∷ []) records c commands
    (written_now format kind first joined before (name ∷ rest) c among.all are has (omega arith) short.0 small.0)
    (ap (λ (answer : Reply). joined_by answer before line) have.1
    ∙ ap (λ (new : List ℕ). before ++ new ∷ [])
    (join_names format kind first joined before rest name replica from among.all are has))
    (all_written format kind first joined (before ++ name ∷ []) rest (records_after kind n records c) commands are
    (goes_on kind first joined before rest name records replica from commands have.1 among) have.2 short.1 small.1)
all_written format kind first joined before rest records (c ∷ commands) are among have short small =
    let n : ℕ = length first in
    let other : is_join c ≡ false = refl in
    let has = has_line_now format kind first joined before rest records c commands among have.0 in
    written_on format kind first joined before before records c commands
    (written_now format kind first joined before rest c among.all are has (no_new_name rest c other) short.0 small.0)
    (names_stay kind n records before (line_of (first ++ joined) c) c other)
    (all_written format kind first joined before rest (records_after kind n records c) commands are
    (stays kind first joined before rest records c commands other among) have.2 short.1 small.1)

-- ---- the whole text

pub written-says : (format : Format) (kind : Kind) (first joined : List (List ℕ)) (commands : List Command)
    (text : List ℕ)
    → AreNames format first → AreDistinctNames (first ++ joined) → NameEach kind first joined commands
    → HaveLines format kind (length first) [] commands → AreShort (first ++ joined) commands
    → AllByRecursion AreSmall commands → length commands ≤ 1048576
    → text ≡ text_of format kind first joined commands → Says text format kind first joined commands
written-says format kind first joined commands text are distinct named have short small few whole =
    let among : IsAmong kind first joined [] joined [] commands =
    record { all = refl; now = ap length (append-nil first); last = named } in
    let written = all_written format kind first joined [] joined [] commands distinct among have short small in
    record {
      second = names_line first;
      lines = map (line_of (first ++ joined)) commands;
      whole = whole;
      are_lines = (first_is_line format kind, (second_is_line format first are, written.0));
      lists = second_lists format first are;
      spell = written.1;
      few = few;
    }
