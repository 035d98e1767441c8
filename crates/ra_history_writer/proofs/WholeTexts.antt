-- Lemmas on the whole text that is written: it says the monitor's history.
use Rattle.std.proofs.Common.{◌≡◌, ℕ, ◌<◌, ◌≤◌, Bool, true, false, cond, ltb, List, [], ◌∷◌, ◌++◌, length, map, take, drop, sym, ap, subst, ◌∙◌, arith, inl, inr}
use Rattle.std.specs.Prelude.{bytes_eq, ◌||◌}
use Rattle.std.specs.List.{list_all, list_any, IsDistinct, AllByRecursion}
use Rattle.std.proofs.lemmas.Bool.{cases_Bool, and_parts, ltb-false}
use Rattle.std.proofs.lemmas.List.{length-append, length-take-le, take-append-drop}
use Rattle.std.proofs.lemmas.Map.Keys.{IsDistinct-head, IsDistinct-tail, IsDistinct-cons}
use Rattle.std.proofs.lemmas.List.Folds.{list_all-append}
use Rattle.std.proofs.lemmas.List.Concat.{flat_map-append}
use Rattle.ra_labels.specs.declared.kind.Kind.{Kind}
use Rattle.ra_labels.specs.declared.command.Command.{Command}
use Rattle.ra_labels.specs.Records.{Records, replica_count}
use Rattle.ra_labels.specs.Answer.{records_after_all}
use Rattle.ra_labels.specs.TheoremTerms.{is_join}
use Rattle.ra_monitor.specs.Monitor.{Monitor, MonitorEntry, IsLegalLog, commands_of, records_of}
use Rattle.ra_history_lines.specs.declared.format.Format.{Format}
use Rattle.ra_history_lines.specs.declared.format.Format.TheVariants.{Rah1, Rah2}
use Rattle.ra_history_lines.specs.Grammar.{bytes_of, first_line, is_name, most_names, AreNames, Says}
use Rattle.ra_history_lines.specs.Names.{AreNamesSoFar, AreDistinctNames}
use Rattle.ra_history_writer.specs.Spelling.{line_of, names_line, text_of, AreSmall, AreShort, HaveLines, NameEach}
use Rattle.ra_accepted_commands.specs.Accepted.{is_no, is_accepting_reply, accepted_in}
use Rattle.ra_history_writer.specs.Writing.{SaysHistory, AreAsMany, records_in_order, format_of}
use Rattle.ra_accepted_commands.proofs.TheoremIndex.{accepted_commands_eq_records}
use Rattle.ra_history_writer.proofs.GivenAgain.{reached, given_again, lines_again, count_first, some_first}
use Rattle.ra_history_writer.proofs.Entries.{lines_of, one_at_most}
use Rattle.ra_history_text.proofs.TheoremIndex.{regular_text_iff_lines-only as says_only}
use Rattle.ra_history_writer.proofs.WrittenLines.{written-says}

as_few : (failed : Bool) (log : List MonitorEntry) → length (accepted_in failed log) ≤ length log
as_few failed [] = omega arith
as_few failed (entry ∷ log) =
    let one : List Command = cond (is_accepting_reply failed entry.reply) (entry.command ∷ []) [] in
    omega (
      arith,
      one_at_most entry (is_accepting_reply failed entry.reply),
      as_few (failed || is_no entry.reply) log,
      length-append one (accepted_in (failed || is_no entry.reply) log),
    )

pub in_order : (monitor : Monitor) → IsLegalLog monitor.setup monitor.log
    → accepted_in false monitor.log ≡ records_in_order monitor
in_order monitor legal = accepted_commands_eq_records monitor.setup monitor.log legal

-- ---- the initial names

all_front : (p : List ℕ → Bool) (xs ys : List (List ℕ)) → list_all p (xs ++ ys) ≡ true → list_all p xs ≡ true
all_front p xs ys all = (and_parts (list_all p xs) (list_all p ys) (sym (list_all-append p xs ys) ∙ all)).0

front_of : (P : List ℕ → Type 0) (xs ys : List (List ℕ)) → AllByRecursion P (xs ++ ys) → AllByRecursion P xs
front_of P [] ys all = tt
front_of P (x ∷ xs) ys all = (all.0, front_of P xs ys all.1)

no_names : IsDistinct bytes_eq []
unfolding IsDistinct
no_names = tt

distinct_front : (xs ys : List (List ℕ)) → IsDistinct bytes_eq (xs ++ ys) → IsDistinct bytes_eq xs
distinct_front [] ys distinct = no_names
distinct_front (x ∷ xs) ys distinct =
    IsDistinct-cons bytes_eq x xs
    (front_of (λ y. bytes_eq x y ≡ false) xs ys (IsDistinct-head bytes_eq x (xs ++ ys) distinct))
    (distinct_front xs ys (IsDistinct-tail bytes_eq x (xs ++ ys) distinct))

few_first : (any : Bool) (n : ℕ) → n ≤ 64 → n ≤ most_names (cond (any || ltb 16 n) Rah2 Rah1)
few_first true n few = few
few_first false n few =
    elim (cases_Bool (ltb 16 n)) [
      | inl more ↦ rw more few
      | inr less ↦ rw less (ltb-false 16 n less)
    ]

-- ---- the whole text

text_spelled : (monitor : Monitor) (names : List (List ℕ)) (text : List ℕ) → AreNamesSoFar names → 0 < length names
    → AreAsMany monitor names → length (records_in_order monitor) ≤ 1048576
    → text ≡ bytes_of (first_line (format_of monitor) monitor.setup.kind
    ∷ names_line (take monitor.setup.replicas names) ∷ map (line_of names) (records_in_order monitor))
    → AreShort names (records_in_order monitor) → AllByRecursion AreSmall (records_in_order monitor)
    → Says text (format_of monitor) monitor.setup.kind (take monitor.setup.replicas names)
    (drop monitor.setup.replicas names) (records_in_order monitor)
text_spelled monitor names text so_far some as_many fits whole short small =
    let kind : Kind = monitor.setup.kind in
    let n : ℕ = monitor.setup.replicas in
    let format : Format = format_of monitor in
    let records : Records = records_of monitor.setup monitor.log in
    let commands : List Command = records_in_order monitor in
    let first : List (List ℕ) = take n names in
    let joined : List (List ℕ) = drop n names in
    let accepted = reached kind n (commands_of monitor.log) in
    let grown = count_first n records in
    let all : first ++ joined ≡ names = take-append-drop n names in
    let len : length first ≡ n = length-take-le n names (omega (arith, grown, as_many)) in
    let begun = some_first kind n records accepted (omega (arith, some, as_many)) in
    let newer : list_any is_join records ≡ true → format ≡ Rah2 =
    λ e. ap (λ (b : Bool). cond (b || ltb 16 n) Rah2 Rah1) e in
    let are : AreNames format first = record {
      some = omega (arith, len, begun);
      few = subst (λ (k : ℕ). k ≤ most_names format) (sym len)
          (few_first (list_any is_join records) n (omega (arith, so_far.few, as_many, grown)));
      each = all_front is_name first joined (subst (λ (ns : List (List ℕ)). list_all is_name ns ≡ true) (sym all)
          so_far.each);
      distinct = distinct_front first joined (subst (IsDistinct bytes_eq) (sym all) so_far.distinct);
    } in
    let distinct : AreDistinctNames (first ++ joined) =
    subst AreDistinctNames (sym all) (record { each = so_far.each; distinct = so_far.distinct }) in
    let have : HaveLines format kind (length first) [] commands =
    subst (λ (k : ℕ). HaveLines format kind k [] commands) (sym len)
    (lines_again format kind n records accepted newer) in
    let again : records_after_all kind n [] commands ≡ records = given_again kind n records accepted in
    let named : NameEach kind first joined commands =
    subst (λ (k : ℕ). length (first ++ joined) ≡ replica_count k (records_after_all kind k [] commands)) (sym len)
    (ap length all ∙ as_many ∙ ap (replica_count n) (sym again)) in
    let spelled : text ≡ text_of format kind first joined commands = whole
    ∙ ap (λ (ns : List (List ℕ)). bytes_of (first_line format kind ∷ names_line first ∷ map (line_of ns) commands))
    (sym all) in
    written-says format kind first joined commands text are distinct named have
    (subst (λ (ns : List (List ℕ)). AreShort ns commands) (sym all) short) small fits spelled

pub says_history : (monitor : Monitor) (names : List (List ℕ)) (heads text : List ℕ) → AreNamesSoFar names
    → 0 < length names → AreAsMany monitor names
    → IsLegalLog monitor.setup monitor.log → length monitor.log ≤ 1048576
    → heads ≡ bytes_of (first_line (format_of monitor) monitor.setup.kind
    ∷ names_line (take monitor.setup.replicas names) ∷ [])
    → text ≡ heads ++ lines_of names (accepted_in false monitor.log) → AreShort names (records_in_order monitor)
    → AllByRecursion AreSmall (accepted_in false monitor.log)
    → SaysHistory monitor names text
says_history monitor names heads text so_far some as_many legal fits first last short small =
    let kind : Kind = monitor.setup.kind in
    let n : ℕ = monitor.setup.replicas in
    let format : Format = format_of monitor in
    let commands : List Command = records_in_order monitor in
    let same = in_order monitor legal in
    let front : List (List ℕ) = first_line format kind ∷ names_line (take n names) ∷ [] in
    let whole : text ≡ bytes_of (front ++ map (line_of names) commands) =
    last ∙ ap (λ (bs : List ℕ). bs ++ lines_of names (accepted_in false monitor.log)) first
    ∙ ap (λ (cs : List Command). bytes_of front ++ lines_of names cs) same
    ∙ sym (flat_map-append (λ (line : List ℕ). line ++ 10 ∷ []) front (map (line_of names) commands)) in
    let few : length commands ≤ 1048576 = omega (arith, as_few false monitor.log, fits, ap length same) in
    let spelled = text_spelled monitor names text so_far some as_many few whole short
    (subst (AllByRecursion AreSmall) same small) in
    let only = says_only text format kind (take n names) (drop n names) commands spelled in
    record { ends = only.0; says = only.1 }
