-- Lemmas on the lines of a log's accepted commands, one after another.
use Rattle.std.proofs.Common.{◌≡◌, ℕ, suc, ◌+◌, ◌<◌, ◌≤◌, Bool, true, false, cond, List, [], ◌∷◌, ◌++◌, length}
use Rattle.std.proofs.Common.{map, drop, get_or, sym, ap, subst, ◌∙◌, arith}
use Rattle.std.specs.Prelude.{◌||◌}
use Rattle.std.specs.List.{AllByRecursion}
use Rattle.std.proofs.lemmas.List.{append_assoc, append-nil, length-append, map-append}
use Rattle.std.proofs.Math.Seq.{drop-cons}
use Rattle.std.proofs.lemmas.List.Concat.{flat_map-append}
use Rattle.ra_labels.specs.declared.command.Command.{Command}
use Rattle.ra_monitor.specs.Monitor.{MonitorEntry}
use Rattle.ra_accepted_commands.specs.Accepted.{is_no, is_accepting_reply, accepted_one, accepted_in}
use Rattle.ra_history_lines.specs.Grammar.{bytes_of}
use Rattle.ra_history_writer.specs.Spelling.{line_of, AreSmall, IsShort, AreShort}
use Rattle.ra_history_writer.specs.Writing.{IsFirstTooLong}
use Rattle.ra_history_writer.proofs.SpelledLines.{each-append}

-- ---- entries

-- the lines of commands as bytes
abbrev pub lines_of : List (List ℕ) → List Command → List ℕ
lines_of names commands = bytes_of (map (line_of names) commands)

lines-append : (names : List (List ℕ)) (xs ys : List Command)
    → lines_of names (xs ++ ys) ≡ lines_of names xs ++ lines_of names ys
lines-append names xs ys =
    ap bytes_of (map-append (line_of names) xs ys)
    ∙ flat_map-append (λ (line : List ℕ). line ++ 10 ∷ []) (map (line_of names) xs) (map (line_of names) ys)

-- these are the accepted commands of the first entries, and these entries remain
pub record IsWalkedUpTo (log rest : List MonitorEntry) (failed : Bool) (done : List Command) : Type 0 where
  pub parts : accepted_in false log ≡ done ++ accepted_in failed rest
  pub bounded : length done + length rest ≤ length log

pub one_at_most : (entry : MonitorEntry) (b : Bool) → length (cond b (entry.command ∷ []) []) ≤ 1
one_at_most entry true = omega arith
one_at_most entry false = omega arith

-- one more entry
walked_next : (log rest more : List MonitorEntry) (entry : MonitorEntry) (failed next : Bool) (done : List Command)
    → IsWalkedUpTo log rest failed done
    → rest ≡ entry ∷ more → next ≡ (failed || is_no entry.reply)
    → IsWalkedUpTo log more next (done ++ accepted_one failed entry)
walked_next log rest more entry failed next done so_far is told =
    let one : List Command = accepted_one failed entry in
    record {
      parts =
          so_far.parts ∙ ap (λ (es : List MonitorEntry). done ++ accepted_in failed es) is
          ∙ sym (append_assoc done one (accepted_in (failed || is_no entry.reply) more))
          ∙ ap (λ (b : Bool). (done ++ one) ++ accepted_in b more) (sym told);
      bounded = omega (
        arith,
        so_far.bounded,
        ap length is,
        one_at_most entry
            (is_accepting_reply failed entry.reply),
        length-append done one,
      );
    }

walked_all : (log rest : List MonitorEntry) (failed : Bool) (done : List Command) → IsWalkedUpTo log rest failed done
    → rest ≡ [] → accepted_in false log ≡ done
walked_all log rest failed done so_far nothing =
    so_far.parts ∙ ap (λ (es : List MonitorEntry). done ++ accepted_in failed es) nothing ∙ append-nil done

-- ---- writing

-- the lines of the accepted commands of the first entries are written, and these entries remain
pub record IsPutUpTo (names : List (List ℕ)) (log rest : List MonitorEntry) (failed : Bool)
    (out_old out : List ℕ) : Type 0 where
  pub done : List Command
  pub walked : IsWalkedUpTo log rest failed done
  pub put : out ≡ out_old ++ lines_of names done
  pub small : AllByRecursion AreSmall done

pub put_next : (names : List (List ℕ)) (log rest more : List MonitorEntry) (entry : MonitorEntry) (failed next : Bool)
    (out_old out out_new : List ℕ)
    → IsPutUpTo names log rest failed out_old out → rest ≡ entry ∷ more
    → out_new ≡ out ++ lines_of names (accepted_one failed entry)
    → AllByRecursion AreSmall (accepted_one failed entry) → next ≡ (failed || is_no entry.reply)
    → IsPutUpTo names log more next out_old out_new
put_next names log rest more entry failed next out_old out out_new so_far is put small told =
    let one : List Command = accepted_one failed entry in
    record {
      done = so_far.done ++ one;
      walked = walked_next log rest more entry failed next so_far.done so_far.walked is told;
      put =
          put ∙ ap (λ (bs : List ℕ). bs ++ lines_of names one) so_far.put
          ∙ append_assoc out_old (lines_of names so_far.done) (lines_of names one)
          ∙ ap (λ (bs : List ℕ). out_old ++ bs) (sym (lines-append names so_far.done one));
      small = each-append AreSmall so_far.done one so_far.small small;
    }

-- ---- measuring

-- the lines of the accepted commands of the first entries are short enough, with the given count, and these entries
-- remain
pub record IsMeasuredUpTo (names : List (List ℕ)) (log rest : List MonitorEntry) (failed : Bool)
    (place : ℕ) : Type 0 where
  pub done : List Command
  pub walked : IsWalkedUpTo log rest failed done
  pub short : AreShort names done
  pub counted : place ≡ length done

-- one more entry
pub measured_next : (names : List (List ℕ)) (log rest more : List MonitorEntry) (entry : MonitorEntry)
    (failed next tells : Bool) (place later : ℕ) → IsMeasuredUpTo names log rest failed place → rest ≡ entry ∷ more
    → is_accepting_reply failed entry.reply ≡ tells → AreShort names (cond tells (entry.command ∷ []) [])
    → later ≡ place + length (cond tells (entry.command ∷ []) []) → next ≡ (failed || is_no entry.reply)
    → IsMeasuredUpTo names log more next later
measured_next names log rest more entry failed next tells place later so_far is accepted short counted told =
    let one : List Command = cond tells (entry.command ∷ []) [] in
    record {
      done = so_far.done ++ one;
      walked = subst (λ (b : Bool). IsWalkedUpTo log more next (so_far.done ++ cond b (entry.command ∷ []) [])) accepted
          (walked_next log rest more entry failed next so_far.done so_far.walked is told);
      short = each-append (IsShort names) so_far.done one so_far.short short;
      counted = omega (arith, counted, so_far.counted, length-append so_far.done one);
    }

-- all entries
pub measured_all : (names : List (List ℕ)) (log rest : List MonitorEntry) (failed : Bool) (place : ℕ)
    → IsMeasuredUpTo names log rest failed place → rest ≡ []
    → AreShort names (accepted_in false log)
measured_all names log rest failed place so_far nothing =
    subst (AreShort names) (sym (walked_all log rest failed so_far.done so_far.walked nothing)) so_far.short

-- the first line that is too long
pub measured_long : (names : List (List ℕ)) (log rest more : List MonitorEntry) (entry : MonitorEntry)
    (failed : Bool) (place : ℕ)
    → IsMeasuredUpTo names log rest failed place → rest ≡ entry ∷ more → is_accepting_reply failed entry.reply ≡ true
    → 1048576 < length (line_of names entry.command)
    → IsFirstTooLong names (accepted_in false log) place
measured_long names log rest more entry failed place so_far is accepted long =
    let one : accepted_one failed entry ≡ entry.command ∷ [] =
    ap (λ (b : Bool). cond b (entry.command ∷ []) []) accepted in
    record {
      before = so_far.done;
      command = entry.command;
      later = accepted_in (failed || is_no entry.reply) more;
      parts =
          so_far.walked.parts ∙ ap (λ (es : List MonitorEntry). so_far.done ++ accepted_in failed es) is
          ∙ ap (λ (cs : List Command). so_far.done ++ (cs ++ accepted_in (failed || is_no entry.reply) more)) one;
      place = so_far.counted;
      short = so_far.short;
      long = long;
    }

-- ---- steps of the loop

pub cut_entry : (log : List MonitorEntry) (i : ℕ) (entry : MonitorEntry) → i < length log → entry ≡ get_or log i entry
    → drop i log ≡ entry ∷ drop (i + 1) log
cut_entry log i entry there is =
    let next : suc i ≡ i + 1 = omega arith in
    drop-cons log i entry there ∙ ap (λ (e : MonitorEntry). e ∷ drop (suc i) log) (sym is)
    ∙ ap (λ (n : ℕ). entry ∷ drop n log) next
