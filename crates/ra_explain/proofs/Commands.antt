-- Lemmas on the command of a label: it stands at the label's position in the log.
use Rattle.std.proofs.Common.{◌≡◌, ℕ, zero, suc, ◌+◌, ◌<◌, ◌≤◌, Bool, true, false, cond, List, [], ◌∷◌, ◌++◌, length, filter, reverse, Option, Some, refl, sym, ap, ◌∙◌, subst, arith}
use Rattle.std.specs.Prelude.{◌&&◌, ◌||◌, option_map}
use Rattle.std.specs.List.{slice_get, AllByRecursion}
use Rattle.std.proofs.lemmas.List.{append_assoc, append-nil, length-append, reverse-append}
use Rattle.std.proofs.lemmas.List.Elements.{filter-append}
use Rattle.std.proofs.lemmas.Bool.{cond-false}
use Rattle.ra_labels.specs.declared.label.Label.{Label}
use Rattle.ra_labels.specs.declared.command.Command.{Command}
use Rattle.ra_labels.specs.declared.command.Command.TheVariants.{Operate}
use Rattle.ra_labels.specs.Records.{Records, label_count, labels_of}
use Rattle.ra_labels.specs.HistorySoFar.{NextOperation, next_operation, operate}
use Rattle.ra_monitor.specs.declared.setup.Setup.{Setup}
use Rattle.ra_monitor.specs.Monitor.{MonitorEntry, records_of, IsLegalLog}
use Rattle.ra_accepted_commands.specs.Accepted.{is_no, is_accepting_reply, accepted_in}
use Rattle.ra_accepted_commands.proofs.TheoremIndex.{accepted_commands_eq_records}
use Rattle.ra_explain.specs.Places.{is_operation, places_from, places_in, command_at}

-- ---- the positions select the operations among the accepted commands

found_one : (whole : List MonitorEntry) (at : ℕ) (rest : List ℕ) (entry : MonitorEntry) (later : List Command)
    (acts tells : Bool) → is_operation entry.command ≡ acts → slice_get whole at ≡ Some entry
    → ((n : ℕ) → command_at whole rest n ≡ slice_get (filter is_operation later) n) → (n : ℕ)
    → command_at whole (cond (acts && tells) (at ∷ []) [] ++ rest) n
    ≡ slice_get (filter is_operation (cond tells (entry.command ∷ []) [] ++ later)) n
found_one whole at rest entry later true true is there found zero =
    rw is (ap (option_map (λ (e : MonitorEntry). e.command)) there)
found_one whole at rest entry later true true is there found (suc n) = rw is (found n)
found_one whole at rest entry later false true is there found n = rw is (found n)
found_one whole at rest entry later true false is there found n = found n
found_one whole at rest entry later false false is there found n = found n

operations_found : (whole : List MonitorEntry) (failed : Bool) (at : ℕ) (log : List MonitorEntry)
    → ((i : ℕ) → slice_get whole (at + i) ≡ slice_get log i) → (n : ℕ)
    → command_at whole (places_from failed at log) n ≡ slice_get (filter is_operation (accepted_in failed log)) n
operations_found whole failed at [] same n = refl
operations_found whole failed at (entry ∷ log) same n =
    let here : at + 0 ≡ at = omega arith in
    let next = failed || is_no entry.reply in
    found_one whole at (places_from next (at + 1) log) entry (accepted_in next log) (is_operation entry.command)
    (is_accepting_reply failed entry.reply) refl (subst (λ k. slice_get whole k ≡ Some entry) here (same 0))
    (operations_found whole next (at + 1) log (λ i.
    let behind : at + suc i ≡ at + 1 + i = omega arith in
    subst (λ k. slice_get whole k ≡ slice_get log i) behind (same (suc i)))) n

-- ---- and these are the labels

-- the operation at the label's number is the label's operation
abbrev pub StandsIn : List Command → Label → Type 0
StandsIn operations label =
    (clock : Option ℕ) × (slice_get operations label.number ≡ Some (Operate label.replica label.op clock))

-- the label's operation is among these, at a number below their count
pub record IsAmong (operations : List Command) (count : ℕ) (label : Label) : Type 0 where
  pub stands : StandsIn operations label
  pub below : label.number < count

seam : (before : List Command) (c : Command) (behind : List Command)
    → slice_get (before ++ c ∷ behind) (length before) ≡ Some c
seam [] c behind = refl
seam (b ∷ before) c behind = seam before c behind

abbrev pub operations_in : Records → List Command
operations_in records = filter is_operation (reverse records)

one_more : (c : Command) (records : Records)
    → operations_in (c ∷ records) ≡ operations_in records ++ filter is_operation (c ∷ [])
one_more c records =
    ap (filter is_operation) (reverse-append (c ∷ []) records) ∙ filter-append is_operation (reverse records) (c ∷ [])

none_more : (c : Command) (records : Records) (more : List Command) → is_operation c ≡ false
    → operations_in (c ∷ records) ++ more ≡ operations_in records ++ more
none_more c records more is =
    ap (λ (cs : List Command). cs ++ more)
    (one_more c records
    ∙ ap (λ (cs : List Command). operations_in records ++ cs) (cond-false (is_operation c) (c ∷ []) [] is)
    ∙ append-nil (operations_in records))

operations_counted : (records : Records) → length (operations_in records) ≡ label_count records
operations_counted [] = refl
operations_counted (Operate by op clock ∷ before) =
    let longer = ap length (one_more (Operate by op clock) before) in
    let both = length-append (operations_in before) (Operate by op clock ∷ []) in
    let same = operations_counted before in
    omega (arith, longer, both, same)
operations_counted (c ∷ before) =
    ap length (sym (append-nil (operations_in (c ∷ before))) ∙ none_more c before [] refl
    ∙ append-nil (operations_in before)) ∙ operations_counted before

-- the newest operation stands at its number
pub newest_stands : (before : Records) (last : NextOperation) (more : List Command)
    → slice_get (operations_in (operate last ∷ before) ++ more) (label_count before) ≡ Some (operate last)
newest_stands before last more =
    let c = operate last in
    ap (λ (cs : List Command). slice_get (cs ++ more) (label_count before)) (one_more c before)
    ∙ ap (λ (cs : List Command). slice_get cs (label_count before)) (append_assoc (operations_in before) (c ∷ []) more)
    ∙ ap (slice_get (operations_in before ++ c ∷ more)) (sym (operations_counted before))
    ∙ seam (operations_in before) c more

pub labels_stand : (before : Records) (more : List Command) (count : ℕ) → label_count before ≤ count
    → AllByRecursion (IsAmong (operations_in before ++ more) count) (labels_of before)
labels_stand [] more count few = tt
labels_stand (Operate by op clock ∷ before) more count few =
    let c = Operate by op clock in
    let same : operations_in (c ∷ before) ++ more ≡ operations_in before ++ c ∷ more =
    ap (λ (cs : List Command). cs ++ more) (one_more c before) ∙ append_assoc (operations_in before) (c ∷ []) more in (
      record { stands = (clock, newest_stands before (next_operation by op clock) more); below = omega (arith, few) },
      subst (λ (cs : List Command). AllByRecursion (IsAmong cs count) (labels_of before)) (sym same)
          (labels_stand before (c ∷ more) count (omega (arith, few))),
    )
labels_stand (c ∷ before) more count few =
    subst (λ (cs : List Command). AllByRecursion (IsAmong cs count) (labels_of before))
    (sym (none_more c before more refl)) (labels_stand before more count few)

-- in a legal log, the command of a label is the operation at its number
pub command_found : (setup : Setup) (log : List MonitorEntry) → IsLegalLog setup log → (n : ℕ)
    → command_at log (places_in log) n ≡ slice_get (operations_in (records_of setup log)) n
command_found setup log legal n =
    operations_found log false 0 log (λ i. let same : 0 + i ≡ i = omega arith in ap (slice_get log) same) n
    ∙ ap (λ (cs : List Command). slice_get (filter is_operation cs) n)
    (accepted_commands_eq_records setup log legal)
