-- Lemmas on what a monitor's replies tell of its labels: those up to a `yes` have an order, the named one.
use Rattle.std.proofs.Common.{◌≡◌, ℕ, ◌<◌, ◌≤◌, ◌+◌, ◌-◌, true, List, [], ◌∷◌, ◌++◌, Option, Some, None, length, get_or, take, drop, refl, sym, ap, subst, ◌∙◌, append_assoc, inl, inr, arith}
use Rattle.std.specs.Prelude.{slice_get, ◌==◌}
use Rattle.std.proofs.lemmas.Bool.{cases_lt, cond-false, ne_eqb, false≢true}
use Rattle.std.proofs.lemmas.Option.{slice_get_within, get_or_from_slice_get}
use Rattle.std.proofs.lemmas.List.{take_all, take_more, take-append-drop}
use Rattle.ra_labels.specs.declared.kind.Kind.{Kind}
use Rattle.ra_labels.specs.declared.reply.Fault.{Fault}
use Rattle.ra_labels.specs.declared.reply.Reply.{Reply}
use Rattle.ra_labels.specs.Records.{Records, label_count}
use Rattle.ra_labels.specs.HistorySoFar.{History}
use Rattle.ra_theorems.proofs.TheoremIndex.{fault_none_implies_holds}
use Rattle.ra_some_order.specs.SomeOrder.{SomeOrderExplains}
use Rattle.ra_some_order.proofs.TheoremIndex.{updates_stay_explained-holds}
use Rattle.ra_monitor.specs.Replies.{is_yes}
use Rattle.ra_monitor.specs.declared.setup.Setup.{Setup}
use Rattle.ra_monitor.specs.Monitor.{MonitorEntry, fault_in, records_of, commands_of, IsLegalLog, IsNoAtFault}
use Rattle.ra_monitor.proofs.LogTheorems.{no_is_at_fault}
use Rattle.ra_theorems.specs.AnyOrder.{NoneLinearizes}
use Rattle.ra_reported.specs.Reported.{reported_in, IsPlaceOf}
use Rattle.ra_reported.proofs.Records.{all_reported}
use Rattle.ra_another_order.specs.Answers.{exists, IsAnswer}
use Rattle.ra_another_order.specs.declared.answer.Answer.{Answer}
use Rattle.ra_another_order.specs.declared.answer.Answer.TheVariants.{Exists, NoneExists}
use Rattle.ra_another_order.specs.Extent.{records_at, end_in, IsExplained, HasExtent}
use Rattle.ra_another_order.proofs.Extents.{fewer, fewer_before, labels_to}

-- no fault is there at a yes
no_fault : (setup : Setup) (log : List MonitorEntry) (reply : Reply) (fault : Option Fault) → fault_in setup log ≡ fault
    → IsNoAtFault setup log reply → is_yes reply ≡ true → fault_in setup log ≡ None
no_fault setup log reply None is at said = is
no_fault setup log reply (Some fault) is at said =
    absurd (false≢true (sym (ap is_yes ((at fault.label fault.cause).1 is)) ∙ said))

module _ (setup : Setup) (log : List MonitorEntry) (legal : IsLegalLog setup log) where
  -- some order explains the labels up to a yes
  pub yes_explains : (place : ℕ) (entry : MonitorEntry) → slice_get log place ≡ Some entry → is_yes entry.reply ≡ true
      → SomeOrderExplains setup.kind (records_at setup.kind setup.replicas log (place + 1))
  yes_explains place entry there said =
      let within : place < length log = slice_get_within log place entry there in
      let here : get_or log place entry ≡ entry = get_or_from_slice_get log place entry entry there in
      let first : take (place + 1) log ≡ take place log ++ entry ∷ [] =
      take_more log place entry within ∙ ap (λ e. take place log ++ e ∷ []) here in
      let split : log ≡ take place log ++ entry ∷ drop (place + 1) log =
      sym (take-append-drop (place + 1) log) ∙ ap (λ l. l ++ drop (place + 1) log) first
      ∙ append_assoc (take place log) (entry ∷ []) (drop (place + 1) log) in
      let at = no_is_at_fault setup (take place log) (drop (place + 1) log) entry (subst (IsLegalLog setup) split legal) in
      let upto = take place log ++ entry ∷ [] in
      let none : fault_in setup upto ≡ None =
      no_fault setup upto entry.reply (fault_in setup upto) refl at said in
      let same : records_at setup.kind setup.replicas log (place + 1) ≡ records_of setup upto =
      ap (λ l. (reported_in setup.kind setup.replicas l).records) first
      ∙ ap (λ (h : History). h.records) (all_reported setup.kind setup.replicas [] (commands_of upto) none) in
      subst (SomeOrderExplains setup.kind) (sym same)
      (updates_stay_explained-holds setup.kind (records_of setup upto)
      (fault_none_implies_holds setup.kind (records_of setup upto) none))

-- the answer tells whether some order explains the records
pub explained_as : (kind : Kind) (records : Records) (answer : Answer) → IsAnswer kind records answer
    → IsExplained kind records (exists answer)
explained_as kind records (Exists order) (each, (sequence, linearizes, order_is)) = (sequence, linearizes)
explained_as kind records (NoneExists reason) is = is.1

module _ (kind : Kind) (replicas : ℕ) (log : List MonitorEntry) (places : List ℕ)
    (count : length places ≡ label_count (reported_in kind replicas log).records)
    (are : (n place : ℕ) → slice_get places n ≡ Some place → IsPlaceOf kind replicas log n place)
    (end : ℕ) (past : length log ≤ end) where
  abbrev whole : Records
  whole = (reported_in kind replicas log).records

  all_at : (k : ℕ) → length log ≤ k → records_at kind replicas log k ≡ whole
  all_at k over = ap (λ entries. (reported_in kind replicas entries).records) (take_all k log over)

  -- some order explains all labels
  pub explained_all : (labels : ℕ) → labels ≡ length places
      → SomeOrderExplains kind (records_at kind replicas log end)
      → HasExtent kind replicas log (record { explained = labels; stop = None })
  explained_all labels is some = record {
    extent = record {
      some = (end, ap label_count (all_at end past) ∙ sym (is ∙ count), some);
      none = λ k more. let less = fewer kind replicas log k in absurd (omega (arith, less, more, is, count));
    };
    stop = sym (is ∙ count);
  }

  -- none explains all labels, and one all but the last, which is that of the last entry
  pub explained_but_last : (before place : ℕ) → before + 1 ≡ length places → slice_get places before ≡ Some place
      → place + 1 ≡ length log → SomeOrderExplains kind (records_at kind replicas log (end_in places before))
      → NoneLinearizes kind (records_at kind replicas log end)
      → HasExtent kind replicas log (record { explained = before; stop = Some place })
  explained_but_last before place last there ends some none = record {
    extent = record {
      some = (end_in places before, labels_to kind replicas log places count are before (omega (arith, last)), some);
      none = λ k more. elim (cases_lt place k) [
        | inl behind ↦
            subst (NoneLinearizes kind)
            (all_at end past ∙ sym (all_at k (omega (arith, behind, ends)))) none
        | inr within ↦
            let less = fewer_before kind replicas log k place (omega (arith, within)) in
            let known = (are before place there).before in
            absurd (omega (arith, less, more, known))
      ];
    };
    stop = are before place there;
  }

-- the end behind the label before this one, by its place
pub end_behind_place : (places : List ℕ) (label place : ℕ) → ¬ (label ≡ 0)
    → slice_get places (label - 1) ≡ Some place → end_in places label ≡ place + 1
end_behind_place places label place some at =
    cond-false (label == 0) 0 (get_or places (label - 1) 0 + 1) (ne_eqb label 0 some)
    ∙ ap (λ n. n + 1) (get_or_from_slice_get places (label - 1) place 0 at)
