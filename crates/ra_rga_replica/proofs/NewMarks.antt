-- Lemmas on one more label that was not delivered.
use Rattle.std.proofs.Common.{◌≡◌, ℕ, ◌<◌, ◌≤◌, Bool, true, false, List, [], ◌∷◌, ◌++◌, length, Option, Some, None, refl, sym, ap, ◌∙◌, subst, inl, inr, arith}
use Rattle.std.specs.Prelude.{◌==◌, ◌&&◌, ◌||◌, not, Contains}
use Rattle.std.specs.List.{list_any}
use Rattle.std.proofs.lemmas.Bool.{false≢true, cases_lt, ne_eqb, and_right}
use Rattle.std.proofs.lemmas.List.{get_or_append_left, length-append}
use Rattle.ra_labels.specs.declared.kind.Kind.TheVariants.{Rga}
use Rattle.ra_labels.specs.declared.label.Stamp.{Stamp}
use Rattle.ra_labels.specs.declared.label.Label.{Label}
use Rattle.ra_labels.specs.declared.command.Command.TheVariants.{Deliver, Join}
use Rattle.ra_labels.specs.Records.{Records, label_count, labels_of}
use Rattle.ra_labels.specs.HistorySoFar.{NextOperation, operate, label_of}
use Rattle.ra_labels.specs.Visibility.{is_update, is_update_at, has_delivered}
use Rattle.ra_labels.specs.declared.operation.Update.{Update}
use Rattle.ra_labels.specs.Insertion.{updates_passing}
use Rattle.ra_labels.specs.Pending.{is_present_element, removes_element}
use Rattle.ra_labels.proofs.Members.{head_or_behind, behind_head}
use Rattle.ra_theorems.proofs.TheoremIndex.{settled_persists-operation, later_command_preserves_updates_passing-operation}
use Rattle.ra_rga_elements.specs.ElementList.{Arrival}
use Rattle.ra_rga_replica.specs.declared.edit.Edit.{Edit}
use Rattle.ra_rga_replica.specs.PendingLabels.{labels_under}
use Rattle.ra_rga_replica.specs.Edits.{edit_at, element_at, needed_number}
use Rattle.ra_rga_replica.specs.ReplicaList.{is_shown_element, IsListWith, IsGreatestOf}
use Rattle.ra_rga_replica.proofs.NoneTwice.{not_both}
use Rattle.ra_rga_replica.proofs.Edits.{edit_there}
use Rattle.ra_rga_replica.proofs.HadLabels.{not_settled}

or_same : (a b : Bool) → a ≡ false → (a || b) ≡ b
or_same false b is = refl
or_same true b is = absurd (false≢true (sym is))

-- the labels of other replicas, and labels that are no updates, are not delivered
pub had_by_other : (records : Records) (next : NextOperation) (replica : ℕ) → ¬ (next.by ≡ replica) → (n : ℕ)
    → has_delivered records replica n ≡ has_delivered (operate next ∷ records) replica n
had_by_other records next replica other n =
    sym (or_same (next.by == replica && n == label_count records && is_update next.op) (has_delivered records replica n)
    (ap (λ b. b && n == label_count records && is_update next.op) (ne_eqb next.by replica other)))

pub had_no_query : (records : Records) (next : NextOperation) (replica : ℕ) → is_update next.op ≡ false → (n : ℕ)
    → has_delivered records replica n ≡ has_delivered (operate next ∷ records) replica n
had_no_query records next replica query n =
    sym (or_same (next.by == replica && n == label_count records && is_update next.op) (has_delivered records replica n)
    (and_right (next.by == replica && n == label_count records) (is_update next.op) query))

pub had_to_other : (records : Records) (to m replica : ℕ) → ¬ (to ≡ replica) → (n : ℕ)
    → has_delivered records replica n ≡ has_delivered (Deliver to m ∷ records) replica n
had_to_other records to m replica other n =
    sym (or_same (to == replica && n == m && is_update_at records n) (has_delivered records replica n)
    (ap (λ b. b && n == m && is_update_at records n) (ne_eqb to replica other)))

pub had_by_new : (records : Records) (joined from replica : ℕ) → ¬ (joined ≡ replica) → (n : ℕ)
    → has_delivered records replica n ≡ has_delivered (Join joined from ∷ records) replica n
had_by_new records joined from replica other n =
    sym (or_same (joined == replica && has_delivered records from n) (has_delivered records replica n)
    (ap (λ b. b && has_delivered records from n) (ne_eqb joined replica other)))

-- the edits of all labels but the newest
pub older_edit : (edits : List (Option Edit)) (d : Option Edit) (count n : ℕ) (edit : Edit) → length edits ≡ count
    → ¬ (n ≡ count) → edit_at (edits ++ d ∷ []) n ≡ Some edit → edit_at edits n ≡ Some edit
older_edit edits d count n edit counted other is =
    let within = edit_there (edits ++ d ∷ []) n edit is in
    sym (get_or_append_left edits (d ∷ []) None n (omega (arith, within, length-append edits (d ∷ []), counted, other)))
    ∙ is

pub still_edit : (edits : List (Option Edit)) (d : Option Edit) (n : ℕ) (edit : Edit) → edit_at edits n ≡ Some edit
    → edit_at (edits ++ d ∷ []) n ≡ Some edit
still_edit edits d n edit is = get_or_append_left edits (d ∷ []) None n (edit_there edits n edit is) ∙ is

-- an element that is not present is not shown
not_shown : (x : ℕ) (updates : List Update) → is_present_element x updates ≡ false
    → is_shown_element x updates ≡ false
not_shown x updates missing = ap (λ b. b && not (x == 0 || list_any (removes_element x) updates)) missing

-- later elements, none of which is present
pub record AreLonger (arrivals later : List Arrival) (records : Records) (settled : ℕ → Bool) : Type 0 where
  pub same : (number : ℕ) → number < length arrivals → element_at later number ≡ element_at arrivals number
  pub more : length arrivals ≤ length later
  pub fresh : (number : ℕ) → length arrivals ≤ number → number < length later
      → is_present_element (element_at later number) (updates_passing Rga records settled) ≡ false

pub none_longer : (arrivals : List Arrival) (records : Records) (settled : ℕ → Bool)
    → AreLonger arrivals arrivals records settled
none_longer arrivals records settled = record {
  same = λ number known. refl;
  more = omega arith;
  fresh = λ number beyond known. absurd (omega (arith, beyond, known));
}

module _ {shows : ℕ → Bool} {marks : List Bool} {waiting : List (ℕ × List ℕ)} {arrivals : List Arrival}
    {edits : List (Option Edit)} {records : Records} {test settled : ℕ → Bool} where
  pub kept_known : (later : List Arrival) (d : Option Edit) (next : NextOperation)
      → IsListWith shows marks waiting arrivals edits records test settled → test (label_count records) ≡ false
      → length edits ≡ label_count records
      → AreLonger arrivals later (operate next ∷ records) settled
      → ((n : ℕ) (edit : Edit) → edit_at edits n ≡ Some edit → needed_number later edit ≡ needed_number arrivals edit)
      → IsListWith shows marks waiting later (edits ++ d ∷ []) (operate next ∷ records) test settled
  kept_known later d next kept new counted longer needs =
      let now = operate next ∷ records in
      let same = later_command_preserves_updates_passing-operation Rga records next settled
      (not_settled kept (label_count records) new) in
      record {
        settles =
            settled_persists-operation records next test settled new kept.settles;
        shown = record {
          shown = λ number known. elim (cases_lt number (length arrivals)) [
            | inl old ↦
                kept.shown.shown number old ∙ ap (is_shown_element (element_at arrivals number)) (sym same)
                ∙ ap (λ x. is_shown_element x (updates_passing Rga now settled)) (sym (longer.same number old))
            | inr beyond ↦
                kept.shown.others number beyond
                ∙ sym (not_shown (element_at later number) (updates_passing Rga now settled)
                (longer.fresh number beyond known))
          ];
          others = λ number beyond. kept.shown.others number (omega (arith, beyond, longer.more));
        };
        there = record {
          there = λ number known. elim (cases_lt number (length arrivals)) [
            | inl old ↦
                kept.there.there number old ∙ ap (is_present_element (element_at arrivals number)) (sym same)
                ∙ ap (λ x. is_present_element x (updates_passing Rga now settled)) (sym (longer.same number old))
            | inr beyond ↦ kept.there.others number beyond ∙ sym (longer.fresh number beyond known)
          ];
          others = λ number beyond. kept.there.others number (omega (arith, beyond, longer.more));
        };
        waiting_labels = record {
          waits = λ n edit is was_had fails.
              let old = older_edit edits d (label_count records) n edit counted
              (λ it. not_both (test n) (ap test it ∙ new) was_had) is in
              subst (λ (k : ℕ). Contains (labels_under waiting k) n) (sym (needs n edit old))
              (kept.waiting_labels.waits n edit old was_had fails);
          only = λ number n found.
              let (edit, is, is_needed, was_had, waits) = kept.waiting_labels.only number n found in
              (edit, still_edit edits d n edit is, needs n edit is ∙ is_needed, was_had, waits);
          once = kept.waiting_labels.once;
        };
      }

pub greatest_known : {records : Records} {test : ℕ → Bool} {greatest : Stamp} (next : NextOperation)
    → IsGreatestOf records test greatest → test (label_count records) ≡ false
    → IsGreatestOf (operate next ∷ records) test greatest
greatest_known {records = records} {test = test} next top new = record {
  above = λ l t l_in was_had t_is. elim (head_or_behind (label_of records next) (labels_of records) l l_in) [
    | inl here ↦ absurd (not_both (test l.number) (ap (λ (k : Label). test k.number) (sym here) ∙ new) was_had)
    | inr old ↦ top.above l t old was_had t_is
  ];
  own = elim top.own [
    | inl none ↦ inl none
    | inr (l, l_in, was_had, l_is) ↦
        inr (l, behind_head (label_of records next) (labels_of records) l l_in, was_had, l_is)
  ];
}
