-- Lemmas on the conditions of reads, label by label.
use Rattle.std.proofs.Common.{◌≡◌, ℕ, ◌+◌, ◌<◌, List, [], ◌∷◌, ◌++◌, Option, Some, None, length, get_or, sym, ap, subst, ◌∙◌, inl, inr, arith}
use Rattle.std.specs.Prelude.{Contains, slice_get, option_map, option_and_then}
use Rattle.std.proofs.lemmas.Bool.{cases_eq}
use Rattle.std.proofs.lemmas.Option.{none-some, same_Some}
use Rattle.std.proofs.lemmas.List.Elements.{Contains-get_or}
use Rattle.ra_labels.specs.declared.operation.Op.{Op}
use Rattle.ra_labels.specs.declared.operation.Op.TheVariants as op
use Rattle.ra_labels.specs.Records.{Records, label_count}
use Rattle.ra_labels.specs.Visibility.{sees}
use Rattle.ra_labels.proofs.Members.{head_or_behind, none_there}
use Rattle.ra_precedence.specs.Conditions.{Condition}
use Rattle.ra_rga_forks.specs.Forks.{IsFork, IsUnder}
use Rattle.ra_rga_conditions.specs.Precedence.{HasOperationAt, ListsTogether, updates_seen}
use Rattle.ra_rga_conditions.specs.Plain.{IsPossibleRead}
use Rattle.ra_labels.specs.HistorySoFar.{History}
use Rattle.ra_visibility.specs.Seen.{Seen, is_in}
use Rattle.ra_visibility.specs.Tracked.{Tracked, labels_in, seen_in}
use Rattle.ra_rga_precedence.specs.Situation.{IsHistoryOf}
use Rattle.ra_rga_precedence.specs.Operations.{list_read, list_at}
use Rattle.ra_rga_precedence.specs.declared.reads.ReadFault.{ReadFault}
use Rattle.ra_rga_precedence.specs.declared.reads.ReadFault.TheVariants.{Open, Wrong, Unlisted, Below}
use Rattle.ra_rga_precedence.specs.UpdateConditions.{AreBelow, NameBelow}
use Rattle.ra_rga_precedence.specs.Neighbors.{edge, AreEdges}
use Rattle.ra_rga_precedence.specs.Reads.{AreInsertions, IsChecked}
use Rattle.ra_rga_precedence.specs.Answers.{refutation_of, IsStep}
use Rattle.ra_rga_precedence.proofs.ConditionLists.{AreListed}
use Rattle.ra_rga_precedence.proofs.Translations.{listed_at, at_listed}
use Rattle.ra_rga_precedence.proofs.NeededLabels.{needed_below, shown_below}
use Rattle.ra_rga_precedence.proofs.TreeWays.{low_end}
use Rattle.ra_rga_precedence.proofs.ReadFaults.{open_fault, wrong_fault, unlisted_fault, below_fault}
use Rattle.ra_rga_precedence.proofs.ReadDemands.{possible, edge_read, demanded_edge}

-- an operation that is a read
read_from : (o : Option Op) (list : List ℕ) → option_and_then list_read o ≡ Some list → o ≡ Some (op.RgaRead list)
read_from None list is = absurd (none-some list is)
read_from (Some operation) list is = one operation is
  where
    one : (operation : Op) → list_read operation ≡ Some list
        → ◌≡◌ {A = Option Op} (Some operation) (Some (op.RgaRead list))
    one (op.RgaRead other) is = ap (λ l. Some (op.RgaRead l)) (same_Some other list is)
    one _ is = absurd (none-some list is)

-- a label that is no read changes nothing
pub step_other : (records : Records) (operations : List Op) → AreListed records operations → (n : ℕ)
    → ((list : List ℕ) → ¬ (slice_get operations n ≡ Some (op.RgaRead list))) → (conditions : List Condition)
    → IsStep records n conditions conditions None
step_other records operations listed n no_read conditions before are =
    let other = λ (k : ℕ) (list : List ℕ) (has : HasOperationAt records k (op.RgaRead list)) (same : k ≡ n).
    no_read list (listed_at records operations listed n (op.RgaRead list)
    (subst (λ j. HasOperationAt records j (op.RgaRead list)) same has)) in
    record {
      kept = are.kept;
      only = are.only;
      possible =
          λ k list below has. elim (cases_eq k n) [
            | inl same ↦ absurd (other k list has same)
            | inr differs ↦ are.possible k list (omega (arith, below, differs)) has
          ];
      each =
          λ k l its below. elim (cases_eq its.read n) [
            | inl same ↦
                let (first, second, has) = its.listed in
                absurd (other its.read (first ++ its.first ∷ its.second ∷ second) has same)
            | inr differs ↦ are.each k l its (omega (arith, below, differs))
          ];
    }

module _ (records : Records) (operations : List Op) (listed : AreListed records operations) (inserter : ℕ → Option ℕ)
    (needed : List (Option ℕ)) (ranks : List ℕ)
    (are : AreInsertions operations (label_count records) inserter needed ranks) (read : ℕ) (seen : Seen)
    (visible : (m : ℕ) → is_in seen m ≡ sees records read m) (list : List ℕ)
    (reads : HasOperationAt records read (op.RgaRead list)) (old new : List Condition) where
  pub step_read : (fault : Option ReadFault)
      → IsChecked operations (label_count records) inserter needed seen list old new fault
      → IsStep records read old new (option_map (refutation_of read) fault)
  step_read None (labels, (now, shown, closed, none, edges)) =
      let grown : AreEdges needed labels old new (length labels) = edges in
      λ before so_far. record {
        kept = λ condition there. grown.kept condition (so_far.kept condition there);
        only =
            λ condition there. elim (grown.only condition there) [
              | inl older ↦ so_far.only condition older
              | inr is ↦ inr (edge_read records operations listed inserter needed ranks are read seen visible closed list
                  reads labels now shown old new edges condition is)
            ];
        possible =
            λ k other below has. elim (cases_eq k read) [
              | inl same ↦
                  let here = subst (λ j. HasOperationAt records j (op.RgaRead other)) same has in
                  let same_op : Some (op.RgaRead list) ≡ Some (op.RgaRead other) =
                  sym (listed_at records operations listed read (op.RgaRead list) reads)
                  ∙ listed_at records operations listed read (op.RgaRead other) here in
                  let is : list ≡ other = cc (same_op) in
                  subst (λ j. IsPossibleRead records j other) (sym same)
                  (subst (IsPossibleRead records read) is
                  (possible records operations listed inserter needed ranks are read seen visible closed list reads labels
                  now shown old new edges none))
              | inr differs ↦ so_far.possible k other (omega (arith, below, differs)) has
            ];
        each =
            λ m n its below. elim (cases_eq its.read read) [
              | inl same ↦
                  demanded_edge records operations listed inserter needed ranks are read seen visible closed list reads
                  labels now shown old new edges its.first its.second its.left its.right m n
                  (subst (λ j. ListsTogether records j its.first its.second) same its.listed)
                  (subst (λ j. IsFork (updates_seen records j) its.first its.second its.left its.right) same its.fork)
                  its.inserts_left its.inserts_right
              | inr differs ↦ grown.kept (edge m n) (so_far.each m n its (omega (arith, below, differs)))
            ];
      }
  step_read (Some (Open m)) (below, lacks) =
      open_fault records operations listed inserter needed ranks are read seen visible list reads m below lacks
  step_read (Some (Wrong x)) (marks, marks_are, wrong) =
      wrong_fault records operations listed inserter needed ranks are read seen visible list reads marks marks_are x wrong
  step_read (Some (Unlisted m)) (labels, (now, shown, below, is)) =
      unlisted_fault records operations listed inserter needed ranks are read seen visible list reads labels now shown m is
  step_read (Some (Below x y)) (labels, (now, shown, closed, (place, under, first, second))) =
      let (together, leads) = below_fault records operations listed inserter needed ranks are read seen visible list reads
      labels now shown closed place under in (
        subst (ListsTogether records read x) second
            (subst (λ z. ListsTogether records read z (get_or list (place + 1) 0)) first together),
        subst (IsUnder (updates_seen records read) x) second
            (subst (λ z. IsUnder (updates_seen records read) z (get_or list (place + 1) 0)) first leads),
      )

-- the same of a history
pub label_step : (tracked : Tracked) (operations : List Op) (past : History) → IsHistoryOf tracked operations past
    → (inserter : ℕ → Option ℕ) (needed : List (Option ℕ)) (ranks : List ℕ)
    → AreInsertions operations (labels_in tracked) inserter needed ranks → (n : ℕ) → n < labels_in tracked
    → (seen : Seen) → seen ≡ seen_in tracked n → (list : List ℕ) → list_at operations n ≡ Some list → (count : ℕ)
    → count ≡ labels_in tracked → (old new : List Condition) (fault : Option ReadFault)
    → IsChecked operations count inserter needed seen list old new fault
    → IsStep past.records n old new (option_map (refutation_of n) fault)
label_step tracked operations past stands inserter needed ranks are n within seen is list reads count same old new fault
    checked =
    let labels = stands.visibility.labels in
    step_read past.records operations stands.listed inserter needed ranks
    (subst (λ k. AreInsertions operations k inserter needed ranks) labels are) n seen
    (λ m. ap (λ s. is_in s m) is ∙ stands.visibility.sees n m within) list
    (at_listed past.records operations stands.listed n (op.RgaRead list) (read_from (slice_get operations n) list reads))
    old new fault (subst (λ k. IsChecked operations k inserter needed seen list old new fault) (same ∙ labels) checked)

pub other_step : (tracked : Tracked) (operations : List Op) (past : History) → IsHistoryOf tracked operations past
    → (n : ℕ) → list_at operations n ≡ None → (conditions : List Condition)
    → IsStep past.records n conditions conditions None
other_step tracked operations past stands n none conditions =
    step_other past.records operations stands.listed n
    (λ list is. none-some list (sym none ∙ ap (option_and_then list_read) is)) conditions

-- ---- bounds
pub named_edges : (operations : List Op) (count : ℕ) (inserter : ℕ → Option ℕ) (needed : List (Option ℕ)) (ranks : List ℕ)
    → AreInsertions operations count inserter needed ranks → (seen : Seen) (list : List ℕ) (old new : List Condition)
    → IsChecked operations count inserter needed seen list old new None → NameBelow count old → NameBelow count new
named_edges operations count inserter needed ranks are seen list old new (labels, (now, shown, closed, none, edges)) named
    condition there b side =
    let grown : AreEdges needed labels old new (length labels) = edges in
    elim (grown.only condition there) [
      | inl older ↦ named condition older b side
      | inr (i, left, right, within, apart, is) ↦
          let len = are.len in
          let low_needs : AreBelow (length needed) needed = subst (λ k. AreBelow k needed) (sym are.len)
          (needed_below operations count inserter needed are.inserters are.needs) in
          let low = λ (j : ℕ) (j_within : j < length labels).
          subst (λ k. get_or labels j 0 < k) (sym are.len)
          (shown_below operations count inserter are.inserters seen shown.marks list labels now shown.shown
          (get_or labels j 0) (Contains-get_or labels j 0 j_within)) in
          let left_low = low_end needed ranks low_needs are.ranked (get_or labels i 0) left
          (low i (omega (arith, within))) apart.under_left in
          let right_low = low_end needed ranks low_needs are.ranked (get_or labels (i + 1) 0) right
          (low (i + 1) within) apart.under_right in
          elim side [
            | inl first ↦ elim (head_or_behind right [] b (subst (λ (c : Condition). Contains c.before b) is first)) [
              | inl same ↦ omega (arith, same, right_low, len)
              | inr further ↦ absurd (none_there b further)
            ]
            | inr second ↦ elim (head_or_behind left [] b (subst (λ (c : Condition). Contains c.after b) is second)) [
              | inl same ↦ omega (arith, same, left_low, len)
              | inr further ↦ absurd (none_there b further)
            ]
          ]
    ]
