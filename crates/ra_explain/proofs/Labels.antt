-- Lemmas on the labels before the fault: the log determines the updates of their parts.
use Rattle.std.proofs.Common.{◌≡◌, ℕ, ◌<◌, List, [], ◌∷◌, ◌++◌, map, filter, reverse, refl, sym, ap, ◌∙◌, arith}
use Rattle.std.specs.Prelude.{flat_map, option_and_then}
use Rattle.std.specs.List.{slice_get, AllByRecursion, All}
use Rattle.std.proofs.lemmas.List.{reverse-append}
use Rattle.std.proofs.lemmas.List.Elements.{filter-append, All-from_recursion}
use Rattle.std.proofs.lemmas.List.Sorted.{All-permutation}
use Rattle.ra_labels.specs.declared.operation.Op.{Op}
use Rattle.ra_labels.specs.declared.operation.Op.TheVariants as op
use Rattle.ra_labels.specs.declared.list_operation.ListOp.TheVariants as list
use Rattle.ra_labels.specs.declared.label.Label.{Label}
use Rattle.ra_labels.specs.declared.command.Command.{Command}
use Rattle.ra_labels.specs.Records.{label_count, labels_of}
use Rattle.ra_labels.specs.Rewriting.{Half, Act, acts_of, part_of, parts_of}
use Rattle.ra_labels.specs.Linearization.{parts_in}
use Rattle.ra_labels.specs.NamedOrder.{named_sequence}
use Rattle.ra_theorems.proofs.TheoremIndex.{named_sequence_has_each_part_once, records_before_fault_longest-prefix}
use Rattle.ra_monitor.specs.declared.setup.Setup.{Setup}
use Rattle.ra_monitor.specs.Monitor.{MonitorEntry, records_of, records_before_fault_in, fault_in, IsLegalLog}
use Rattle.ra_witness.specs.Labels.{update_in}
use Rattle.ra_explain.specs.Places.{is_operation, places_in}
use Rattle.ra_explain.specs.ReplicaState.{IsFine, IsKnown, update_by, update_at}
use Rattle.ra_explain.proofs.Commands.{IsAmong, operations_in, labels_stand, command_found}
use Rattle.ra_explain.proofs.Faults.{had_before}

abbrev fine : Op → Half × Act → Type 0
fine operation act = IsFine operation act.0 act.1

acts_fine : (operation : Op) → AllByRecursion (fine operation) (acts_of operation)
acts_fine (op.OrRemove x ids) = (
  record { query = λ is. refl; other = λ not. absurd (not refl) },
  (record { query = λ is. absurd (cc is); other = λ not. refl }, tt),
)
acts_fine (op.List (list.Insert insertion)) = (
  record { query = λ is. refl; other = λ not. absurd (not refl) },
  (record { query = λ is. absurd (cc is); other = λ not. refl }, tt),
)
acts_fine (op.List (list.Remove x)) = (
  record { query = λ is. refl; other = λ not. absurd (not refl) },
  (record { query = λ is. absurd (cc is); other = λ not. refl }, tt),
)
acts_fine (op.List (list.Read elements)) = (record { query = λ is. absurd (cc is); other = λ not. refl }, tt)
acts_fine (op.List (list.Part elements)) = (record { query = λ is. absurd (cc is); other = λ not. refl }, tt)
acts_fine _ = (record { query = λ is. absurd (cc is); other = λ not. refl }, tt)

-- what the log determines of a label
pub record IsTold (setup : Setup) (log : List MonitorEntry) (label : Label) : Type 0 where
  pub found : update_at log (places_in log) label.number ≡ update_in label.op
  pub below : label.number < label_count (records_before_fault_in setup log)

each : {A : Type 0} (P Q : A → Type 0) → ((x : A) → P x → Q x) → (xs : List A) → AllByRecursion P xs
    → AllByRecursion Q xs
each P Q leads [] all = tt
each P Q leads (x ∷ xs) all = (leads x all.0, each P Q leads xs all.1)

each_map : {A B : Type 0} (P : A → Type 0) (Q : B → Type 0) (f : A → B) → ((x : A) → P x → Q (f x)) → (xs : List A)
    → AllByRecursion P xs → AllByRecursion Q (map f xs)
each_map P Q f leads [] all = tt
each_map P Q f leads (x ∷ xs) all = (leads x all.0, each_map P Q f leads xs all.1)

both : {A : Type 0} (P : A → Type 0) (xs ys : List A) → AllByRecursion P xs → AllByRecursion P ys
    → AllByRecursion P (xs ++ ys)
both P [] ys here there = there
both P (x ∷ xs) ys here there = (here.0, both P xs ys here.1 there)

each_flat : {A B : Type 0} (P : A → Type 0) (Q : B → Type 0) (f : A → List B)
    → ((x : A) → P x → AllByRecursion Q (f x)) → (xs : List A) → AllByRecursion P xs
    → AllByRecursion Q (flat_map f xs)
each_flat P Q f leads [] all = tt
each_flat P Q f leads (x ∷ xs) all = both Q (f x) (flat_map f xs) (leads x all.0) (each_flat P Q f leads xs all.1)

-- for the labels before the fault
labels_told : (setup : Setup) (log : List MonitorEntry) → IsLegalLog setup log
    → AllByRecursion (IsTold setup log) (labels_of (records_before_fault_in setup log))
labels_told setup log legal =
    let records = records_of setup log in
    let before = records_before_fault_in setup log in
    let (later, cut) = records_before_fault_longest-prefix setup.kind records in
    let more = filter is_operation (reverse later) in
    let same : operations_in before ++ more ≡ operations_in records =
    sym (ap operations_in cut ∙ ap (filter is_operation) (reverse-append later before)
    ∙ filter-append is_operation (reverse before) (reverse later)) in
    each (IsAmong (operations_in before ++ more) (label_count before)) (IsTold setup log) (λ label among. record {
      found = ap (option_and_then update_by)
          (command_found setup log legal label.number
          ∙ ap (λ (cs : List Command). slice_get cs label.number) (sym same) ∙ among.stands.1);
      below = among.below;
    }) (labels_of before) (labels_stand before more (label_count before) (omega arith))

-- for the parts in the named order
pub parts_known : (setup : Setup) (log : List MonitorEntry) (replica : ℕ) → IsLegalLog setup log
    → All (IsKnown setup log replica) (named_sequence setup.kind (records_before_fault_in setup log))
parts_known setup log replica legal =
    let before = records_before_fault_in setup log in
    let known = IsKnown setup log replica in
    All-permutation known (parts_in before) (named_sequence setup.kind before) (named_sequence_has_each_part_once setup.kind before)
    (All-from_recursion known (parts_in before)
    (each_flat (IsTold setup log) known parts_of (λ label told.
    each_map (fine label.op) known (part_of label) (λ act is. record {
      fine = is;
      found = told.found;
      had = had_before setup log replica label.number (fault_in setup log) refl told.below;
    }) (acts_of label.op) (acts_fine label.op)) (labels_of before) (labels_told setup log legal)))
