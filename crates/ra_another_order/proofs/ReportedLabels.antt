-- Lemmas on the labels that a log reports.
use Rattle.std.proofs.Common.{◌≡◌, ℕ, ◌<◌, true, List, [], ◌∷◌, Option, Some, None, length, refl, sym, ap, subst, ◌∙◌, inl, inr}
use Rattle.std.specs.Prelude.{cond, is_some, option_map}
use Rattle.ra_labels.specs.declared.kind.Kind.{Kind}
use Rattle.ra_labels.specs.declared.command.Command.{Command}
use Rattle.ra_labels.specs.declared.command.Command.TheVariants.{Operate, Deliver, Join, Verdict}
use Rattle.ra_labels.specs.declared.label.Label.{Label}
use Rattle.ra_labels.specs.declared.refusal.Refusal.{Refusal}
use Rattle.ra_labels.specs.Records.{Records, labels_of, label_at, label_count, next_label}
use Rattle.ra_labels.specs.Answer.{kind_of, refusal_of, with_accepted}
use Rattle.ra_labels.specs.HistorySoFar.{History, history_of, empty_history, next_operation}
use Rattle.ra_labels.proofs.Members.{head_or_behind, none_there}
use Rattle.ra_theorems.proofs.TheoremIndex.{operation_accepted_iff, well_formed_iff, label_at_each_number-there}
use Rattle.ra_some_order.specs.SomeOrder.{EachLabelIsOfKind}
use Rattle.ra_monitor.specs.Monitor.{MonitorEntry, commands_of}
use Rattle.ra_reported.specs.Reported.{reported_after, reported_after_all, reported_in, operation_at}
use Rattle.ra_any_order.specs.Situation.{operations_in}
use Rattle.ra_another_order.specs.declared.labels.Labels.{Labels}
use Rattle.ra_another_order.specs.Operations.{AreLabelsOf, AreReported}

module _ (kind : Kind) (replicas : ℕ) where
  of_kind_accepted : (records : Records) (command : Command) → refusal_of kind replicas records command ≡ None
      → EachLabelIsOfKind kind records → EachLabelIsOfKind kind (with_accepted records command)
  of_kind_accepted records (Operate by op clock) accepted each label there =
      elim (head_or_behind (next_label records by op clock) (labels_of records) label there) [
        | inl here ↦
            let known = (operation_accepted_iff kind replicas records (next_operation by op clock)).0 accepted in
            let form = (well_formed_iff kind (next_operation by op clock)).0 known.1 in
            subst (λ (l : Label). kind_of l.op ≡ kind) here form.0
        | inr further ↦ each label further
      ]
  of_kind_accepted records (Deliver to n) accepted each label there = each label there
  of_kind_accepted records (Join joined from) accepted each label there = each label there
  of_kind_accepted records Verdict accepted each label there = each label there

  -- holds if the history is one of these replicas and of this kind, and so are its labels
  abbrev IsOfKind : History → Type 0
  IsOfKind past = (records : Records) × (past ≡ history_of kind replicas records) × EachLabelIsOfKind kind records

  either_way : (records : Records) (command : Command) (refusal : Option Refusal)
      → refusal_of kind replicas records command ≡ refusal → EachLabelIsOfKind kind records
      → IsOfKind (cond (is_some refusal) (history_of kind replicas records)
      (history_of kind replicas (with_accepted records command)))
  either_way records command None is each =
      (with_accepted records command, refl, of_kind_accepted records command is each)
  either_way records command (Some why) is each = (records, refl, each)

  one_reported : (past : History) (command : Command) → IsOfKind past → IsOfKind (reported_after past command)
  one_reported past command (records, is, each) =
      subst (λ h. IsOfKind (reported_after h command)) (sym is)
      (either_way records command (refusal_of kind replicas records command) refl each)

  all_reported : (past : History) (commands : List Command) → IsOfKind past
      → IsOfKind (reported_after_all past commands)
  all_reported past [] of_kind = of_kind
  all_reported past (command ∷ commands) of_kind =
      all_reported (reported_after past command) commands (one_reported past command of_kind)

  pub reported_of_kind : (log : List MonitorEntry) → IsOfKind (reported_in kind replicas log)
  reported_of_kind log = all_reported (empty_history kind replicas) (commands_of log)
      ([], refl, λ label there. absurd (none_there label there))

-- each label has an operation, so its place has one
pub operation_reported : (log : List MonitorEntry) (places : List ℕ) (records : Records)
    → length places ≡ label_count records
    → ((n : ℕ) → operation_at log places n ≡ option_map (λ (l : Label). l.op) (label_at records n))
    → (n : ℕ) → n < length places → is_some (operation_at log places n) ≡ true
operation_reported log places records count listed n within =
    let (label, at, numbered) = label_at_each_number-there records n (subst (λ k. n < k) count within) in
    ap is_some (listed n ∙ ap (option_map (λ (l : Label). l.op)) at)

-- labels that a log reports are those of its history
pub labels_reported : (kind : Kind) (replicas : ℕ) (log : List MonitorEntry) (it : Labels)
    → AreReported kind replicas log it
    → AreLabelsOf it.tracker.now (operations_in it.operations.items) (reported_in kind replicas log)
labels_reported kind replicas log it are =
    let (records, is, of_kind) = reported_of_kind kind replicas log in
    record {
      visibility = are.visibility;
      listed = are.operations;
      of_kind = subst (λ (h : History). EachLabelIsOfKind h.kind h.records) (sym is) of_kind;
    }

pub kind_reported : (kind : Kind) (replicas : ℕ) (log : List MonitorEntry) → (reported_in kind replicas log).kind ≡ kind
kind_reported kind replicas log =
    let (records, is, of_kind) = reported_of_kind kind replicas log in ap (λ (h : History). h.kind) is
