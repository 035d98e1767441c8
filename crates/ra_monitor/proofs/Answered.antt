-- Lemmas on the answers of a history without a fault, and on refusals.
use Rattle.std.proofs.Common.{◌≡◌, ℕ, ◌<◌, ◌≤◌, false, ◌∷◌, [], Option, Some, None, refl, sym, ap, ◌∙◌, subst}
use Rattle.std.specs.Prelude.{Result, IfOk, OnErr, not}
use Rattle.std.specs.Option.{option_or, option_map_or}
use Rattle.std.proofs.lemmas.Bool.{lt-ltb, le-ltb}
use Rattle.std.proofs.lemmas.Option.{none-some}
use Rattle.ra_labels.specs.declared.operation.Op.{Op}
use Rattle.ra_labels.specs.declared.command.Command.{Command}
use Rattle.ra_labels.specs.declared.command.Command.TheVariants.{Deliver}
use Rattle.ra_labels.specs.declared.refusal.Refusal.{Refusal}
use Rattle.ra_labels.specs.declared.refusal.Refusal.TheVariants.{UnknownReplica, StampTaken, IdTaken}
use Rattle.ra_labels.specs.declared.reply.Reply.{Reply}
use Rattle.ra_labels.specs.declared.reply.Reply.TheVariants.{Refused}
use Rattle.ra_labels.specs.Records.{Records}
use Rattle.ra_labels.specs.Fault.{fault_of}
use Rattle.ra_labels.specs.Answer.{when, first_of, no_reply, form_refusal, identifier_of, has_taken_stamp, has_taken_identifier, is_identifier_taken, refusal_of, delivery_refusal_at, answer_to_accepted, with_accepted, records_after}
use Rattle.ra_labels.specs.HistorySoFar.{History, history_of, history_with, replicas_of, IsAccepted, NextOperation, operate}
use Rattle.ra_monitor.specs.declared.history.TrackedHistory.{TrackedHistory}
use Rattle.ra_monitor.specs.UsedKeys.{key_with, key_of, refusal_by}
use Rattle.ra_monitor.specs.History.{Represents, IsAnswered, JoinsRecords}
use Rattle.ra_monitor.proofs.TakenLookups.{no_clock}

module _ (past : History) (none : fault_of past.kind past.records ≡ None) (command : Command) where
  abbrev to_accepted : Reply
  to_accepted = answer_to_accepted past.kind past.records command

  abbrev refusal : Option Refusal
  refusal = refusal_of past.kind past.initial_replicas past.records command

  -- a refused command leaves the past unchanged
  pub refused : (history : TrackedHistory) (why : Refusal) → refusal ≡ Some why → Represents history past
      → IsAnswered history past command (Refused why)
  refused history why is stands =
      let same : past.records ≡ records_after past.kind past.initial_replicas past.records command = rw (none, is) refl in (
        sym (ap (λ o. option_map_or no_reply o (option_map_or Refused refusal to_accepted)) none
            ∙ ap (λ o. option_map_or Refused o to_accepted) is),
        subst (λ records. Represents history (history_of past.kind past.initial_replicas records)) same stands,
      )

  -- a command that is not refused is added to the records, if it is of a kind that is recorded
  pub joins : with_accepted past.records command ≡ command ∷ past.records → IsAccepted past command
      → JoinsRecords past command
  joins with_it accepted = rw (none, accepted) with_it

  pub accepted : (history : TrackedHistory) (reply : Reply) → with_accepted past.records command ≡ command ∷ past.records
      → IsAccepted past command → reply ≡ to_accepted → Represents history (history_with past command)
      → IsAnswered history past command reply
  accepted history reply with_it is replied stands = (
    replied ∙ sym (ap (λ o. option_map_or no_reply o (option_map_or Refused refusal to_accepted)) none
        ∙ ap (λ o. option_map_or Refused o to_accepted) is),
    subst (λ records. Represents history (history_of past.kind past.initial_replicas records)) (sym (joins with_it is)) stands,
  )

-- the answer to an equal command
module _ {E : Type 0} (result : Result Reply E) (past : History) (command given : Command) (is : given ≡ command) where
  pub joins_as : OnErr result (JoinsRecords past command) → OnErr result (JoinsRecords past given)
  joins_as = subst (λ c. OnErr result (JoinsRecords past c)) (sym is)

  pub answered_as : (history : TrackedHistory) → IfOk result (IsAnswered history past command)
      → IfOk result (IsAnswered history past given)
  answered_as history = subst (λ c. IfOk result (IsAnswered history past c)) (sym is)

unless_more : (refusal : Option Refusal) → option_or refusal None ≡ refusal
unless_more (Some why) = refl
unless_more None = refl

-- the refusal of a delivery to an existing replica depends only on the records
pub at_replica : (past : History) (to label : ℕ) → to < replicas_of past
    → refusal_of past.kind past.initial_replicas past.records (Deliver to label) ≡ delivery_refusal_at past.records to label
at_replica past to label there =
    ap (λ b. first_of (when (not b) UnknownReplica ∷ delivery_refusal_at past.records to label ∷ []))
    (lt-ltb to (replicas_of past) there)
    ∙ unless_more (delivery_refusal_at past.records to label)

pub at_none : (past : History) (to label : ℕ) → replicas_of past ≤ to
    → refusal_of past.kind past.initial_replicas past.records (Deliver to label) ≡ Some UnknownReplica
at_none past to label beyond =
    ap (λ b. first_of (when (not b) UnknownReplica ∷ delivery_refusal_at past.records to label ∷ []))
    (le-ltb to (replicas_of past) beyond)

-- the refusal for a used stamp or identifier is that of what the operation adds
brought_taken : (records : Records) (by : ℕ) (op : Op) (clock gives : Option ℕ) → identifier_of op ≡ gives
    → ((given : ℕ) → gives ≡ Some given → clock ≡ None)
    → first_of (when (has_taken_stamp records by clock) StampTaken
    ∷ when (option_map_or (is_identifier_taken records) gives false) IdTaken ∷ [])
    ≡ refusal_by records (key_with by gives clock)
brought_taken records by op None (Some given) is bare = unless_more _
brought_taken records by op (Some at) (Some given) is bare = absurd (none-some at (sym (bare given refl)))
brought_taken records by op (Some at) None is bare = unless_more _
brought_taken records by op None None is bare = refl

module _ (past : History) (next : NextOperation) where
  abbrev misfit : Option Refusal
  misfit = form_refusal past.kind (operate next)

  abbrev of_taken : Option Refusal
  of_taken = first_of (when (has_taken_stamp past.records next.by next.clock) StampTaken
      ∷ when (has_taken_identifier past.records next.op) IdTaken ∷ [])

  pub by_none : replicas_of past ≤ next.by
      → refusal_of past.kind past.initial_replicas past.records (operate next) ≡ Some UnknownReplica
  by_none beyond = ap (λ b. option_or (when (not b) UnknownReplica) (option_or misfit of_taken))
      (le-ltb next.by (replicas_of past) beyond)

  pub by_misfit : (why : Refusal) → next.by < replicas_of past → misfit ≡ Some why
      → refusal_of past.kind past.initial_replicas past.records (operate next) ≡ Some why
  by_misfit why there is = ap (λ b. option_or (when (not b) UnknownReplica) (option_or misfit of_taken))
      (lt-ltb next.by (replicas_of past) there)
      ∙ ap (λ o. option_or o of_taken) is

  pub by_taken : next.by < replicas_of past → misfit ≡ None
      → refusal_of past.kind past.initial_replicas past.records (operate next)
      ≡ refusal_by past.records (key_of next)
  by_taken there fits = ap (λ b. option_or (when (not b) UnknownReplica) (option_or misfit of_taken))
      (lt-ltb next.by (replicas_of past) there)
      ∙ ap (λ o. option_or o of_taken) fits
      ∙ brought_taken past.records next.by next.op next.clock (identifier_of next.op) refl
      (λ given gives. no_clock past.kind next given fits gives)
