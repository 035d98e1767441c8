-- The cause at a new label of a list is the one that the test of its operation finds.
use Rattle.std.proofs.Common.{◌≡◌, ℕ, ◌<◌, true, false, Bool, cond, ◌∷◌, length, Option, Some, None, refl, sym, ap, ◌∙◌, arith}
use Rattle.std.specs.Prelude.{is_some, not, ◌&&◌, option_map}
use Rattle.std.proofs.lemmas.List.{length-map}
use Rattle.ra_labels.specs.declared.kind.Kind.TheVariants as kinds
use Rattle.ra_labels.specs.declared.list_operation.ListOp.{ListOp}
use Rattle.ra_labels.specs.declared.list_operation.ListOp.TheVariants as list
use Rattle.ra_labels.specs.declared.list_operation.ListUpdate.{ListUpdate}
use Rattle.ra_labels.specs.declared.operation.Op.TheVariants as ops
use Rattle.ra_labels.specs.declared.label.Label.{Label}
use Rattle.ra_labels.specs.declared.reply.Cause.TheVariants as cause
use Rattle.ra_labels.specs.Records.{Records}
use Rattle.ra_labels.specs.Rewriting.{acts_of}
use Rattle.ra_labels.specs.FreeList.{ListState, list_step, list_answers}
use Rattle.ra_labels.specs.ListOperations as its
use Rattle.ra_labels.specs.Specification.{Listing, state_after}
use Rattle.ra_labels.specs.Linearization.{updates_admitted}
use Rattle.ra_labels.specs.NamedOrder.{named_sequence}
use Rattle.ra_labels.specs.Fault.{sequence_cause}
use Rattle.ra_labels.specs.Insertion.{delivered_updates}
use Rattle.ra_labels.specs.HistorySoFar.{history_of, NextOperation, operate}
use Rattle.ra_list_effects.specs.Past.{Past, state_at, admits, cause_at}
use Rattle.ra_witness.specs.Labels.{cause_in}
use Rattle.ra_witness.specs.KeptList.{IsPastOf}
use Rattle.ra_witness.specs.Offered.{IsOffered}
use Rattle.ra_witness.proofs.Causes.{cause_where_it_fits}
use Rattle.ra_witness.proofs.Forms.{its_replica}
use Rattle.ra_witness.proofs.ListStates.{then_changed, whole_with, listing_at}

is_some_mapped : (o : Option ListState) → is_some (option_map Listing o) ≡ is_some o
is_some_mapped None = refl
is_some_mapped (Some s) = refl

-- the updates of all labels are admitted exactly if the state admits the new one
still_admitted : (whole : ListState) (change : Option ListUpdate) → is_some (then_changed whole change) ≡ admits whole change
still_admitted whole None = refl
still_admitted whole (Some change) = is_some_mapped (list_step whole change)

one_answer : (b : Bool) → cond (b && true) None (Some cause.Query) ≡ cond (not b) (Some cause.Query) None
one_answer true = refl
one_answer false = refl

-- the cause by the query
asked : (s : ListState) (operation : ListOp) → cause_in (Some (Listing s)) (acts_of (ops.List operation))
    ≡ cond (not (list_answers s (its.query_of operation))) (Some cause.Query) None
asked s (list.Insert insertion) = one_answer (list_answers s (its.query_of (list.Insert insertion)))
asked s (list.Remove x) = one_answer (list_answers s (its.query_of (list.Remove x)))
asked s (list.Read elements) = one_answer (list_answers s (its.query_of (list.Read elements)))
asked s (list.Part elements) = one_answer (list_answers s (its.query_of (list.Part elements)))

module _ (past : Past) (initial_replicas : ℕ) (records : Records) (next : NextOperation) (label : Label)
    (is : IsPastOf past initial_replicas records)
    (offered : IsOffered (history_of kinds.List initial_replicas records) next label) where
  -- the replica of the label exists
  pub replica_there : next.by < length past.replicas
  replica_there = omega (arith, is.states.replicas, length-map past.replicas Listing, offered.replica)

  -- its state
  pub led_to : state_after kinds.List (delivered_updates kinds.List records next.by)
      ≡ Some (Listing (state_at past.replicas next.by))
  led_to =
      is.states.folded next.by (omega (arith, length-map past.replicas Listing, replica_there))
      ∙ ap Some (listing_at past.replicas next.by replica_there)

  pub cause_is : (operation : ListOp) → next.op ≡ ops.List operation
      → cause_at past label.replica operation ≡ sequence_cause kinds.List (operate next ∷ records)
  cause_is operation same =
      let s = state_at past.replicas next.by in
      let admitted = admits past.whole (its.update_of operation) in
      let known : updates_admitted kinds.List (named_sequence kinds.List (operate next ∷ records)) ≡ admitted =
      ap is_some (whole_with records next operation past.whole same is.whole)
      ∙ still_admitted past.whole (its.update_of operation) in
      ap (λ r. cause_at past r operation) (its_replica (history_of kinds.List initial_replicas records) next label offered)
      ∙ ap (λ c. cond (not admitted) (Some cause.Update) c) (sym (asked s operation))
      ∙ ap (λ o. cond (not admitted) (Some cause.Update) (cause_in o (acts_of (ops.List operation)))) (sym led_to)
      ∙ ap (λ o. cond (not admitted) (Some cause.Update)
      (cause_in (state_after kinds.List (delivered_updates kinds.List records next.by)) (acts_of o))) (sym same)
      ∙ sym (cause_where_it_fits kinds.List records next admitted offered.holds offered.fits known)
