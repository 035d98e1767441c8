-- Lemmas on the cause at a label of an RGA that fits.
use Rattle.std.proofs.Common.{◌≡◌, ℕ, Bool, true, false, cond, ◌∷◌, Option, Some, None, refl, sym, ap, ◌∙◌}
use Rattle.std.specs.Prelude.{◌↔◌, not, is_some, IfSome, IfOk}
use Rattle.std.specs.Option.{ok_or}
use Rattle.std.specs.Result.{result_err}
use Rattle.ra_labels.specs.declared.kind.Kind.TheVariants as variant
use Rattle.ra_labels.specs.declared.operation.Op.{Op}
use Rattle.ra_labels.specs.declared.operation.Op.TheVariants as ops
use Rattle.ra_labels.specs.declared.label.Label.{Label}
use Rattle.ra_labels.specs.declared.reply.Cause.TheVariants as cause
use Rattle.ra_labels.specs.Records.{Records}
use Rattle.ra_labels.specs.Visibility.{is_update}
use Rattle.ra_labels.specs.Rewriting.{acts_of}
use Rattle.ra_labels.specs.Specification.{State, state_after, is_admitted}
use Rattle.ra_labels.specs.NamedOrder.{named_sequence}
use Rattle.ra_labels.specs.Linearization.{updates_admitted}
use Rattle.ra_labels.specs.Fault.{sequence_cause}
use Rattle.ra_labels.specs.Answer.{kind_of}
use Rattle.ra_labels.specs.Insertion.{delivered_updates}
use Rattle.ra_labels.proofs.InLists.{bool_same}
use Rattle.ra_labels.specs.HistorySoFar.{history_of, NextOperation, operate}
use Rattle.ra_theorems.proofs.TheoremIndex.{operation_inserts_among_all-query}
use Rattle.ra_witness.specs.Labels.{cause_in}
use Rattle.ra_witness.specs.Offered.{IsOffered}
use Rattle.ra_witness.proofs.Causes.{cause_where_it_fits}

-- without a value, the result is the error
pub refused_unless : {T E : Type 0} (o : Option T) (e : E) → result_err (ok_or o e) ≡ cond (is_some o) None (Some e)
refused_unless None e = refl
refused_unless (Some x) e = refl

pub kept_if_some : {T E : Type 0} (P : T → Type 0) (o : Option T) (e : E) → IfSome o P → IfOk (ok_or o e) P
kept_if_some P None e holds = tt
kept_if_some P (Some x) e holds = holds

-- an operation that neither inserts nor removes is not an update
pub asks_only : (operation : Op) → ((a x : ℕ) → ¬ (operation ≡ ops.After a x)) → ((x : ℕ) → ¬ (operation ≡ ops.RgaRemove x)) → kind_of operation ≡ variant.Rga
    → is_update operation ≡ false
asks_only ops.Inc after removes of = absurd (cc (of))
asks_only ops.Dec after removes of = absurd (cc (of))
asks_only (ops.Count v) after removes of = refl
asks_only (ops.Write value) after removes of = absurd (cc (of))
asks_only (ops.Last value) after removes of = refl
asks_only (ops.LwwAdd x) after removes of = absurd (cc (of))
asks_only (ops.LwwRemove x) after removes of = absurd (cc (of))
asks_only (ops.LwwRead list) after removes of = refl
asks_only (ops.OrAdd x id) after removes of = absurd (cc (of))
asks_only (ops.OrRemove x ids) after removes of = absurd (cc (of))
asks_only (ops.OrRead list) after removes of = refl
asks_only (ops.After anchor x) after removes of = absurd (after anchor x refl)
asks_only (ops.RgaRemove x) after removes of = absurd (removes x refl)
asks_only (ops.RgaRead list) after removes of = refl
asks_only (ops.List operation) after removes of = absurd (cc (of))
asks_only ops.AnyUpdate after removes of = absurd (cc (of))
asks_only (ops.AnyRead value) after removes of = refl
asks_only (ops.MvWrite value) after removes of = absurd (cc (of))
asks_only (ops.MvRead values) after removes of = refl

either_cause : (a b : Bool) → b ≡ a → cond b None (Some cause.Update) ≡ cond (not a) (Some cause.Update) None
either_cause true b same = ap (λ c. cond c None (Some cause.Update)) same
either_cause false b same = ap (λ c. cond c None (Some cause.Update)) same

module _ (initial_replicas : ℕ) (records : Records) (next : NextOperation) (label : Label) (offered : IsOffered (history_of variant.Rga initial_replicas records) next label) where
  abbrev now : Records
  now = operate next ∷ records

  pub query_admitted : is_update next.op ≡ false → updates_admitted variant.Rga (named_sequence variant.Rga now) ≡ true
  query_admitted asks = ap (is_admitted variant.Rga) (operation_inserts_among_all-query variant.Rga records next asks) ∙ offered.holds.updates

  pub query_cause : is_update next.op ≡ false → cause_in (state_after variant.Rga (delivered_updates variant.Rga records next.by)) (acts_of next.op) ≡ sequence_cause variant.Rga now
  query_cause asks = sym (cause_where_it_fits variant.Rga records next true offered.holds offered.fits (query_admitted asks))

  pub update_cause : (b : Bool) → ((o : Option State) → cause_in o (acts_of next.op) ≡ None)
      → (b ≡ true) ↔ (updates_admitted variant.Rga (named_sequence variant.Rga now) ≡ true) → cond b None (Some cause.Update) ≡ sequence_cause variant.Rga now
  update_cause b none exactly =
      let a = updates_admitted variant.Rga (named_sequence variant.Rga now) in
      let o = state_after variant.Rga (delivered_updates variant.Rga records next.by) in
      either_cause a b (bool_same b a exactly.0 exactly.1)
      ∙ ap (λ c. cond (not a) (Some cause.Update) c) (sym (none o))
      ∙ sym (cause_where_it_fits variant.Rga records next a offered.holds offered.fits refl)
