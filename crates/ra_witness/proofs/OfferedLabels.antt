-- Lemmas on the past that a witness represents after one more label, delivery or replica.
use Rattle.std.proofs.Common.{◌≡◌, ℕ, ◌<◌, Bool, true, false, cond, List, ◌∷◌, length, Option, Some, None, Result, Ok, Err, refl, sym, ap, ◌∙◌, subst, arith}
use Rattle.std.specs.Prelude.{◌&&◌, ◌||◌, not, is_some, option_map, IfOk, OnErr, MatchResult}
use Rattle.std.specs.Option.{option_or, option_to_list}
use Rattle.std.proofs.lemmas.List.{length-map}
use Rattle.std.proofs.lemmas.List.Sorted.{length_permutation}
use Rattle.ra_labels.specs.declared.kind.Kind.{Kind}
use Rattle.ra_labels.specs.declared.kind.Kind.TheVariants as kinds
use Rattle.ra_labels.specs.declared.operation.Op.{Op}
use Rattle.ra_labels.specs.declared.label.Label.{Label}
use Rattle.ra_labels.specs.declared.command.Command.{Command}
use Rattle.ra_labels.specs.declared.command.Command.TheVariants.{Deliver, Join}
use Rattle.ra_labels.specs.declared.refusal.Refusal.{Refusal}
use Rattle.ra_labels.specs.declared.reply.Cause.{Cause}
use Rattle.ra_labels.specs.declared.reply.Cause.TheVariants as cause
use Rattle.ra_labels.specs.declared.operation.Update.{Update}
use Rattle.ra_labels.specs.declared.limits.TheConstants.{MOST_REPLICAS}
use Rattle.ra_labels.specs.Records.{Records, label_count, labels_of}
use Rattle.ra_labels.specs.Rewriting.{Half, Act, acts_of}
use Rattle.ra_labels.specs.Linearization.{extends_visibility, updates_admitted, queries_admitted}
use Rattle.ra_labels.specs.NamedOrder.{named_labels, named_sequence, rank_of}
use Rattle.ra_labels.specs.Fault.{fault_of, fault_at, sequence_cause, cause_of}
use Rattle.ra_labels.specs.Explained.{is_explained, unexplained_cause}
use Rattle.ra_labels.specs.Answer.{refusal_of, records_after, with_accepted}
use Rattle.ra_labels.proofs.Counted.{labels_counted}
use Rattle.ra_labels.specs.HistorySoFar.{History, replicas_of, history_with, IsAccepted, NextOperation, operate, label_of}
use Rattle.ra_theorems.proofs.TheoremIndex.{fault_none_implies_holds, named_labels_sorted-same, operation_accepted_iff, stamps_unique-one, identifiers_unique-one, accepted_labels_well_formed-one, delivery_accepted_iff_causal, join_accepted_iff, nothing_delivered_before_join-one, sequence_cause_none_iff, execution_order_extends_visibility-labels}
use Rattle.ra_visibility.specs.declared.order.Place.{Place}
use Rattle.ra_visibility.specs.declared.limits.TheConstants.{MOST_LABELS}
use Rattle.ra_visibility.specs.Seen.{Seen}
use Rattle.ra_visibility.specs.Order.{IsPlaceOf, numbers_in, ComesNext}
use Rattle.ra_visibility.proofs.TheoremIndex.{extends_visibility_iff_label_fits}
use Rattle.ra_witness.specs.declared.witness.Witness.{Witness}
use Rattle.ra_witness.specs.Labels.{updates_in, head_of, update_in}
use Rattle.ra_witness.specs.Offered.{IsOffered, IsDelivered, IsJoinedFrom}
use Rattle.ra_witness.specs.Effects.{AreEffectsOf}
use Rattle.ra_witness.specs.Witness.{IsWitnessOf, MayOffer}

-- with a new label, the records extend visibility exactly if it fits
extends_where : (kind : Kind) (records : Records) (next : NextOperation) (place : Place) (fits : Bool)
    → fault_of kind records ≡ None → IsPlaceOf kind records next place → place.fits ≡ fits
    → extends_visibility (operate next ∷ records) (named_sequence kind (operate next ∷ records)) ≡ fits
extends_where kind records next place fits none is said =
    extends_visibility_iff_label_fits kind records next place is
    ∙ ap (λ b. b && place.fits) (fault_none_implies_holds kind records none).visibility
    ∙ said

-- the cause at a label that does not fit is the order
pub order_fails : (kind : Kind) (records : Records) (next : NextOperation) (place : Place)
    → fault_of kind records ≡ None → IsPlaceOf kind records next place → place.fits ≡ false
    → Some cause.Order ≡ cause_of kind (operate next ∷ records)
order_fails kind records next place none is said =
    sym (by_order kind (operate next ∷ records) (extends_where kind records next place false none is said))
  where
    by_order : (k : Kind) (rs : Records) → extends_visibility rs (named_sequence k rs) ≡ false → cause_of k rs ≡ Some cause.Order
    by_order k rs fails = rw fails refl

-- the sequence of a list extends visibility, as every execution order does
list_extends : (kind : Kind) (records : Records) → kind ≡ kinds.List
    → extends_visibility records (named_sequence kind records) ≡ true
list_extends kind records list =
    execution_order_extends_visibility-labels kind records (λ label. ap (λ k. rank_of k records label) list)

-- so each label of a list fits
pub fits_in_a_list : (kind : Kind) (records : Records) (next : NextOperation) (place : Place)
    → fault_of kind records ≡ None → IsPlaceOf kind records next place → kind ≡ kinds.List → place.fits ≡ true
fits_in_a_list kind records next place none is list =
    sym (extends_where kind records next place place.fits none is refl)
    ∙ list_extends kind (operate next ∷ records) list

no_order : (updates queries : Bool)
    → ¬ (Some cause.Order ≡ cond (not updates) (Some cause.Update) (cond (not queries) (Some cause.Query) None))
no_order false queries e = cc (e)
no_order true false e = cc (e)
no_order true true e = cc (e)

-- and no condition of its sequence fails for the order
pub not_for_order : (kind : Kind) (records : Records) (why : Cause) → Some why ≡ sequence_cause kind records
    → kind ≡ kinds.List → ¬ (why ≡ cause.Order)
not_for_order kind records why is list order =
    no_order (updates_admitted kind (named_sequence kind records)) (queries_admitted kind records (named_sequence kind records))
    (rw (list_extends kind records list) at (ap Some (sym order) ∙ is))

-- a command that is not refused is recorded
accepted_after : (past : History) (command : Command) → fault_of past.kind past.records ≡ None → IsAccepted past command
    → records_after past.kind past.initial_replicas past.records command ≡ with_accepted past.records command
accepted_after past command none accepted =
    ap (λ o. cond (is_some o || is_some (refusal_of past.kind past.initial_replicas past.records command)) past.records (with_accepted past.records command)) none
    ∙ ap (λ (o : Option Refusal). cond (is_some o) past.records (with_accepted past.records command)) accepted

-- the number of listed labels is the number of labels
pub listed_count : (kind : Kind) (records : Records) (listed : List ℕ) → listed ≡ numbers_in kind records → length listed ≡ label_count records
listed_count kind records listed is =
    let named = named_labels kind records in
    ap length is
    ∙ length-map named (λ (label : Label). label.number)
    ∙ length_permutation (labels_of records) named (named_labels_sorted-same kind records)
    ∙ labels_counted records

first_listed : {A : Type 0} (o : Option A) → o ≡ head_of (option_to_list o)
first_listed None = refl
first_listed (Some x) = refl

-- the update of the parts is the update of the operation
pub update_known : (o : Option Update) (acts : List (Half × Act)) (op : Op) → option_to_list o ≡ updates_in acts → acts ≡ acts_of op → o ≡ update_in op
update_known o acts op listed is = first_listed o ∙ ap head_of listed ∙ ap (λ acts. head_of (updates_in acts)) is

-- if the named sequence fails no condition at the label, the updates of all labels are admitted
pub all_admitted : (kind : Kind) (records : Records) → None ≡ sequence_cause kind records → updates_admitted kind (named_sequence kind records) ≡ true
all_admitted kind records because = ((sequence_cause_none_iff kind records).0 (sym because)).1

-- the cause is the condition that the named sequence fails, else that of the kind if the records do not meet it
pub cause_in_sequence : (kind : Kind) (records : Records) (why : Cause) → Some why ≡ sequence_cause kind records → Some why ≡ cause_of kind records
cause_in_sequence kind records why is =
    ap (λ o. option_or o (cond (is_explained kind records) None (Some (unexplained_cause kind)))) is

pub cause_of_kind : (kind : Kind) (records : Records) (explained : Bool) → None ≡ sequence_cause kind records → is_explained kind records ≡ explained
    → cond explained None (Some (unexplained_cause kind)) ≡ cause_of kind records
cause_of_kind kind records explained is known =
    sym (ap (λ b. cond b None (Some (unexplained_cause kind))) known)
    ∙ ap (λ o. option_or o (cond (is_explained kind records) None (Some (unexplained_cause kind)))) is

-- what holds of a case of a result
module _ {A E : Type 0} (P : A → Type 0) (Q : E → Type 0) (r : Result A E) where
  pub in_ok : (x : A) → r ≡ Ok x → MatchResult r P Q → P x
  in_ok x is both = subst (λ a. MatchResult a P Q) is both

  pub in_err : (y : E) → r ≡ Err y → MatchResult r P Q → Q y
  in_err y is both = subst (λ a. MatchResult a P Q) is both

module _ {A E : Type 0} (r : Result A E) where
  pub in_ok_part : (P : A → Type 0) (x : A) → r ≡ Ok x → IfOk r P → P x
  in_ok_part P x is part = subst (λ a. IfOk a P) is part

  pub in_err_part : (P : Type 0) (y : E) → r ≡ Err y → OnErr r P → P
  in_err_part P y is part = subst (λ a. OnErr a P) is part

pub same_op : (label : Label) (records : Records) (next : NextOperation) → label ≡ label_of records next → acts_of label.op ≡ acts_of next.op
same_op label records next is = ap (λ (l : Label). acts_of l.op) is

no_fault_more : (kind : Kind) (records : Records) (next : NextOperation) → fault_of kind records ≡ None
    → cause_of kind (operate next ∷ records) ≡ None → fault_of kind (operate next ∷ records) ≡ None
no_fault_more kind records next none because =
    ap (λ o. option_or o (option_map (fault_at (label_count records)) (cause_of kind (operate next ∷ records)))) none
    ∙ ap (option_map (fault_at (label_count records))) because

-- a join that is not refused has an existing source, and the maximum number of replicas is not reached
pub may_join : (past : History) (from : ℕ) → IsAccepted past (Join (replicas_of past) from)
    → (from < replicas_of past) × (replicas_of past < MOST_REPLICAS)
may_join past from accepted =
    let known = (join_accepted_iff past.initial_replicas past.records (replicas_of past) from).0 accepted in
    (known.0, known.2)

module _ {O : Type 0} (stands_for : O → History → Type 0) where
  -- the next label is offered if it fits
  pub is_offered : (w : Witness O) (past : History) (next : NextOperation) (label : Label) (seen : Seen) (place : Place)
      → IsWitnessOf stands_for w past → ComesNext past next label seen → IsPlaceOf past.kind past.records next place
      → place.fits ≡ true → label_count past.records < MOST_LABELS → IsOffered past next label
  is_offered w past next label seen place stands comes is fits few =
      let free = (operation_accepted_iff past.kind past.initial_replicas past.records next).0 comes.accepted in
      record {
        holds = fault_none_implies_holds past.kind past.records stands.none;
        replica = free.0;
        form = free.1;
        becomes = comes.becomes;
        fits = extends_where past.kind past.records next place true stands.none is fits;
        stamps = rw (accepted_after past (operate next) stands.none comes.accepted) at (stamps_unique-one past.kind past.initial_replicas past.records (operate next) stands.stamps);
        few = few;
      }

  -- for every past that the witness represents, since all of these have the same number of labels
  pub comes_offered : (listed : O → List ℕ)
      → ((order : O) (past : History) → stands_for order past → listed order ≡ numbers_in past.kind past.records)
      → (w : Witness O) (label : Label) (seen : Seen) (place : Place) → MayOffer stands_for w label seen
      → (past : History) (next : NextOperation) → IsWitnessOf stands_for w past → ComesNext past next label seen
      → IsPlaceOf past.kind past.records next place → place.fits ≡ true → IsOffered past next label
  comes_offered listed lists w label seen place may past next stands comes is fits =
      let count = λ (p : History) (held : IsWitnessOf stands_for w p).
      listed_count p.kind p.records (listed w.order) (lists w.order p held.order) in
      is_offered w past next label seen place stands comes is fits
      (omega (arith, may.few, count past stands, count may.past may.stands))

  -- a delivery that is not refused may be reported to the witness
  pub is_told : (w : Witness O) (past : History) (to n : ℕ) → IsWitnessOf stands_for w past
      → IsAccepted past (Deliver to n) → IsDelivered past to n
  is_told w past to n stands accepted =
      let (there, is_update, causal) = (delivery_accepted_iff_causal past.initial_replicas past.records to n).0 accepted in
      record {
        holds = fault_none_implies_holds past.kind past.records stands.none;
        replica = there;
        update = is_update;
        causal = (causal.0, causal.1, stands.causal);
        stamps = stands.stamps;
        identifiers = stands.identifiers;
      }

  -- the witness after the label
  pub taken : (old new : Witness O) (past : History) (next : NextOperation) (label : Label) (seen : Seen)
      → IsWitnessOf stands_for old past → ComesNext past next label seen
      → None ≡ cause_of past.kind (operate next ∷ past.records) → stands_for new.order (history_with past (operate next))
      → AreEffectsOf new.kept (history_with past (operate next)) → IsWitnessOf stands_for new (history_with past (operate next))
  taken old new past next label seen stands comes because order kept =
      let after = accepted_after past (operate next) stands.none comes.accepted in
      record {
        order = order;
        kept = kept;
        causal = stands.causal;
        none = no_fault_more past.kind past.records next stands.none (sym because);
        fits = rw after at (accepted_labels_well_formed-one past.kind past.initial_replicas past.records (operate next) stands.fits);
        stamps = rw after at (stamps_unique-one past.kind past.initial_replicas past.records (operate next) stands.stamps);
        identifiers = rw after at (identifiers_unique-one past.kind past.initial_replicas past.records (operate next) stands.identifiers);
        beyond = rw after at (nothing_delivered_before_join-one past.kind past.initial_replicas past.records (operate next) stands.beyond);
      }

  -- the witness after the delivery
  pub delivered : (old new : Witness O) (past : History) (to n : ℕ) → IsWitnessOf stands_for old past
      → IsAccepted past (Deliver to n) → stands_for new.order (history_with past (Deliver to n))
      → AreEffectsOf new.kept (history_with past (Deliver to n)) → IsWitnessOf stands_for new (history_with past (Deliver to n))
  delivered old new past to n stands accepted order kept =
      let told = is_told old past to n stands accepted in
      let after = accepted_after past (Deliver to n) stands.none accepted in
      record {
        order = order;
        kept = kept;
        causal = told.causal;
        none = stands.none;
        fits = stands.fits;
        stamps = stands.stamps;
        identifiers = stands.identifiers;
        beyond = rw after at (nothing_delivered_before_join-one past.kind past.initial_replicas past.records (Deliver to n) stands.beyond);
      }

  -- a join that is not refused is from an existing replica
  pub is_joined : (w : Witness O) (past : History) (from : ℕ) → IsWitnessOf stands_for w past
      → IsAccepted past (Join (replicas_of past) from) → IsJoinedFrom past from
  is_joined w past from stands accepted = record { there = (may_join past from accepted).0; beyond = stands.beyond }

  -- the witness after the join
  pub joined : (old new : Witness O) (past : History) (from : ℕ) → IsWitnessOf stands_for old past
      → let join = Join (replicas_of past) from in IsAccepted past join → stands_for new.order (history_with past join)
      → AreEffectsOf new.kept (history_with past join) → IsWitnessOf stands_for new (history_with past join)
  joined old new past from stands accepted order kept =
      let join = Join (replicas_of past) from in
      let after = accepted_after past join stands.none accepted in
      record {
        order = order;
        kept = kept;
        causal = stands.causal;
        none = stands.none;
        fits = rw after at (accepted_labels_well_formed-one past.kind past.initial_replicas past.records join stands.fits);
        stamps = stands.stamps;
        identifiers = stands.identifiers;
        beyond = rw after at (nothing_delivered_before_join-one past.kind past.initial_replicas past.records join stands.beyond);
      }

  -- the unchanged witness
  pub kept_same : (old new : Witness O) (past : History) → IsWitnessOf stands_for old past
      → stands_for new.order past → AreEffectsOf new.kept past → IsWitnessOf stands_for new past
  kept_same old new past stands order kept = record {
    order = order;
    kept = kept;
    causal = stands.causal;
    none = stands.none;
    fits = stands.fits;
    stamps = stands.stamps;
    identifiers = stands.identifiers;
    beyond = stands.beyond;
  }
