-- Lemmas on the states of a list's past, as states of the sequential specification.
use Rattle.std.proofs.Common.{◌≡◌, ℕ, zero, suc, ◌<◌, List, [], ◌∷◌, ◌++◌, map, length, Option, Some, None, refl, sym, ap, ◌∙◌, arith}
use Rattle.std.specs.Prelude.{is_some, option_map, option_and_then, unwrap_or, get_or, set, replicate, flat_map}
use Rattle.std.specs.List.{slice_get}
use Rattle.std.proofs.lemmas.List.{append-nil}
use Rattle.std.proofs.lemmas.Grind.{flat_map-append}
use mathlib.Core.List.{reverse-cons}
use Rattle.ra_labels.specs.declared.kind.Kind.TheVariants as kinds
use Rattle.ra_labels.specs.declared.list_operation.ListOp.{ListOp}
use Rattle.ra_labels.specs.declared.list_operation.ListOp.TheVariants as list
use Rattle.ra_labels.specs.declared.list_operation.ListUpdate.{ListUpdate}
use Rattle.ra_labels.specs.declared.operation.Op.TheVariants as ops
use Rattle.ra_labels.specs.declared.operation.Update.{Update}
use Rattle.ra_labels.specs.declared.operation.Update.TheVariants as updates
use Rattle.ra_labels.specs.declared.label.Label.{Label}
use Rattle.ra_labels.specs.Records.{Records, labels_of}
use Rattle.ra_labels.specs.Rewriting.{acts_of, part_of, parts_of, updates_of}
use Rattle.ra_labels.specs.FreeList.{ListState, empty_list, list_step}
use Rattle.ra_labels.specs.ListOperations as its
use Rattle.ra_labels.specs.Specification.{State, Listing, step_of, state_after}
use Rattle.ra_labels.specs.NamedOrder.{named_labels, named_sequence}
use Rattle.ra_labels.specs.HistorySoFar.{NextOperation, operate, label_of}
use Rattle.ra_theorems.proofs.TheoremIndex.{execution_order_is_acceptance_order-labels, visible_updates_in_order-all, state_after_snoc}
use Rattle.ra_list_effects.specs.Past as past
use Rattle.ra_witness.specs.Labels.{update_in}
use Rattle.ra_witness.specs.States.{state_at, after_step}
use Rattle.ra_witness.specs.Sequence.{has_query_half}
use Rattle.ra_witness.specs.KeptList.{as_update}

-- the state of a replica, as a state of the specification
pub listing_at : (replicas : List ListState) (r : ℕ) → r < length replicas
    → state_at (map Listing replicas) r ≡ Listing (past.state_at replicas r)
listing_at [] r there = absurd (omega (arith, there))
listing_at (s ∷ replicas) zero there = refl
listing_at (s ∷ replicas) (suc r) there = listing_at replicas r (omega (arith, there))

pub listing_set : (replicas : List ListState) (r : ℕ) (s : ListState)
    → map Listing (set replicas r s) ≡ set (map Listing replicas) r (Listing s)
listing_set [] r s = refl
listing_set (t ∷ replicas) zero s = refl
listing_set (t ∷ replicas) (suc r) s = ap (λ ss. Listing t ∷ ss) (listing_set replicas r s)

pub empty_at : (n r : ℕ) → past.state_at (replicate n empty_list) r ≡ empty_list
empty_at zero r = refl
empty_at (suc n) zero = refl
empty_at (suc n) (suc r) = empty_at n r

-- a step of the specification is the step of a list
stepped : (s : ListState) (next : Option ListState)
    → unwrap_or (option_map Listing next) (Listing s) ≡ Listing (unwrap_or next s)
stepped s None = refl
stepped s (Some t) = refl

pub after_listing : (s : ListState) (change : Option ListUpdate)
    → after_step (Listing s) (as_update change) ≡ Listing (past.after_update s change)
after_listing s None = refl
after_listing s (Some update) = stepped s (list_step s update)

pub step_made : (s t : ListState) (update : ListUpdate) → list_step s update ≡ Some t
    → past.after_update s (Some update) ≡ t
step_made s t update is = ap (λ o. unwrap_or o s) is

-- the update of an operation
pub update_is : (operation : ListOp) → update_in (ops.List operation) ≡ as_update (its.update_of operation)
update_is (list.Insert insertion) = refl
update_is (list.Remove x) = refl
update_is (list.Read elements) = refl
update_is (list.Part elements) = refl

-- a label has two halves exactly if it has an update
pub halves_of : (changes : List (Option ListUpdate)) (n : ℕ)
    → has_query_half (slice_get (map as_update changes) n) ≡ is_some (get_or changes n None)
halves_of [] n = refl
halves_of (None ∷ changes) zero = refl
halves_of (Some change ∷ changes) zero = refl
halves_of (change ∷ changes) (suc n) = halves_of changes n

-- the state of the specification after an update of a list, if there is one
abbrev pub then_changed : ListState → Option ListUpdate → Option State
then_changed s None = Some (Listing s)
then_changed s (Some change) = option_map Listing (list_step s change)

abbrev one_update : Option ListUpdate → List Update
one_update None = []
one_update (Some change) = updates.List change ∷ []

changed : (us : List Update) (change : Option ListUpdate) (s : ListState) → state_after kinds.List us ≡ Some (Listing s)
    → state_after kinds.List (us ++ one_update change) ≡ then_changed s change
changed us None s led = ap (state_after kinds.List) (append-nil us) ∙ led
changed us (Some change) s led =
    state_after_snoc kinds.List us (updates.List change) ∙ ap (option_and_then (λ t. step_of t (updates.List change))) led

of_parts : (label : Label) (operation : ListOp)
    → updates_of (map (part_of label) (acts_of (ops.List operation))) ≡ one_update (its.update_of operation)
of_parts label (list.Insert insertion) = refl
of_parts label (list.Remove x) = refl
of_parts label (list.Read elements) = refl
of_parts label (list.Part elements) = refl

updates_are : (label : Label) (operation : ListOp) → label.op ≡ ops.List operation
    → updates_of (parts_of label) ≡ one_update (its.update_of operation)
updates_are label operation is = ap (λ o. updates_of (map (part_of label) (acts_of o))) is ∙ of_parts label operation

-- the newest label is the last one of the named order
pub newest_last : (records : Records) (next : NextOperation)
    → named_labels kinds.List (operate next ∷ records)
    ≡ named_labels kinds.List records ++ label_of records next ∷ []
newest_last records next =
    let order = λ (rs : Records). execution_order_is_acceptance_order-labels kinds.List rs (λ label. refl) in
    order (operate next ∷ records) ∙ reverse-cons (label_of records next) (labels_of records)
    ∙ ap (λ (ls : List Label). ls ++ label_of records next ∷ []) (sym (order records))

pub updates_with : (records : Records) (next : NextOperation)
    → updates_of (named_sequence kinds.List (operate next ∷ records))
    ≡ updates_of (named_sequence kinds.List records) ++ updates_of (parts_of (label_of records next))
updates_with records next =
    let label = label_of records next in
    ap (λ ls. updates_of (flat_map parts_of ls)) (newest_last records next)
    ∙ ap updates_of (flat_map-append parts_of (named_labels kinds.List records) (label ∷ [])
    ∙ ap (λ ps. named_sequence kinds.List records ++ ps) (append-nil (parts_of label)))
    ∙ visible_updates_in_order-all (named_sequence kinds.List records) (parts_of label)

-- the state after the updates of all labels with the newest one
pub whole_with : (records : Records) (next : NextOperation) (operation : ListOp) (whole : ListState)
    → next.op ≡ ops.List operation
    → state_after kinds.List (updates_of (named_sequence kinds.List records)) ≡ Some (Listing whole)
    → state_after kinds.List (updates_of (named_sequence kinds.List (operate next ∷ records)))
    ≡ then_changed whole (its.update_of operation)
whole_with records next operation whole is led =
    let us = updates_of (named_sequence kinds.List records) in
    ap (state_after kinds.List) (updates_with records next ∙ ap (λ vs. us ++ vs) (updates_are (label_of records next) operation is))
    ∙ changed us (its.update_of operation) whole led
