-- The past of a list after a delivery.
use Rattle.std.proofs.Common.{◌≡◌, ℕ, zero, suc, ◌<◌, true, false, List, [], ◌∷◌, ◌++◌, map, length, Option, Some, None, refl, sym, ap, ◌∙◌, subst, arith}
use Rattle.std.specs.Prelude.{get_or, set, is_some, flat_map}
use Rattle.std.specs.List.{slice_get, list_all}
use Rattle.std.proofs.lemmas.Bool.{false≢true, and_parts, and_from}
use Rattle.std.proofs.lemmas.Option.{none-some}
use Rattle.std.proofs.lemmas.List.{length-map}
use Rattle.std.proofs.lemmas.List.Elements.{filter_map-append}
use Rattle.ra_labels.specs.declared.kind.Kind.TheVariants as kinds
use Rattle.ra_labels.specs.declared.list_operation.ListUpdate.{ListUpdate}
use Rattle.ra_labels.specs.declared.operation.Update.{Update}
use Rattle.ra_labels.specs.declared.operation.Update.TheVariants as updates
use Rattle.ra_labels.specs.declared.label.Label.{Label}
use Rattle.ra_labels.specs.declared.command.Command.TheVariants.{Deliver}
use Rattle.ra_labels.specs.Records.{Records}
use Rattle.ra_labels.specs.Visibility.{has_delivered}
use Rattle.ra_labels.specs.FreeList.{ListState, list_step, list_state_after}
use Rattle.ra_labels.specs.Specification.{Listing, state_after}
use Rattle.ra_labels.specs.NamedOrder.{named_labels, named_sequence}
use Rattle.ra_labels.specs.Rewriting.{parts_of, updates_of}
use Rattle.ra_labels.specs.Answer.{is_kind}
use Rattle.ra_labels.specs.TheoremTerms.{kind_of_update}
use Rattle.ra_labels.specs.Insertion.{updates_among, delivered_updates_of, delivered_updates}
use Rattle.ra_labels.specs.HistorySoFar.{history_of}
use Rattle.ra_theorems.proofs.ListUpdates.{change_of, changes_of, AreOfLists, changes_lead, lead_to_listing}
use Rattle.ra_theorems.proofs.TheoremIndex.{delivery_extends_delivered-own, delivery_extends_delivered-order, kind_updates_admitted-only}
use Rattle.ra_list_model.proofs.KeptUpdates.{kept_admitted}
use Rattle.ra_list_model.proofs.LateUpdates.{late_is_last}
use Rattle.ra_list_effects.specs.Past.{Past, state_at, after_update, with_delivery}
use Rattle.ra_witness.specs.Labels.{update_in}
use Rattle.ra_witness.specs.States as states
use Rattle.ra_witness.specs.Standing.{AreStatesOf}
use Rattle.ra_witness.specs.KeptList.{as_update, IsPastOf}
use Rattle.ra_witness.specs.Offered.{IsDelivered}
use Rattle.ra_witness.proofs.NumberedLabels.{makes_it, makes_none, IsUpdateAt, update_found}
use Rattle.ra_witness.proofs.ReplicaStates.{delivered_of_kind, kept-delivery}
use Rattle.ra_witness.proofs.ListStates.{listing_at, listing_set, after_listing, step_made}
use Rattle.ra_witness.proofs.NumberedChanges.{numbered_changes, numbered_kept, numbered_all}
use Rattle.ra_witness.proofs.NeededChanges.{keeps_needed}

-- an update of the kind is one of a list
of_list : (u : Update) → is_kind kinds.List (kind_of_update u) ≡ true → (c : ListUpdate) × (u ≡ updates.List c)
of_list (updates.List c) is = (c, refl)
of_list _ is = absurd (false≢true is)

-- the update is found at its number
found_at : (changes : List (Option ListUpdate)) (n : ℕ) (c : ListUpdate)
    → get_or (map as_update changes) n None ≡ Some (updates.List c) → slice_get changes n ≡ Some (Some c)
found_at [] n c is = absurd (none-some _ is)
found_at (None ∷ changes) zero c is = absurd (none-some _ is)
found_at (Some d ∷ changes) zero c is = let same : d ≡ c = cc is in ap (λ e. Some (Some e)) same
found_at (change ∷ changes) (suc n) c is = found_at changes n c is

-- the update of the delivered label, and the step that it makes
pub record IsToldChange (past : Past) (records : Records) (to n : ℕ) : Type 0 where
  pub change : ListUpdate
  pub next : ListState
  pub found : slice_get past.updates n ≡ Some (Some change)
  pub step : list_step (state_at past.replicas to) change ≡ Some next
  pub led : state_after kinds.List (delivered_updates kinds.List (Deliver to n ∷ records) to) ≡ Some (Listing next)

module _ (past : Past) (initial_replicas : ℕ) (records : Records) (to n : ℕ)
    (is : IsPastOf past initial_replicas records) (told : IsDelivered (history_of kinds.List initial_replicas records) to n)
  where
    abbrev now : Records
    now = Deliver to n ∷ records

    abbrev named : List Label
    named = named_labels kinds.List records

    pub replica_there : to < length past.replicas
    replica_there = omega (arith, is.states.replicas, length-map past.replicas Listing, told.replica)

    led_before : state_after kinds.List (delivered_updates kinds.List records to) ≡ Some (Listing (state_at past.replicas to))
    led_before =
        is.states.folded to (omega (arith, length-map past.replicas Listing, replica_there))
        ∙ ap Some (listing_at past.replicas to replica_there)

    -- the updates that were delivered then are admitted
    admitted_now : (s : ListState) × (list_state_after (changes_of (delivered_updates kinds.List now to)) ≡ Some s)
    admitted_now =
        let (whole, same, led) = changes_lead (updates_of (named_sequence kinds.List records)) (Listing past.whole) is.whole in
        let (s, kept) = kept_admitted (numbered_changes named) (has_delivered now to) whole
        (ap list_state_after (numbered_all named) ∙ led) (keeps_needed records told.holds to n told.causal) in (
          s,
          ap (λ ls. list_state_after (changes_of (updates_among (has_delivered now to) ls)))
              (delivery_extends_delivered-order kinds.List records to n)
              ∙ ap list_state_after (sym (numbered_kept (has_delivered now to) named)) ∙ kept,
        )

    told_change : (label : Label) → IsUpdateAt records n label → (u : Update) → update_in label.op ≡ Some u
        → IsToldChange past records to n
    told_change label at u makes_u =
        let makes = makes_it label.op u makes_u in
        let new : has_delivered records to label.number ≡ false = ap (has_delivered records to) at.number ∙ told.causal.0 in
        let (c, u_is) = of_list u (delivered_of_kind kinds.List records to label told.holds at.there new u makes) in
        let (before, behind, named_is, was, extended) = delivery_extends_delivered-own kinds.List records to label u at.there makes new in
        let first = delivered_updates_of records to before in
        let later = delivered_updates_of records to behind in
        let now_is : delivered_updates kinds.List now to ≡ first ++ updates.List c ∷ later =
        ap (λ m. delivered_updates kinds.List (Deliver to m ∷ records) to) (sym at.number) ∙ extended
        ∙ ap (λ v. first ++ v ∷ later) u_is in
        let s = state_at past.replicas to in
        let (t, t_is, model) = changes_lead (delivered_updates kinds.List records to) (Listing s) led_before in
        let same : s ≡ t = cc t_is in
        let (s_next, kept) = admitted_now in
        let step = late_is_last (changes_of first) (changes_of later) c s_next t
        (sym (ap list_state_after (ap changes_of now_is ∙ filter_map-append change_of first (updates.List c ∷ later))) ∙ kept)
        (sym (ap list_state_after (ap changes_of was ∙ filter_map-append change_of first later)) ∙ model) in
        record {
          change = c;
          next = s_next;
          found = found_at past.updates n c
              (ap (λ us. get_or us n None) is.states.labels ∙ at.found ∙ makes_u ∙ ap Some u_is);
          step = ap (λ r. list_step r c) same ∙ step;
          led = lead_to_listing (delivered_updates kinds.List now to) s_next
              (subst AreOfLists (sym now_is) (with_one first later c (subst AreOfLists was
              (kind_updates_admitted-only kinds.List (delivered_updates kinds.List records to) (ap is_some led_before))))) kept;
        }
      where
        with_one : (xs ys : List Update) (d : ListUpdate) → AreOfLists (xs ++ ys) → AreOfLists (xs ++ updates.List d ∷ ys)
        with_one [] ys d are = are
        with_one (x ∷ xs) ys d are =
            let all = λ (vs : List Update). list_all (λ u. is_kind kinds.List (kind_of_update u)) vs in
            let parts = and_parts (is_kind kinds.List (kind_of_update x)) (all (xs ++ ys)) are in
            and_from (is_kind kinds.List (kind_of_update x)) (all (xs ++ updates.List d ∷ ys)) parts.0
            (with_one xs ys d parts.1)

    by_update : (label : Label) → IsUpdateAt records n label → (o : Option Update) → update_in label.op ≡ o
        → IsToldChange past records to n
    by_update label at None none = absurd (false≢true (sym (makes_none label.op none) ∙ at.update))
    by_update label at (Some u) makes = told_change label at u makes

    pub change_told : IsToldChange past records to n
    change_told =
        let (label, at) = update_found records n told.update in
        by_update label at (update_in label.op) refl

    -- the past after the delivery
    pub past_told : IsPastOf (with_delivery past to change_told.change) initial_replicas now
    past_told =
        let it = change_told in
        let s = state_at past.replicas to in
        let stepped : states.after_step (states.state_at (map Listing past.replicas) to) (as_update (Some it.change))
        ≡ Listing (after_update s (Some it.change)) =
        ap (λ r. states.after_step r (as_update (Some it.change))) (listing_at past.replicas to replica_there)
        ∙ after_listing s (Some it.change) in
        let led = it.led ∙ ap (λ r. Some (Listing r)) (sym (step_made s it.next it.change it.step)) in
        let kept = kept-delivery (map as_update past.updates) (map Listing past.replicas)
        (history_of kinds.List initial_replicas records) is.states to n (as_update (Some it.change))
        (omega (arith, length-map past.replicas Listing, replica_there)) (led ∙ ap Some (sym stepped)) in
        record {
          whole = ap (λ ls. state_after kinds.List (updates_of (flat_map parts_of ls)))
              (delivery_extends_delivered-order kinds.List records to n) ∙ is.whole;
          states = subst (λ ss. AreStatesOf (map as_update past.updates) ss (history_of kinds.List initial_replicas now))
              (ap (set (map Listing past.replicas) to) stepped
              ∙ sym (listing_set past.replicas to (after_update s (Some it.change)))) kept;
          inserted = is.inserted;
          edges = is.edges;
          begins = is.begins;
        }
