-- Lemmas on the maintained state of a register and an LWW set after one more label.
use Rattle.std.proofs.Common.{◌≡◌, ℕ, zero, suc, get_or, ◌≤◌, ◌+◌, List, [], ◌∷◌, ◌++◌, length, Option, Some, None, refl, sym, ap, ◌∙◌, subst, arith}
use Rattle.std.specs.Prelude.{◌⊎◌, nat_eq, vec_len, option_map, pos, replicate}
use Rattle.std.specs.HashMap.{get, hash_map_len}
use Rattle.std.proofs.lemmas.Option.{none-some}
use Rattle.std.proofs.lemmas.List.{map-append, length-map, set-get_or, length-replicate, get_or-replicate}
use Rattle.ra_labels.specs.declared.kind.Kind.{Kind}
use Rattle.ra_labels.specs.declared.kind.Kind.TheVariants as variant
use Rattle.ra_labels.specs.declared.operation.Update.{Update}
use Rattle.ra_labels.specs.declared.label.Stamp.{Stamp}
use Rattle.ra_labels.specs.declared.label.Label.{Label}
use Rattle.ra_labels.specs.Records.{Records, label_count}
use Rattle.ra_labels.specs.Specification.{Number, initial_state}
use Rattle.ra_labels.specs.HistorySoFar.{History, history_of, NextOperation, operate}
use Rattle.ra_witness.specs.declared.overriding.written.Written.{Written}
use Rattle.ra_witness.specs.declared.overriding.Overriding.{Overriding}
use Rattle.ra_witness.specs.Labels.{update_in}
use Rattle.ra_witness.specs.States.{states_after}
use Rattle.ra_witness.specs.Standing.{AreStatesOf}
use Rattle.ra_witness.specs.Overriding.{label_on, updates_written, write_of, labels_in, last_label, last_with}
use Rattle.ra_witness.specs.ElementNumbers.{element_of, number_with, count_with}
use Rattle.ra_witness.specs.Overridden.{AreWritesOf, AreLastOf, AreBelow, IsNextWrite}
use Rattle.ra_witness.specs.Offered.{IsOffered}
use Rattle.ra_witness.specs.Effects.{IsOverridingOf}
use Rattle.ra_witness.proofs.TakenLabels.{writes-query, lasts-query, writes-update, lasts-update}
use Rattle.ra_witness.proofs.Forms.{its_replica}
use Rattle.ra_witness.proofs.CommutingKinds.{admits-overriding, states_taken}
use Rattle.ra_witness.proofs.CountingUpdates.{by_timestamp}
use Rattle.ra_witness.proofs.OverridingKinds.{numbers_of, writes_counted, below_with, count_grows}

abbrev done_by : Option Written → Option Update
done_by = option_map (λ written. written.update)

more_updates : (writes : List (Option Written)) (o : Option Written) → updates_written (writes ++ o ∷ []) ≡ updates_written writes ++ done_by o ∷ []
more_updates writes o = map-append done_by writes (o ∷ [])

module _ (old new : Overriding) (past : History) (next : NextOperation) (label : Label)
    (stands : IsOverridingOf old past) (offered : IsOffered past next label) where
  abbrev now : Records
  now = operate next ∷ past.records

  -- after a label that is an update
  pub overriding_taken : (update : Update) (stamp : Stamp) → Some update ≡ update_in next.op → label.stamp ≡ Some stamp
      → new.writes.items ≡ old.writes.items ++ Some (write_of old.numbers update stamp) ∷ []
      → new.states.items ≡ states_after old.states.items label.replica (Some update)
      → ((q c : ℕ) → last_label (labels_in new.lasts.items) q c
      ≡ last_with (labels_in old.lasts.items) label.replica (write_of old.numbers update stamp).on (vec_len old.writes) q c)
      → ((x : ℕ) → get nat_eq new.numbers.numbers x ≡ number_with (get nat_eq old.numbers.numbers) (element_of update) (write_of old.numbers update stamp).on x)
      → hash_map_len new.numbers.numbers ≡ count_with (get nat_eq old.numbers.numbers) (hash_map_len old.numbers.numbers) (element_of update)
      → vec_len new.lasts ≡ vec_len old.lasts → IsOverridingOf new (history_of past.kind past.initial_replicas now)
  overriding_taken update stamp does stamped its_writes states says pointwise size same_count =
      let write = write_of old.numbers update stamp in
      let number_of = numbers_of old in
      let count = hash_map_len old.numbers.numbers in
      let lasts = labels_in old.lasts.items in
      let replica = its_replica past next label offered in
      let it : IsNextWrite write number_of count next = record {
        update = sym does;
        stamp = sym (ap (λ (l : Label). l.stamp) offered.becomes) ∙ stamped;
        on = refl;
      } in
      let sorts = by_timestamp past.kind stands.one in
      let kept = stands.states.labels in
      let later = states_taken (updates_written old.writes.items) old.states.items past stands.states next label (admits-overriding past.kind stands.one) offered in
      let its_updates : updates_written new.writes.items ≡ updates_written old.writes.items ++ update_in next.op ∷ [] =
      ap updates_written its_writes ∙ more_updates old.writes.items (Some write) ∙ ap (λ o. updates_written old.writes.items ++ o ∷ []) does in
      let its_states : new.states.items ≡ states_after old.states.items next.by (update_in next.op) =
      states ∙ ap (λ r. states_after old.states.items r (Some update)) replica ∙ ap (states_after old.states.items next.by) does in
      let its_numbers : numbers_of new ≡ number_with number_of (element_of update) write.on = λ i x. pointwise x i in
      let counted : vec_len old.writes ≡ label_count past.records = omega (arith, old.writes.ok.0, writes_counted old past stands) in
      let same : length new.lasts.items ≡ length old.lasts.items = omega (arith, new.lasts.ok.0, old.lasts.ok.0, same_count) in
      let same_labels : length (labels_in new.lasts.items) ≡ length lasts =
      length-map new.lasts.items (λ last. last.labels.items) ∙ same ∙ sym (length-map old.lasts.items (λ last. last.labels.items)) in
      let last_says : (q c : ℕ) → last_label (labels_in new.lasts.items) q c ≡ last_with lasts next.by write.on (label_count past.records) q c =
      λ q c. says q c ∙ ap (λ r. last_with lasts r write.on (vec_len old.writes) q c) replica ∙ ap (λ k. last_with lasts next.by write.on k q c) counted in
      record {
        one = stands.one;
        states = subst (λ us. AreStatesOf us new.states.items (history_of past.kind past.initial_replicas now)) (sym its_updates)
            (subst (λ ss. AreStatesOf (updates_written old.writes.items ++ update_in next.op ∷ []) ss (history_of past.kind past.initial_replicas now)) (sym its_states) later);
        writes = subst (λ ws. AreWritesOf ws (numbers_of new) now) (sym its_writes)
            (subst (λ ns. AreWritesOf (old.writes.items ++ Some write ∷ []) ns now) (sym its_numbers)
            (writes-update past.kind old.writes.items [] number_of count next past.records write sorts kept stands.writes stands.numbers it offered.fits offered.stamps));
        lasts = subst (λ ws. AreLastOf ws (labels_in new.lasts.items) now) (sym its_writes)
            (lasts-update past.kind old.writes.items lasts number_of count next past.records write sorts kept stands.writes stands.numbers it offered.fits offered.stamps
            (labels_in new.lasts.items) stands.lasts same_labels last_says);
        replicas = same ∙ stands.replicas;
        numbers = subst (λ ns. AreBelow ns (hash_map_len new.numbers.numbers)) (sym its_numbers)
            (subst (λ k. AreBelow (number_with number_of (element_of update) write.on) k) (sym size) (below_with number_of count stands.writes.one stands.numbers (element_of update)));
        few = omega (arith, size, count_grows number_of count (element_of update), stands.few);
      }

  -- after a label that is not an update
  pub overriding_asked : None ≡ update_in next.op → new.writes.items ≡ old.writes.items ++ None ∷ [] → new ≡ record old { writes = new.writes } → IsOverridingOf new (history_of past.kind past.initial_replicas now)
  overriding_asked does its_writes same =
      let later = states_taken (updates_written old.writes.items) old.states.items past stands.states next label (admits-overriding past.kind stands.one) offered in
      let kept = stands.states.labels in
      let its_updates : updates_written new.writes.items ≡ updates_written old.writes.items ++ update_in next.op ∷ [] =
      ap updates_written its_writes ∙ more_updates old.writes.items None ∙ ap (λ o. updates_written old.writes.items ++ o ∷ []) does in
      let stay : new.states.items ≡ old.states.items = ap (λ (o : Overriding). o.states.items) same in
      let its_states : new.states.items ≡ states_after old.states.items next.by (update_in next.op) =
      stay ∙ sym (set-get_or old.states.items next.by (Number (pos 0))) ∙ ap (states_after old.states.items next.by) does in
      let its_numbers = ap (λ (o : Overriding). o.numbers) same in
      let its_lasts = ap (λ (o : Overriding). o.lasts.items) same in
      record {
        one = stands.one;
        states = subst (λ us. AreStatesOf us new.states.items (history_of past.kind past.initial_replicas now)) (sym its_updates)
            (subst (λ ss. AreStatesOf (updates_written old.writes.items ++ update_in next.op ∷ []) ss (history_of past.kind past.initial_replicas now)) (sym its_states) later);
        writes = subst (λ ws. AreWritesOf ws (numbers_of new) now) (sym its_writes)
            (subst (λ ns. AreWritesOf (old.writes.items ++ None ∷ []) (get nat_eq ns.numbers) now) (sym its_numbers)
            (writes-query old.writes.items (numbers_of old) past.records next kept stands.writes));
        lasts = subst (λ ws. AreLastOf ws (labels_in new.lasts.items) now) (sym its_writes)
            (subst (λ ls. AreLastOf (old.writes.items ++ None ∷ []) (labels_in ls) now) (sym its_lasts)
            (lasts-query old.writes.items (labels_in old.lasts.items) past.records next kept stands.lasts));
        replicas = ap length its_lasts ∙ stands.replicas;
        numbers = subst (λ ns. AreBelow (get nat_eq ns.numbers) (hash_map_len ns.numbers)) (sym its_numbers) stands.numbers;
        few = subst (λ ns. hash_map_len ns.numbers ≤ label_count past.records + 1) (sym its_numbers) (omega (arith, stands.few));
      }

-- the initial state represents the empty records
none_kept : (kind : Kind) (replicas : ℕ) → AreStatesOf [] (replicate replicas (initial_state kind)) (history_of kind replicas [])
none_kept kind replicas = record {
  labels = refl;
  replicas = length-replicate replicas (initial_state kind);
  folded = λ q within. ap Some (sym (get_or-replicate replicas q (initial_state kind) (Number (pos 0)) (omega (arith, within, length-replicate replicas (initial_state kind)))));
}

empty_in : (replicas q : ℕ) → get_or (replicate {A = List (Option ℕ)} replicas []) q [] ≡ []
empty_in zero q = refl
empty_in (suc n) zero = refl
empty_in (suc n) (suc q) = empty_in n q

none_last : (replicas : ℕ) → AreLastOf [] (replicate replicas []) []
none_last replicas = record {
  some = λ q c k within is. absurd (none-some k (sym (ap (λ ls. label_on ls c) (empty_in replicas q)) ∙ is));
  none = λ q c within is label write there. absurd (omega (arith, there.1));
}

pub overriding_none : (kept : Overriding) (kind : Kind) (replicas : ℕ) → (kind ≡ variant.Register) ⊎ (kind ≡ variant.LwwSet) → kept.writes.items ≡ []
    → kept.states.items ≡ replicate replicas (initial_state kind) → labels_in kept.lasts.items ≡ replicate replicas [] → ((x : ℕ) → get nat_eq kept.numbers.numbers x ≡ None)
    → hash_map_len kept.numbers.numbers ≡ 0 → IsOverridingOf kept (history_of kind replicas [])
overriding_none kept kind replicas one writes states lasts none size = record {
  one = one;
  states = subst (λ ws. AreStatesOf (updates_written ws) kept.states.items (history_of kind replicas [])) (sym writes)
      (subst (λ ss. AreStatesOf [] ss (history_of kind replicas [])) (sym states) (none_kept kind replicas));
  writes = subst (λ ws. AreWritesOf ws (numbers_of kept) []) (sym writes) (record {
    stamps = λ label write there at. absurd (omega (arith, there.1));
    numbers = λ n write at. absurd (none-some write at);
    one = λ x y number at_x at_y. absurd (none-some number (sym (none x) ∙ at_x));
  });
  lasts = subst (λ ws. AreLastOf ws (labels_in kept.lasts.items) []) (sym writes) (subst (λ ls. AreLastOf [] ls []) (sym lasts) (none_last replicas));
  replicas = sym (length-map kept.lasts.items (λ last. last.labels.items)) ∙ ap length lasts ∙ length-replicate replicas [];
  numbers = λ x number at. absurd (none-some number (sym (none x) ∙ at));
  few = omega (arith, size);
}
