-- Lemmas on the number of updates of an RGA that a delivery settles.
use Rattle.std.proofs.Common.{◌≡◌, ℕ, ◌+◌, ◌≤◌, Bool, true, List, ◌∷◌, ◌++◌, length, refl, sym, ap, ◌∙◌, subst, arith}
use Rattle.std.specs.Prelude.{Result, IfOk, Contains}
use Rattle.std.proofs.lemmas.Result.{IfOk-weaker}
use Rattle.std.proofs.lemmas.List.Elements.{Contains-append_right}
use Rattle.ra_labels.specs.declared.kind.Kind.TheVariants.{Rga}
use Rattle.ra_labels.specs.declared.label.Label.{Label}
use Rattle.ra_labels.specs.declared.command.Command.TheVariants.{Deliver}
use Rattle.ra_labels.specs.Records.{Records}
use Rattle.ra_labels.specs.Visibility.{has_delivered}
use Rattle.ra_labels.specs.Specification.{is_admitted}
use Rattle.ra_labels.specs.Linearization.{updates_admitted}
use Rattle.ra_labels.specs.NamedOrder.{named_labels, named_sequence}
use Rattle.ra_labels.specs.Insertion.{updates_among, updates_passing, delivered_updates, or_label, HasUpdate}
use Rattle.ra_labels.specs.Pending.{is_present_element, dependency_of, IsSettled}
use Rattle.ra_labels.specs.HistorySoFar.{History, history_of}
use Rattle.ra_labels.proofs.Members.{at_head}
use Rattle.ra_theorems.proofs.TheoremIndex.{named_labels_sorted-among, label_at_each_number-one, updates_passing_monotone, operation_update_unique-exactly, delivered_extends_by_one-delivery, later_command_preserves_updates_passing-delivery}
use Rattle.ra_theorems.proofs.TheoremIndex.{updates_passing_congruent, updates_passing_insert-count, settled_updates_admitted-same, new_label_settles_only_later-count}
use Rattle.ra_witness.specs.declared.rga.Rga as rga
use Rattle.ra_witness.specs.declared.effects.Effects.{Effects}
use Rattle.ra_witness.specs.declared.effects.Effects.TheVariants as effects
use Rattle.ra_witness.specs.Rga.{IsRgaOf}
use Rattle.ra_witness.specs.Effects.{AreEffectsOf}
use Rattle.ra_witness.specs.Offered.{IsDelivered}
use Rattle.ra_witness.specs.Settled.{SettlesMore}
use Rattle.ra_witness.proofs.NumberedLabels.{update_found}
use Rattle.ra_witness.proofs.CommutingKinds.{is_rga}

module _ (past : History) (to n more : ℕ) (rga : past.kind ≡ Rga) (told : IsDelivered past to n)
    (settles : SettlesMore past.records (Deliver to n) to more) where
  abbrev older : ℕ → Bool
  older = or_label (has_delivered past.records to) n

  -- what the delivery settles is settled in the previous records, given that label n is delivered too
  settled_with_it : IsSettled past.records older settles.now
  settled_with_it =
      let one = delivered_extends_by_one-delivery past.records to n in
      let same = later_command_preserves_updates_passing-delivery Rga past.records to n settles.now in
      record {
        had_them = λ m it. sym (one m told.update) ∙ settles.after.had_them m it;
        where_needed = λ l u there makes it. settles.after.where_needed l u there makes (one l.number told.update ∙ it)
            ∙ ap (is_present_element (dependency_of u)) same;
      }

  counted : length (updates_passing Rga past.records settles.now)
      ≡ length (updates_passing Rga past.records settles.settled) + more
  counted = ap length (sym (later_command_preserves_updates_passing-delivery Rga past.records to n settles.now))
      ∙ settles.count

  all_admitted : updates_admitted Rga (named_sequence Rga past.records) ≡ true
  all_admitted = subst (λ k. updates_admitted k (named_sequence k past.records) ≡ true) rga told.holds.updates

  -- at most the label itself, and the delivered ones behind it
  pub few_more : (before behind : List Label) (it : Label) → named_labels past.kind past.records ≡ before ++ it ∷ behind
      → it.number ≡ n → more ≤ 1 + length (updates_among (has_delivered past.records to) behind)
  few_more before behind it is number =
      let (label, at) = update_found past.records n told.update in
      let named = subst (λ k. named_labels k past.records ≡ before ++ it ∷ behind) rga is in
      let it_in = (named_labels_sorted-among Rga past.records it).0
      (subst (λ ls. Contains ls it) (sym named) (Contains-append_right before (it ∷ behind) it (at_head it behind it refl))) in
      let same = label_at_each_number-one past.records label it at.there it_in (at.number ∙ sym number) in
      let (u, makes) = (operation_update_unique-exactly label.op).0 at.update in
      let now = subst (λ k. IsSettled past.records (or_label (has_delivered past.records to) k) settles.now) (sym number) settled_with_it in
      let count = new_label_settles_only_later-count past.records (has_delivered past.records to) settles.settled settles.now
      before behind it u all_admitted named (subst (λ (l : Label). HasUpdate l.op u) same makes) settles.before now in
      omega (arith, count, counted)

  -- one more update is delivered
  one_more : length (updates_passing Rga past.records older) ≡ length (updates_passing Rga past.records (has_delivered past.records to)) + 1
  one_more =
      let (label, at) = update_found past.records n told.update in
      let (u, makes) = (operation_update_unique-exactly label.op).0 at.update in
      subst (λ k. length (updates_passing Rga past.records (or_label (has_delivered past.records to) k))
      ≡ length (updates_passing Rga past.records (has_delivered past.records to)) + 1) at.number
      (updates_passing_insert-count Rga past.records (has_delivered past.records to) label u at.there makes
      (ap (has_delivered past.records to) at.number ∙ told.causal.0))

  -- if no update is pending afterwards, all delivered updates are settled
  all_settled : is_admitted past.kind (delivered_updates past.kind (Deliver to n ∷ past.records) to) ≡ true
      → updates_passing Rga past.records settles.now ≡ updates_passing Rga past.records older
  all_settled none_waits =
      let later = Deliver to n ∷ past.records in
      let passing = later_command_preserves_updates_passing-delivery Rga past.records to n (has_delivered later to)
      ∙ updates_passing_congruent Rga past.records (has_delivered later to) older
      (λ l u l_in makes. delivered_extends_by_one-delivery past.records to n l.number told.update) in
      settled_updates_admitted-same past.records older settles.now all_admitted settled_with_it
      (sym (ap (is_admitted Rga) passing)
      ∙ subst (λ k. is_admitted k (delivered_updates k later to) ≡ true) rga none_waits)

  pub some_more : is_admitted past.kind (delivered_updates past.kind (Deliver to n ∷ past.records) to) ≡ true → 1 ≤ more
  some_more none_waits =
      let fewer = updates_passing_monotone Rga past.records settles.settled (has_delivered past.records to) settles.before.had_them in
      omega (arith, counted, ap length (all_settled none_waits), one_more, fewer)

  -- if no update was pending before either, only the label itself is
  pub one_settled : is_admitted past.kind (delivered_updates past.kind past.records to) ≡ true
      → is_admitted past.kind (delivered_updates past.kind (Deliver to n ∷ past.records) to) ≡ true → more ≡ 1
  one_settled none_waited none_waits =
      let before = settled_updates_admitted-same past.records (has_delivered past.records to) settles.settled all_admitted
      settles.before (subst (λ k. is_admitted k (delivered_updates k past.records to) ≡ true) rga none_waited) in
      omega (arith, counted, ap length (all_settled none_waits), ap length before, one_more)

-- a reported delivery of a past of an RGA
pub of_rga : (past : History) → past.kind ≡ Rga → (to n : ℕ) → IsDelivered past to n
    → IsDelivered (history_of Rga past.initial_replicas past.records) to n
of_rga past is to n told = subst (λ k. IsDelivered (history_of k past.initial_replicas past.records) to n) is told

-- a property that follows from the number of settled updates, if that many steps were made
pub settled_in : {E : Type 0} {P : ℕ → Type 0} (Q : ℕ → Records → Type 0) (k : Effects) (past : History)
    (stands : AreEffectsOf k past) (kept : rga.Rga) → k ≡ effects.Rga kept → (to n : ℕ) → IsDelivered past to n
    → (result : Result ℕ E)
    → ((initial_replicas : ℕ) (records : Records) → IsRgaOf kept initial_replicas records → IsDelivered (history_of Rga initial_replicas records) to n
    → IfOk result (λ steps. Q initial_replicas records × SettlesMore records (Deliver to n) to steps))
    → ((steps : ℕ) → SettlesMore past.records (Deliver to n) to steps → P steps) → IfOk result P
settled_in Q k past stands kept is to n told result delivered follows =
    let known = is_rga k past stands kept is in
    IfOk-weaker result _ _ (λ steps after. follows steps after.1)
    (delivered past.initial_replicas past.records known.1 (of_rga past known.0 to n told))
