-- Lemmas on a new label and the orders of the updates: a new update can stand last, and a read changes no order.
use Rattle.std.proofs.Common.{◌≡◌, ℕ, ◌+◌, ◌<◌, true, false, List, [], ◌∷◌, ◌++◌, refl, sym, ap, ◌∙◌, subst, inl, inr, arith}
use Rattle.std.specs.Prelude.{Contains}
use Rattle.std.specs.Option.{option_map_or}
use Rattle.std.proofs.lemmas.Bool.{cases_eq, cond-true, false≢true}
use Rattle.std.proofs.lemmas.List.Elements.{Contains-append_left, Contains-append_right, Contains-append_cases}
use Rattle.std.proofs.lemmas.List.Sorted.{IsPermutation-sym, IsPermutation-to_front}
use Rattle.ra_labels.specs.declared.label.Label.{Label}
use Rattle.ra_labels.specs.Records.{Records, label_count, labels_of}
use Rattle.ra_labels.specs.Visibility.{is_update, is_update_at}
use Rattle.ra_labels.specs.HistorySoFar.{NextOperation, operate, label_of}
use Rattle.ra_labels.proofs.Members.{head_or_behind, at_head, none_there, from_where}
use Rattle.ra_list_order.proofs.Adds.{once_moved}
use Rattle.ra_list_order.proofs.Befores.{before_left, before_across}
use Rattle.ra_list_order.proofs.Puts.{once_put}
use Rattle.ra_theorems.proofs.TheoremIndex.{is_update_persists, sees_earlier_updates-earlier, sees_earlier_updates-updates, delivered_are_updates-there, label_at_each_number-found}
use Rattle.ra_precedence.specs.Conditions.{Meets, MeetsAll}
use Rattle.ra_some_order.specs.VisibleUpdates.{visible_labels}
use Rattle.ra_some_order.specs.UpdateConditions.{precedence, visibility_conditions, read_conditions, conditions_of, conditions_of_label, IsOrderOfUpdates}
use Rattle.ra_some_order.proofs.MetConditions.{there_visible}
use Rattle.ra_some_order.proofs.NewLabels.{conditions-new}

module _ (records : Records) (next : NextOperation) where
  abbrev now : Records
  now = operate next ∷ records

  abbrev n : ℕ
  n = label_count records

  older_update : (m : ℕ) → m < n → is_update_at now m ≡ is_update_at records m
  older_update m below = is_update_persists (operate next ∷ []) records m below

  newest_update : is_update_at now n ≡ is_update next.op
  newest_update =
      ap (λ o. option_map_or (λ (l : Label). is_update l.op) o false)
      (label_at_each_number-found now (label_of records next)
      (at_head (label_of records next) (labels_of records) (label_of records next) refl))

  below_now : (m : ℕ) → is_update_at now m ≡ true → m < n + 1
  below_now m is = delivered_are_updates-there now m is

  below_records : (m : ℕ) → is_update_at records m ≡ true → m < n
  below_records m is = delivered_are_updates-there records m is

  module _ (order : List ℕ) (is : IsOrderOfUpdates records order) where
    -- a read is in no order
    pub order_with_read : is_update next.op ≡ false → IsOrderOfUpdates now order
    order_with_read read = record {
      once = is.once;
      all =
          λ m. (
            (λ updates.
                elim (cases_eq m n) [
                  | inl newest ↦ absurd (false≢true (sym read ∙ sym newest_update
                      ∙ ap (is_update_at now) (sym newest) ∙ updates))
                  | inr other ↦
                      let bound = below_now m updates in
                      (is.all m).0 (sym (older_update m (omega (arith, bound, other))) ∙ updates)
                ]),
            (λ there.
                let updates = (is.all m).1 there in
                older_update m (below_records m updates) ∙ updates),
          );
    }

    not_there : ¬ Contains order n
    not_there there = let bound = below_records n ((is.all n).1 there) in absurd (omega (arith, bound))

    pub order_with_update : is_update next.op ≡ true → IsOrderOfUpdates now (order ++ n ∷ [])
    order_with_update updates_it = record {
      once =
          once_moved (n ∷ order) (order ++ n ∷ [])
          (IsPermutation-sym (order ++ n ∷ []) (n ∷ order) (IsPermutation-to_front order n))
          (once_put order 0 n not_there is.once);
      all =
          λ m. (
            (λ updates.
                elim (cases_eq n m) [
                  | inl newest ↦ Contains-append_right order (n ∷ []) m (at_head n [] m newest)
                  | inr other ↦
                      let bound = below_now m updates in
                      Contains-append_left order (n ∷ []) m
                      ((is.all m).0 (sym (older_update m (omega (arith, bound, other))) ∙ updates))
                ]),
            (λ there. elim (Contains-append_cases order (n ∷ []) m there) [
              | inl older ↦
                  let updates = (is.all m).1 older in
                  older_update m (below_records m updates) ∙ updates
              | inr last ↦ elim (head_or_behind n [] m last) [
                | inl here ↦ ap (is_update_at now) (sym here) ∙ newest_update ∙ updates_it
                | inr further ↦ absurd (none_there m further)
              ]
            ]),
          );
    }

    -- the new update comes after all that it sees
    new_met : MeetsAll (order ++ n ∷ []) (visibility_conditions (visible_labels now n) n)
    new_met condition among =
        let (seen, visible, made) = from_where (λ (l : Label). precedence l.number n)
        (visible_labels now n) condition among in
        let sees_it = (there_visible now n seen visible).1 in
        let earlier = sees_earlier_updates-earlier now n seen.number sees_it in
        let updates = sees_earlier_updates-updates now n seen.number sees_it in
        let there : Contains order seen.number =
        (is.all seen.number).0 (sym (older_update seen.number earlier) ∙ updates) in
        subst (Meets (order ++ n ∷ [])) made (λ b first. elim (head_or_behind seen.number [] b first) [
          | inl here ↦ (
            n,
            at_head n [] n refl,
            before_across order (n ∷ []) b n (subst (Contains order) here there) (at_head n [] n refl),
          )
          | inr further ↦ absurd (none_there b further)
        ])

    pub conditions_with_update : is_update next.op ≡ true → MeetsAll order (conditions_of records)
        → MeetsAll (order ++ n ∷ []) (conditions_of now)
    conditions_with_update updates_it meets condition among =
        let its = conditions_of_label now (label_of records next) in
        elim (Contains-append_cases its (conditions_of records) condition
        (subst (λ cs. Contains cs condition) (conditions-new records next) among)) [
          | inl new ↦ new_met condition (subst (λ cs. Contains cs condition)
              (cond-true (is_update next.op) (visibility_conditions (visible_labels now n) n)
              (read_conditions (visible_labels now n) next.op) updates_it) new)
          | inr older ↦ λ b first.
              let (c, after, before) = meets condition older b first in
              (c, after, before_left order (n ∷ []) b c before)
        ]
