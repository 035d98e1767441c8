-- Lemmas on visibility: in a sequence that extends it, each update stands before those that see it.
use Rattle.std.proofs.Common.{◌≡◌, ℕ, true, false, List, [], ◌∷◌, ◌++◌, Some, refl, sym, ap, ◌∙◌, subst, inl, inr}
use Rattle.std.specs.Prelude.{is_some, Contains, IsPermutation}
use Rattle.std.proofs.lemmas.Bool.{and_from, and_right}
use Rattle.std.proofs.lemmas.List.Elements.{Contains-append_right}
use Rattle.ra_labels.specs.declared.operation.Update.{Update}
use Rattle.ra_labels.specs.declared.label.Label.{Label}
use Rattle.ra_labels.specs.Edges.{IsBefore}
use Rattle.ra_labels.specs.Records.{Records, labels_of}
use Rattle.ra_labels.specs.Visibility.{is_update, sees}
use Rattle.ra_labels.specs.Rewriting.{Part, update_of}
use Rattle.ra_labels.specs.Linearization.{parts_in, is_visible_to, extends}
use Rattle.ra_labels.specs.TheoremTerms.{StandsBefore}
use Rattle.ra_labels.proofs.Members.{head_or_behind, at_head, none_there, from_where}
use Rattle.ra_list_order.proofs.Befores.{before_across}
use Rattle.ra_theorems.proofs.TheoremIndex.{extends_iff_stands_before-stands, sees_earlier_updates-itself, sees_earlier_updates-updates, label_at_each_number-one}
use Rattle.ra_precedence.specs.Conditions.{Meets, MeetsAll}
use Rattle.ra_some_order.specs.VisibleUpdates.{visible_labels}
use Rattle.ra_some_order.specs.UpdateConditions.{precedence, visibility_conditions}
use Rattle.ra_some_order.specs.Covering.{ExtendsVisibility}
use Rattle.ra_some_order.specs.SomeOrder.{update_order}
use Rattle.ra_some_order.proofs.MadeUpdates.{update_made, some_update}
use Rattle.ra_some_order.proofs.UpdateOrders.{is_update_part, order-append, in_order, update_in_order, update_label}
use Rattle.ra_some_order.proofs.MetConditions.{visible_there, there_visible}

-- updates in their order
pub stands_in_order : (sequence : List Part) (p q : Part) → is_update_part p ≡ true → is_update_part q ≡ true
    → StandsBefore p q sequence → IsBefore (update_order sequence) p.label.number q.label.number
stands_in_order sequence p q p_updates q_updates (before, between, after, split) =
    let front = before ++ p ∷ between in
    subst (λ order. IsBefore order p.label.number q.label.number)
    (sym (ap update_order split ∙ order-append front (q ∷ after)))
    (before_across (update_order front) (update_order (q ∷ after)) p.label.number q.label.number
    (in_order front p (Contains-append_right before (p ∷ between) p (at_head p between p refl)) p_updates)
    (in_order (q ∷ after) q (at_head q after q refl) q_updates))

visible_irreflexive : (records : Records) (p : Part) → is_visible_to records p p ≡ false
visible_irreflexive records p =
    and_right (is_some (update_of p.act)) (sees records p.label.number p.label.number)
    (sees_earlier_updates-itself records p.label.number)

-- what a label sees is an update
pub seen_update : (records : Records) (n : ℕ) (seen : Label) → Contains (visible_labels records n) seen
    → Contains (labels_of records) seen × (sees records n seen.number ≡ true)
    × ((u : Update) × (update_made seen.op ≡ Some u))
seen_update records n seen visible =
    let (there, sees_it) = there_visible records n seen visible in
    let (label, found, numbered, updates) = update_label records seen.number
    (sees_earlier_updates-updates records n seen.number sees_it) in
    let label_is = label_at_each_number-one records label seen found there numbered in
    (there, sees_it, some_update seen.op (ap (λ (l : Label). is_update l.op) (sym label_is) ∙ updates))

module _ (records : Records) (sequence : List Part) (same : IsPermutation (parts_in records) sequence)
    (extended : extends (is_visible_to records) sequence ≡ true) where
  -- an update stands behind those that it sees
  seen_before : (label seen : Label) → Contains (labels_of records) label → is_update label.op ≡ true
      → Contains (visible_labels records label.number) seen
      → IsBefore (update_order sequence) seen.number label.number
  seen_before label seen there updates visible =
      let (seen_there, sees_it, made) = seen_update records label.number seen visible in
      let (u, makes) = some_update label.op updates in
      let (p, p_found, p_label, p_does) = update_in_order records sequence same seen made.0 seen_there made.1 in
      let (q, q_found, q_label, q_does) = update_in_order records sequence same label u there makes in
      let p_number : p.label.number ≡ seen.number = ap (λ (l : Label). l.number) p_label in
      let q_number : q.label.number ≡ label.number = ap (λ (l : Label). l.number) q_label in
      let visible_to : is_visible_to records p q ≡ true =
      and_from (is_some (update_of p.act)) (sees records q.label.number p.label.number) (ap is_some p_does)
      ((λ i. sees records (q_number i) (p_number i)) ∙ sees_it) in
      subst (λ n. IsBefore (update_order sequence) seen.number n) q_number
      (subst (λ m. IsBefore (update_order sequence) m q.label.number) p_number
      (stands_in_order sequence p q (ap is_some p_does) (ap is_some q_does)
      (extends_iff_stands_before-stands (is_visible_to records) (visible_irreflexive records) sequence extended p q
      p_found q_found visible_to)))

  pub visibility_met : (label : Label) → Contains (labels_of records) label → is_update label.op ≡ true
      → MeetsAll (update_order sequence) (visibility_conditions (visible_labels records label.number) label.number)
  visibility_met label there updates condition among =
      let (seen, visible, is) = from_where (λ (l : Label). precedence l.number label.number)
      (visible_labels records label.number) condition among in
      subst (Meets (update_order sequence)) is (λ b first. elim (head_or_behind seen.number [] b first) [
        | inl here ↦ (
          label.number,
          at_head label.number [] label.number refl,
          subst (λ m. IsBefore (update_order sequence) m label.number) here
              (seen_before label seen there updates visible),
        )
        | inr further ↦ absurd (none_there b further)
      ])

  pub updates_extend : ExtendsVisibility records (update_order sequence)
  updates_extend n m updates seen =
      let (label, there, numbered, updates_it) = update_label records n updates in
      let (other, other_there, other_numbered, other_updates) = update_label records m
      (sees_earlier_updates-updates records n m seen) in
      let visible = visible_there records label.number other other_there
      ((λ i. sees records (numbered i) (other_numbered i)) ∙ seen) in
      subst (λ k. IsBefore (update_order sequence) k n) other_numbered
      (subst (IsBefore (update_order sequence) other.number) numbered
      (seen_before label other there updates_it visible))
