-- Lemmas on the sequence that an order of the updates leads to: the updates in this order, and each query before the
-- first part that it must precede.
use Rattle.std.proofs.Common.{◌≡◌, ℕ, Bool, true, false, List, [], ◌∷◌, ◌++◌, filter, refl, sym, ap, ◌∙◌, subst, inl, inr, arith}
use Rattle.std.specs.Prelude.{not, is_some, map, Contains, IsPermutation}
use Rattle.std.specs.List.{list_all}
use Rattle.std.specs.Option.{option_map_or}
use Rattle.std.proofs.lemmas.Bool.{false≢true, and_from, not-true, not_from_false, false_from_ne_true}
use Rattle.std.proofs.lemmas.List.Elements.{Contains-append_cases}
use Rattle.std.proofs.lemmas.List.Sorted.{IsPermutation-refl, IsPermutation-trans, IsPermutation-sym, IsPermutation-append_left, IsPermutation-append_comm, IsPermutation-filter_both, Contains-permutation}
use Rattle.ra_labels.specs.declared.label.Label.{Label}
use Rattle.ra_labels.specs.Edges.{EachOnce, IsBefore}
use Rattle.ra_labels.specs.Records.{Records}
use Rattle.ra_labels.specs.Visibility.{is_update, sees}
use Rattle.ra_labels.specs.Rewriting.{Part, update_of}
use Rattle.ra_labels.specs.Linearization.{extends_visibility, parts_in, must_precede, extends}
use Rattle.ra_labels.proofs.InLists.{list_all-from_contains}
use Rattle.ra_labels.proofs.Members.{at_head, behind_head, reached, there-kept}
use Rattle.ra_list_order.proofs.Befores.{second_there}
use Rattle.ra_list_order.proofs.JoinedChunks.{once_right, once_apart}
use Rattle.ra_theorems.proofs.TheoremIndex.{must_precede_irreflexive, label_at_each_number-found, label_at_each_number-one}
use Rattle.ra_some_order.specs.UpdateConditions.{IsOrderOfUpdates}
use Rattle.ra_some_order.specs.SomeOrder.{update_order}
use Rattle.ra_some_order.specs.Covering.{ExtendsVisibility}
use Rattle.ra_some_order.proofs.MadeUpdates.{part_makes, update_if_made, is_some-value}
use Rattle.ra_some_order.proofs.UpdateOrders.{is_update_part, order_of_updates}
use Rattle.ra_some_order.proofs.Selections.{AreOrdered, in_order_of_keys}
use Rattle.ra_some_order.proofs.Insertions.{LeadsOn, insert_all, all_same, all_extend, all_kept, all_pass}
use Rattle.ra_some_order.proofs.OwnUpdates.{seen_after}
use Rattle.ra_some_order.proofs.PartKinds.{IsFittingPart, fitting_part}
use Rattle.ra_some_order.proofs.PrecedingParts.{Seen, Earlier, Halves, must_cases, seen_must, earlier_must}

-- ---- a list whose keys are in an order extends each order that the keys respect
module _ {A : Type 0} (key : A → ℕ) (precedes : A → A → Bool) where
  abbrev pub RespectedBy : List A → Type 0
  RespectedBy xs = (p q : A) → Contains xs p → Contains xs q → precedes p q ≡ true → IsBefore (map key xs) (key p)
      (key q)

  pub extends_if_respected : (xs : List A) → EachOnce (map key xs) → RespectedBy xs → extends precedes xs ≡ true
  extends_if_respected [] once respected = refl
  extends_if_respected (x ∷ xs) once respected =
      and_from (list_all (λ q. not (precedes q x)) xs) (extends precedes xs)
      (list_all-from_contains (λ q. not (precedes q x)) xs (λ q there.
      not_from_false (precedes q x) (false_from_ne_true (precedes q x) (λ before.
      elim (respected q x (behind_head x xs q there) (at_head x xs x refl) before) [
        | inl here ↦ new (key x) here.1 refl
        | inr further ↦ new (key x) (second_there (map key xs) (key q) (key x) further) refl
      ]))))
      (extends_if_respected xs (once_right (key x ∷ []) (map key xs) once) (λ p q p_there q_there before.
      elim (respected p q (behind_head x xs p p_there) (behind_head x xs q q_there) before) [
        | inl here ↦ absurd (new (key p) (reached key xs p p_there) here.0)
        | inr further ↦ further
      ]))
    where
      new : (n : ℕ) → Contains (map key xs) n → ¬ (key x ≡ n)
      new n there is = once_apart (key x ∷ []) (map key xs) n once (at_head (key x) [] n is) there

module _ (records : Records) (order : List ℕ) (is : IsOrderOfUpdates records order)
    (extended : ExtendsVisibility records order) where
  abbrev number_of : Part → ℕ
  number_of p = p.label.number

  abbrev parts : List Part
  parts = parts_in records

  abbrev is_query_part : Part → Bool
  is_query_part p = not (is_update_part p)

  abbrev updates : List Part
  updates = filter is_update_part parts

  abbrev queries : List Part
  queries = filter is_query_part parts

  fitting : (p : Part) → Contains parts p → IsFittingPart records p
  fitting p there = fitting_part records p there

  by_number : IsOrderOfUpdates records (map number_of updates)
  by_number = order_of_updates records parts (IsPermutation-refl parts)

  ordered_updates : AreOrdered number_of updates order
  ordered_updates = in_order_of_keys number_of order updates by_number.once is.once
      (λ m. ((λ there. (is.all m).0 ((by_number.all m).1 there)), (λ there. (by_number.all m).0 ((is.all m).1 there))))

  module _ (ordered : AreOrdered number_of updates order) where
    abbrev in_order : List Part
    in_order = ordered.ordered

    abbrev sequence : List Part
    sequence = insert_all (must_precede records) queries in_order

    from_ordered : (p : Part) → Contains in_order p → Contains parts p × (is_update_part p ≡ true)
    from_ordered p there = there-kept is_update_part parts p
        (Contains-permutation in_order updates p (IsPermutation-sym updates in_order ordered.same) there)

    from_queries : (p : Part) → Contains queries p → Contains parts p × (is_update_part p ≡ false)
    from_queries p there =
        let kept = there-kept is_query_part parts p there in
        (kept.0, not-true (is_update_part p) kept.1)

    all_parts : IsPermutation parts sequence
    all_parts =
        IsPermutation-trans parts (updates ++ queries) sequence
        (IsPermutation-filter_both is_update_part is_query_part (λ p. refl) parts)
        (IsPermutation-trans (updates ++ queries) (in_order ++ queries) sequence
        (IsPermutation-append_left queries updates in_order ordered.same)
        (IsPermutation-trans (in_order ++ queries) (queries ++ in_order) sequence
        (IsPermutation-append_comm in_order queries)
        (all_same (must_precede records) queries in_order)))

    from_sequence : (p : Part) → Contains sequence p → Contains parts p
    from_sequence p there = Contains-permutation sequence parts p (IsPermutation-sym parts sequence all_parts) there

    -- its updates are in the order
    order_is : update_order sequence ≡ order
    order_is =
        ap (map number_of) (all_kept (must_precede records) is_update_part queries in_order
        (λ q there. (from_queries q there).1))
        ∙ ap (map number_of) (all_pass is_update_part in_order (λ p there. (from_ordered p there).1))
        ∙ ordered.keys_are

    -- ---- it extends the order of parts
    label_updates : (p : Part) → Contains parts p → is_update_part p ≡ true → is_update p.label.op ≡ true
    label_updates p there updates_it =
        let (u, does) = is_some-value (update_of p.act) updates_it in
        sym (update_if_made p.label.op) ∙ ap is_some (part_makes records p u there does).1

    -- an update that another one sees stands before it
    seen_first : (p q : Part) → Contains parts q → is_update_part q ≡ true
        → sees records q.label.number p.label.number ≡ true → IsBefore order p.label.number q.label.number
    seen_first p q q_there q_updates seen =
        extended q.label.number p.label.number
        (ap (λ o. option_map_or (λ (l : Label). is_update l.op) o false)
        (label_at_each_number-found records q.label (fitting q q_there).there) ∙ label_updates q q_there q_updates) seen

    updates_respected : RespectedBy number_of (must_precede records) in_order
    updates_respected p q p_there q_there must =
        let (p_part, p_updates) = from_ordered p p_there in
        let (q_part, q_updates) = from_ordered q q_there in
        subst (λ ns. IsBefore ns p.label.number q.label.number) (sym ordered.keys_are)
        (elim (must_cases records p q must) [
          | Seen updates_it seen ↦ seen_first p q q_part q_updates seen
          | Earlier replica less ↦
              seen_first p q q_part q_updates (seen_after records p.label q.label p.label.number
              (fitting p p_part).there (fitting q q_part).there replica less
              (inr (label_updates p p_part p_updates, refl)))
          | Halves same halves ↦ absurd (false≢true (sym ((fitting p p_part).update p_updates q.half) ∙ halves))
        ])

    -- what must precede a query must precede what comes after the query
    query_leads : (q : Part) → Contains queries q → LeadsOn (must_precede records) q (queries ++ in_order)
    query_leads q q_there x y x_there y_there first second =
        let (q_part, q_asks) = from_queries q q_there in
        let y_part = either_part y y_there in
        let q_label = (fitting q q_part).there in
        let y_label = (fitting y y_part).there in
        elim (must_cases records x q first) [
          | Seen x_updates seen ↦ elim (must_cases records q y second) [
            | Seen q_updates q_seen ↦ absurd (false≢true (sym q_asks ∙ q_updates))
            | Earlier replica less ↦
                seen_must records x y x_updates (seen_after records q.label y.label x.label.number q_label y_label replica less
                (inl seen))
            | Halves same halves ↦
                seen_must records x y x_updates (ap (λ n. sees records n x.label.number) (sym same) ∙ seen)
          ]
          | Earlier replica less ↦ elim (must_cases records q y second) [
            | Seen q_updates q_seen ↦ absurd (false≢true (sym q_asks ∙ q_updates))
            | Earlier also further ↦ earlier_must records x y (replica ∙ also) (omega (arith, less, further))
            | Halves same halves ↦
                let one = label_at_each_number-one records q.label y.label q_label y_label same in
                earlier_must records x y (replica ∙ ap (λ (l : Label). l.replica) one) (omega (arith, less, same))
          ]
          | Halves same halves ↦ absurd (false≢true (sym ((fitting q q_part).query q_asks x.half) ∙ halves))
        ]
      where
        either_part : (p : Part) → Contains (queries ++ in_order) p → Contains parts p
        either_part p there = elim (Contains-append_cases queries in_order p there) [
          | inl asks ↦ (from_queries p asks).0
          | inr does ↦ (from_ordered p does).0
        ]

    sequence_extends : extends (must_precede records) sequence ≡ true
    sequence_extends =
        all_extend (must_precede records) (must_precede_irreflexive records) queries in_order query_leads
        (extends_if_respected number_of (must_precede records) in_order
        (subst EachOnce (sym ordered.keys_are) is.once) updates_respected)

-- queries can be put into each order of the updates that extends visibility
pub sequenced : (records : Records) (order : List ℕ) → IsOrderOfUpdates records order → ExtendsVisibility records order
    → (sequence : List Part) × IsPermutation (parts_in records) sequence
    × (extends_visibility records sequence ≡ true) × (update_order sequence ≡ order)
sequenced records order is extended =
    let ordered = ordered_updates records order is extended in (
      sequence records order is extended ordered,
      all_parts records order is extended ordered,
      sequence_extends records order is extended ordered,
      order_is records order is extended ordered,
    )
