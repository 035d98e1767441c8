-- The reads of an RGA are right after the updates that they see, in an order that keeps the precedence.
use Rattle.std.proofs.Common.{◌≡◌, ◌↔◌, ℕ, Bool, true, List, [], ◌∷◌, Some, refl, sym, ap, ◌∙◌, subst, inl, inr}
use Rattle.std.specs.Prelude.{is_some, filter_map, Contains, IsPermutation}
use Rattle.std.proofs.lemmas.List.Elements.{Contains-append_right}
use Rattle.std.proofs.lemmas.List.Sorted.{Contains-permutation, IsPermutation-sym}
use Rattle.ra_labels.specs.declared.kind.Kind.TheVariants.{Rga}
use Rattle.ra_labels.specs.declared.operation.Op.TheVariants as op
use Rattle.ra_labels.specs.declared.operation.Update.{Update}
use Rattle.ra_labels.specs.declared.operation.Update.TheVariants.{After, RgaRemove}
use Rattle.ra_labels.specs.declared.operation.Query.{Query}
use Rattle.ra_labels.specs.declared.operation.Query.TheVariants.{RgaRead}
use Rattle.ra_labels.specs.Edges.{EachOnce, IsBefore}
use Rattle.ra_labels.specs.Lists.{shown}
use Rattle.ra_labels.specs.Records.{Records}
use Rattle.ra_labels.specs.Visibility.{sees}
use Rattle.ra_labels.specs.Specification.{Listed, state_after}
use Rattle.ra_labels.specs.Rewriting.{Part, Asks, update_of, updates_of}
use Rattle.ra_labels.specs.Linearization.{parts_in, visible_updates, extends_visibility, IsRaLinearization}
use Rattle.ra_labels.specs.TheoremTerms.{StandsBefore, elements_in, IsAnsweredAfter}
use Rattle.ra_labels.proofs.Members.{at_head, behind_head}
use Rattle.ra_list_order.proofs.Befores.{second_there}
use Rattle.ra_list_order.proofs.JoinedChunks.{once_right, once_apart}
use Rattle.ra_theorems.proofs.FilterMaps.{mapped_from}
use Rattle.ra_theorems.proofs.TheoremIndex.{queries_admitted_iff_answered, rga_contents-shown, rga_contents-once, rga_read_answer}
use Rattle.ra_rga_forks.specs.Forks.{IsFork}
use Rattle.ra_rga_forks.proofs.TheoremIndex.{anchor_first, later_child_first, fork_or_under}
use Rattle.ra_rga_forks.proofs.Relatives.{wider_fork, wider_under}
use Rattle.ra_some_order.specs.SomeOrder.{EachLabelIsOfKind, update_order}
use Rattle.ra_some_order.specs.UpdateConditions.{IsOrderOfUpdates}
use Rattle.ra_some_order.proofs.TheoremIndex.{queries_fit_each_order}
use Rattle.ra_some_order.proofs.VisibleOrders.{stands_in_order}
use Rattle.ra_rga_conditions.specs.Precedence.{HasOperationAt, Inserts, ListsTogether, updates_seen, MustStandBefore, Seen, Read}
use Rattle.ra_rga_conditions.specs.Plain.{IsPossibleRead, MeetsPlainConditions}
use Rattle.ra_rga_conditions.proofs.SequenceOrders.{stand_to, tested, filtered, tested_from, either_before}
use Rattle.ra_rga_conditions.proofs.ListedReads.{before_shown, shown_once, shown_there}
use Rattle.ra_rga_conditions.proofs.SortedLists.{AreInOrder, same_list}
use Rattle.ra_rga_conditions.proofs.Growing.{all_admitted}
use Rattle.ra_rga_conditions.proofs.RgaOperations.{asking_part}
use Rattle.ra_rga_conditions.proofs.VisibleParts.{visible_seen, seen_visible}
use Rattle.ra_rga_conditions.proofs.Explaining.{each_admitted, part_inserts}

-- only one of two numbers comes before the other one
one_first : (ns : List ℕ) (m n : ℕ) → EachOnce ns → IsBefore ns m n → ¬ IsBefore ns n m
one_first [] m n once first second = first
one_first (k ∷ ns) m n once (inl here) (inl again) =
    once_apart (k ∷ []) ns n once (at_head k [] n again.0) here.1
one_first (k ∷ ns) m n once (inl here) (inr later) =
    once_apart (k ∷ []) ns m once (at_head k [] m here.0) (second_there ns n m later)
one_first (k ∷ ns) m n once (inr later) (inl again) =
    once_apart (k ∷ []) ns n once (at_head k [] n again.0) (second_there ns m n later)
one_first (k ∷ ns) m n once (inr later) (inr further) = one_first ns m n (once_right (k ∷ []) ns once) later further

module _ (records : Records) (sequence : List Part) (same : IsPermutation (parts_in records) sequence)
    (of_kind : EachLabelIsOfKind Rga records) (once : EachOnce (update_order sequence))
    (keeps : (m n : ℕ) → MustStandBefore records m n → IsBefore (update_order sequence) m n)
    (plain : MeetsPlainConditions records) where
  -- updates in the order of their labels stand in the sequence's order
  stands_by_order : (p q : Part) → Contains sequence p → Contains sequence q → is_some (update_of p.act) ≡ true
      → is_some (update_of q.act) ≡ true → IsBefore (update_order sequence) p.label.number q.label.number
      → StandsBefore p q sequence
  stands_by_order p q p_there q_there p_updates q_updates first =
      elim (either_before sequence p q p_there q_there (λ is.
      let number = ap (λ (r : Part). r.label.number) is in
      one_first (update_order sequence) p.label.number q.label.number once first
      (subst (λ k. IsBefore (update_order sequence) k p.label.number) number
      (subst (IsBefore (update_order sequence) p.label.number) (sym number) first)))) [
        | inl before ↦ before
        | inr behind ↦
            absurd (one_first (update_order sequence) p.label.number q.label.number once first
            (stands_in_order sequence q p q_updates p_updates behind))
      ]

  module _ (n : ℕ) (list : List ℕ) (read : HasOperationAt records n (op.RgaRead list)) where
    abbrev possible : IsPossibleRead records n list
    possible = plain.reads n list read

    abbrev test : Part → Bool
    test p = sees records n p.label.number

    abbrev us : List Update
    us = visible_updates records sequence n

    us_is : us ≡ filter_map (tested (λ (p : Part). update_of p.act) test) sequence
    us_is = filtered (λ (p : Part). update_of p.act) test sequence

    admitted : (state : List (ℕ × Bool)) × (state_after Rga us ≡ Some (Listed state))
    admitted =
        let (state, is) = all_admitted (filter_map (tested (λ (p : Part). update_of p.act) test) sequence)
        (each_admitted records sequence same of_kind once keeps plain.inserted (sees records n)
        (λ m x seen needs apart. possible.closed m x seen needs apart)) in
        (state, ap (state_after Rga) us_is ∙ is)

    abbrev state : List (ℕ × Bool)
    state = admitted.0

    to_seen : (u : Update) → Contains us u → Contains (updates_seen records n) u
    to_seen u there = visible_seen records sequence same of_kind n u there

    from_seen : (u : Update) → Contains (updates_seen records n) u → Contains us u
    from_seen u there = seen_visible records sequence same n u there

    -- the list has the shown elements
    listed_shown : (x : ℕ) → Contains list x ↔ Contains (shown state) x
    listed_shown x = (
      (λ there.
          let (inserted, stays) = (possible.listed x).0 there in
          (rga_contents-shown us state x admitted.1).1
          ((inserted.0, from_seen (After inserted.0 x) inserted.1), (λ removed. stays (to_seen (RgaRemove x) removed)))),
      (λ there.
          let (inserted, stays) = (rga_contents-shown us state x admitted.1).0 there in
          (possible.listed x).1
          ((inserted.0, to_seen (After inserted.0 x) inserted.1), (λ removed. stays (from_seen (RgaRemove x) removed)))),
    )

    -- a visible part that inserts an element
    pub record IsInserting (x : ℕ) : Type 0 where
      pub part : Part
      pub there : Contains sequence part
      pub anchor : ℕ
      pub does : update_of part.act ≡ Some (After anchor x)
      pub lets : tested (λ (p : Part). update_of p.act) test part ≡ Some (After anchor x)
      pub inserts : Inserts records part.label.number x

    inserting : (anchor x : ℕ) → Contains us (After anchor x) → IsInserting x
    inserting anchor x there =
        let (p, p_there, p_is) = mapped_from (tested (λ (q : Part). update_of q.act) test) sequence (After anchor x)
        (subst (λ vs. Contains vs (After anchor x)) us_is there) in
        let (seen, does) = tested_from (λ (q : Part). update_of q.act) test p (After anchor x) p_is in
        record {
          part = p;
          there = p_there;
          anchor = anchor;
          does = does;
          lets = p_is;
          inserts = part_inserts records sequence same of_kind once keeps plain.inserted (sees records n)
              (λ m y seen needs apart. possible.closed m y seen needs apart) p anchor x p_there does;
        }

    fork_first : (x y left right : ℕ) → ListsTogether records n x y → IsFork us x y left right
        → IsBefore (elements_in state) x y
    fork_first x y left right together fork =
        let at_left = inserting fork.anchor left fork.left_child in
        let at_right = inserting fork.anchor right fork.right_child in
        let precedes : MustStandBefore records at_right.part.label.number at_left.part.label.number = Read (record {
          read = n;
          first = x;
          second = y;
          listed = together;
          left = left;
          right = right;
          fork = wider_fork us (updates_seen records n) to_seen x y left right fork;
          inserts_left = at_left.inserts;
          inserts_right = at_right.inserts;
        }) in
        let stands = stands_by_order at_right.part at_left.part at_right.there at_left.there (ap is_some at_right.does)
        (ap is_some at_left.does) (keeps at_right.part.label.number at_left.part.label.number precedes) in
        (later_child_first us state x y left right admitted.1 fork).1 (
          at_right.anchor,
          at_left.anchor,
          subst (StandsBefore (After at_right.anchor right) (After at_left.anchor left)) (sym us_is)
              (stand_to (tested (λ (p : Part). update_of p.act) test) sequence at_right.part at_left.part
              (After at_right.anchor right) (After at_left.anchor left) stands at_right.lets at_left.lets),
        )

    neighbours : AreInOrder list (shown state)
    neighbours before after x y split =
        let together : ListsTogether records n x y =
        (before, after, subst (λ l. HasOperationAt records n (op.RgaRead l)) split read) in
        let x_in = (listed_shown x).0 (subst (λ l. Contains l x) (sym split)
        (Contains-append_right before (x ∷ y ∷ after) x (at_head x (y ∷ after) x refl))) in
        let y_in = (listed_shown y).0 (subst (λ l. Contains l y) (sym split)
        (Contains-append_right before (x ∷ y ∷ after) y (behind_head x (y ∷ after) y (at_head y after y refl)))) in
        let below = possible.below x y together in
        let first : IsBefore (elements_in state) x y =
        elim (fork_or_under us state x y admitted.1 (shown_there state x x_in) (shown_there state y y_in)) [
          | inl under ↦ absurd (below (wider_under us (updates_seen records n) to_seen x y under))
          | inr rest ↦ elim rest [
            | inl above ↦ anchor_first us state y x admitted.1 above (λ is. below ([], sym is))
            | inr (left, right, fork) ↦ fork_first x y left right together fork
          ]
        ] in
        before_shown state x y (rga_contents-once us state admitted.1) x_in y_in first

    right_read : list ≡ shown state
    right_read =
        same_list list (shown state) possible.once (shown_once state (rga_contents-once us state admitted.1)) listed_shown neighbours

    answered : IsAnsweredAfter Rga us (RgaRead list)
    answered = (Listed state, admitted.1, (rga_read_answer state list).1 right_read)

  query_answered : (p : Part) (query : Query) → Contains sequence p → p.act ≡ Asks query
      → IsAnsweredAfter Rga (visible_updates records sequence p.label.number) query
  query_answered p query there asks =
      let (list, found, op_is, query_is) = asking_part records of_kind p query
      (Contains-permutation sequence (parts_in records) p (IsPermutation-sym (parts_in records) sequence same) there) asks in
      subst (IsAnsweredAfter Rga (visible_updates records sequence p.label.number)) (sym query_is)
      (answered p.label.number list (p.label, found, refl, op_is))

  pub linearizes : extends_visibility records sequence ≡ true → IsRaLinearization Rga records sequence
  linearizes extended = record {
    each_part_once = same;
    visibility = extended;
    updates =
        ap is_some (all_admitted (updates_of sequence)
        (each_admitted records sequence same of_kind once keeps plain.inserted (λ n. true)
        (λ n x lets needs apart. let (m, inserts) = plain.inserted.needed n x needs apart in (m, inserts, refl)))).1;
    queries =
        (queries_admitted_iff_answered Rga records sequence).1
        (λ p query there asks. query_answered p query there asks);
    explained = refl;
  }

pub order_explains : (records : Records) (order : List ℕ) → EachLabelIsOfKind Rga records → MeetsPlainConditions records
    → IsOrderOfUpdates records order → ((m n : ℕ) → MustStandBefore records m n → IsBefore order m n)
    → (sequence : List Part) × IsRaLinearization Rga records sequence × (update_order sequence ≡ order)
order_explains records order of_kind plain updates keeps =
    let (sequence, same, extended, order_is) = queries_fit_each_order records order updates
    (λ n m is seen. keeps m n (Seen is seen)) in (
      sequence,
      linearizes records sequence same of_kind (subst EachOnce (sym order_is) updates.once)
          (λ m n first. subst (λ ns. IsBefore ns m n) (sym order_is) (keeps m n first)) plain extended,
      order_is,
    )
