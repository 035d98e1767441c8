-- Lemmas on the place of a new label, and on the order with it.
use Rattle.std.proofs.Common.{◌≡◌, ℕ, ◌+◌, ◌-◌, ◌<◌, ◌≤◌, Bool, true, false, List, [], ◌∷◌, length, get_or, Option, Some, None, refl, sym, ap, ◌∙◌, subst, inl, inr, arith, Ordering}
use Rattle.std.specs.Prelude.{◌==◌, ◌&&◌, nat_lt, Contains, map, drop, unwrap_or, not}
use Rattle.std.specs.List.{insert, slice_get, list_all}
use Rattle.std.specs.List.Sorted.{IsPartitionedBy, IsPartitionPoint}
use Rattle.std.specs.Ordering.{is_lt, nat_cmp, ordering_then}
use Rattle.std.specs.declared.cmp.Ordering.TheVariants.{Less, Equal, Greater}
use Rattle.std.specs.Cmp.{IsTotalOrder}
use Rattle.std.proofs.lemmas.Cmp.{on_total, then_total, nat_cmp_total}
use Rattle.std.proofs.lemmas.Bool.{true≢false, cases_lt, not-true, not_from_false, or_left, false_from_ne_true, true_from_ne_false}
use Rattle.std.proofs.Math.ListN.{drop_of_length-le}
use Rattle.std.proofs.lemmas.Option.{slice_get-get_or}
use Rattle.std.proofs.lemmas.List.{length-map, get_or-map, get_or-drop, length-drop}
use Rattle.std.proofs.lemmas.List.Edits.{length-insert, get_or-insert_at}
use Rattle.std.proofs.lemmas.List.Elements.{All-contains, Contains-get_or}
use Rattle.std.proofs.lemmas.List.MinMax.{ranks_by}
use Rattle.std.proofs.lemmas.List.Sums.{AllPass-from_list_all, list_all-from_AllPass}
use Rattle.std.proofs.lemmas.List.Sorted.{sorted_far, Contains-permutation, IsPermutation-sym}
use Rattle.ra_labels.specs.declared.kind.Kind.{Kind}
use Rattle.ra_labels.specs.declared.label.Stamp.{Stamp}
use Rattle.ra_labels.specs.declared.label.Label.{Label}
use Rattle.ra_labels.specs.NamedOrder.{lowest_rank, stamp_cmp, timestamp_of, rank_of, named_labels}
use Rattle.ra_labels.specs.Records.{Records, label_count, labels_of}
use Rattle.ra_labels.specs.Visibility.{sees}
use Rattle.ra_labels.proofs.InLists.{bool_same}
use Rattle.ra_labels.proofs.Counted.{numbers_below_count}
use Rattle.ra_labels.specs.HistorySoFar.{History, NextOperation, operate, label_of}
use Rattle.ra_labels.proofs.Members.{there-kept}
use Rattle.ra_theorems.proofs.TheoremIndex.{named_labels_sorted-sorted, named_labels_sorted-same, timestamp_persists}
use Rattle.ra_visibility.specs.declared.order.Place.{Place}
use Rattle.ra_visibility.specs.Seen.{Seen, count_in}
use Rattle.ra_visibility.specs.Order.{ComesNext, IsPlaceOf, must_stand_before}
use Rattle.ra_visibility.proofs.TheoremIndex.{new_label_position}
use Rattle.ra_time_order.specs.Sorted.{Sorted}
use Rattle.ra_time_order.specs.Positions.{not_above, IsPositionOf, IsPastAll}
use Rattle.ra_time_order.specs.Stamps.{AtMost, greatest_in}
use Rattle.ra_time_order.specs.declared.entry.Entry.{Entry}
use Rattle.ra_time_order.specs.RunningMaxima.{RunningMaxima}
use Rattle.ra_time_order.specs.Standing.{TimeOrder, time_order_of, entry_of, IsTimeOrderOf}
use Rattle.ra_time_order.proofs.Ranks.{at_most_from, at_most_through, not_below, lowest_at_most, IsGreatestOf}
use Rattle.ra_time_order.proofs.SeenStamps.{seen_before, greatest_seen, greatest_is}
use Rattle.ra_time_order.proofs.Bounds.{all_seen, bounded}

stamp_total : IsTotalOrder stamp_cmp
stamp_total =
    then_total (on_total (λ (s : Stamp). s.clock) nat_cmp_total) (on_total (λ (s : Stamp). s.replica) nat_cmp_total)

first_not_lt : (o p : Ordering) → is_lt (ordering_then o p) ≡ false → is_lt o ≡ false
first_not_lt Less p none = absurd (true≢false none)
first_not_lt Equal p none = refl
first_not_lt Greater p none = refl

-- ranks do not decrease in the named order
ranks_rise : (kind : Kind) (records : Records) (i j : ℕ) (d : Label) → i ≤ j → j < length (named_labels kind records)
    → AtMost (rank_of kind records (get_or (named_labels kind records) i d))
    (rank_of kind records (get_or (named_labels kind records) j d))
ranks_rise kind records i j d before there =
    let rank : Label → Stamp = rank_of kind records in
    let named = named_labels kind records in
    let sorted = named_labels_sorted-sorted kind records in
    at_most_from (rank (get_or named j d)) (rank (get_or named i d))
    (sorted_far (λ l m. is_lt (stamp_cmp (rank l) (rank m))) (ranks_by stamp_total rank) named
    (λ k e low high. first_not_lt (stamp_cmp (rank (get_or named (k + 1) e)) (rank (get_or named k e)))
    (nat_cmp (get_or named (k + 1) e).number (get_or named k e).number) (sorted k e low high))
    i j d before there)

-- so each rank partitions the named order
pub partitioned : (kind : Kind) (records : Records) (rank : Stamp) (d : Label)
    → IsPartitionedBy (not_above rank) (map (entry_of kind records) (named_labels kind records))
partitioned kind records rank d i j e before there passes =
    let entry = entry_of kind records in
    let named = named_labels kind records in
    let short : j < length named = omega (arith, length-map named entry) in
    let at_j = get_or-map entry named j d e short in
    let at_i = get_or-map entry named i d e (omega (arith, short)) in
    let under = at_most_from rank (rank_of kind records (get_or named j d))
    (not-true (is_lt (stamp_cmp rank (rank_of kind records (get_or named j d))))
    (sym (ap (not_above rank) at_j) ∙ passes)) in
    let through = at_most_through (rank_of kind records (get_or named i d)) (rank_of kind records (get_or named j d))
    rank (ranks_rise kind records i j d before short) under in
    ap (not_above rank) at_i ∙ not_from_false (is_lt (stamp_cmp rank (rank_of kind records (get_or named i d))))
    (not_below rank (rank_of kind records (get_or named i d)) through)

module _ (kind : Kind) (records : Records) (rank : Stamp) (p : ℕ)
    (is : IsPositionOf rank (map (entry_of kind records) (named_labels kind records)) p) where
  abbrev named : List Label
  named = named_labels kind records

  abbrev above : Label → Bool
  above m = is_lt (stamp_cmp rank (rank_of kind records m))

  few : p ≤ length named
  few = omega (arith, is.among, length-map named (entry_of kind records))

  not_above_before : (k : ℕ) (d : Label) → k < p → above (get_or named k d) ≡ false
  not_above_before k d before =
      let e = entry_of kind records d in
      not-true (above (get_or named k d))
      (sym (ap (not_above rank) (get_or-map (entry_of kind records) named k d e (omega (arith, few))))
      ∙ is.split.0 k e (omega arith) before)

  above_behind : (k : ℕ) (d : Label) → p ≤ k → k < length named → above (get_or named k d) ≡ true
  above_behind k d from there =
      let e = entry_of kind records d in
      true_from_ne_false (above (get_or named k d)) (λ none.
      true≢false (sym (not_from_false (above (get_or named k d)) none)
      ∙ sym (ap (not_above rank) (get_or-map (entry_of kind records) named k d e there))
      ∙ is.split.1 k e from (omega (arith, length-map named (entry_of kind records)))))

  pub split : IsPartitionPoint (λ m. above m ≡ false) (λ m. above m ≡ true) named p
  split = ((λ k d low high. not_above_before k d high), (λ k d low high. above_behind k d low high))

-- the new label, with the facts about its order
module _ (order : TimeOrder) (past : History) (next : NextOperation) (seen : Seen)
    (stands : IsTimeOrderOf order past) (comes : ComesNext past next (label_of past.records next) seen) where
  abbrev now : Records
  now = operate next ∷ past.records

  abbrev x : Label
  x = label_of past.records next

  abbrev pub greatest : Stamp
  greatest = greatest_in order.stamps (count_in seen) (length order.stamps)

  abbrev pub its_rank : Stamp
  its_rank = unwrap_or x.stamp greatest

  its_greatest : IsGreatestOf (all_seen past.records next) greatest
  its_greatest = greatest_seen past.records next seen comes.sees order.stamps past.initial_replicas stands.stamps

  -- the ranks of the new label and of the earlier ones
  pub rank_is : rank_of past.kind now x ≡ its_rank
  rank_is =
      stands.sorts now x ∙ ap (unwrap_or x.stamp) (greatest_is past.records next seen comes.sees order.stamps past.initial_replicas
      stands.stamps)

  pub rank_before : (m : Label) → Contains (labels_of past.records) m
      → rank_of past.kind now m ≡ rank_of past.kind past.records m
  rank_before m found =
      stands.sorts now m
      ∙ timestamp_persists (operate next ∷ []) past.records m
      (All-contains (λ l. l.number < label_count past.records) (labels_of past.records) m
      (numbers_below_count past.records) found)
      ∙ sym (stands.sorts past.records m)

  pub is_label : (m : Label) → Contains (named_labels past.kind past.records) m → Contains (labels_of past.records) m
  is_label m found =
      Contains-permutation (named_labels past.kind past.records) (labels_of past.records) m
      (IsPermutation-sym (labels_of past.records) (named_labels past.kind past.records)
      (named_labels_sorted-same past.kind past.records)) found

  module _ (p : ℕ) (is : IsPositionOf its_rank order.entries p) where
    is_named : IsPositionOf its_rank (map (entry_of past.kind past.records) (named_labels past.kind past.records)) p
    is_named = subst (λ es. IsPositionOf its_rank es p) stands.entries is

    pub inserted : named_labels past.kind now ≡ insert (named_labels past.kind past.records) p x
    inserted =
        new_label_position past.kind past.records next p
        (few past.kind past.records its_rank p is_named)
        (subst (λ r. IsPartitionPoint (λ m. is_lt (stamp_cmp r (rank_of past.kind past.records m)) ≡ false)
        (λ m. is_lt (stamp_cmp r (rank_of past.kind past.records m)) ≡ true) (named_labels past.kind past.records) p)
        (sym rank_is) (split past.kind past.records its_rank p is_named))

    stands_there : slice_get (named_labels past.kind now) p ≡ Some x
    stands_there =
        let short = few past.kind past.records its_rank p is_named in
        ap (λ ls. slice_get ls p) inserted
        ∙ slice_get-get_or (insert (named_labels past.kind past.records) p x) p x
        (omega (arith, length-insert (named_labels past.kind past.records) p x short))
        ∙ ap Some (get_or-insert_at (named_labels past.kind past.records) p x x short)

    abbrev pub must_not : Label → Bool
    must_not m = not (must_stand_before now m x)

    -- the label fits if the greatest stamp that it sees is at most its rank
    fits_where : AtMost greatest its_rank → list_all must_not (drop p (named_labels past.kind past.records)) ≡ true
    fits_where under =
        let behind_it = drop p (named_labels past.kind past.records) in
        list_all-from_AllPass must_not behind_it (λ k d there.
        let at = get_or-drop p (named_labels past.kind past.records) k d in
        let m = get_or behind_it k d in
        let short : p + k < length (named_labels past.kind past.records) =
        omega (arith, there, length-drop p (named_labels past.kind past.records)) in
        let found : Contains (labels_of past.records) m = subst (Contains (labels_of past.records)) (sym at)
        (is_label (get_or (named_labels past.kind past.records) (p + k) d)
        (Contains-get_or (named_labels past.kind past.records) (p + k) d short)) in
        let over : is_lt (stamp_cmp its_rank (rank_of past.kind past.records m)) ≡ true =
        ap (λ l. is_lt (stamp_cmp its_rank (rank_of past.kind past.records l))) at
        ∙ above_behind past.kind past.records its_rank p is_named (p + k) d (omega arith) short in
        not_from_false (must_stand_before now m x) (false_from_ne_true (must_stand_before now m x) (λ must.
        let low = bounded past.records next comes.causal stands.stamped greatest its_greatest m found must in
        let lower = subst (λ r. AtMost r greatest) (sym (stands.sorts past.records m)) low in
        true≢false (sym over ∙ not_below its_rank (rank_of past.kind past.records m)
        (at_most_through (rank_of past.kind past.records m) greatest its_rank lower under)))))

    abbrev must_earlier : Label → Bool
    must_earlier m = m.replica == x.replica && nat_lt m.number x.number

    -- if the label fits, it sees no greater stamp
    pub no_greater_where : list_all must_not (drop p (named_labels past.kind past.records)) ≡ true
        → is_lt (stamp_cmp its_rank greatest) ≡ false
    no_greater_where fits = false_from_ne_true (is_lt (stamp_cmp its_rank greatest)) (λ less. elim (its_greatest.own) [
      | inl lowest ↦
          true≢false (sym less ∙ ap (λ s. is_lt (stamp_cmp its_rank s)) lowest
          ∙ not_below its_rank lowest_rank (lowest_at_most its_rank))
      | inr one ↦
          let m = one.0 in
          let kept = there-kept (λ (other : Label). sees now (label_count past.records) other.number) (labels_of now) m
          one.1 in
          let found = seen_before past.records next seen comes.sees m kept.0 kept.1 in
          let its : rank_of past.kind past.records m ≡ greatest =
          stands.sorts past.records m ∙ ap (λ s. unwrap_or s
          (timestamp_of past.records (record { number = m.number; replica = m.replica; op = m.op; stamp = None })))
          one.2 in
          let named_m = Contains-permutation (labels_of past.records) (named_labels past.kind past.records) m
          (named_labels_sorted-same past.kind past.records) found in
          let k = named_m.0 in
          let at : get_or (named_labels past.kind past.records) k m ≡ m = named_m.2 in
          elim (cases_lt k p) [
            | inl before ↦
                true≢false (sym less ∙ ap (λ r. is_lt (stamp_cmp its_rank r)) (sym its)
                ∙ ap (λ l. is_lt (stamp_cmp its_rank (rank_of past.kind past.records l))) (sym at)
                ∙ not_above_before past.kind past.records its_rank p is_named k m before)
            | inr further ↦
                let behind_it = drop p (named_labels past.kind past.records) in
                let step : p + (k - p) ≡ k = omega arith in
                let there : k - p < length behind_it =
                omega (arith, further, named_m.1, length-drop p (named_labels past.kind past.records)) in
                let is_m : get_or behind_it (k - p) m ≡ m = get_or-drop p (named_labels past.kind past.records) (k - p)
                m ∙ ap (λ i. get_or (named_labels past.kind past.records) i m) step ∙ at in
                let none = All-contains (λ l. must_not l ≡ true) behind_it m
                (AllPass-from_list_all must_not behind_it fits) (k - p, there, is_m) in
                let must : must_stand_before now m x ≡ true = or_left (sees now (label_count past.records) m.number)
                (must_earlier m) kept.1 in
                true≢false (sym must ∙ not-true (must_stand_before now m x) none)
          ]
    ])

    -- the place of the label
    pub place_is : (place : Place) → place.at ≡ p → place.fits ≡ not (is_lt (stamp_cmp its_rank greatest))
        → IsPlaceOf past.kind past.records next place
    place_is place at fits = record {
      at = ap (slice_get (named_labels past.kind now)) at ∙ stands_there;
      fits =
          fits
          ∙ bool_same (not (is_lt (stamp_cmp its_rank greatest)))
          (list_all must_not (drop p (named_labels past.kind past.records)))
          (λ none. fits_where (at_most_from its_rank greatest (not-true (is_lt (stamp_cmp its_rank greatest)) none)))
          (λ all. not_from_false (is_lt (stamp_cmp its_rank greatest)) (no_greater_where all))
          ∙ ap (λ k. list_all must_not (drop k (named_labels past.kind past.records))) (sym at);
    }

-- the results of the order's parts, in terms of the order
module _ (sorted : Sorted) (replicas : RunningMaxima) (order : TimeOrder) (view : time_order_of sorted replicas ≡ order)
    (label : Label) (seen : Seen) (found rank : Stamp)
    (found_is : found ≡ greatest_in replicas.stamps (count_in seen) (length replicas.stamps))
    (rank_made : rank ≡ unwrap_or label.stamp found)
    (past : History) (next : NextOperation)
    (stands : IsTimeOrderOf order past) (comes : ComesNext past next label seen) where
  pub next_there : ComesNext past next (label_of past.records next) seen
  next_there = subst (λ l. ComesNext past next l seen) comes.becomes comes

  found_same : found ≡ greatest_in order.stamps (count_in seen) (length order.stamps)
  found_same = found_is ∙ ap (λ (o : TimeOrder). greatest_in o.stamps (count_in seen) (length o.stamps)) view

  pub rank_same : rank ≡ its_rank order past next seen stands next_there
  rank_same = rank_made ∙ (λ i. unwrap_or (comes.becomes i).stamp (found_same i))

  pub entries_same : sorted.entries ≡ order.entries
  entries_same = ap (λ (o : TimeOrder). o.entries) view

  pub splits : IsPartitionedBy (not_above rank) sorted.entries
  splits =
      subst (IsPartitionedBy (not_above rank)) (sym (entries_same ∙ stands.entries))
      (partitioned past.kind past.records rank (label_of past.records next))

  pub position_same : (p : ℕ) → IsPositionOf rank sorted.entries p
      → IsPositionOf (its_rank order past next seen stands next_there) order.entries p
  position_same p is =
      subst (λ r. IsPositionOf r order.entries p) rank_same (subst (λ es. IsPositionOf rank es p) entries_same is)

  pub place_found : (p : ℕ) (fits : Bool) → (IsPartitionedBy (not_above rank) sorted.entries
      → IsPositionOf rank sorted.entries p)
      → fits ≡ not (is_lt (stamp_cmp rank found)) → IsPlaceOf past.kind past.records next
      (record { at = p; fits = fits })
  place_found p fits at is =
      place_is order past next seen stands next_there p (position_same p (at splits)) (record { at = p; fits = fits })
      refl
      (is ∙ (λ i. not (is_lt (stamp_cmp (rank_same i) (found_same i)))))

  -- a label whose stamp is greater than all goes to the end, and fits
  pub place_at_end : IsPositionOf rank sorted.entries (length sorted.entries)
      → IsPlaceOf past.kind past.records next (record { at = length sorted.entries; fits = true })
  place_at_end is =
      let p = length sorted.entries in
      let there = position_same p is in
      let long : length (named_labels past.kind past.records) ≤ p =
      omega (
        arith,
        ap (λ (es : List Entry). length es) (entries_same ∙ stands.entries),
        length-map
            (named_labels past.kind past.records) (entry_of past.kind past.records),
      ) in
      let none : drop p (named_labels past.kind past.records) ≡ [] =
      drop_of_length-le (named_labels past.kind past.records) long in
      let fits = no_greater_where order past next seen stands next_there p there
      (ap (list_all (must_not order past next seen stands next_there p there)) none) in
      place_found p true (λ _. is)
      (sym (not_from_false (is_lt (stamp_cmp rank found)) ((λ i. is_lt (stamp_cmp (rank_same i) (found_same i)))
      ∙ fits)))

own_past_all : (entries : List Entry) (own : Option Stamp) → IsPastAll entries own
    → (stamp : Stamp) × (own ≡ Some stamp) × IsPositionOf stamp entries (length entries)
own_past_all entries (Some stamp) is = (stamp, refl, is)
own_past_all entries None is = absurd is

-- the place of a label whose own stamp is greater than all
pub place_past_all : (sorted : Sorted) (replicas : RunningMaxima) (order : TimeOrder)
    (view : time_order_of sorted replicas ≡ order) (label : Label) (seen : Seen)
    (past : History) (next : NextOperation)
    (stands : IsTimeOrderOf order past) (comes : ComesNext past next label seen) (at : ℕ)
    → at ≡ length sorted.entries → IsPastAll sorted.entries label.stamp
    → IsPlaceOf past.kind past.records next (record { at = at; fits = true })
place_past_all sorted replicas order view label seen past next stands comes at at_is is_past =
    let own = own_past_all sorted.entries label.stamp is_past in
    let found = greatest_in replicas.stamps (count_in seen) (length replicas.stamps) in
    subst (λ k. IsPlaceOf past.kind past.records next (record { at = k; fits = true })) (sym at_is)
    (place_at_end sorted replicas order view label seen found own.0 refl
    (ap (λ (s : Option Stamp). unwrap_or s found) (sym own.1)) past next stands comes own.2)
