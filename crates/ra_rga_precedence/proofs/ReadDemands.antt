-- Lemmas on what a possible read demands of an order.
use Rattle.std.proofs.Common.{◌≡◌, ℕ, ◌+◌, ◌<◌, Bool, false, List, ◌∷◌, ◌++◌, Option, Some, length, get_or, sym, subst, ◌∙◌, inl, inr, arith}
use Rattle.std.specs.Prelude.{◌⊎◌, Contains}
use Rattle.std.proofs.lemmas.Option.{same_Some}
use Rattle.ra_labels.specs.declared.operation.Op.{Op}
use Rattle.ra_labels.specs.declared.operation.Op.TheVariants as op
use Rattle.ra_labels.specs.declared.operation.Update.{Update}
use Rattle.ra_labels.specs.Records.{Records, label_count}
use Rattle.ra_labels.specs.Visibility.{sees}
use Rattle.ra_precedence.specs.Conditions.{Condition}
use Rattle.ra_rga_forks.specs.Forks.{IsUnder, IsFork}
use Rattle.ra_rga_conditions.specs.Precedence.{HasOperationAt, Inserts, ListsTogether, updates_seen, IsRead}
use Rattle.ra_rga_conditions.specs.Plain.{IsPossibleRead}
use Rattle.ra_visibility.specs.Seen.{Seen, is_in}
use Rattle.ra_rga_precedence.specs.Marks.{lacks_need, is_unlisted}
use Rattle.ra_rga_precedence.specs.Relations.{LeadsTo, AreApart}
use Rattle.ra_rga_precedence.specs.UpdateConditions.{AreBelow}
use Rattle.ra_rga_precedence.specs.Neighbors.{edge, IsEdge, AreEdges}
use Rattle.ra_rga_precedence.specs.Reads.{AreInsertions, ListsShown}
use Rattle.ra_rga_precedence.proofs.ConditionLists.{AreListed}
use Rattle.ra_rga_precedence.proofs.Translations.{listed_at, listed_inserts, needs_listed}
use Rattle.ra_rga_precedence.proofs.InsertedElements.{inserter_is, inserter_inserts}
use Rattle.ra_rga_precedence.proofs.NeededLabels.{needed_below, shown_below}
use Rattle.ra_rga_precedence.proofs.Places.{distinct}
use Rattle.ra_rga_precedence.proofs.ListPlaces.{new_from, ArePlaced, pair_at}
use Rattle.ra_rga_precedence.proofs.TreeWays.{both_ways, never_under, turned, only_left, only_right}
use Rattle.ra_rga_precedence.proofs.SeenUpdates.{needed_label, label_under, apart_of, need_seen, fork_of}
use Rattle.ra_rga_precedence.proofs.ReadFaults.{at_place, label_in, label_seen, label_inserts, list_once, listed_right, all_listed, together_at}

module _ (records : Records) (operations : List Op) (listed : AreListed records operations) (inserter : ℕ → Option ℕ)
    (needed : List (Option ℕ)) (ranks : List ℕ)
    (are : AreInsertions operations (label_count records) inserter needed ranks) (read : ℕ) (seen : Seen)
    (visible : (m : ℕ) → is_in seen m ≡ sees records read m)
    (closed : (m : ℕ) → m < label_count records → lacks_need needed seen m ≡ false)
    (list : List ℕ) (reads : HasOperationAt records read (op.RgaRead list)) (labels : List ℕ) (now : List Bool)
    (shown : ListsShown operations (label_count records) inserter needed seen list labels now) where
  abbrev us : List Update
  us = updates_seen records read

  low_needs : AreBelow (length needed) needed
  low_needs = subst (λ k. AreBelow k needed) (sym are.len)
      (needed_below operations (label_count records) inserter needed are.inserters are.needs)

  low_label : (i : ℕ) → i < length list → get_or labels i 0 < length needed
  low_label i within =
      let len = are.len in
      let low = shown_below operations (label_count records) inserter are.inserters seen shown.marks list labels now
      shown.shown (get_or labels i 0)
      (label_in records operations listed inserter needed ranks are read seen visible list reads labels now shown i within) in
      omega (arith, low, len)

  its_place : (i : ℕ) → i < length list → inserter (get_or list i 0) ≡ Some (get_or labels i 0)
  its_place = at_place records operations listed inserter needed ranks are read seen visible list reads labels now shown

  -- where two elements are listed together
  pub place_together : (x y : ℕ) → ListsTogether records read x y → (i : ℕ) × ArePlaced list x y i (i + 1)
  place_together x y (before, after, has) =
      let same : Some (op.RgaRead list) ≡ Some (op.RgaRead (before ++ x ∷ y ∷ after)) =
      sym (listed_at records operations listed read (op.RgaRead list) reads)
      ∙ listed_at records operations listed read (op.RgaRead (before ++ x ∷ y ∷ after)) has in
      let is : before ++ x ∷ y ∷ after ≡ list = cc (same) in
      (length before, subst (λ l. ArePlaced l x y (length before) (length before + 1)) is (pair_at before after x y))

  module _ (old new : List Condition) (edges : AreEdges needed labels old new (length labels)) where
    abbrev AboveOrApart : ℕ → Type 0
    AboveOrApart i = LeadsTo needed (get_or labels (i + 1) 0) (get_or labels i 0)
        ⊎ ((left right : ℕ) × AreApart needed (get_or labels i 0) (get_or labels (i + 1) 0) left right
        × Contains new (edge right left))

    either : (i : ℕ) → i + 1 < length list → AboveOrApart i
    either i within =
        let len = shown.len in edges.each i (omega (arith, within, len)) (omega (arith, within, len))

    never_below : (i : ℕ) → i + 1 < length list → ¬ LeadsTo needed (get_or labels i 0) (get_or labels (i + 1) 0)
    never_below i within leads = elim (either i within) [
      | inl above ↦
          let len = shown.len in
          distinct labels i (i + 1) (new_from labels shown.shown.once) (omega arith) (omega (arith, within, len))
          (both_ways needed ranks low_needs are.ranked (get_or labels i 0) (get_or labels (i + 1) 0)
          (low_label i (omega (arith, within))) leads above)
      | inr (left, right, apart, there) ↦
          never_under needed ranks low_needs are.ranked (get_or labels i 0) (get_or labels (i + 1) 0) left right
          (low_label i (omega (arith, within))) apart leads
    ]

    not_below : (x y : ℕ) → ListsTogether records read x y → ¬ IsUnder us x y
    not_below x y together under =
        let (i, at) = place_together x y together in
        let within = at.within in
        let first = subst (λ z. inserter z ≡ Some (get_or labels i 0)) at.first (its_place i (omega (arith, within))) in
        let second = subst (λ z. inserter z ≡ Some (get_or labels (i + 1) 0)) at.second (its_place (i + 1) within) in
        never_below i within
        (label_under records operations listed inserter needed ranks are read seen visible x y (get_or labels i 0)
        (get_or labels (i + 1) 0) first second under)

    pub possible : ((m : ℕ) → m < label_count records → is_unlisted operations seen now m ≡ false)
        → IsPossibleRead records read list
    possible none = record {
      closed =
          λ m x sees_it needs apart.
          let (k, its, is) = needed_label records operations listed inserter needed ranks are m x
          (needs_listed records operations listed m x needs apart) in (
            k,
            inserter_inserts records operations listed inserter are.inserters k x is,
            sym (visible k) ∙ need_seen records operations listed inserter needed ranks are read seen visible closed m k
                (visible m ∙ sees_it) its,
          );
      once = list_once records operations listed inserter needed ranks are read seen visible list reads labels now shown;
      listed =
          λ x. (
            (λ there. listed_right records operations listed inserter needed ranks are read seen visible list reads
                labels now shown x there),
            (λ (was, stays). all_listed records operations listed inserter needed ranks are read seen visible list reads
                labels now shown none x was stays),
          );
      below = not_below;
    }

    -- each edge is demanded by the read
    pub edge_read : (condition : Condition) → IsEdge needed labels condition
        → (m n : ℕ) × IsRead records m n × (condition ≡ edge m n)
    edge_read condition (i, left, right, low, apart, is) =
        let len = shown.len in
        let within : i + 1 < length list = omega (arith, low, len) in
        let first : i < length list = omega (arith, within) in
        let sees_label = label_seen records operations listed inserter needed ranks are read seen visible list reads labels
        now shown in
        let inserts = label_inserts records operations listed inserter needed ranks are read seen visible list reads labels
        now shown in
        let (xl, xr, left_inserts, right_inserts, fork) = fork_of records operations listed inserter needed ranks are read
        seen visible closed (get_or labels i 0) (get_or labels (i + 1) 0) left right (get_or list i 0)
        (get_or list (i + 1) 0) (sees_label i first) (sees_label (i + 1) within) (inserts i first)
        (inserts (i + 1) within) apart in (
          right,
          left,
          record {
            read = read;
            first = get_or list i 0;
            second = get_or list (i + 1) 0;
            listed = together_at records operations listed inserter needed ranks are read seen visible list reads labels
                now shown i within;
            left = xl;
            right = xr;
            fork = fork;
            inserts_left = listed_inserts records operations listed left xl left_inserts;
            inserts_right = listed_inserts records operations listed right xr right_inserts;
          },
          is,
        )

    -- and each demand of the read is an edge
    pub demanded_edge : (x y xl xr m n : ℕ) → ListsTogether records read x y → IsFork us x y xl xr
        → Inserts records n xl → Inserts records m xr → Contains new (edge m n)
    demanded_edge x y xl xr m n together fork left_inserts right_inserts =
        let (i, at) = place_together x y together in
        let within = at.within in
        let k = get_or labels i 0 in
        let l = get_or labels (i + 1) 0 in
        let k_low = low_label i (omega (arith, within)) in
        let l_low = low_label (i + 1) within in
        let first = subst (λ z. inserter z ≡ Some k) at.first (its_place i (omega (arith, within))) in
        let second = subst (λ z. inserter z ≡ Some l) at.second (its_place (i + 1) within) in
        let (left, right, left_is, right_is, apart) = apart_of records operations listed inserter needed ranks are read seen
        visible x y xl xr k l first second fork in
        let n_same : left ≡ n = same_Some left n (sym left_is
        ∙ inserter_is records operations listed inserter are.inserters n xl left_inserts) in
        let m_same : right ≡ m = same_Some right m (sym right_is
        ∙ inserter_is records operations listed inserter are.inserters m xr right_inserts) in
        elim (either i within) [
          | inl above ↦
              absurd (never_under needed ranks low_needs are.ranked l k right left l_low
              (turned needed ranks low_needs are.ranked k l left right apart) above)
          | inr (its_left, its_right, its, there) ↦
              let one = only_left needed ranks low_needs are.ranked k l left right its_left its_right k_low l_low apart its in
              let other = only_right needed ranks low_needs are.ranked k l left right its_left its_right k_low l_low apart
              its in
              subst (λ j. Contains new (edge m j)) (one ∙ n_same)
              (subst (λ j. Contains new (edge j its_left)) (other ∙ m_same) there)
        ]
