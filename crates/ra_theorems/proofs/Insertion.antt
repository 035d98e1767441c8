-- Lemmas on one more label in the named order, and on what it leaves unchanged.
use Rattle.std.proofs.Common.{◌≡◌, ℕ, ◌<◌, Bool, true, false, List, [], ◌∷◌, ◌++◌, filter, refl, sym, ap, ◌∙◌, subst, inl, inr, arith, Ordering}
use Rattle.std.specs.Prelude.{◌↔◌, ◌⊎◌, ◌==◌, Contains, IsSorted, flat_map, map}
use Rattle.std.specs.Ordering.{is_lt, nat_cmp, ordering_then}
use Rattle.std.proofs.lemmas.Bool.{true≢false, false_from_ne_true, cond_both, cond-true, cond-false, eq-eqb}
use Rattle.std.proofs.lemmas.Grind.{flat_map-append}
use Rattle.std.proofs.lemmas.List.Elements.{All-contains, All-contains_itself, Contains-append_right, filter-append}
use Rattle.std.proofs.lemmas.List.Sorted.{Contains-permutation, IsPermutation-sym}
use Rattle.ra_labels.specs.declared.kind.Kind.{Kind}
use Rattle.ra_labels.specs.declared.kind.Kind.TheVariants.{Counter, OrSet}
use Rattle.ra_labels.specs.declared.kind.Kind.TheVariants as kinds
use Rattle.ra_labels.specs.declared.label.Stamp.{Stamp}
use Rattle.ra_labels.specs.declared.label.Label.{Label}
use Rattle.ra_labels.specs.declared.command.Command.{Command}
use Rattle.ra_labels.specs.Records.{Records, label_count, labels_of}
use Rattle.ra_labels.specs.Visibility.{has_delivered, sees}
use Rattle.ra_labels.specs.Rewriting.{Part, Half, Act, acts_of, part_of, parts_of, updates_of}
use Rattle.ra_labels.specs.Explained.{is_explained}
use Rattle.ra_labels.specs.Linearization.{must_precede, extends_visibility, visible_updates, updates_admitted, queries_admitted}
use Rattle.ra_labels.specs.NamedOrder.{timestamp_of, rank_of, stamp_cmp, label_cmp, insert_by, sort_by, named_labels, named_sequence}
use Rattle.ra_labels.specs.Fault.{Holds}
use Rattle.ra_labels.specs.TheoremTerms.{IsStampBelow, MustStandBefore, StandsBefore, IsAnsweredAfter}
use Rattle.ra_labels.specs.Insertion.{delivered_updates, IsPlacedInOrder, OwnQueriesAnswered}
use Rattle.ra_labels.specs.HistorySoFar.{NextOperation, operate, label_of}
use Rattle.ra_labels.proofs.Members.{head_or_behind, at_head, behind_head, piece_of, in_piece}
use Rattle.ra_labels.proofs.InsertionSort.{sort_by_same}
use Rattle.ra_labels.proofs.Parts.{part_is_of, some_part}
use Rattle.ra_labels.proofs.Counted.{numbers_below_count}
use Rattle.ra_theorems.proofs.SeenLabels.{sees-append, sees_earlier}
use Rattle.ra_theorems.proofs.Extensions.{extends-stands, must_precede-irreflexive, sees_not_itself}
use Rattle.ra_theorems.proofs.Faults.{IsPermutation-named_sequence}
use Rattle.ra_theorems.proofs.Order.{label_cmp-total, label_below, IsSorted-named_labels, IsPermutation-named_labels}
use Rattle.ra_theorems.proofs.UniqueOrder.{head_least, sorted_behind}
use Rattle.ra_theorems.proofs.Timestamps.{timestamp-append}
use Rattle.ra_theorems.proofs.Meanings.{queries-exactly}
use Rattle.ra_theorems.proofs.Ranks.{ranks-extend, part_must, must_stand-earlier}

module _ {A : Type 0} where
  -- an insertion puts the element between two pieces of the list
  abbrev pub IsPutBetween : A → List A → List A → Type 0
  IsPutBetween x ys zs = (before behind : List A) × (ys ≡ before ++ behind) × (zs ≡ before ++ x ∷ behind)

  insert_by_between : (cmp : A → A → Ordering) (x : A) (ys : List A) → IsPutBetween x ys (insert_by cmp x ys)
  insert_by_between cmp x [] = ([], [], refl, refl)
  insert_by_between cmp x (y ∷ ys) =
      cond_both (is_lt (cmp x y)) (x ∷ y ∷ ys) (y ∷ insert_by cmp x ys) (IsPutBetween x (y ∷ ys))
      (λ _. ([], y ∷ ys, refl, refl))
      (λ _. let rest = insert_by_between cmp x ys in
      (y ∷ rest.0, rest.1, ap (λ zs. y ∷ zs) rest.2, ap (λ zs. y ∷ zs) rest.3))

timestamp_later : (command : Command) (records : Records) (label : Label) → Contains (labels_of records) label
    → timestamp_of (command ∷ records) label ≡ timestamp_of records label
timestamp_later command records label found =
    timestamp-append (command ∷ []) records label
    (All-contains (λ l. l.number < label_count records) (labels_of records) label
    (numbers_below_count records) found)

-- a later record does not change a label's rank
pub rank_later : (kind : Kind) (command : Command) (records : Records) (label : Label)
    → Contains (labels_of records) label → rank_of kind (command ∷ records) label ≡ rank_of kind records label
rank_later Counter command records label found = refl
rank_later OrSet command records label found = refl
rank_later kinds.List command records label found = refl
rank_later kinds.Any command records label found = refl
rank_later kinds.MvRegister command records label found = refl
rank_later _ command records label found = timestamp_later command records label found

cmp_later : (kind : Kind) (command : Command) (records : Records) (l m : Label) → Contains (labels_of records) l
    → Contains (labels_of records) m
    → label_cmp kind (command ∷ records) l m ≡ label_cmp kind records l m
cmp_later kind command records l m found_l found_m =
    let by_ranks : Stamp → Stamp → Ordering = λ r s. ordering_then (stamp_cmp r s) (nat_cmp l.number m.number) in
    ap (λ r. by_ranks r (rank_of kind (command ∷ records) m)) (rank_later kind command records l found_l)
    ∙ ap (by_ranks (rank_of kind records l)) (rank_later kind command records m found_m)

-- nor the order of the earlier labels
pub order_later : (kind : Kind) (command : Command) (records : Records)
    → sort_by (label_cmp kind (command ∷ records)) (labels_of records) ≡ named_labels kind records
order_later kind command records =
    sort_by_same (Contains (labels_of records)) (label_cmp kind (command ∷ records)) (label_cmp kind records)
    (cmp_later kind command records) (labels_of records) (All-contains_itself (labels_of records))

-- the parts that remain under a test of the label's number
none_kept : (test : ℕ → Bool) (label : Label) (acts : List (Half × Act)) → test label.number ≡ false
    → filter (λ p. test p.label.number) (map (part_of label) acts) ≡ []
none_kept test label [] fails = refl
none_kept test label (act ∷ acts) fails = cond-false (test label.number) _ _ fails ∙ none_kept test label acts fails

pub kept_without : (test : ℕ → Bool) (before behind : List Label) (label : Label) → test label.number ≡ false
    → filter (λ p. test p.label.number) (flat_map parts_of (before ++ label ∷ behind))
    ≡ filter (λ p. test p.label.number) (flat_map parts_of (before ++ behind))
kept_without test before behind label fails =
    let keep = λ (p : Part). test p.label.number in
    let first = flat_map parts_of before in
    let later = flat_map parts_of behind in
    ap (filter keep) (flat_map-append parts_of before (label ∷ behind))
    ∙ filter-append keep first (parts_of label ++ later)
    ∙ ap (λ ps. filter keep first ++ ps) (filter-append keep (parts_of label) later
    ∙ ap (λ ps. ps ++ filter keep later) (none_kept test label (acts_of label.op) fails))
    ∙ sym (ap (filter keep) (flat_map-append parts_of before behind) ∙ filter-append keep first later)

-- in a concatenation, an element that stands before another is in the first list, or both are in the second
stands_in : {A : Type 0} (xs ys : List A) (p q : A) → StandsBefore p q (xs ++ ys)
    → (Contains xs p × Contains (xs ++ ys) q) ⊎ StandsBefore p q ys
stands_in [] ys p q stands = inr stands
stands_in (x ∷ xs) ys p q ([], between, after, is) =
    let this : x ≡ p = cc is in
    let rest : xs ++ ys ≡ between ++ q ∷ after = cc is in
    inl (
      at_head x xs p this,
      behind_head x (xs ++ ys) q
          (subst (λ zs. Contains zs q) (sym rest)
          (Contains-append_right between (q ∷ after) q (at_head q after q refl))),
    )
stands_in (x ∷ xs) ys p q (y ∷ before, between, after, is) =
    elim (stands_in xs ys p q (before, between, after, cc is)) [
      | inl (first, there) ↦ inl (behind_head x xs p first, behind_head x (xs ++ ys) q there)
      | inr further ↦ inr further
    ]

-- in sorted labels, the parts of a label stand before no part of a smaller label
stands_in_order : (kind : Kind) (records : Records) (xs : List Label) → IsSorted (label_cmp kind records) xs
    → (p q : Part) → StandsBefore p q (flat_map parts_of xs) → is_lt (label_cmp kind records q.label p.label) ≡ false
stands_in_order kind records [] sorted p q ([], between, after, is) = absurd (cc is)
stands_in_order kind records [] sorted p q (y ∷ before, between, after, is) = absurd (cc is)
stands_in_order kind records (x ∷ xs) sorted p q stands =
    elim (stands_in (parts_of x) (flat_map parts_of xs) p q stands) [
      | inl (first, there) ↦
          let of_p = part_is_of x p first in
          let at = piece_of parts_of (x ∷ xs) q there in
          let of_q = part_is_of at.0 q at.2 in
          let least = head_least (label_cmp kind records) (label_cmp-total kind records) x xs sorted at.0 at.1 in
          (λ i. is_lt (label_cmp kind records (of_q i) (of_p i))) ∙ least
      | inr further ↦ stands_in_order kind records xs
          (sorted_behind (label_cmp kind records) (label_cmp-total kind records) x xs sorted) p q further
    ]

module _ (kind : Kind) (records : Records) (next : NextOperation) where
  abbrev now : Records
  now = operate next ∷ records

  abbrev label : Label
  label = label_of records next

  pub order-inserted : (before behind : List Label) × (named_labels kind records ≡ before ++ behind)
      × (named_labels kind now ≡ before ++ label ∷ behind)
  order-inserted =
      let put = insert_by_between (label_cmp kind now) label (named_labels kind records) in (
        put.0,
        put.1,
        put.2,
        ap (insert_by (label_cmp kind now) label)
            (order_later kind (operate next) records) ∙ put.3,
      )

  -- a test that the new label fails keeps the same updates
  kept_updates : (test : ℕ → Bool) → test (label_count records) ≡ false
      → updates_of (filter (λ p. test p.label.number) (named_sequence kind now))
      ≡ updates_of (filter (λ p. test p.label.number) (named_sequence kind records))
  kept_updates test fails =
      let put = order-inserted in
      let keep = λ (p : Part). test p.label.number in
      ap (λ labels. updates_of (filter keep (flat_map parts_of labels))) put.3
      ∙ ap updates_of (kept_without test put.0 put.1 label fails)
      ∙ sym (ap (λ labels. updates_of (filter keep (flat_map parts_of labels))) put.2)

  -- the earlier labels see the same updates in the same order
  pub others-see : (n : ℕ) → n < label_count records
      → visible_updates now (named_sequence kind now) n ≡ visible_updates records (named_sequence kind records) n
  others-see n below =
      let same = λ (m : ℕ). sees-append (operate next ∷ []) records n m below in
      let not_new : sees now n (label_count records) ≡ false = false_from_ne_true (sees now n (label_count records))
      (λ seen. let earlier = sees_earlier now n (label_count records) seen in
      absurd (omega (arith, below, earlier.0))) in
      kept_updates (sees now n) not_new
      ∙ (λ i. updates_of (filter (λ (p : Part). same p.label.number i) (named_sequence kind records)))

  -- and the new label sees those that were delivered to its replica
  pub own-sees : visible_updates now (named_sequence kind now) (label_count records) ≡ delivered_updates kind records next.by
  own-sees =
      let n = label_count records in
      let same = λ (m : ℕ). cond-true (n == n) (has_delivered records next.by m) (sees records n m) (eq-eqb n n refl) in
      kept_updates (sees now n) (sees_not_itself now n)
      ∙ (λ i. updates_of (filter (λ (p : Part). same p.label.number i) (named_sequence kind records)))

  -- the labels are the new one and the earlier ones
  old_or_new : (l : Label) → Contains (labels_of now) l → (label ≡ l) ⊎ Contains (labels_of records) l
  old_or_new l there = head_or_behind label (labels_of records) l there

  abbrev RanksAllow : Records → Label → Label → Type 0
  RanksAllow rs m n = ¬ IsStampBelow (rank_of kind rs n) (rank_of kind rs m)

  stands_from_extended : extends_visibility now (named_sequence kind now) ≡ true
      → IsPlacedInOrder now label (named_sequence kind now)
  stands_from_extended extended p q p_there q_of must =
      let there : Contains (named_sequence kind now) q = in_piece parts_of (named_labels kind now) label q
      (Contains-permutation (labels_of now) (named_labels kind now) label (IsPermutation-named_labels kind now)
      (at_head label (labels_of records) label refl)) q_of in
      extends-stands (must_precede now) (must_precede-irreflexive now)
      (named_sequence kind now) extended p q p_there there must

  -- nothing changes between earlier labels
  old_allowed : (m n : Label) → Contains (labels_of records) m → Contains (labels_of records) n
      → (MustStandBefore records m n → RanksAllow records m n) → MustStandBefore now m n → RanksAllow now m n
  old_allowed m n m_there n_there allowed must =
      let below = All-contains (λ l. l.number < label_count records) (labels_of records) n
      (numbers_below_count records) n_there in
      let before : MustStandBefore records m n = elim must [
        | inl seen ↦ inl (sym (sees-append (operate next ∷ []) records n.number m.number below) ∙ seen)
        | inr earlier ↦ inr earlier
      ] in
      subst (λ r. ¬ IsStampBelow r (rank_of kind now m)) (sym (rank_later kind (operate next) records n n_there))
      (subst (λ r. ¬ IsStampBelow (rank_of kind records n) r)
      (sym (rank_later kind (operate next) records m m_there)) (allowed before))

  extended_from_stands : extends_visibility records (named_sequence kind records) ≡ true
      → IsPlacedInOrder now label (named_sequence kind now) → extends_visibility now (named_sequence kind now) ≡ true
  extended_from_stands extended stands =
      let allowed = (ranks-extend kind records).0 extended in
      (ranks-extend kind now).1 (λ m n m_there n_there must. elim (old_or_new n n_there) [
        | inl new ↦ λ below.
            let must_new = subst (MustStandBefore now m) (sym new) must in
            let q = some_part label in
            let p = part_must now m label m_there must_new q.0 (part_is_of label q.0 q.1) in
            let p_there : Contains (named_sequence kind now) p.0 = in_piece parts_of (named_labels kind now) m p.0
            (Contains-permutation (labels_of now) (named_labels kind now) m
            (IsPermutation-named_labels kind now) m_there) p.1 in
            let behind = stands_in_order kind now (named_labels kind now) (IsSorted-named_labels kind now) p.0 q.0
            (stands p.0 q.0 p_there q.1 p.2) in
            let above : is_lt (label_cmp kind now label m) ≡ false =
            sym (λ i. is_lt (label_cmp kind now (part_is_of label q.0 q.1 i) (part_is_of m p.0 p.1 i))) ∙ behind in
            let new_below : IsStampBelow (rank_of kind now label) (rank_of kind now m) =
            subst (λ l. IsStampBelow (rank_of kind now l) (rank_of kind now m)) (sym new) below in
            absurd (true≢false (sym (ap is_lt ((label_below kind now label m).1 (inl new_below))) ∙ above))
        | inr old ↦ elim (old_or_new m m_there) [
          | inl newest ↦ λ _.
              let later = must_stand-earlier now m n must in
              let lower = All-contains (λ l. l.number < label_count records) (labels_of records) n
              (numbers_below_count records) old in
              absurd (omega (arith, later, lower, ap (λ (l : Label). l.number) newest))
          | inr older ↦ old_allowed m n older old (allowed m n older old) must
        ]
      ])

  pub decides-order : extends_visibility records (named_sequence kind records) ≡ true
      → (extends_visibility now (named_sequence kind now) ≡ true)
      ↔ IsPlacedInOrder now label (named_sequence kind now)
  decides-order extended = (stands_from_extended, extended_from_stands extended)

  -- a part belongs to the new label or to an earlier one
  new_or_old : (part : Part) → Contains (named_sequence kind now) part
      → Contains (parts_of label) part ⊎ Contains (named_sequence kind records) part
  new_or_old part there =
      let at = piece_of parts_of (named_labels kind now) part there in
      let back = Contains-permutation (named_labels kind now) (labels_of now) at.0
      (IsPermutation-sym (labels_of now) (named_labels kind now) (IsPermutation-named_labels kind now)) at.1 in
      elim (old_or_new at.0 back) [
        | inl new ↦ inl (subst (λ l. Contains (parts_of l) part) (sym new) at.2)
        | inr old ↦
            inr (in_piece parts_of (named_labels kind records) at.0 part
            (Contains-permutation (labels_of records) (named_labels kind records) at.0
            (IsPermutation-named_labels kind records) old) at.2)
      ]

  own_part : (part : Part) → Contains (parts_of label) part → Contains (named_sequence kind now) part
  own_part part of_it =
      in_piece parts_of (named_labels kind now) label part
      (Contains-permutation (labels_of now) (named_labels kind now) label (IsPermutation-named_labels kind now)
      (at_head label (labels_of records) label refl)) of_it

  old_number : (part : Part) → Contains (named_sequence kind records) part → part.label.number < label_count records
  old_number part there =
      let at = piece_of parts_of (named_labels kind records) part there in
      let back = Contains-permutation (named_labels kind records) (labels_of records) at.0
      (IsPermutation-sym (labels_of records) (named_labels kind records) (IsPermutation-named_labels kind records))
      at.1 in
      let lower = All-contains (λ l. l.number < label_count records) (labels_of records) at.0
      (numbers_below_count records) back in
      omega (arith, lower, ap (λ (l : Label). l.number) (part_is_of at.0 part at.2))

  pub decides-query : queries_admitted kind records (named_sequence kind records) ≡ true
      → (queries_admitted kind now (named_sequence kind now) ≡ true)
      ↔ OwnQueriesAnswered kind now label (named_sequence kind now)
  decides-query admitted = (
    (λ is part query of_it asks.
        let answered = (queries-exactly kind now (named_sequence kind now)).0 is part query
        (own_part part of_it) asks in
        subst (λ l. IsAnsweredAfter kind (visible_updates now (named_sequence kind now) l.number) query)
        (part_is_of label part of_it) answered),
    (λ itself. (queries-exactly kind now (named_sequence kind now)).1
        (λ part query there asks. elim (new_or_old part there) [
          | inl new ↦
              subst (λ l. IsAnsweredAfter kind (visible_updates now (named_sequence kind now) l.number) query)
              (sym (part_is_of label part new)) (itself part query new asks)
          | inr old ↦
              subst (λ us. IsAnsweredAfter kind us query) (sym (others-see part.label.number (old_number part old)))
              ((queries-exactly kind records (named_sequence kind records)).0 admitted part query old asks)
        ])),
  )

  pub decides-all : Holds kind records → Holds kind now
      ↔ (IsPlacedInOrder now label (named_sequence kind now)
      × (updates_admitted kind (named_sequence kind now) ≡ true)
      × OwnQueriesAnswered kind now label (named_sequence kind now)
      × (is_explained kind now ≡ true))
  decides-all holds =
      let order = decides-order holds.visibility in
      let query = decides-query holds.queries in (
        (λ is. (order.0 is.visibility, is.updates, query.0 is.queries, is.explained)),
        (λ known. record {
          each_part_once = IsPermutation-named_sequence kind now;
          visibility = order.1 known.0;
          updates = known.1;
          queries = query.1 known.2;
          explained = known.3;
        }),
      )
