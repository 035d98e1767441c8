-- Lemmas on the slots of labels: those of the labels from a number on, the last label first.
use Rattle.std.proofs.Common.{◌≡◌, ℕ, ◌+◌, ◌-◌, ◌<◌, ◌≤◌, Bool, true, false, length, set, List, [], ◌∷◌, ◌++◌, get_or, refl, sym, ap, subst, ◌∙◌, inl, inr, arith, take, replicate}
use Rattle.std.specs.Prelude.{◌⊎◌, ◌↔◌, map, Contains}
use Rattle.std.proofs.lemmas.Bool.{cases_eq, false≢true}
use Rattle.std.proofs.lemmas.List.{length-set, get_or-set_same, get_or-set_other, take_all}
use Rattle.std.proofs.lemmas.List.Elements.{Contains-append_left, Contains-append_right, Contains-append_cases}
use Rattle.std.proofs.lemmas.List.Sorted.{IsPermutation-append_comm}
use Rattle.ra_labels.specs.Edges.{EachOnce}
use Rattle.ra_labels.specs.Records.{Records, label_count}
use Rattle.ra_labels.specs.Visibility.{is_update_at, sees}
use Rattle.ra_labels.specs.Places.{issuer_of}
use Rattle.ra_labels.proofs.Members.{head_or_behind, at_head, none_there}
use Rattle.ra_list_order.proofs.Adds.{once_moved}
use Rattle.ra_list_order.proofs.Puts.{once_put}
use Rattle.ra_theorems.proofs.TheoremIndex.{sees_earlier_updates-earlier, sees_earlier_updates-updates}
use Rattle.ra_precedence.specs.Conditions.{HasEachBelow}
use Rattle.ra_some_order.specs.Covering.{ExtendsVisibility}
use Rattle.ra_some_order.proofs.OwnUpdates.{seen_after}
use Rattle.ra_some_order.proofs.LabelSequences.{label_here, issuer_at, updates_at}
use Rattle.ra_rga_precedence.specs.Ranks.{AreRanks}
use Rattle.ra_rga_precedence.specs.LabelSlots.{AreSlots}

abbrev pub Slot : Type 0
Slot = ℕ × ℕ

abbrev pub labels_at : List Slot → List ℕ
labels_at slots = map (λ slot. slot.1) slots

-- ---- each label is at a slot
pub record HasEachFrom (from count : ℕ) (labels : List ℕ) : Type 0 where
  pub once : EachOnce labels
  pub all : (b : ℕ) → ((from ≤ b) × (b < count)) ↔ Contains labels b

pub each_more : (n count : ℕ) (labels : List ℕ) → n < count → HasEachFrom (n + 1) count labels
    → HasEachFrom n count (labels ++ n ∷ [])
each_more n count labels below each = record {
  once =
      once_moved (n ∷ labels) (labels ++ n ∷ []) (IsPermutation-append_comm (n ∷ []) labels)
      (once_put labels 0 n (λ there. let low = ((each.all n).1 there).0 in omega (arith, low)) each.once);
  all =
      λ b. (
        (λ within. elim (cases_eq b n) [
          | inl is ↦ Contains-append_right labels (n ∷ []) b (at_head n [] b (sym is))
          | inr other ↦
              let low = within.0 in
              let high = within.1 in
              Contains-append_left labels (n ∷ []) b ((each.all b).0 (omega (arith, low, other), high))
        ]),
        (λ there. elim (Contains-append_cases labels (n ∷ []) b there) [
          | inl older ↦ let (low, high) = (each.all b).1 older in (omega (arith, low), high)
          | inr new ↦ elim (head_or_behind n [] b new) [
            | inl is ↦ (omega (arith, is), omega (arith, is, below))
            | inr further ↦ absurd (none_there b further)
          ]
        ]),
      );
}

pub each_none : (count : ℕ) → HasEachFrom count count []
each_none count = record {
  once = λ x. omega arith;
  all = λ b. ((λ (low, high). absurd (omega (arith, low, high))), (λ there. absurd (none_there b there)));
}

pub each_below : (count : ℕ) (labels : List ℕ) → HasEachFrom 0 count labels → HasEachBelow count labels
each_below count labels each = record {
  once = each.once;
  all = λ b. ((λ below. (each.all b).0 (omega arith, below)), (λ there. ((each.all b).1 there).1));
}

-- ---- what a replica's later labels see
own_update_seen : (records : Records) (m n : ℕ) → m < n → n < label_count records
    → issuer_of records m ≡ issuer_of records n → is_update_at records m ≡ true → sees records n m ≡ true
own_update_seen records m n less below same updates =
    let (early, early_there, early_is) = label_here records m (omega (arith, less, below)) in
    let (late, late_there, late_is) = label_here records n below in
    subst (λ k. sees records k m ≡ true) late_is
    (seen_after records early late m early_there late_there
    (sym (issuer_at records early early_there) ∙ ap (issuer_of records) early_is ∙ same
    ∙ sym (ap (issuer_of records) late_is) ∙ issuer_at records late late_there)
    (omega (arith, less, early_is, late_is))
    (inr (sym (updates_at records early early_there) ∙ ap (is_update_at records) early_is ∙ updates, early_is)))

seen_stays : (records : Records) (k n m : ℕ) → k < n → n < label_count records
    → issuer_of records k ≡ issuer_of records n → sees records k m ≡ true → sees records n m ≡ true
seen_stays records k n m less below same seen =
    let (early, early_there, early_is) = label_here records k (omega (arith, less, below)) in
    let (late, late_there, late_is) = label_here records n below in
    subst (λ j. sees records j m ≡ true) late_is
    (seen_after records early late m early_there late_there
    (sym (issuer_at records early early_there) ∙ ap (issuer_of records) early_is ∙ same
    ∙ sym (ap (issuer_of records) late_is) ∙ issuer_at records late late_there)
    (omega (arith, less, early_is, late_is))
    (inl (subst (λ j. sees records j m ≡ true) (sym early_is) seen)))

module _ (records : Records) (order ranks : List ℕ) (ranked : AreRanks (label_count records) order ranks)
    (extended : ExtendsVisibility records order) where
  abbrev rank : ℕ → ℕ
  rank n = get_or ranks n 0

  -- Holds of the slots of the labels from a number on, with the slot of each replica's next update: a slot is at
  -- least that of its replica's next update, which is at least the rank of each update that the replica saw before.
  pub record AreSlotsFrom (from : ℕ) (next : List ℕ) (slots : List Slot) : Type 0 where
    pub above : (x : Slot) → Contains slots x → (from ≤ x.1) × (x.1 < label_count records)
    pub ranks_are : (x : Slot) → Contains slots x → is_update_at records x.1 ≡ true → x.0 ≡ rank x.1
    pub seen : (x : Slot) (m : ℕ) → Contains slots x → sees records x.1 m ≡ true → rank m ≤ x.0
    pub own : (x : Slot) → Contains slots x → get_or next (issuer_of records x.1) 0 ≤ x.0
    pub ahead : (k m : ℕ) → k < from → sees records k m ≡ true → rank m ≤ get_or next (issuer_of records k) 0
    pub rises : (x y : Slot) → Contains slots x → Contains slots y → x.1 < y.1
        → (issuer_of records x.1 ≡ issuer_of records y.1) ⊎ (sees records y.1 x.1 ≡ true) → x.0 ≤ y.0

  module _ (n : ℕ) (below : n < label_count records) (old new : List ℕ) (slots : List Slot)
      (are : AreSlotsFrom (n + 1) old slots)
      (others : (q : ℕ) → ¬ (q ≡ issuer_of records n) → get_or new q 0 ≡ get_or old q 0)
      (cases : ((is_update_at records n ≡ true) × (get_or new (issuer_of records n) 0 ≡ rank n))
      ⊎ ((is_update_at records n ≡ false)
      × (get_or new (issuer_of records n) 0 ≡ get_or old (issuer_of records n) 0))) where
    abbrev slot : ℕ
    slot = get_or new (issuer_of records n) 0

    -- what the label sees has no higher rank than its slot
    sees_lower : (m : ℕ) → sees records n m ≡ true → rank m ≤ slot
    sees_lower m seen = elim cases [
      | inl (updates, is) ↦ let less = ranked.rises m n (extended n m updates seen) in omega (arith, less, is)
      | inr (reads, is) ↦ let low = are.ahead n m (omega arith) seen in omega (arith, low, is)
    ]

    -- later labels of the replica have no lower slot
    later_higher : (y : Slot) → Contains slots y → issuer_of records n ≡ issuer_of records y.1 → slot ≤ y.0
    later_higher y there same =
        let (low, high) = are.above y there in
        elim cases [
          | inl (updates, is) ↦
              let least = are.seen y n there (own_update_seen records n y.1 (omega (arith, low)) high same updates) in
              omega (arith, least, is)
          | inr (reads, is) ↦
              let least = subst (λ q. get_or old q 0 ≤ y.0) (sym same) (are.own y there) in omega (arith, least, is)
        ]

    seen_higher : (y : Slot) → Contains slots y → sees records y.1 n ≡ true → slot ≤ y.0
    seen_higher y there seen = elim cases [
      | inl (updates, is) ↦ let least = are.seen y n there seen in omega (arith, least, is)
      | inr (reads, is) ↦ absurd (false≢true (sym reads ∙ sees_earlier_updates-updates records y.1 n seen))
    ]

    abbrev more : List Slot
    more = slots ++ (slot, n) ∷ []

    more_cases : (x : Slot) → Contains more x → Contains slots x ⊎ ((slot, n) ≡ x)
    more_cases x there = elim (Contains-append_cases slots ((slot, n) ∷ []) x there) [
      | inl older ↦ inl older
      | inr new ↦ elim (head_or_behind (slot, n) [] x new) [
        | inl is ↦ inr is
        | inr further ↦ absurd (none_there x further)
      ]
    ]

    pub slots_more : AreSlotsFrom n new more
    slots_more = record {
      above =
          λ x there. elim (more_cases x there) [
            | inl older ↦ let (low, high) = are.above x older in (omega (arith, low), high)
            | inr is ↦ subst (λ (y : Slot). (n ≤ y.1) × (y.1 < label_count records)) is (omega arith, below)
          ];
      ranks_are =
          λ x there updates. elim (more_cases x there) [
            | inl older ↦ are.ranks_are x older updates
            | inr is ↦ subst (λ (y : Slot). is_update_at records y.1 ≡ true → y.0 ≡ rank y.1) is
                (λ its. elim cases [
                  | inl (is_one, ranked_so) ↦ ranked_so
                  | inr (reads, same) ↦ absurd (false≢true (sym reads ∙ its))
                ]) updates
          ];
      seen =
          λ x m there sees_it. elim (more_cases x there) [
            | inl older ↦ are.seen x m older sees_it
            | inr is ↦ subst (λ (y : Slot). sees records y.1 m ≡ true → rank m ≤ y.0) is (sees_lower m) sees_it
          ];
      own =
          λ x there. elim (more_cases x there) [
            | inl older ↦ elim (cases_eq (issuer_of records x.1) (issuer_of records n)) [
              | inl same ↦ subst (λ q. get_or new q 0 ≤ x.0) (sym same) (later_higher x older (sym same))
              | inr other ↦
                  let kept = others (issuer_of records x.1) other in
                  let low = are.own x older in
                  omega (arith, kept, low)
            ]
            | inr is ↦ subst (λ (y : Slot). get_or new (issuer_of records y.1) 0 ≤ y.0) is (omega arith)
          ];
      ahead =
          λ k m earlier sees_it. elim (cases_eq (issuer_of records k) (issuer_of records n)) [
            | inl same ↦ subst (λ q. rank m ≤ get_or new q 0) (sym same)
                (sees_lower m (seen_stays records k n m earlier below same sees_it))
            | inr other ↦
                let kept = others (issuer_of records k) other in
                let low = are.ahead k m (omega (arith, earlier)) sees_it in
                omega (arith, kept, low)
          ];
      rises =
          λ x y x_there y_there less how. elim (more_cases x x_there) [
            | inl x_older ↦ elim (more_cases y y_there) [
              | inl y_older ↦ are.rises x y x_older y_older less how
              | inr is ↦
                  let low = (are.above x x_older).0 in
                  let number : n ≡ y.1 = ap (λ (z : Slot). z.1) is in
                  absurd (omega (arith, low, number, less))
            ]
            | inr x_is ↦
                let number : n ≡ x.1 = ap (λ (z : Slot). z.1) x_is in
                elim (more_cases y y_there) [
                  | inl y_older ↦ subst (λ (z : Slot). (issuer_of records z.1 ≡ issuer_of records y.1)
                      ⊎ (sees records y.1 z.1 ≡ true) → z.0 ≤ y.0) x_is
                      (λ its. elim its [
                        | inl same ↦ later_higher y y_older same
                        | inr seen ↦ seen_higher y y_older seen
                      ]) how
                  | inr is ↦
                      let also : n ≡ y.1 = ap (λ (z : Slot). z.1) is in
                      absurd (omega (arith, number, also, less))
                ]
          ];
    }

  -- before the first step
  pub slots_none : (next : List ℕ) → ((k : ℕ) → k < label_count records
      → (m : ℕ) → m < label_count records → rank m ≤ get_or next (issuer_of records k) 0)
      → AreSlotsFrom (label_count records) next []
  slots_none next high = record {
    above = λ x there. absurd (none_there x there);
    ranks_are = λ x there. absurd (none_there x there);
    seen = λ x m there. absurd (none_there x there);
    own = λ x there. absurd (none_there x there);
    ahead =
        λ k m below seen.
        let less = sees_earlier_updates-earlier records k m seen in high k below m (omega (arith, below, less));
    rises = λ x y there. absurd (none_there x there);
  }

  -- behind the last one
  pub slots_all : (next : List ℕ) (slots : List Slot) → AreSlotsFrom 0 next slots → AreSlots records order slots
  slots_all next slots are = record {
    rises = are.rises;
    updates =
        λ x y x_there y_there x_updates y_updates before.
        let x_is = are.ranks_are x x_there x_updates in
        let y_is = are.ranks_are y y_there y_updates in
        let less = ranked.rises x.1 y.1 before in
        omega (arith, x_is, y_is, less);
  }

-- ---- one step of the loop over the labels
-- holds if the replica's next update is now this label if it is an update, and else the same as before
pub record IsNext (updates : Bool) (rank replica : ℕ) (old new : List ℕ) : Type 0 where
  pub len : length new ≡ length old
  pub others : (q : ℕ) → ¬ (q ≡ replica) → get_or new q 0 ≡ get_or old q 0
  pub cases : ((updates ≡ true) × (get_or new replica 0 ≡ rank))
      ⊎ ((updates ≡ false) × (get_or new replica 0 ≡ get_or old replica 0))

pub next_set : (rank replica : ℕ) (old : List ℕ) → replica < length old
    → IsNext true rank replica old (set old replica rank)
next_set rank replica old within = record {
  len = length-set old replica rank;
  others = λ q other. get_or-set_other old replica q rank 0 other;
  cases = inl (refl, get_or-set_same old replica rank 0 within);
}

pub next_same : (rank replica : ℕ) (old : List ℕ) → IsNext false rank replica old old
next_same rank replica old = record {
  len = refl;
  others = λ q other. refl;
  cases = inr (refl, refl);
}

-- ---- before the loop
pub made_same : (n m value : ℕ) (old items : List ℕ) → old ≡ [] → m ≡ 0
    → items ≡ take n old ++ replicate (n - m) value → items ≡ replicate n value
made_same n m value old items none zero is =
    is ∙ ap (λ xs. take n xs ++ replicate (n - m) value) none
    ∙ ap (λ xs. xs ++ replicate (n - m) value) (take_all n [] (omega arith))
    ∙ ap (λ k. replicate k value) (omega (arith, zero))
