-- Lemmas on the search for the newest updates of elements that a read sees, label by label.
use Rattle.std.proofs.Common.{◌≡◌, ℕ, ◌+◌, ◌<◌, Bool, true, false, List, [], Option, Some, None, BTreeMap, refl, sym, ap, ◌∙◌, subst, inl, inr, arith}
use Rattle.std.specs.Prelude.{◌⊎◌, nat_lt, IfSome, option_map, if◌then◌else◌}
use Rattle.std.specs.Option.{option_map_or}
use Rattle.std.proofs.lemmas.Bool.{cases_eq, cases_lt, ltb-false, false≢true}
use Rattle.ra_labels.specs.declared.operation.Op.{Op}
use Rattle.ra_labels.specs.declared.operation.Op.TheVariants as op
use Rattle.ra_labels.specs.declared.label.Label.{Label}
use Rattle.ra_labels.specs.HistorySoFar.{History}
use Rattle.ra_labels.specs.Records.{Records, label_at}
use Rattle.ra_labels.specs.Visibility.{is_update, is_update_at, sees}
use Rattle.ra_labels.specs.Places.{issuer_of}
use Rattle.ra_theorems.proofs.TheoremIndex.{sees_earlier_updates-updates}
use Rattle.ra_visibility.specs.Newest.{IsNewestSeen}
use Rattle.ra_visibility.specs.Tracked.{Tracked}
use Rattle.ra_any_order.specs.Previous.{IsLastBelow}
use Rattle.ra_any_order.specs.Reading.{passes_at}
use Rattle.ra_any_order.specs.Changes.{changes, newest_in, is_seen_by, AreNewestChanges, newer_than, IsTaken, AreChangesOf}
use Rattle.ra_any_order.specs.Finding.{IsFinding, IsOfReplicaBelow, IsPast, IsReached, IsNextOf, AreFound}
use Rattle.ra_any_order.specs.Situation.{IsHistoryOf}
use Rattle.ra_any_order.proofs.NarrowSides.{AreListed}
use Rattle.ra_any_order.proofs.SeenBefore.{SeesEarlierOnes}

module _ (records : Records) (operations : List Op) (last : Option ℕ) (n : ℕ) where
  -- ---- which labels were reached
  pub reach_other : (First Second : ℕ → Type 0) (found : BTreeMap (ℕ × ℕ) ℕ) (changed : List ℕ)
      → ((k : ℕ) → sees records n k ≡ true → Second k → First k)
      → IsFinding records operations last n First found changed → IsFinding records operations last n Second found changed
  reach_other First Second found changed more it = record {
    seen = it.seen;
    listed = it.listed;
    latest = λ x k seen passes reached. it.latest x k seen passes (more k seen reached);
  }

  pub reach_none : (found : BTreeMap (ℕ × ℕ) ℕ) → AreNewestChanges records operations last found
      → ((k : ℕ) → is_seen_by records last k ≡ true → sees records n k ≡ true)
      → IsFinding records operations last n (IsOfReplicaBelow records last 0) found []
  reach_none found newest later = record {
    seen =
        λ x replica m at. let (seen, issued, passes) = newest.seen x replica m at in (later m seen, issued, passes);
    listed = λ x replica m at. inl (newest.seen x replica m at).0;
    latest =
        λ x k seen passes reached. elim reached [
          | inl known ↦ newest.latest x k known passes
          | inr below ↦ absurd (omega (arith, below))
        ];
  }

  pub reach_all : (found : BTreeMap (ℕ × ℕ) ℕ) (changed : List ℕ) (bound : ℕ) → SeesEarlierOnes records last
      → ((k : ℕ) → sees records n k ≡ true → issuer_of records k < bound)
      → IsFinding records operations last n (IsOfReplicaBelow records last bound) found changed
      → AreFound records operations last n found changed
  reach_all found changed bound earlier below it = record {
    newest = record { seen = it.seen; latest = λ x k seen passes. it.latest x k seen passes (inr (below k seen)) };
    listed =
        λ x k seen passes.
        let (m, at, less) = it.latest x k seen passes (inr (below k seen)) in
        elim (it.listed x (issuer_of records k) m at) [
          | inl known ↦ inl (earlier k m known less (sym (it.seen x (issuer_of records k) m at).1)
              (sees_earlier_updates-updates records n k seen))
          | inr there ↦ inr there
        ];
  }

  -- ---- the labels of one replica
  module _ (replica : ℕ) where
    pub reach_first : (raw : Option ℕ) → IsNewestSeen records n replica raw → (k : ℕ) → sees records n k ≡ true
        → IsReached records last replica raw k → IsOfReplicaBelow records last replica k
    reach_first None none k seen (inl below) = below
    reach_first None none k seen (inr later) = absurd (none k seen later.0)
    reach_first (Some o) newest k seen (inl below) = below
    reach_first (Some o) (o_seen, issued, latest) k seen (inr (same, past)) =
        let less = latest k seen same in absurd (omega (arith, less, past))

    pub next_first : (raw : Option ℕ) → IsNewestSeen records n replica raw → IsNextOf records n replica raw
    next_first None none = tt
    next_first (Some o) (seen, issued, latest) = (issued, (o, seen, issued, omega arith))

    pub reach_end : (k : ℕ) → IsOfReplicaBelow records last (replica + 1) k → IsReached records last replica None k
    reach_end k (inl known) = inl (inl known)
    reach_end k (inr below) = elim (cases_eq (issuer_of records k) replica) [
      | inl same ↦ inr (same, tt)
      | inr other ↦ inl (inr (omega (arith, below, other)))
    ]

    pub reach_previous : (m : ℕ) (p : Option ℕ) → issuer_of records m ≡ replica
        → IsLastBelow records m (issuer_of records m) p → (k : ℕ) → IsReached records last replica p k
        → IsReached records last replica (Some m) k ⊎ (k ≡ m)
    reach_previous m None issued none k (inl below) = inl (inl below)
    reach_previous m None issued none k (inr (same, past)) = elim (cases_lt k m) [
      | inl less ↦ absurd (none k less (same ∙ sym issued))
      | inr more ↦ elim (cases_eq k m) [
        | inl is ↦ inr is
        | inr other ↦ inl (inr (same, omega (arith, more, other)))
      ]
    ]
    reach_previous m (Some p) issued before k (inl below) = inl (inl below)
    reach_previous m (Some p) issued (p_below, p_issued, latest) k (inr (same, past)) = elim (cases_lt k m) [
      | inl less ↦ let not_past = latest k less (same ∙ sym issued) in absurd (omega (arith, not_past, past))
      | inr more ↦ elim (cases_eq k m) [
        | inl is ↦ inr is
        | inr other ↦ inl (inr (same, omega (arith, more, other)))
      ]
    ]

    pub next_previous : (m : ℕ) (p : Option ℕ) → IsNextOf records n replica (Some m)
        → IsLastBelow records m (issuer_of records m) p → IsNextOf records n replica p
    next_previous m None next none = tt
    next_previous m (Some p) (issued, (o, seen, o_issued, less)) (p_below, p_issued, latest) =
        (p_issued ∙ issued, (o, seen, o_issued, omega (arith, p_below, less)))

    pub next_newer : (known raw : Option ℕ) → IsNextOf records n replica raw
        → IsNextOf records n replica (newer_than known raw)
    next_newer None None next = tt
    next_newer (Some o) None next = tt
    next_newer None (Some m) next = next
    next_newer (Some o) (Some m) next = go (nat_lt o m)
      where
        go : (newer : Bool) → IsNextOf records n replica (if newer then Some m else None)
        go true = next
        go false = tt

    pub reach_newer : (known raw : Option ℕ) → SeesEarlierOnes records last
        → IfSome known (λ o. (is_seen_by records last o ≡ true) × (issuer_of records o ≡ replica))
        → (k : ℕ) → sees records n k ≡ true → IsReached records last replica (newer_than known raw) k
        → IsReached records last replica raw k
    reach_newer None None earlier is_known k seen reached = reached
    reach_newer (Some o) None earlier is_known k seen reached = reached
    reach_newer None (Some m) earlier is_known k seen reached = reached
    reach_newer (Some o) (Some m) earlier (o_seen, issued) k seen (inl below) = inl below
    reach_newer (Some o) (Some m) earlier (o_seen, issued) k seen (inr (same, past)) = go (nat_lt o m) refl past
      where
        go : (newer : Bool) → nat_lt o m ≡ newer → IsPast (if newer then Some m else None) k
            → IsReached records last replica (Some m) k
        go true is later = inr (same, later)
        go false is none = elim (cases_lt m k) [
          | inl later ↦ inr (same, later)
          | inr not_later ↦
              let older = ltb-false o m is in
              inl (inl (earlier k o o_seen (omega (arith, not_later, older)) (same ∙ sym issued)
              (sees_earlier_updates-updates records n k seen)))
        ]

    -- ---- one update more
    pub take_more : (m : ℕ) (Reached : ℕ → Type 0) (old new : BTreeMap (ℕ × ℕ) ℕ) (before after : List ℕ)
        → issuer_of records m ≡ replica
        → ((x : ℕ) → passes_at operations (changes x) m ≡ true → sees records n m ≡ true)
        → IsTaken operations replica m old new before after
        → IsFinding records operations last n Reached old before
        → IsFinding records operations last n (λ k. Reached k ⊎ (k ≡ m)) new after
    take_more m Reached old new before after issued seen taken it = record {
      seen =
          λ x r k at. elim (taken.from x r k at) [
            | inl older ↦ it.seen x r k older
            | inr (is, of, passes, listed) ↦ (
              subst (λ j. sees records n j ≡ true) (sym is) (seen x passes),
              ap (issuer_of records) is ∙ issued ∙ sym of,
              subst (λ j. passes_at operations (changes x) j ≡ true) (sym is) passes,
            )
          ];
      listed =
          λ x r k at. elim (taken.from x r k at) [
            | inl older ↦ elim (it.listed x r k older) [
              | inl known ↦ inl known
              | inr there ↦ inr (taken.listed x there)
            ]
            | inr (is, of, passes, listed) ↦ inr listed
          ];
      latest =
          λ x k k_seen passes reached. elim reached [
            | inl older ↦
                let (l, at, less) = it.latest x k k_seen passes older in
                let (j, now, more) = taken.kept x (issuer_of records k) l at in
                (j, now, omega (arith, less, more))
            | inr is ↦
                let (j, now, more) = taken.taken x (subst (λ i. passes_at operations (changes x) i ≡ true) is passes) in (
                  j,
                  subst (λ r. newest_in new x r ≡ Some j) (sym (ap (issuer_of records) is ∙ issued)) now,
                  omega (arith, is, more),
                )
          ];
    }

-- ---- bounds
pub low_newer : (known raw : Option ℕ) (count : ℕ) → IfSome raw (λ m. m < count)
    → IfSome (newer_than known raw) (λ m. m < count)
low_newer None None count low = tt
low_newer (Some o) None count low = tt
low_newer None (Some m) count low = low
low_newer (Some o) (Some m) count low = go (nat_lt o m)
  where
    go : (newer : Bool) → IfSome (if newer then Some m else None) (λ k. k < count)
    go true = low
    go false = tt

pub low_earlier : (raw : Option ℕ) (n count : ℕ) → IfSome raw (λ m. m < n) → n < count → IfSome raw (λ m. m < count)
low_earlier None n count less below = tt
low_earlier (Some m) n count less below = omega (arith, less, below)

pub low_taken : (operations : List Op) (replica m count : ℕ) (old new : BTreeMap (ℕ × ℕ) ℕ) (before after : List ℕ)
    → IsTaken operations replica m old new before after → m < count
    → ((x other k : ℕ) → newest_in old x other ≡ Some k → k < count) → (x other k : ℕ)
    → newest_in new x other ≡ Some k → k < count
low_taken operations replica m count old new before after taken below low x other k at =
    elim (taken.from x other k at) [
      | inl older ↦ low x other k older
      | inr (is, of, passes, listed) ↦ subst (λ j. j < count) (sym is) below
    ]

-- what adds or removes an element is an update
changing_op : (x : ℕ) (operation : Op) → changes x operation ≡ true → is_update operation ≡ true
changing_op x (op.LwwAdd y) passes = refl
changing_op x (op.LwwRemove y) passes = refl
changing_op x _ passes = absurd (false≢true passes)

changing_label : (x : ℕ) (label : Option Label) → option_map_or (changes x) (option_map (λ l. l.op) label) false ≡ true
    → option_map_or (λ l. is_update l.op) label false ≡ true
changing_label x None passes = absurd (false≢true passes)
changing_label x (Some label) passes = changing_op x label.op passes

pub changing_update : (records : Records) (operations : List Op) → AreListed records operations → (x m : ℕ)
    → passes_at operations (changes x) m ≡ true → is_update_at records m ≡ true
changing_update records operations listed x m passes =
    changing_label x (label_at records m) (subst (λ o. option_map_or (changes x) o false ≡ true) (listed m) passes)

pub changes_of : (tracked : Tracked) (operations : List Op) (past : History) → IsHistoryOf tracked operations past
    → AreChangesOf tracked operations past
changes_of tracked operations past stands = record {
  visibility = stands.visibility;
  updates = changing_update past.records operations stands.listed;
}
