-- Lemmas on the writes and the last labels after one more label.
use Rattle.std.proofs.Common.{◌≡◌, ℕ, zero, suc, ◌+◌, ◌<◌, Bool, true, false, cond, List, [], ◌∷◌, ◌++◌, length, Option, Some, None, refl, sym, ap, ◌∙◌, subst, inl, inr, arith}
use Rattle.std.specs.Prelude.{◌⊎◌, ◌==◌, ◌&&◌, ◌||◌, Contains, option_map, unwrap_or}
use Rattle.std.proofs.lemmas.Bool.{cases_lt, cases_eq, cases_Bool, eq-eqb, ne_eqb, and_from, or_left, or_right}
use Rattle.std.proofs.lemmas.Option.{none-some, same_Some}
use Rattle.std.proofs.lemmas.List.{length-map, get_or_append_left, get_or_at}
use Rattle.ra_labels.specs.declared.kind.Kind.{Kind}
use Rattle.ra_labels.specs.declared.label.Stamp.{Stamp}
use Rattle.ra_labels.specs.declared.label.Label.{Label}
use Rattle.ra_labels.specs.Records.{Records, label_count, labels_of}
use Rattle.ra_labels.specs.Visibility.{is_update, has_delivered, sees}
use Rattle.ra_labels.specs.Linearization.{extends_visibility}
use Rattle.ra_labels.specs.NamedOrder.{rank_of, named_sequence}
use Rattle.ra_labels.specs.TheoremTerms.{IsStampBelow, StampsAreUnique}
use Rattle.ra_labels.specs.HistorySoFar.{NextOperation, operate, label_of}
use Rattle.ra_labels.proofs.Members.{head_or_behind, at_head, behind_head}
use Rattle.ra_labels.proofs.StampOrder.{below_else}
use Rattle.ra_theorems.proofs.TheoremIndex.{label_at_each_number-found, label_at_each_number-none, extends_visibility_iff_ranks, timestamp_is_greatest_seen-own, delivered_are_updates-updates, delivered_are_updates-there}
use Rattle.ra_visibility.specs.Order.{IsByTimestamp}
use Rattle.ra_witness.specs.declared.overriding.written.Written.{Written}
use Rattle.ra_witness.specs.Labels.{updates_by_number}
use Rattle.ra_witness.specs.ElementNumbers.{element_of, number_in, number_with}
use Rattle.ra_witness.specs.Overriding.{updates_written, write_at, last_label, last_with}
use Rattle.ra_witness.specs.Overridden.{IsNumberOf, AreWritesOf, IsLastOn, NoneIsOn, AreLastOf, AreBelow, IsNextWrite}
use Rattle.ra_witness.proofs.NumberedLabels.{updates_counted, makes_some}

-- labels are numbered below their count
pub label_below : (records : Records) (label : Label) → Contains (labels_of records) label → label.number < label_count records
label_below records label there = elim (cases_lt label.number (label_count records)) [
  | inl below ↦ below
  | inr past ↦ absurd (none-some label (sym (label_at_each_number-none records label.number past) ∙ label_at_each_number-found records label there))
]

-- the number of writes is the number of labels
writes_counted : (writes : List (Option Written)) (records : Records) → updates_written writes ≡ updates_by_number records → length writes ≡ label_count records
writes_counted writes records kept =
    sym (length-map writes (option_map (λ (w : Written). w.update))) ∙ ap length kept ∙ updates_counted records

module _ (writes : List (Option Written)) (records : Records) (next : NextOperation) (o : Option Written) (kept : updates_written writes ≡ updates_by_number records) where
  abbrev now : Records
  now = operate next ∷ records

  abbrev label : Label
  label = label_of records next

  abbrev longer : List (Option Written)
  longer = writes ++ o ∷ []

  at_old : (m : ℕ) → m < label_count records → write_at longer m ≡ write_at writes m
  at_old m below = let counted = writes_counted writes records kept in get_or_append_left writes (o ∷ []) None m (omega (arith, counted, below))

  at_new : write_at longer (label_count records) ≡ o
  at_new = get_or_at writes o [] None (label_count records) (writes_counted writes records kept)

  had_still : (q m : ℕ) → has_delivered records q m ≡ true → has_delivered now q m ≡ true
  had_still q m h = or_right (next.by == q && m == label_count records && is_update next.op) (has_delivered records q m) h

  -- the same earlier labels were delivered to the replicas as before
  had_was : (q m : ℕ) → m < label_count records → has_delivered now q m ≡ true → has_delivered records q m ≡ true
  had_was q m below h = elim (cases_Bool (next.by == q)) [
    | inl same ↦ sym (ap (λ b. (b && is_update next.op) || has_delivered records q m) (ap (λ b. b && m == label_count records) same ∙ ne_eqb m (label_count records) (λ e. absurd (omega (arith, e, below))))) ∙ h
    | inr differ ↦ sym (ap (λ b. (b && m == label_count records && is_update next.op) || has_delivered records q m) differ) ∙ h
  ]

  had_new_only : (q : ℕ) → has_delivered now q (label_count records) ≡ true → (q ≡ next.by) × (is_update next.op ≡ true)
  had_new_only q h = elim (cases_eq next.by q) [
    | inl same ↦ (
      sym same,
      elim (cases_Bool (is_update next.op)) [
        | inl is ↦ is
        | inr none ↦ absurd (not_old q (sym (ap (λ b. (next.by == q && label_count records == label_count records && b) || has_delivered records q (label_count records)) none ∙ ap (λ b. b || has_delivered records q (label_count records)) (and_false (next.by == q && label_count records == label_count records))) ∙ h))
      ],
    )
    | inr differ ↦ absurd (not_old q (sym (ap (λ b. (b && label_count records == label_count records && is_update next.op) || has_delivered records q (label_count records)) (ne_eqb next.by q differ)) ∙ h))
  ]
    where
      and_false : (b : Bool) → b && false ≡ false
      and_false true = refl
      and_false false = refl

      not_old : (r : ℕ) → ¬ (has_delivered records r (label_count records) ≡ true)
      not_old r old = let there = delivered_are_updates-there records (label_count records) (delivered_are_updates-updates records r (label_count records) old) in omega (arith, there)

  -- an earlier last label on an element stays the last one
  last_still : (q c k : ℕ) → ((w : Written) → o ≡ Some w → q ≡ next.by → ¬ (w.on ≡ c)) → IsLastOn writes records q c k → IsLastOn longer now q c k
  last_still q c k elsewhere on_it =
      let below = label_below records on_it.label on_it.there in
      let number = on_it.number in
      record {
        label = on_it.label;
        write = on_it.write;
        there = behind_head label (labels_of records) on_it.label on_it.there;
        number = on_it.number;
        had_it = had_still q k on_it.had_it;
        found = at_old k (omega (arith, below, number)) ∙ on_it.found;
        on = on_it.on;
        above = λ other lesser there h at on. elim (head_or_behind label (labels_of records) other there) [
          | inl newest ↦
              let is_new : other.number ≡ label_count records = ap (λ (l : Label). l.number) (sym newest) in
              let its : o ≡ Some lesser = sym at_new ∙ ap (write_at longer) (sym is_new) ∙ at in
              absurd (elsewhere lesser its (had_new_only q (ap (has_delivered now q) (sym is_new) ∙ h)).0 on)
          | inr old ↦
              let within = label_below records other old in
              on_it.above other lesser old (had_was q other.number within h) (sym (at_old other.number within) ∙ at) on
        ];
      }

  none_still : (q c : ℕ) → ((w : Written) → o ≡ Some w → q ≡ next.by → ¬ (w.on ≡ c)) → NoneIsOn writes records q c → NoneIsOn longer now q c
  none_still q c elsewhere none l w there h at on = elim (head_or_behind label (labels_of records) l there) [
    | inl newest ↦
        let is_new : l.number ≡ label_count records = ap (λ (m : Label). m.number) (sym newest) in
        let its : o ≡ Some w = sym at_new ∙ ap (write_at longer) (sym is_new) ∙ at in
        elsewhere w its (had_new_only q (ap (has_delivered now q) (sym is_new) ∙ h)).0 on
    | inr old ↦
        let within = label_below records l old in
        none l w old (had_was q l.number within h) (sym (at_old l.number within) ∙ at) on
  ]

-- a query leaves the writes unchanged
pub writes-query : (writes : List (Option Written)) (number_of : ℕ → Option ℕ) (records : Records) (next : NextOperation)
    → updates_written writes ≡ updates_by_number records → AreWritesOf writes number_of records → AreWritesOf (writes ++ None ∷ []) number_of (operate next ∷ records)
writes-query writes number_of records next kept are = record {
  stamps = λ l w there at. elim (head_or_behind (label_of records next) (labels_of records) l there) [
    | inl newest ↦ absurd (none-some w (sym (at_new writes records next None kept) ∙ ap (write_at (writes ++ None ∷ [])) (ap (λ (m : Label). m.number) newest) ∙ at))
    | inr old ↦ are.stamps l w old (sym (at_old writes records next None kept l.number (label_below records l old)) ∙ at)
  ];
  numbers = λ n w at. are.numbers n w (pushed_none writes n w at);
  one = are.one;
}
  where
    pushed_none : (ws : List (Option Written)) (n : ℕ) (w : Written) → write_at (ws ++ None ∷ []) n ≡ Some w → write_at ws n ≡ Some w
    pushed_none [] zero w at = absurd (none-some w at)
    pushed_none [] (suc n) w at = absurd (none-some w at)
    pushed_none (x ∷ ws) zero w at = at
    pushed_none (x ∷ ws) (suc n) w at = pushed_none ws n w at

pub lasts-query : (writes : List (Option Written)) (lasts : List (List (Option ℕ))) (records : Records) (next : NextOperation)
    → updates_written writes ≡ updates_by_number records → AreLastOf writes lasts records → AreLastOf (writes ++ None ∷ []) lasts (operate next ∷ records)
lasts-query writes lasts records next kept last = record {
  some = λ q c k below is. last_still writes records next None kept q c k (λ w none. absurd (none-some w none)) (last.some q c k below is);
  none = λ q c below is. none_still writes records next None kept q c (λ w none. absurd (none-some w none)) (last.none q c below is);
}

-- the numbers of elements, with that of the next write
module _ (number_of : ℕ → Option ℕ) (count : ℕ) (e : Option ℕ) (one : (x y number : ℕ) → number_of x ≡ Some number → number_of y ≡ Some number → x ≡ y)
    (below : AreBelow number_of count) where
  abbrev number : ℕ
  number = number_in number_of count e

  abbrev with_it : ℕ → Option ℕ
  with_it = number_with number_of e number

  known_in : (x : ℕ) → e ≡ Some x → with_it x ≡ Some number
  known_in x is = ap (λ p. number_with number_of p number x) is ∙ ap (λ b. cond b (Some number) (number_of x)) (eq-eqb x x refl)

  -- a numbered element keeps its number
  number_kept : (y k : ℕ) → number_of y ≡ Some k → with_it y ≡ Some k
  number_kept y k is = by e refl
    where
      by : (p : Option ℕ) → e ≡ p → with_it y ≡ Some k
      by None none = ap (λ p. number_with number_of p number y) none ∙ is
      by (Some x) some = elim (cases_eq x y) [
        | inl same ↦
            let own : number ≡ k = ap (number_in number_of count) some ∙ ap (λ z. unwrap_or (number_of z) count) same ∙ ap (λ q. unwrap_or q count) is in
            ap (λ p. number_with number_of p number y) some ∙ ap (λ b. cond b (Some number) (number_of y)) (eq-eqb x y same) ∙ ap Some own
        | inr differ ↦ ap (λ p. number_with number_of p number y) some ∙ ap (λ b. cond b (Some number) (number_of y)) (ne_eqb x y differ) ∙ is
      ]

  is_number_kept : (p : Option ℕ) (k : ℕ) → IsNumberOf number_of p k → IsNumberOf with_it p k
  is_number_kept None k is = is
  is_number_kept (Some y) k is = number_kept y k is

  own_number : IsNumberOf with_it e number
  own_number = by e refl
    where
      by : (p : Option ℕ) → e ≡ p → IsNumberOf with_it e number
      by None none = subst (λ p. IsNumberOf with_it p number) (sym none) (ap (number_in number_of count) none)
      by (Some x) some = subst (λ p. IsNumberOf with_it p number) (sym some) (known_in x some)

  -- the origin of a number
  abbrev ComesFrom : ℕ → ℕ → Type 0
  ComesFrom y k = (number_of y ≡ Some k) ⊎ ((e ≡ Some y) × (number ≡ k) × (number_of y ≡ None) × (k ≡ count))

  known_or_next : (x y k : ℕ) → e ≡ Some x → x ≡ y → number ≡ k → (q : Option ℕ) → number_of y ≡ q → ComesFrom y k
  known_or_next x y k some same is (Some j) at =
      let own : number ≡ j = ap (number_in number_of count) some ∙ ap (λ z. unwrap_or (number_of z) count) same ∙ ap (λ q. unwrap_or q count) at in
      inl (at ∙ ap Some (sym own ∙ is))
  known_or_next x y k some same is None at =
      let own : number ≡ count = ap (number_in number_of count) some ∙ ap (λ z. unwrap_or (number_of z) count) same ∙ ap (λ q. unwrap_or q count) at in
      inr (some ∙ ap Some same, is, at, sym is ∙ own)

  comes_from : (y k : ℕ) → with_it y ≡ Some k → ComesFrom y k
  comes_from y k is = by e refl
    where
      by : (p : Option ℕ) → e ≡ p → ComesFrom y k
      by None none = inl (sym (ap (λ p. number_with number_of p number y) none) ∙ is)
      by (Some x) some = elim (cases_eq x y) [
        | inl same ↦
            known_or_next x y k some same (same_Some number k (sym (ap (λ p. number_with number_of p number y) some ∙ ap (λ b. cond b (Some number) (number_of y)) (eq-eqb x y same)) ∙ is)) (number_of y) refl
        | inr differ ↦ inl (sym (ap (λ p. number_with number_of p number y) some ∙ ap (λ b. cond b (Some number) (number_of y)) (ne_eqb x y differ)) ∙ is)
      ]

  pub still_one : (x y k : ℕ) → with_it x ≡ Some k → with_it y ≡ Some k → x ≡ y
  still_one x y k at_x at_y = elim (comes_from x k at_x) [
    | inl old_x ↦ elim (comes_from y k at_y) [
      | inl old_y ↦ one x y k old_x old_y
      | inr new_y ↦ let lower = below x k old_x in let is = new_y.3 in absurd (omega (arith, lower, is))
    ]
    | inr new_x ↦ elim (comes_from y k at_y) [
      | inl old_y ↦ let lower = below y k old_y in let is = new_x.3 in absurd (omega (arith, lower, is))
      | inr new_y ↦ same_Some x y (sym new_x.0 ∙ new_y.0)
    ]
  ]

  pub still_below : AreBelow with_it (count + 1)
  still_below x k is = elim (comes_from x k is) [
    | inl old ↦ let lower = below x k old in omega (arith, lower)
    | inr new ↦ let at = new.3 in omega (arith, at)
  ]

-- the update of a label that fits has a greater stamp than all updates delivered to its replica
module _ (kind : Kind) (writes : List (Option Written)) (lasts : List (List (Option ℕ))) (number_of : ℕ → Option ℕ) (count : ℕ) (next : NextOperation) (records : Records) (w : Written)
    (sorts : IsByTimestamp kind) (kept : updates_written writes ≡ updates_by_number records) (are : AreWritesOf writes number_of records) (below : AreBelow number_of count)
    (it : IsNextWrite w number_of count next) (extended : extends_visibility (operate next ∷ records) (named_sequence kind (operate next ∷ records)) ≡ true)
    (once : StampsAreUnique (operate next ∷ records)) where
  abbrev now_t : Records
  now_t = operate next ∷ records

  abbrev own : Label
  own = label_of records next

  abbrev writes_t : List (Option Written)
  writes_t = writes ++ Some w ∷ []

  its_rank : (l : Label) (s : Stamp) → l.stamp ≡ Some s → rank_of kind now_t l ≡ s
  its_rank l s is = sorts now_t l ∙ timestamp_is_greatest_seen-own now_t l s is

  sees_it : (m : ℕ) → has_delivered records next.by m ≡ true → sees now_t (label_count records) m ≡ true
  sees_it m h = ap (λ b. cond b (has_delivered records next.by m) (sees records (label_count records) m)) (eq-eqb (label_count records) (label_count records) refl) ∙ h

  above_old : (other : Label) (v : Written) → Contains (labels_of records) other → has_delivered records next.by other.number ≡ true → write_at writes other.number ≡ Some v → IsStampBelow v.stamp w.stamp
  above_old other v old h at =
      let its = are.stamps other v old at in
      let there = behind_head own (labels_of records) other old in
      let not_above = (extends_visibility_iff_ranks kind now_t).0 extended other own there (at_head own (labels_of records) own refl) (inl (sees_it other.number h)) in
      let not_below : ¬ IsStampBelow w.stamp v.stamp = λ h. not_above (subst (λ s. IsStampBelow s (rank_of kind now_t other)) (sym (its_rank own w.stamp it.stamp)) (subst (λ s. IsStampBelow w.stamp s) (sym (its_rank other v.stamp its)) h)) in
      below_else w.stamp v.stamp not_below (λ same.
      let one = once own other w.stamp (at_head own (labels_of records) own refl) there it.stamp (its ∙ ap Some (sym same)) in
      let number : label_count records ≡ other.number = ap (λ (l : Label). l.number) one in
      let within = label_below records other old in
      omega (arith, number, within))

  updates : is_update next.op ≡ true
  updates = makes_some next.op w.update it.update

  had_own : has_delivered now_t next.by (label_count records) ≡ true
  had_own = or_left (next.by == next.by && label_count records == label_count records && is_update next.op) (has_delivered records next.by (label_count records))
      (and_from (next.by == next.by && label_count records == label_count records) (is_update next.op) (and_from (next.by == next.by) (label_count records == label_count records) (eq-eqb next.by next.by refl) (eq-eqb (label_count records) (label_count records) refl)) updates)

  own_last : IsLastOn writes_t now_t next.by w.on (label_count records)
  own_last = record {
    label = own;
    write = w;
    there = at_head own (labels_of records) own refl;
    number = refl;
    had_it = had_own;
    found = at_new writes records next (Some w) kept;
    on = refl;
    above = λ other lesser there h at on. elim (head_or_behind own (labels_of records) other there) [
      | inl newest ↦ inl (ap (λ (l : Label). l.number) (sym newest))
      | inr old ↦
          let within = label_below records other old in
          inr (above_old other lesser old (had_was writes records next (Some w) kept next.by other.number within h) (sym (at_old writes records next (Some w) kept other.number within) ∙ at))
    ];
  }

  elsewhere_of : (q c : ℕ) → ((q ≡ next.by) → ¬ (c ≡ w.on)) → (v : Written) → Some w ≡ Some v → q ≡ next.by → ¬ (v.on ≡ c)
  elsewhere_of q c elsewhere v same at_by on = elsewhere at_by (sym on ∙ ap (λ (x : Written). x.on) (sym (same_Some w v same)))

  here_with : (q c : ℕ) → q ≡ next.by → c ≡ w.on → last_with lasts next.by w.on (label_count records) q c ≡ Some (label_count records)
  here_with q c at_by on_it = ap (λ b. cond b (Some (label_count records)) (last_label lasts q c)) (and_from (q == next.by) (c == w.on) (eq-eqb q next.by at_by) (eq-eqb c w.on on_it))

  elsewhere_with : (q c : ℕ) → ((q ≡ next.by) → ¬ (c ≡ w.on)) → last_with lasts next.by w.on (label_count records) q c ≡ last_label lasts q c
  elsewhere_with q c elsewhere = elim (cases_eq q next.by) [
    | inl here ↦ ap (λ b. cond b (Some (label_count records)) (last_label lasts q c)) (ap (λ b. b && c == w.on) (eq-eqb q next.by here) ∙ ne_eqb c w.on (elsewhere here))
    | inr other ↦ ap (λ b. cond (b && c == w.on) (Some (label_count records)) (last_label lasts q c)) (ne_eqb q next.by other)
  ]

  pub lasts-update : (lasts_now : List (List (Option ℕ))) → AreLastOf writes lasts records → length lasts_now ≡ length lasts
      → ((q c : ℕ) → last_label lasts_now q c ≡ last_with lasts next.by w.on (label_count records) q c) → AreLastOf writes_t lasts_now now_t
  lasts-update lasts_now last same says = record {
    some = λ q c k within is. elim (where_is q c) [
      | inl here ↦
          let one : label_count records ≡ k = same_Some (label_count records) k (sym (says q c ∙ here_with q c here.0 here.1) ∙ is) in
          subst (λ m. IsLastOn writes_t now_t q c m) one (subst (λ r. IsLastOn writes_t now_t r c (label_count records)) (sym here.0) (subst (λ e. IsLastOn writes_t now_t next.by e (label_count records)) (sym here.1) own_last))
      | inr elsewhere ↦
          last_still writes records next (Some w) kept q c k (elsewhere_of q c elsewhere)
          (last.some q c k (omega (arith, same, within)) (sym (says q c ∙ elsewhere_with q c elsewhere) ∙ is))
    ];
    none = λ q c within is. elim (where_is q c) [
      | inl here ↦ absurd (none-some (label_count records) (sym is ∙ says q c ∙ here_with q c here.0 here.1))
      | inr elsewhere ↦
          none_still writes records next (Some w) kept q c (elsewhere_of q c elsewhere)
          (last.none q c (omega (arith, same, within)) (sym (says q c ∙ elsewhere_with q c elsewhere) ∙ is))
    ];
  }
    where
      where_is : (q c : ℕ) → ((q ≡ next.by) × (c ≡ w.on)) ⊎ ((q ≡ next.by) → ¬ (c ≡ w.on))
      where_is q c = elim (cases_eq q next.by) [
        | inl at_by ↦ elim (cases_eq c w.on) [
          | inl on_it ↦ inl (at_by, on_it)
          | inr differ ↦ inr (λ _. differ)
        ]
        | inr other ↦ inr (λ h. absurd (other h))
      ]

  pub writes-update : AreWritesOf writes_t (number_with number_of (element_of w.update) w.on) now_t
  writes-update = record {
    stamps = λ l v there at. elim (head_or_behind own (labels_of records) l there) [
      | inl newest ↦
          let same : w ≡ v = same_Some w v (sym (at_new writes records next (Some w) kept) ∙ ap (write_at writes_t) (ap (λ (m : Label). m.number) newest) ∙ at) in
          ap (λ (m : Label). m.stamp) (sym newest) ∙ it.stamp ∙ ap (λ (x : Written). Some x.stamp) same
      | inr old ↦ are.stamps l v old (sym (at_old writes records next (Some w) kept l.number (label_below records l old)) ∙ at)
    ];
    numbers = λ n v at. elim (pushed writes n v at) [
      | inl old ↦ subst (λ k. IsNumberOf (number_with number_of (element_of w.update) k) (element_of v.update) v.on) (sym it.on)
          (is_number_kept number_of count (element_of w.update) are.one below (element_of v.update) v.on (are.numbers n v old))
      | inr same ↦ subst (λ (x : Written). IsNumberOf (number_with number_of (element_of w.update) w.on) (element_of x.update) x.on) same
          (subst (λ k. IsNumberOf (number_with number_of (element_of w.update) k) (element_of w.update) k) (sym it.on) (own_number number_of count (element_of w.update) are.one below))
    ];
    one = subst (λ k. (x y number : ℕ) → number_with number_of (element_of w.update) k x ≡ Some number → number_with number_of (element_of w.update) k y ≡ Some number → x ≡ y) (sym it.on)
        (still_one number_of count (element_of w.update) are.one below);
  }
    where
      pushed : (ws : List (Option Written)) (n : ℕ) (v : Written) → write_at (ws ++ Some w ∷ []) n ≡ Some v → (write_at ws n ≡ Some v) ⊎ (w ≡ v)
      pushed [] zero v at = inr (same_Some w v at)
      pushed [] (suc n) v at = absurd (none-some v at)
      pushed (x ∷ ws) zero v at = inl at
      pushed (x ∷ ws) (suc n) v at = pushed ws n v at

  pub numbers-update : AreBelow (number_with number_of (element_of w.update) w.on) (count + 1)
  numbers-update = subst (λ k. AreBelow (number_with number_of (element_of w.update) k) (count + 1)) (sym it.on) (still_below number_of count (element_of w.update) are.one below)
