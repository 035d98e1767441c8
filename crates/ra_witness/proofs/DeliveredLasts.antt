-- Lemmas on the last labels of a replica after one more delivery.
use Rattle.std.proofs.Common.{◌≡◌, ℕ, ◌<◌, Bool, true, false, cond, List, ◌∷◌, length, Option, Some, None, refl, sym, ap, ◌∙◌, subst, inl, inr, arith}
use Rattle.std.specs.Prelude.{◌⊎◌, ◌==◌, ◌&&◌, ◌||◌, Contains}
use Rattle.std.specs.Option.{option_map_or}
use Rattle.std.specs.Ordering.{is_lt}
use Rattle.std.proofs.lemmas.Bool.{cases_eq, cases_Bool, eq-eqb, ne_eqb, and_from, or_left, or_right, true≢false}
use Rattle.std.proofs.lemmas.Option.{none-some, same_Some}
use Rattle.ra_labels.specs.declared.label.Label.{Label}
use Rattle.ra_labels.specs.declared.command.Command.TheVariants.{Deliver}
use Rattle.ra_labels.specs.Records.{Records, labels_of}
use Rattle.ra_labels.specs.Visibility.{has_delivered, is_update_at}
use Rattle.ra_labels.specs.NamedOrder.{stamp_cmp}
use Rattle.ra_labels.specs.TheoremTerms.{IsStampBelow, StampsAreUnique}
use Rattle.ra_labels.proofs.StampOrder.{below_tested, not_below_tested, below_below, below_else}
use Rattle.ra_witness.specs.declared.overriding.written.Written.{Written}
use Rattle.ra_witness.specs.Overriding.{write_at, is_above, later_of, last_label, counting, last_with}
use Rattle.ra_witness.specs.Overridden.{AreWritesOf, IsLastOn, NoneIsOn, AreLastOf}
use Rattle.ra_witness.proofs.NumberedLabels.{update_found}

pub one_write : (writes : List (Option Written)) (m n : ℕ) (v w : Written) → m ≡ n → write_at writes m ≡ Some v → write_at writes n ≡ Some w → v ≡ w
one_write writes m n v w same at_m at_n = same_Some v w (sym at_m ∙ ap (write_at writes) same ∙ at_n)

-- what is known of the delivered label
pub record IsNewWrite (writes : List (Option Written)) (records : Records) (to n : ℕ) : Type 0 where
  pub label : Label
  pub write : Written
  pub there : Contains (labels_of records) label
  pub number : label.number ≡ n
  pub is_update : is_update_at records n ≡ true
  pub new : has_delivered records to n ≡ false
  pub found : write_at writes n ≡ Some write

abbrev pub is_new_write : (writes : List (Option Written)) (records : Records) (to n : ℕ) (write : Written) → is_update_at records n ≡ true → has_delivered records to n ≡ false → write_at writes n ≡ Some write
    → IsNewWrite writes records to n
is_new_write writes records to n write is new found =
    let (label, at) = update_found records n is in
    record { label = label; write = write; there = at.there; number = at.number; is_update = is; new = new; found = found }

module _ (writes : List (Option Written)) (lasts : List (List (Option ℕ))) (number_of : ℕ → Option ℕ) (records : Records) (to n : ℕ)
    (are : AreWritesOf writes number_of records) (last : AreLastOf writes lasts records) (once : StampsAreUnique records)
    (within : to < length lasts) (it : IsNewWrite writes records to n) where
  abbrev now : Records
  now = Deliver to n ∷ records

  had_still : (q m : ℕ) → has_delivered records q m ≡ true → has_delivered now q m ≡ true
  had_still q m h = or_right (to == q && m == n && is_update_at records m) (has_delivered records q m) h

  had_it_now : has_delivered now to n ≡ true
  had_it_now = or_left (to == to && n == n && is_update_at records n) (has_delivered records to n)
      (and_from (to == to && n == n) (is_update_at records n) (and_from (to == to) (n == n) (eq-eqb to to refl) (eq-eqb n n refl)) it.is_update)

  had_other_replica : (q m : ℕ) → ¬ (q ≡ to) → has_delivered now q m ≡ true → has_delivered records q m ≡ true
  had_other_replica q m other h = sym (ap (λ b. (b && m == n && is_update_at records m) || has_delivered records q m) (ne_eqb to q (λ e. other (sym e)))) ∙ h

  had_other_label : (q m : ℕ) → ¬ (m ≡ n) → has_delivered now q m ≡ true → has_delivered records q m ≡ true
  had_other_label q m other h = elim (cases_Bool (to == q)) [
    | inl same ↦ sym (ap (λ b. (b && is_update_at records m) || has_delivered records q m) (ap (λ b. b && m == n) same ∙ ne_eqb m n other)) ∙ h
    | inr differ ↦ sym (ap (λ b. (b && m == n && is_update_at records m) || has_delivered records q m) differ) ∙ h
  ]

  abbrev later : ℕ
  later = counting writes lasts to n it.write

  -- the delivered label is the last one if its stamp is above all others
  itself : ((other : Label) (lesser : Written) → Contains (labels_of records) other → has_delivered records to other.number ≡ true → write_at writes other.number ≡ Some lesser
      → lesser.on ≡ it.write.on → IsStampBelow lesser.stamp it.write.stamp) → IsLastOn writes now to it.write.on n
  itself above = record {
    label = it.label;
    write = it.write;
    there = it.there;
    number = it.number;
    had_it = had_it_now;
    found = it.found;
    on = refl;
    above = λ other lesser there h at on. elim (cases_eq other.number n) [
      | inl same ↦ inl same
      | inr differ ↦ inr (above other lesser there (had_other_label to other.number differ h) at on)
    ];
  }

  -- the previous last label stays the last one if its stamp is above that of the delivered one
  overridden : (k : ℕ) (on_it : IsLastOn writes records to it.write.on k) → IsStampBelow it.write.stamp on_it.write.stamp → IsLastOn writes now to it.write.on k
  overridden k on_it below = record {
    label = on_it.label;
    write = on_it.write;
    there = on_it.there;
    number = on_it.number;
    had_it = had_still to k on_it.had_it;
    found = on_it.found;
    on = on_it.on;
    above = λ other lesser there h at on. elim (cases_eq other.number n) [
      | inl same ↦ inr (subst (λ (v : Written). IsStampBelow v.stamp on_it.write.stamp) (sym (one_write writes other.number n lesser it.write same at it.found)) below)
      | inr differ ↦ on_it.above other lesser there (had_other_label to other.number differ h) at on
    ];
  }

  -- the two labels have different stamps
  differ_from : (k : ℕ) (on_it : IsLastOn writes records to it.write.on k) → ¬ (it.write.stamp ≡ on_it.write.stamp)
  differ_from k on_it same =
      let own = are.stamps it.label it.write it.there (ap (write_at writes) it.number ∙ it.found) in
      let its = are.stamps on_it.label on_it.write on_it.there (ap (write_at writes) on_it.number ∙ on_it.found) in
      let one = once it.label on_it.label it.write.stamp it.there on_it.there own (its ∙ ap Some (sym same)) in
      let number : k ≡ n = sym on_it.number ∙ ap (λ (l : Label). l.number) (sym one) ∙ it.number in
      true≢false (sym on_it.had_it ∙ ap (has_delivered records to) number ∙ it.new)

  above_others : (k : ℕ) (on_it : IsLastOn writes records to it.write.on k) → ¬ IsStampBelow it.write.stamp on_it.write.stamp → IsLastOn writes now to it.write.on n
  above_others k on_it not_below = itself (λ other lesser there h at on.
      let lower = below_else it.write.stamp on_it.write.stamp not_below (differ_from k on_it) in
      elim (on_it.above other lesser there h at on) [
        | inl same ↦ subst (λ (v : Written). IsStampBelow v.stamp it.write.stamp) (sym (one_write writes other.number k lesser on_it.write same at on_it.found)) lower
        | inr below ↦ below_below lesser.stamp on_it.write.stamp it.write.stamp below lower
      ])

  above_is : (k : ℕ) (v : Written) → write_at writes k ≡ Some v → is_above writes it.write.stamp k ≡ is_lt (stamp_cmp it.write.stamp v.stamp)
  above_is k v at = ap (λ o. option_map_or (λ (other : Written). is_lt (stamp_cmp it.write.stamp other.stamp)) o false) at

  -- the label that takes effect is the last one
  pub counting-last : IsLastOn writes now to it.write.on later
  counting-last = by (last_label lasts to it.write.on) refl
    where
      to_label : (k : ℕ) (b : Bool) → is_above writes it.write.stamp k ≡ b → (o : Option ℕ) → last_label lasts to it.write.on ≡ o → o ≡ Some k → later ≡ cond b k n
      to_label k b is o e some = ap (λ p. later_of writes p n it.write.stamp) (e ∙ some) ∙ ap (λ c. cond c k n) is

      by_test : (k : ℕ) → last_label lasts to it.write.on ≡ Some k → (b : Bool) → is_above writes it.write.stamp k ≡ b → IsLastOn writes now to it.write.on later
      by_test k e true is =
          let on_it = last.some to it.write.on k within e in
          let below = below_tested it.write.stamp on_it.write.stamp (sym (above_is k on_it.write on_it.found) ∙ is) in
          subst (λ m. IsLastOn writes now to it.write.on m) (sym (to_label k true is (Some k) e refl)) (overridden k on_it below)
      by_test k e false is =
          let on_it = last.some to it.write.on k within e in
          let not_below = not_below_tested it.write.stamp on_it.write.stamp (sym (above_is k on_it.write on_it.found) ∙ is) in
          subst (λ m. IsLastOn writes now to it.write.on m) (sym (to_label k false is (Some k) e refl)) (above_others k on_it not_below)

      by : (o : Option ℕ) → last_label lasts to it.write.on ≡ o → IsLastOn writes now to it.write.on later
      by None e =
          let first : later ≡ n = ap (λ p. later_of writes p n it.write.stamp) e in
          subst (λ m. IsLastOn writes now to it.write.on m) (sym first)
          (itself (λ other lesser there h at on. absurd (last.none to it.write.on within e other lesser there h at on)))
      by (Some k) e = by_test k e (is_above writes it.write.stamp k) refl

  -- what the delivery leaves unchanged
  untouched : (q m : ℕ) (v : Written) (c : ℕ) → ((q ≡ to) → ¬ (c ≡ it.write.on)) → write_at writes m ≡ Some v → v.on ≡ c → has_delivered now q m ≡ true → has_delivered records q m ≡ true
  untouched q m v c elsewhere at on h = elim (cases_eq q to) [
    | inl here ↦ elim (cases_eq m n) [
      | inl same ↦ absurd (elsewhere here (sym on ∙ ap (λ (x : Written). x.on) (one_write writes m n v it.write same at it.found)))
      | inr differ ↦ had_other_label q m differ h
    ]
    | inr other ↦ had_other_replica q m other h
  ]

  last_still : (q c k : ℕ) → ((q ≡ to) → ¬ (c ≡ it.write.on)) → IsLastOn writes records q c k → IsLastOn writes now q c k
  last_still q c k elsewhere on_it = record {
    label = on_it.label;
    write = on_it.write;
    there = on_it.there;
    number = on_it.number;
    had_it = had_still q k on_it.had_it;
    found = on_it.found;
    on = on_it.on;
    above = λ other lesser there h at on. on_it.above other lesser there (untouched q other.number lesser c elsewhere at on h) at on;
  }

  none_still : (q c : ℕ) → ((q ≡ to) → ¬ (c ≡ it.write.on)) → NoneIsOn writes records q c → NoneIsOn writes now q c
  none_still q c elsewhere none label write there h at on = none label write there (untouched q label.number write c elsewhere at on h) at on

  here_with : (q c : ℕ) → q ≡ to → c ≡ it.write.on → last_with lasts to it.write.on later q c ≡ Some later
  here_with q c at_to on_it = ap (λ b. cond b (Some later) (last_label lasts q c)) (and_from (q == to) (c == it.write.on) (eq-eqb q to at_to) (eq-eqb c it.write.on on_it))

  elsewhere_with : (q c : ℕ) → ((q ≡ to) → ¬ (c ≡ it.write.on)) → last_with lasts to it.write.on later q c ≡ last_label lasts q c
  elsewhere_with q c elsewhere = elim (cases_eq q to) [
    | inl here ↦ ap (λ b. cond b (Some later) (last_label lasts q c)) (ap (λ b. b && c == it.write.on) (eq-eqb q to here) ∙ ne_eqb c it.write.on (elsewhere here))
    | inr other ↦ ap (λ b. cond (b && c == it.write.on) (Some later) (last_label lasts q c)) (ne_eqb q to other)
  ]

  pub lasts-kept : (lasts_now : List (List (Option ℕ))) → length lasts_now ≡ length lasts → ((q c : ℕ) → last_label lasts_now q c ≡ last_with lasts to it.write.on later q c) → AreLastOf writes lasts_now now
  lasts-kept lasts_now same says = record {
    some = λ q c k below is. elim (where_is q c) [
      | inl here ↦
          let one : later ≡ k = same_Some later k (sym (says q c ∙ here_with q c here.0 here.1) ∙ is) in
          subst (λ m. IsLastOn writes now q c m) one (subst (λ r. IsLastOn writes now r c later) (sym here.0) (subst (λ e. IsLastOn writes now to e later) (sym here.1) counting-last))
      | inr elsewhere ↦ last_still q c k elsewhere (last.some q c k (omega (arith, same, below)) (sym (says q c ∙ elsewhere_with q c elsewhere) ∙ is))
    ];
    none = λ q c below is. elim (where_is q c) [
      | inl here ↦ absurd (none-some later (sym is ∙ says q c ∙ here_with q c here.0 here.1))
      | inr elsewhere ↦ none_still q c elsewhere (last.none q c (omega (arith, same, below)) (sym (says q c ∙ elsewhere_with q c elsewhere) ∙ is))
    ];
  }
    where
      where_is : (q c : ℕ) → ((q ≡ to) × (c ≡ it.write.on)) ⊎ ((q ≡ to) → ¬ (c ≡ it.write.on))
      where_is q c = elim (cases_eq q to) [
        | inl at_to ↦ elim (cases_eq c it.write.on) [
          | inl on_it ↦ inl (at_to, on_it)
          | inr differ ↦ inr (λ _. differ)
        ]
        | inr other ↦ inr (λ h. absurd (other h))
      ]
