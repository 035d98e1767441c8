-- Lemmas on what a label sees: of a replica all updates up to one that it sees, and all that an earlier label of its
-- own replica sees.
use Rattle.std.proofs.Common.{◌≡◌, ℕ, ◌<◌, ◌≤◌, true, Option, Some, None, refl, sym, ap, ◌∙◌, subst, inl, inr, arith}
use Rattle.std.specs.Prelude.{nat_lt, IfSome}
use Rattle.std.proofs.lemmas.Bool.{false≢true, cases_lt, and_parts, and_from, lt-ltb, ltb-true}
use Rattle.ra_labels.specs.HistorySoFar.{History}
use Rattle.ra_labels.specs.Records.{Records, label_count}
use Rattle.ra_labels.specs.Visibility.{is_update_at, sees}
use Rattle.ra_labels.specs.Places.{issuer_of, issue_position}
use Rattle.ra_theorems.proofs.TheoremIndex.{sees_earlier_updates-updates, sees_earlier_updates-earlier, delivered_are_updates-there}
use Rattle.ra_theorems.proofs.Updates.{sees-own}
use Rattle.ra_visibility.specs.Tracked.{Tracked, labels_in, seen_in, IsVisibilityOf}
use Rattle.ra_visibility.specs.Seen.{count_in}
use Rattle.ra_visibility.proofs.TheoremIndex.{delivered_prefix_by_counts-seen}
use Rattle.ra_some_order.proofs.LabelSequences.{label_here, issuer_at}
use Rattle.ra_some_order.proofs.OwnUpdates.{seen_after}
use Rattle.ra_any_order.specs.Changes.{is_seen_by}

-- holds if the label, where there is one, sees each update of a replica up to one that it sees
abbrev pub SeesEarlierOnes : Records → Option ℕ → Type 0
SeesEarlierOnes records label = (k o : ℕ) → is_seen_by records label o ≡ true → k ≤ o
    → issuer_of records k ≡ issuer_of records o → is_update_at records k ≡ true → is_seen_by records label k ≡ true

module _ (t : Tracked) (past : History) (stands : IsVisibilityOf t past) where
  abbrev records : Records
  records = past.records

  abbrev count : ℕ → ℕ → ℕ
  count n replica = count_in (seen_in t n) replica

  position_rises : (k o : ℕ) → k ≤ o → issuer_of records k ≡ issuer_of records o → is_update_at records k ≡ true
      → is_update_at records o ≡ true → issue_position records k ≤ issue_position records o
  position_rises k o less same k_updates o_updates =
      elim (cases_lt (issue_position records o) (issue_position records k)) [
        | inl greater ↦
            let earlier = sees_earlier_updates-earlier records k o
            (sees-own records (issuer_of records o) k o (k_updates, same) (o_updates, refl) greater) in
            absurd (omega (arith, earlier, less))
        | inr rises ↦ rises
      ]

  there : (m : ℕ) → is_update_at records m ≡ true → m < labels_in t
  there m updates =
      let below = delivered_are_updates-there records m updates in
      let labels = stands.labels in
      omega (arith, below, labels)

  pub earlier_seen : (n : ℕ) → n < labels_in t → SeesEarlierOnes records (Some n)
  earlier_seen n within k o seen less same updates =
      let o_updates = sees_earlier_updates-updates records n o seen in
      let o_low = ltb-true (issue_position records o) (count n (issuer_of records o))
      (and_parts (is_update_at records o) (nat_lt (issue_position records o) (count n (issuer_of records o)))
      (sym (delivered_prefix_by_counts-seen t past n o stands within (there o o_updates)) ∙ seen)).1 in
      let rises = position_rises k o less same updates o_updates in
      delivered_prefix_by_counts-seen t past n k stands within (there k updates)
      ∙ and_from (is_update_at records k) (nat_lt (issue_position records k) (count n (issuer_of records k))) updates
      (lt-ltb (issue_position records k) (count n (issuer_of records k))
      (subst (λ q. issue_position records k < count n q) (sym same) (omega (arith, o_low, rises))))

  pub earlier_seen_by : (label : Option ℕ) → IfSome label (λ n. n < labels_in t) → SeesEarlierOnes records label
  earlier_seen_by None within k o seen less same updates = absurd (false≢true seen)
  earlier_seen_by (Some n) within k o seen less same updates = earlier_seen n within k o seen less same updates

pub seen_later : (records : Records) (q n m : ℕ) → q < n → n < label_count records
    → issuer_of records q ≡ issuer_of records n → sees records q m ≡ true → sees records n m ≡ true
seen_later records q n m less below same seen =
    let (first, first_there, first_numbered) = label_here records q (omega (arith, less, below)) in
    let (second, second_there, second_numbered) = label_here records n below in
    let replica = sym (issuer_at records first first_there) ∙ ap (issuer_of records) first_numbered ∙ same
    ∙ sym (ap (issuer_of records) second_numbered) ∙ issuer_at records second second_there in
    ap (λ k. sees records k m) (sym second_numbered)
    ∙ seen_after records first second m first_there second_there replica
    (omega (arith, less, first_numbered, second_numbered))
    (inl (ap (λ k. sees records k m) first_numbered ∙ seen))

pub all_seen_later : (records : Records) (last : Option ℕ) (n : ℕ) (Other : ℕ → Type 0) → n < label_count records
    → IfSome last (λ q. (q < n) × (issuer_of records q ≡ issuer_of records n) × Other q) → (k : ℕ)
    → is_seen_by records last k ≡ true → sees records n k ≡ true
all_seen_later _ None n Other below it k seen = absurd (false≢true seen)
all_seen_later past (Some q) n Other below (less, same, other) k seen = seen_later past q n k less below same seen
