-- Lemmas on the counts of what labels see: two labels see the same updates exactly if their counts are the same.
use Rattle.std.proofs.Common.{◌≡◌, ◌↔◌, ℕ, ◌<◌, ◌+◌, eqb, Bool, true, false, List, [], ◌∷◌, get_or, refl, sym, ap, ◌∙◌, subst, inl, inr, arith}
use Rattle.std.specs.Prelude.{◌≤◌, ◌==◌, ◌&&◌, nat_lt, Option, Some, None, Contains}
use Rattle.std.specs.Option.{option_map_or}
use Rattle.std.proofs.lemmas.Bool.{false≢true, cases_Bool, cases_eq, cases_lt, cond-true, cond-false, cond_both, eq-eqb, ne_eqb, and_from, and_right, lt-ltb, le-ltb}
use Rattle.ra_labels.specs.declared.operation.Op.{Op}
use Rattle.ra_labels.specs.declared.label.Label.{Label}
use Rattle.ra_labels.specs.declared.command.Command.{Command}
use Rattle.ra_labels.specs.declared.command.Command.TheVariants.{Operate, Deliver, Join}
use Rattle.ra_labels.specs.Records.{Records, label_count, labels_of, label_at, next_label}
use Rattle.ra_labels.specs.Visibility.{is_update, is_update_at, has_delivered, sees}
use Rattle.ra_labels.specs.Places.{issuer_of, issue_position, updates_issued}
use Rattle.ra_labels.specs.HistorySoFar.{NextOperation, operate}
use Rattle.ra_theorems.proofs.TheoremIndex.{sees_earlier_updates-updates, delivered_are_updates-there, delivered_are_updates-updates, position_has_update-there}
use Rattle.ra_any_reads.specs.Counts.{HaveSameCounts}
use Rattle.ra_unordered.specs.FirstReads.{AreCountsOf}

-- no label that does not exist is seen
sees_beyond : (records : Records) (n m : ℕ) → ¬ (m < label_count records) → sees records n m ≡ false
sees_beyond records n m beyond = elim (cases_Bool (sees records n m)) [
  | inl seen ↦ absurd (beyond (delivered_are_updates-there records m (sees_earlier_updates-updates records n m seen)))
  | inr not_seen ↦ not_seen
]

-- ---- an earlier label's counts say what it sees after later records too
module _ (before : Records) (next : NextOperation) where
  abbrev now : Records
  now = operate next ∷ before

  pub older_label : (m : ℕ) → m < label_count before → label_at now m ≡ label_at before m
  older_label m below =
      cond-false (eqb (label_count before) m) (Some (next_label before next.by next.op next.clock)) (label_at before m)
      (ne_eqb (label_count before) m (λ is. absurd (omega (arith, is, below))))

  older_place : (m : ℕ) → m < label_count before → issue_position now m ≡ issue_position before m
  older_place m below = cond-false (eqb m (label_count before)) (updates_issued before next.by) (issue_position before m)
      (ne_eqb m (label_count before) (λ is. absurd (omega (arith, is, below))))

  pub older_sees : (n m : ℕ) → n < label_count before → sees now n m ≡ sees before n m
  older_sees n m below = cond-false (eqb n (label_count before)) (has_delivered before next.by m) (sees before n m)
      (ne_eqb n (label_count before) (λ is. absurd (omega (arith, is, below))))

  pub newest_sees : (m : ℕ) → sees now (label_count before) m ≡ has_delivered before next.by m
  newest_sees m = cond-true (eqb (label_count before) (label_count before)) (has_delivered before next.by m)
      (sees before (label_count before) m) (eq-eqb (label_count before) (label_count before) refl)

  newest_issuer : issuer_of now (label_count before) ≡ next.by
  newest_issuer = ap (λ o. option_map_or (λ (l : Label). l.replica) o 0)
      (cond-true (eqb (label_count before) (label_count before)) (Some (next_label before next.by next.op next.clock))
      (label_at before (label_count before)) (eq-eqb (label_count before) (label_count before) refl))

  newest_place : issue_position now (label_count before) ≡ updates_issued before next.by
  newest_place = cond-true (eqb (label_count before) (label_count before)) (updates_issued before next.by)
      (issue_position before (label_count before)) (eq-eqb (label_count before) (label_count before) refl)

  more_issued : (of : ℕ) → updates_issued before of ≤ updates_issued now of
  more_issued of = cond_both (next.by == of && is_update next.op) (updates_issued before of + 1) (updates_issued before of)
      (λ c. updates_issued before of ≤ c) (λ is. omega arith) (λ not_so. omega arith)

  pub counts_later : (n : ℕ) (counts : List ℕ) → n < label_count before → AreCountsOf before n counts
      → AreCountsOf now n counts
  counts_later n counts there seen = record {
    first = λ m below. elim (cases_lt m (label_count before)) [
      | inl older ↦
          older_sees n m there ∙ seen.first m older
          ∙ sym (rw (older_label m older, older_place m older) refl)
      | inr newer ↦
          let is : m ≡ label_count before = omega (arith, below, newer) in
          let last = label_count before in
          let not_seen : sees now n last ≡ false = older_sees n last there
          ∙ sees_beyond before n last (λ under. absurd (omega (arith, under))) in
          let count = get_or counts (issuer_of now last) 0 in
          let few : count ≤ issue_position now last =
          omega (arith, seen.issued next.by, newest_place, ap (λ r. get_or counts r 0) newest_issuer) in
          subst (λ k. sees now n k ≡ (is_update_at now k && nat_lt (issue_position now k) (get_or counts (issuer_of now k) 0)))
          (sym is)
          (not_seen ∙ sym (and_right (is_update_at now last) (nat_lt (issue_position now last) count)
          (le-ltb (issue_position now last) count few)))
    ];
    issued = λ of. omega (arith, seen.issued of, more_issued of);
  }

-- ---- two labels of the same records
module _ (records : Records) (n m : ℕ) (counts other : List ℕ) (seen : AreCountsOf records n counts)
    (also : AreCountsOf records m other) where
  pub same_seen : HaveSameCounts counts other → (k : ℕ) → sees records n k ≡ sees records m k
  same_seen same k = elim (cases_lt k (label_count records)) [
    | inl below ↦
        seen.first k below
        ∙ ap (λ c. is_update_at records k && nat_lt (issue_position records k) c) (same (issuer_of records k))
        ∙ sym (also.first k below)
    | inr above ↦
        let beyond : ¬ (k < label_count records) = λ under. absurd (omega (arith, under, above)) in
        sees_beyond records n k beyond ∙ sym (sees_beyond records m k beyond)
  ]

  pub not_below : ((k : ℕ) → sees records n k ≡ sees records m k) → (of : ℕ)
      → ¬ (get_or counts of 0 < get_or other of 0)
  not_below same of less =
      let (k, is, place) = position_has_update-there records of (get_or counts of 0)
      (omega (arith, less, also.issued of)) in
      let below = delivered_are_updates-there records k is.0 in
      let fails : sees records n k ≡ false = seen.first k below
      ∙ and_right (is_update_at records k) (nat_lt (issue_position records k) (get_or counts (issuer_of records k) 0))
      (le-ltb (issue_position records k) (get_or counts (issuer_of records k) 0)
      (omega (arith, place, ap (λ r. get_or counts r 0) is.1))) in
      let passes : sees records m k ≡ true = also.first k below
      ∙ and_from (is_update_at records k) (nat_lt (issue_position records k) (get_or other (issuer_of records k) 0))
      is.0
      (lt-ltb (issue_position records k) (get_or other (issuer_of records k) 0)
      (omega (arith, place, ap (λ r. get_or other r 0) is.1, less))) in
      false≢true (sym fails ∙ same k ∙ passes)

pub same_counts : (records : Records) (n m : ℕ) (counts other : List ℕ) → AreCountsOf records n counts
    → AreCountsOf records m other → ((k : ℕ) → sees records n k ≡ sees records m k) → HaveSameCounts counts other
same_counts records n m counts other seen also same of =
    let low = not_below records n m counts other seen also same of in
    let high = not_below records m n other counts also seen (λ k. sym (same k)) of in
    elim (cases_lt (get_or counts of 0) (get_or other of 0)) [
      | inl less ↦ absurd (low less)
      | inr no_less ↦ elim (cases_lt (get_or other of 0) (get_or counts of 0)) [
        | inl more ↦ absurd (high more)
        | inr no_more ↦ omega (arith, no_less, no_more)
      ]
    ]

-- counts that are the same describe the same set
pub counts_alike : (records : Records) (n : ℕ) (counts other : List ℕ) → AreCountsOf records n counts
    → HaveSameCounts counts other → AreCountsOf records n other
counts_alike records n counts other seen same = record {
  first = λ m below. seen.first m below
      ∙ ap (λ c. is_update_at records m && nat_lt (issue_position records m) c) (same (issuer_of records m));
  issued = λ of. omega (arith, seen.issued of, same of);
}
