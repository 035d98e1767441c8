-- Lemmas on updates that are the first ones of each replica: two sets of them are the same if their counts are.
use Rattle.std.proofs.Common.{◌≡◌, ◌↔◌, ℕ, ◌<◌, eqb, Bool, true, false, [], ◌∷◌, refl, sym, ap, ◌∙◌, subst, inl, inr, arith}
use Rattle.std.specs.Prelude.{◌≤◌, ◌==◌, ◌&&◌, ◌||◌, nat_lt, Some, None, option_map}
use Rattle.std.specs.Option.{option_map_or}
use Rattle.std.proofs.lemmas.Bool.{false≢true, cases_Bool, cases_eq, cases_lt, cond-true, cond-false, eq-eqb, ne_eqb, and_from, and_right, or_left, or_right, lt-ltb, le-ltb}
use Rattle.ra_labels.specs.declared.label.Label.{Label}
use Rattle.ra_labels.specs.declared.command.Command.TheVariants.{Operate, Deliver, Join, Verdict}
use Rattle.ra_labels.specs.Records.{Records, label_count, label_at}
use Rattle.ra_labels.specs.Visibility.{is_update, is_update_at, has_delivered, sees}
use Rattle.ra_labels.specs.Places.{issuer_of, issue_position, updates_issued}
use Rattle.ra_labels.specs.TheoremTerms.{IsUpdateOf}
use Rattle.ra_labels.specs.Agreement.{sees_the_same}
use Rattle.ra_labels.specs.HistorySoFar.{History, replicas_of}
use Rattle.ra_theorems.proofs.TheoremIndex.{delivered_are_updates-there, position_has_update-there}
use Rattle.ra_visibility.specs.Seen.{count_in}
use Rattle.ra_visibility.specs.Tracked.{Tracked, IsVisibilityOf, replicas_in, labels_in, seen_in, delivered_count}
use Rattle.ra_visibility.proofs.TheoremIndex.{delivered_prefix_by_counts-seen, delivered_prefix_by_counts-delivered}
use Rattle.ra_any_model.specs.Counts.{CountsIssued, HaveSameCounts}
use Rattle.ra_any_model.proofs.AgreeingReads.{sees_beyond, had_beyond, same_exactly}

-- an update was delivered to the replica that issued it
issued_had : (records : Records) (n : ℕ) → is_update_at records n ≡ true
    → has_delivered records (issuer_of records n) n ≡ true
issued_had [] n is = absurd (false≢true is)
issued_had (Operate by op clock ∷ before) n is = elim (cases_eq (label_count before) n) [
  | inl here ↦
      let new = cond-true (eqb (label_count before) n) _ (label_at before n) (eq-eqb (label_count before) n here) in
      let issuer : by ≡ issuer_of (Operate by op clock ∷ before) n =
      sym (ap (λ o. option_map_or (λ (l : Label). l.replica) o 0) new) in
      let update : is_update op ≡ true = sym (ap (λ o. option_map_or (λ (l : Label). is_update l.op) o false) new) ∙ is in
      or_left _ (has_delivered before (issuer_of (Operate by op clock ∷ before) n) n)
      (and_from (by == issuer_of (Operate by op clock ∷ before) n && n == label_count before) (is_update op)
      (and_from (by == issuer_of (Operate by op clock ∷ before) n) (n == label_count before)
      (eq-eqb by (issuer_of (Operate by op clock ∷ before) n) issuer) (eq-eqb n (label_count before) (sym here)))
      update)
  | inr other ↦
      let old : label_at (Operate by op clock ∷ before) n ≡ label_at before n =
      cond-false (eqb (label_count before) n) _ (label_at before n) (ne_eqb (label_count before) n other) in
      let issuer : issuer_of before n ≡ issuer_of (Operate by op clock ∷ before) n =
      sym (ap (λ o. option_map_or (λ (l : Label). l.replica) o 0) old) in
      let update : is_update_at before n ≡ true =
      sym (ap (λ o. option_map_or (λ (l : Label). is_update l.op) o false) old) ∙ is in
      or_right _ (has_delivered before (issuer_of (Operate by op clock ∷ before) n) n)
      (subst (λ r. has_delivered before r n ≡ true) issuer (issued_had before n update))
]
issued_had (Deliver to label ∷ before) n is =
    or_right _ (has_delivered before (issuer_of before n) n) (issued_had before n is)
issued_had (Join joined from ∷ before) n is =
    or_right _ (has_delivered before (issuer_of before n) n) (issued_had before n is)
issued_had (Verdict ∷ before) n is = issued_had before n is

-- so it was issued by an existing replica
issuer_there : (tracked : Tracked) (past : History) (n : ℕ) → IsVisibilityOf tracked past
    → is_update_at past.records n ≡ true → issuer_of past.records n < replicas_in tracked
issuer_there tracked past n represents is = elim (cases_lt (issuer_of past.records n) (replicas_in tracked)) [
  | inl below ↦ below
  | inr above ↦ absurd (false≢true (sym (represents.beyond (issuer_of past.records n) n
      (omega (arith, above, represents.replicas))) ∙ issued_had past.records n is))
]

-- holds if of each replica the first updates pass the test, as many as its count
abbrev PassesFirst : Tracked → History → (ℕ → Bool) → (ℕ → ℕ) → Type 0
PassesFirst tracked past test count = (n : ℕ) → n < labels_in tracked → test n ≡ (is_update_at past.records n
    && nat_lt (issue_position past.records n) (count (issuer_of past.records n)))

-- if the counts are the same, so are the updates
same_updates : (tracked : Tracked) (past : History) (test other : ℕ → Bool) (count second : ℕ → ℕ)
    → IsVisibilityOf tracked past → PassesFirst tracked past test count → PassesFirst tracked past other second
    → HaveSameCounts tracked count second → (n : ℕ) → n < labels_in tracked → test n ≡ other n
same_updates tracked past test other count second represents first also same n below =
    elim (cases_Bool (is_update_at past.records n)) [
      | inl is ↦
          first n below
          ∙ ap (λ c. is_update_at past.records n && nat_lt (issue_position past.records n) c)
          (same (issuer_of past.records n) (issuer_there tracked past n represents is))
          ∙ sym (also n below)
      | inr none ↦
          first n below
          ∙ ap (λ b. b && nat_lt (issue_position past.records n) (count (issuer_of past.records n))) none
          ∙ sym (ap (λ b. b && nat_lt (issue_position past.records n) (second (issuer_of past.records n))) none)
          ∙ sym (also n below)
    ]

-- if the updates are the same, no count is below the other
not_below : (tracked : Tracked) (past : History) (test other : ℕ → Bool) (count second : ℕ → ℕ) (of : ℕ)
    → IsVisibilityOf tracked past → PassesFirst tracked past test count → PassesFirst tracked past other second
    → CountsIssued tracked second → ((n : ℕ) → n < labels_in tracked → test n ≡ other n) → of < replicas_in tracked
    → ¬ (count of < second of)
not_below tracked past test other count second of represents first also issued same there less =
    let within : count of < updates_issued past.records of =
    omega (arith, less, issued of there, represents.issued of there) in
    let (n, is, place) = position_has_update-there past.records of (count of) within in
    let below : n < labels_in tracked = omega (arith, delivered_are_updates-there past.records n is.0, represents.labels) in
    let fails : test n ≡ false = first n below
    ∙ and_right (is_update_at past.records n) (nat_lt (issue_position past.records n) (count (issuer_of past.records n)))
    (le-ltb (issue_position past.records n) (count (issuer_of past.records n))
    (omega (arith, place, ap count is.1))) in
    let passes : other n ≡ true = also n below
    ∙ and_from (is_update_at past.records n) (nat_lt (issue_position past.records n) (second (issuer_of past.records n)))
    is.0
    (lt-ltb (issue_position past.records n) (second (issuer_of past.records n))
    (omega (arith, place, ap second is.1, less))) in
    false≢true (sym fails ∙ same n below ∙ passes)

same_counts : (tracked : Tracked) (past : History) (test other : ℕ → Bool) (count second : ℕ → ℕ)
    → IsVisibilityOf tracked past → PassesFirst tracked past test count → PassesFirst tracked past other second
    → CountsIssued tracked count → CountsIssued tracked second
    → ((n : ℕ) → n < labels_in tracked → test n ≡ other n) → HaveSameCounts tracked count second
same_counts tracked past test other count second represents first also issued others same of there =
    let low = not_below tracked past test other count second of represents first also others same there in
    let high = not_below tracked past other test second count of represents also first issued
    (λ n below. sym (same n below)) there in
    elim (cases_lt (count of) (second of)) [
      | inl less ↦ absurd (low less)
      | inr no_less ↦ elim (cases_lt (second of) (count of)) [
        | inl more ↦ absurd (high more)
        | inr no_more ↦ omega (arith, no_less, no_more)
      ]
    ]

-- a label that does not exist is not seen
all_alike : (tracked : Tracked) (past : History) (test other : ℕ → Bool) → IsVisibilityOf tracked past
    → ((n : ℕ) → ¬ (n < label_count past.records) → test n ≡ false)
    → ((n : ℕ) → ¬ (n < label_count past.records) → other n ≡ false)
    → ((n : ℕ) → n < labels_in tracked → test n ≡ other n) → (n : ℕ) → test n ≡ other n
all_alike tracked past test other represents unseen also same n = elim (cases_lt n (labels_in tracked)) [
  | inl below ↦ same n below
  | inr above ↦
      let beyond : ¬ (n < label_count past.records) = λ below. absurd (omega (arith, below, above, represents.labels)) in
      unseen n beyond ∙ sym (also n beyond)
]

pub same_counts-labels : (tracked : Tracked) (past : History) (m n : ℕ) → IsVisibilityOf tracked past
    → m < labels_in tracked → n < labels_in tracked → CountsIssued tracked (count_in (seen_in tracked m))
    → CountsIssued tracked (count_in (seen_in tracked n))
    → ((k : ℕ) → sees past.records m k ≡ sees past.records n k)
    ↔ HaveSameCounts tracked (count_in (seen_in tracked m)) (count_in (seen_in tracked n))
same_counts-labels tracked past m n represents there with issued others =
    let first : PassesFirst tracked past (sees past.records m) (count_in (seen_in tracked m)) = λ k.
    delivered_prefix_by_counts-seen tracked past m k represents there in
    let also : PassesFirst tracked past (sees past.records n) (count_in (seen_in tracked n)) = λ k.
    delivered_prefix_by_counts-seen tracked past n k represents with in (
      (λ same. same_counts tracked past (sees past.records m) (sees past.records n) (count_in (seen_in tracked m))
          (count_in (seen_in tracked n)) represents first also issued others (λ k below. same k)),
      (λ same. all_alike tracked past (sees past.records m) (sees past.records n) represents
          (sees_beyond past.records m) (sees_beyond past.records n)
          (same_updates tracked past (sees past.records m) (sees past.records n) (count_in (seen_in tracked m))
          (count_in (seen_in tracked n)) represents first also same)),
    )

pub same_counts-replica : (tracked : Tracked) (past : History) (by m : ℕ) → IsVisibilityOf tracked past
    → by < replicas_in tracked → m < labels_in tracked → CountsIssued tracked (delivered_count tracked by)
    → CountsIssued tracked (count_in (seen_in tracked m))
    → (sees_the_same past.records by m ≡ true)
    ↔ HaveSameCounts tracked (count_in (seen_in tracked m)) (delivered_count tracked by)
same_counts-replica tracked past by m represents there with issued others =
    let first : PassesFirst tracked past (sees past.records m) (count_in (seen_in tracked m)) = λ k.
    delivered_prefix_by_counts-seen tracked past m k represents with in
    let also : PassesFirst tracked past (has_delivered past.records by) (delivered_count tracked by) = λ k.
    delivered_prefix_by_counts-delivered tracked past by k represents there in (
      (λ same. same_counts tracked past (sees past.records m) (has_delivered past.records by)
          (count_in (seen_in tracked m)) (delivered_count tracked by) represents first also others issued
          (λ k below. (same_exactly past.records by m).0 same k)),
      (λ same. (same_exactly past.records by m).1
          (all_alike tracked past (sees past.records m) (has_delivered past.records by) represents
          (sees_beyond past.records m) (had_beyond past.records by)
          (same_updates tracked past (sees past.records m) (has_delivered past.records by)
          (count_in (seen_in tracked m)) (delivered_count tracked by) represents first also same))),
    )

pub same_counts-replicas : (tracked : Tracked) (past : History) (by other : ℕ) → IsVisibilityOf tracked past
    → by < replicas_in tracked → other < replicas_in tracked → CountsIssued tracked (delivered_count tracked by)
    → CountsIssued tracked (delivered_count tracked other)
    → ((k : ℕ) → has_delivered past.records by k ≡ has_delivered past.records other k)
    ↔ HaveSameCounts tracked (delivered_count tracked by) (delivered_count tracked other)
same_counts-replicas tracked past by other represents there with issued others =
    let first : PassesFirst tracked past (has_delivered past.records by) (delivered_count tracked by) = λ k.
    delivered_prefix_by_counts-delivered tracked past by k represents there in
    let also : PassesFirst tracked past (has_delivered past.records other) (delivered_count tracked other) = λ k.
    delivered_prefix_by_counts-delivered tracked past other k represents with in (
      (λ same. same_counts tracked past (has_delivered past.records by) (has_delivered past.records other)
          (delivered_count tracked by) (delivered_count tracked other) represents first also issued others
          (λ k below. same k)),
      (λ same. all_alike tracked past (has_delivered past.records by) (has_delivered past.records other) represents
          (had_beyond past.records by) (had_beyond past.records other)
          (same_updates tracked past (has_delivered past.records by) (has_delivered past.records other)
          (delivered_count tracked by) (delivered_count tracked other) represents first also same)),
    )
