-- Lemmas on the least missing label and the deliveries refused for it, and on the causality of records that answers
-- leave.
use Rattle.std.proofs.Common.{◌≡◌, ℕ, zero, suc, ◌+◌, ◌<◌, ◌≤◌, Bool, true, false, List, [], ◌∷◌, Option, Some, None}
use Rattle.std.proofs.Common.{refl, sym, ap, ◌∙◌, subst, inl, inr, arith}
use Rattle.std.specs.Prelude.{◌↔◌, ◌||◌, not, nat_lt, is_some, option_map}
use Rattle.std.specs.List.{find, range_with_len}
use Rattle.std.proofs.lemmas.Bool.{false≢true, cases_eq, cases_Bool, cond_both, cond-true, cond-false, lt-ltb, ltb-true}
use Rattle.std.proofs.lemmas.Bool.{and_parts, and_from, and_left, and_right, or_parts, not-true, not_from_true}
use Rattle.std.proofs.lemmas.Bool.{not_from_false}
use Rattle.std.proofs.lemmas.Option.{none-some, same_Some}
use Rattle.ra_theorems.proofs.Faults.{not_some}
use Rattle.ra_labels.specs.declared.kind.Kind.{Kind}
use Rattle.ra_labels.specs.declared.command.Command.{Command}
use Rattle.ra_labels.specs.declared.command.Command.TheVariants.{Operate, Deliver, Join, Verdict}
use Rattle.ra_labels.specs.declared.refusal.Refusal.{Refusal}
use Rattle.ra_labels.specs.declared.refusal.Refusal.TheVariants.{UnknownReplica, UnknownLabel, NotAnUpdate, AlreadySeen, NotCausal}
use Rattle.ra_labels.specs.Records.{Records, label_count, replica_count}
use Rattle.ra_labels.specs.Visibility.{is_update_at, has_delivered, sees, lacks, first_missing, IsCausal}
use Rattle.ra_labels.specs.Fault.{fault_of}
use Rattle.ra_labels.specs.Answer.{when, first_of, refusal_of, refusal_of_delivery, with_accepted, records_after, records_after_all}
use Rattle.ra_labels.specs.TheoremTerms.{IsCausalDelivery, IsNewUpdate, IsLeastMissing}
use Rattle.ra_theorems.proofs.SeenLabels.{is_update_at-below, sees_earlier}

-- `find` returns the first number that passes, if there is one
find_none : (p : ℕ → Bool) (a n : ℕ) → ((m : ℕ) → m < a + n → p m ≡ false) → find p (range_with_len a n) ≡ None
find_none p a zero fails = refl
find_none p a (suc n) fails = cond-false (p a) _ _ (fails a (omega arith))
    ∙ find_none p (a + 1) n (λ m below. fails m (omega arith))

find_some : (p : ℕ → Bool) (a n k : ℕ) → a ≤ k → k < a + n → p k ≡ true → ((m : ℕ) → m < k → p m ≡ false)
    → find p (range_with_len a n) ≡ Some k
find_some p a zero k low high passes fails = absurd (omega arith)
find_some p a (suc n) k low high passes fails = elim (cases_eq a k) [
  | inl here ↦ cond-true (p a) _ _ (ap p here ∙ passes) ∙ ap Some here
  | inr further ↦ cond-false (p a) _ _ (fails a (omega arith))
      ∙ find_some p (a + 1) n k (omega arith) (omega arith) passes fails
]

none_found : (p : ℕ → Bool) (a n : ℕ) → find p (range_with_len a n) ≡ None → (m : ℕ) → a ≤ m → m < a + n → p m ≡ false
none_found p a zero none m low high = absurd (omega arith)
none_found p a (suc n) none m low high = elim (cases_Bool (p a)) [
  | inl passes ↦ absurd (none-some a (sym none ∙ cond-true (p a) _ _ passes))
  | inr fails ↦ elim (cases_eq m a) [
    | inl here ↦ ap p here ∙ fails
    | inr further ↦ none_found p (a + 1) n (sym (cond-false (p a) _ _ fails) ∙ none) m (omega arith) (omega arith)
  ]
]

some_found : (p : ℕ → Bool) (a n k : ℕ) → find p (range_with_len a n) ≡ Some k
    → (p k ≡ true) × ((m : ℕ) → a ≤ m → m < k → p m ≡ false)
some_found p a zero k some = absurd (none-some k some)
some_found p a (suc n) k some = elim (cases_Bool (p a)) [
  | inl passes ↦
      let here : a ≡ k = same_Some a k (sym (cond-true (p a) _ _ passes) ∙ some) in
      (subst (λ m. p m ≡ true) here passes, (λ m low high. absurd (omega arith)))
  | inr fails ↦
      let rest = some_found p (a + 1) n k (sym (cond-false (p a) _ _ fails) ∙ some) in (
        rest.0,
        (λ m low high. elim
            (cases_eq m a) [ inl here ↦ ap p here ∙ fails | inr further ↦ rest.1 m (omega arith) high ]),
      )
]

seen_below : (records : Records) (n m : ℕ) → sees records n m ≡ true → m < label_count records
seen_below records n m seen = is_update_at-below records m (sees_earlier records n m seen).1

-- a visible label that is not missing was delivered, and conversely
had_unless_missing : (records : Records) (replica n m : ℕ) → lacks records replica n m ≡ false → sees records n m ≡ true
    → has_delivered records replica m ≡ true
had_unless_missing records replica n m fine seen = elim (cases_Bool (has_delivered records replica m)) [
  | inl had_it ↦ had_it
  | inr lacking ↦
      absurd (false≢true
      (sym fine ∙ and_from (sees records n m) (not (has_delivered records replica m)) seen (not_from_false _ lacking)))
]

not_missing : (records : Records) (replica n m : ℕ) → (sees records n m ≡ true → has_delivered records replica m ≡ true)
    → lacks records replica n m ≡ false
not_missing records replica n m fine = elim (cases_Bool (sees records n m)) [
  | inl seen ↦ and_right (sees records n m) (not (has_delivered records replica m)) (not_from_true _ (fine seen))
  | inr unseen ↦ and_left (sees records n m) (not (has_delivered records replica m)) unseen
]

-- `first_missing` is the least missing label
pub least_missing : (records : Records) (replica n m : ℕ) → (first_missing records replica n ≡ Some m)
    ↔ IsLeastMissing records replica n m
least_missing records replica n m = (
  (λ some.
      let known = some_found (lacks records replica n) 0 (label_count records) m some in
      let parts = and_parts (sees records n m) (not (has_delivered records replica m)) known.0 in
      record {
        seen = parts.0;
        missing = not-true _ parts.1;
        least = λ k below seen. had_unless_missing records replica n k (known.1 k (omega arith) below) seen;
      }),
  (λ least.
      find_some (lacks records replica n) 0 (label_count records) m (omega arith)
      (omega (arith, seen_below records n m least.seen))
      (and_from (sees records n m) (not (has_delivered records replica m)) least.seen (not_from_false _ least.missing))
      (λ k below. not_missing records replica n k (least.least k below))),
)

pub none_missing : (records : Records) (replica n : ℕ) → (first_missing records replica n ≡ None)
    ↔ ((m : ℕ) → sees records n m ≡ true → has_delivered records replica m ≡ true)
none_missing records replica n = (
  (λ none m seen.
      let fine = none_found (lacks records replica n) 0 (label_count records) none m (omega arith)
      (omega (arith, seen_below records n m seen)) in
      had_unless_missing records replica n m fine seen),
  (λ all. find_none (lacks records replica n) 0 (label_count records)
      (λ m below. not_missing records replica n m (all m))),
)

-- the refusals of a delivery as a function of the tests
abbrev chain : Bool → Bool → Bool → Bool → Option ℕ → Option Refusal
chain known there update has missing = first_of (
    when (not known) UnknownReplica
    ∷ first_of
    (when (not there) UnknownLabel ∷ when (not update) NotAnUpdate ∷ when has AlreadySeen
    ∷ option_map NotCausal missing ∷ [])
    ∷ []
    )

chain-at : (known there update has : Bool) (missing : Option ℕ) (m : ℕ)
    → chain known there update has missing ≡ Some (NotCausal m)
    → (known ≡ true) × (there ≡ true) × (update ≡ true) × (has ≡ false) × (missing ≡ Some m)
chain-at false there update has missing m is = absurd (cc (is))
chain-at true false update has missing m is = absurd (cc (is))
chain-at true true false has missing m is = absurd (cc (is))
chain-at true true true true missing m is = absurd (cc (is))
chain-at true true true false None m is = absurd (cc (is))
chain-at true true true false (Some k) m is = let same : k ≡ m = cc (is) in (refl, refl, refl, refl, ap Some same)

chain-none : (known there update has : Bool) (missing : Option ℕ) → chain known there update has missing ≡ None
    → (known ≡ true) × (there ≡ true) × (update ≡ true) × (has ≡ false) × (missing ≡ None)
chain-none false there update has missing is = absurd (cc (is))
chain-none true false update has missing is = absurd (cc (is))
chain-none true true false has missing is = absurd (cc (is))
chain-none true true true true missing is = absurd (cc (is))
chain-none true true true false (Some k) is = absurd (cc (is))
chain-none true true true false None is = (refl, refl, refl, refl, refl)

chain-last : (known there update has : Bool) (missing : Option ℕ) → known ≡ true → there ≡ true → update ≡ true
    → has ≡ false → chain known there update has missing ≡ first_of (option_map NotCausal missing ∷ [])
chain-last known there update has None is_known is_there is_update is_new = rw (is_known, is_there, is_update, is_new)
chain-last known there update has (Some m) is_known is_there is_update is_new =
    rw (is_known, is_there, is_update, is_new)

-- a delivery is refused as not causal exactly if the replica is known and the label is a new update that sees a missing
-- label, the least of which is named
pub not_causal-exactly : (replicas : ℕ) (records : Records) (to label m : ℕ)
    → (refusal_of_delivery replicas records to label ≡ Some (NotCausal m))
    ↔ ((to < replica_count replicas records) × IsNewUpdate records to label × IsLeastMissing records to label m)
not_causal-exactly replicas records to label m = (
  (λ refused.
      let tests = chain-at (nat_lt to (replica_count replicas records)) (nat_lt label (label_count records)) (is_update_at records label)
      (has_delivered records to label) (first_missing records to label) m refused in
      (ltb-true to (replica_count replicas records) tests.0, (tests.2, tests.3), (least_missing records to label m).0 tests.4)),
  (λ known.
      let there = is_update_at-below records label known.1.0 in
      chain-last (nat_lt to (replica_count replicas records)) (nat_lt label (label_count records)) (is_update_at records label)
      (has_delivered records to label) (first_missing records to label) (lt-ltb to (replica_count replicas records) known.0)
      (lt-ltb label (label_count records) there) known.1.0 known.1.1
      ∙ ap (λ missing. first_of (option_map NotCausal missing ∷ [])) ((least_missing records to label m).1 known.2)),
)

-- and is not refused exactly if the replica is known, the label is an update, and the delivery is causal
pub delivered-exactly : (replicas : ℕ) (records : Records) (to label : ℕ)
    → (refusal_of_delivery replicas records to label ≡ None)
    ↔ ((to < replica_count replicas records) × (is_update_at records label ≡ true)
    × IsCausalDelivery records to label)
delivered-exactly replicas records to label = (
  (λ accepted.
      let tests = chain-none (nat_lt to (replica_count replicas records)) (nat_lt label (label_count records)) (is_update_at records label)
      (has_delivered records to label) (first_missing records to label) accepted in
      (ltb-true to (replica_count replicas records) tests.0, tests.2, (tests.3, (none_missing records to label).0 tests.4))),
  (λ known.
      let there = is_update_at-below records label known.1 in
      chain-last (nat_lt to (replica_count replicas records)) (nat_lt label (label_count records)) (is_update_at records label)
      (has_delivered records to label) (first_missing records to label) (lt-ltb to (replica_count replicas records) known.0)
      (lt-ltb label (label_count records) there) known.1 known.2.0
      ∙ ap (λ missing. first_of (option_map NotCausal missing ∷ [])) ((none_missing records to label).1 known.2.1)),
)

accepted_causal : (kind : Kind) (replicas : ℕ) (records : Records) (command : Command)
    → is_some (refusal_of kind replicas records command) ≡ false → IsCausal records
    → IsCausal (with_accepted records command)
accepted_causal kind replicas records (Operate by op clock) fine causal = causal
accepted_causal kind replicas records (Deliver to label) fine causal =
    let known = (delivered-exactly replicas records to label).0
    (not_some (refusal_of_delivery replicas records to label) fine) in
    (known.2.0, known.2.1, causal)
accepted_causal kind replicas records (Join joined from) fine causal = causal
accepted_causal kind replicas records Verdict fine causal = causal

-- the records that an answer leaves are causal
pub records_after-causal : (kind : Kind) (replicas : ℕ) (records : Records) (command : Command) → IsCausal records
    → IsCausal (records_after kind replicas records command)
records_after-causal kind replicas records command causal =
    let stays = is_some (fault_of kind records) || is_some (refusal_of kind replicas records command) in
    cond_both stays records (with_accepted records command) IsCausal
    (λ is. causal)
    (λ no. accepted_causal kind replicas records command
    (or_parts (is_some (fault_of kind records)) (is_some (refusal_of kind replicas records command)) no).1 causal)

pub records_after_all-causal : (kind : Kind) (replicas : ℕ) (records : Records) (commands : List Command)
    → IsCausal records → IsCausal (records_after_all kind replicas records commands)
records_after_all-causal kind replicas records [] causal = causal
records_after_all-causal kind replicas records (command ∷ commands) causal =
    records_after_all-causal kind replicas (records_after kind replicas records command) commands
    (records_after-causal kind replicas records command causal)
