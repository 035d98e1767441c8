-- Lemmas on the number of siblings: at most one was issued by each replica, since a replica sees its own updates.
use Rattle.std.proofs.Common.{◌≡◌, ℕ, ◌<◌, ◌≤◌, Bool, true, false, eqb, List, [], ◌∷◌, length, Option, Some, refl, sym, ap, ◌∙◌, subst, inl, inr, arith}
use Rattle.std.specs.Prelude.{◌==◌, ◌&&◌, nat_lt, map, Contains}
use Rattle.std.specs.List.{list_all, AllByRecursion, IsDistinct}
use Rattle.std.specs.Option.{option_map_or}
use Rattle.std.proofs.lemmas.Bool.{false≢true, cases_lt, cases_eq, eqb-true, eq-eqb, ne_eqb, ltb-true, cond-true, cond-false, or_left, or_right, and_parts, and_from, false_from_ne_true}
use Rattle.std.proofs.lemmas.List.{length-map}
use Rattle.std.proofs.lemmas.Map.Steps.{length-le_from_distinct_below}
use Rattle.ra_labels.specs.declared.operation.Op.{Op}
use Rattle.ra_labels.specs.declared.label.Label.{Label}
use Rattle.ra_labels.specs.declared.command.Command.TheVariants.{Operate, Deliver, Join, Verdict}
use Rattle.ra_labels.specs.Lists.{rises}
use Rattle.ra_labels.specs.Records.{Records, label_count, label_at, next_label}
use Rattle.ra_labels.specs.Visibility.{is_update, is_update_at, has_delivered, sees}
use Rattle.ra_labels.specs.Places.{issuer_of}
use Rattle.ra_labels.specs.Siblings.{siblings_at}
use Rattle.ra_labels.proofs.InLists.{list_all-contains}
use Rattle.ra_labels.proofs.Members.{at_head, behind_head, what_passes, from_where}
use Rattle.ra_theorems.proofs.TheoremIndex.{delivered_are_updates-updates}
use Rattle.ra_mvregister_model.proofs.UnseenLabels.{delivered_below, siblings_exactly, siblings_rise}

abbrev replica_in : Option Label → ℕ
replica_in found = option_map_or (λ label. label.replica) found 0

abbrev updates_in : Option Label → Bool
updates_in found = option_map_or (λ label. is_update label.op) found false

-- an update is delivered to its own replica
own_delivered : (records : Records) (m : ℕ) → is_update_at records m ≡ true
    → has_delivered records (issuer_of records m) m ≡ true
own_delivered [] m update = absurd (false≢true update)
own_delivered (Operate by op clock ∷ before) m update =
    let now : Records = Operate by op clock ∷ before in
    let new = label_count before in
    let label = next_label before by op clock in
    elim (cases_eq new m) [
      | inl is ↦
          let found : label_at now m ≡ Some label =
          cond-true (eqb new m) (Some label) (label_at before m) (eq-eqb new m is) in
          let its_op : is_update op ≡ true = sym (ap updates_in found) ∙ update in
          subst (λ r. has_delivered now r m ≡ true) (sym (ap replica_in found))
          (or_left (by == by && m == new && is_update op) (has_delivered before by m)
          (and_from (by == by && m == new) (is_update op)
          (and_from (by == by) (m == new) (eq-eqb by by refl) (eq-eqb m new (sym is))) its_op))
      | inr other ↦
          let found : label_at now m ≡ label_at before m =
          cond-false (eqb new m) (Some label) (label_at before m) (ne_eqb new m other) in
          let older = own_delivered before m (sym (ap updates_in found) ∙ update) in
          subst (λ r. has_delivered now r m ≡ true) (sym (ap replica_in found))
          (or_right (by == issuer_of before m && m == new && is_update op) (has_delivered before (issuer_of before m) m) older)
    ]
own_delivered (Deliver to n ∷ before) m update =
    or_right _ (has_delivered before (issuer_of before m) m) (own_delivered before m update)
own_delivered (Join joined from ∷ before) m update =
    or_right _ (has_delivered before (issuer_of before m) m) (own_delivered before m update)
own_delivered (Verdict ∷ before) m update = own_delivered before m update

-- a label sees the earlier updates of its replica
own_seen : (records : Records) (n m : ℕ) → is_update_at records m ≡ true → m < n → n < label_count records
    → issuer_of records m ≡ issuer_of records n → sees records n m ≡ true
own_seen [] n m update less short same = absurd (omega (arith, short))
own_seen (Operate by op clock ∷ before) n m update less short same =
    let now : Records = Operate by op clock ∷ before in
    let new = label_count before in
    let label = next_label before by op clock in
    let other : new ≡ m → ⊥ = λ is. absurd (omega (arith, less, short, is)) in
    let found : label_at now m ≡ label_at before m =
    cond-false (eqb new m) (Some label) (label_at before m) (ne_eqb new m other) in
    let was : is_update_at before m ≡ true = sym (ap updates_in found) ∙ update in
    elim (cases_eq n new) [
      | inl is ↦
          let its : label_at now n ≡ Some label =
          cond-true (eqb new n) (Some label) (label_at before n) (eq-eqb new n (sym is)) in
          let issuer : issuer_of before m ≡ by = sym (ap replica_in found) ∙ same ∙ ap replica_in its in
          cond-true (eqb n new) (has_delivered before by m) (sees before n m) (eq-eqb n new is)
          ∙ subst (λ r. has_delivered before r m ≡ true) issuer (own_delivered before m was)
      | inr further ↦
          let its : label_at now n ≡ label_at before n =
          cond-false (eqb new n) (Some label) (label_at before n) (ne_eqb new n (λ is. further (sym is))) in
          cond-false (eqb n new) (has_delivered before by m) (sees before n m) (ne_eqb n new further)
          ∙ own_seen before n m was less (omega (arith, short, further))
          (sym (ap replica_in found) ∙ same ∙ ap replica_in its)
    ]
own_seen (Deliver to k ∷ before) n m update less short same = own_seen before n m update less short same
own_seen (Join joined from ∷ before) n m update less short same = own_seen before n m update less short same
own_seen (Verdict ∷ before) n m update less short same = own_seen before n m update less short same

not_earlier : (records : Records) (replica m n : ℕ) → Contains (siblings_at records replica) m
    → Contains (siblings_at records replica) n → issuer_of records m ≡ issuer_of records n → ¬ (m < n)
not_earlier records replica m n first second same less =
    let known = (siblings_exactly records replica m).0 first in
    let other = (siblings_exactly records replica n).0 second in
    false≢true (sym (known.1 n other.0)
    ∙ own_seen records n m (delivered_are_updates-updates records replica m known.0) less
    (delivered_below records replica n other.0) same)

-- at most one sibling was issued by each replica
pub one_of_each : (records : Records) (replica m n : ℕ) → Contains (siblings_at records replica) m
    → Contains (siblings_at records replica) n → issuer_of records m ≡ issuer_of records n → m ≡ n
one_of_each records replica m n first second same = elim (cases_eq m n) [
  | inl is ↦ is
  | inr other ↦ elim (cases_lt m n) [
    | inl less ↦ absurd (not_earlier records replica m n first second same less)
    | inr low ↦ absurd (not_earlier records replica n m second first (sym same) (omega (arith, other, low)))
  ]
]

-- a test fails for each member of a list if it passes for none
all_fail : (p : ℕ → Bool) (xs : List ℕ) → ((y : ℕ) → Contains xs y → p y ≡ true → ⊥) → AllByRecursion (λ y. p y ≡ false) xs
all_fail p [] none = tt
all_fail p (x ∷ xs) none = (
  false_from_ne_true (p x) (none x (at_head x xs x refl)),
  all_fail p xs (λ y there. none y (behind_head x xs y there)),
)

-- a rising list is mapped to different numbers by a function that is different for different members
mapped_apart : (h : ℕ → ℕ) (xs : List ℕ) → rises xs ≡ true
    → ((m n : ℕ) → Contains xs m → Contains xs n → h m ≡ h n → m ≡ n) → IsDistinct eqb (map h xs)
unfolding IsDistinct
mapped_apart h [] up apart = tt
mapped_apart h (x ∷ xs) up apart =
    let parts = and_parts (list_all (λ y. nat_lt x y) xs) (rises xs) up in (
      all_fail (eqb (h x)) (map h xs) (λ y there equal.
          let (m, found, is) = from_where h xs y there in
          let same = apart x m (at_head x xs x refl) (behind_head x xs m found) (eqb-true (h x) y equal ∙ sym is) in
          let above = ltb-true x m (list_all-contains (λ z. nat_lt x z) xs m parts.0 found) in
          absurd (omega (arith, same, above))),
      mapped_apart h xs parts.1 (λ m n first second. apart m n (behind_head x xs m first) (behind_head x xs n second)),
    )

pub few_siblings : (records : Records) (replica replicas : ℕ)
    → ((n : ℕ) → n < label_count records → issuer_of records n < replicas)
    → length (siblings_at records replica) ≤ replicas
few_siblings records replica replicas there =
    let siblings = siblings_at records replica in
    let issuer = issuer_of records in
    subst (λ k. k ≤ replicas) (length-map siblings issuer)
    (length-le_from_distinct_below (map issuer siblings) replicas
    (mapped_apart issuer siblings (siblings_rise records replica) (one_of_each records replica)) (λ q some.
    let (y, found, equal) = what_passes (eqb q) (map issuer siblings) some in
    let (m, sibling, is) = from_where issuer siblings y found in
    let short = there m (delivered_below records replica m ((siblings_exactly records replica m).0 sibling).0) in
    omega (arith, short, is, eqb-true q y equal)))
