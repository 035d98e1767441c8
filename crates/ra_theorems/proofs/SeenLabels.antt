-- Lemmas on what was delivered to a replica and what a label sees, in later and in earlier records.
use Rattle.std.proofs.Common.{◌≡◌, ℕ, ◌<◌, true, false, eqb, [], ◌∷◌, ◌++◌, refl, sym, ap, ◌∙◌, subst, inl, inr, arith}
use Rattle.std.specs.Prelude.{◌↔◌, ◌==◌, ◌&&◌}
use Rattle.std.specs.Option.{option_map_or}
use Rattle.std.proofs.lemmas.Bool.{false≢true, cases_lt, ne_eqb, eq-eqb, eqb-true, cond-true, cond-false, cond_both, or_cases, or_left, or_right, and_parts, and_from}
use Rattle.ra_labels.specs.declared.command.Command.TheVariants.{Operate, Deliver, Join, Verdict}
use Rattle.ra_labels.specs.Records.{Records, label_count}
use Rattle.ra_labels.specs.Visibility.{is_update, is_update_at, has_delivered, sees, IsCausal}
use Rattle.ra_labels.specs.TheoremTerms.{IsCausalDelivery}
use Rattle.ra_theorems.proofs.LabelNumbers.{label_count-append, label_at-append, no_label_there}

-- an existing label sees the same updates in later records
pub sees-append : (later records : Records) (n m : ℕ) → n < label_count records
    → sees (later ++ records) n m ≡ sees records n m
sees-append [] records n m below = refl
sees-append (Operate by op clock ∷ later) records n m below =
    let grows = label_count-append later records in
    let other : n ≡ label_count (later ++ records) → ⊥ = λ is. absurd (omega arith) in
    cond-false (eqb n (label_count (later ++ records))) _ _ (ne_eqb _ _ other) ∙ sees-append later records n m below
sees-append (_ ∷ later) records n m below = sees-append later records n m below

-- what was delivered to a replica stays delivered
pub had-append : (later records : Records) (replica m : ℕ) → has_delivered records replica m ≡ true
    → has_delivered (later ++ records) replica m ≡ true
had-append [] records replica m had_it = had_it
had-append (Operate by op clock ∷ later) records replica m had_it =
    or_right _ _ (had-append later records replica m had_it)
had-append (Deliver to label ∷ later) records replica m had_it =
    or_right _ _ (had-append later records replica m had_it)
had-append (Join joined from ∷ later) records replica m had_it =
    or_right _ _ (had-append later records replica m had_it)
had-append (_ ∷ later) records replica m had_it = had-append later records replica m had_it

-- an existing label is an update in later records exactly if it is one now
pub is_update_at-append : (later records : Records) (n : ℕ) → n < label_count records
    → is_update_at (later ++ records) n ≡ is_update_at records n
is_update_at-append later records n below =
    ap (λ label. option_map_or (λ l. is_update l.op) label false) (label_at-append later records n below)

-- an update is an existing label
pub is_update_at-below : (records : Records) (n : ℕ) → is_update_at records n ≡ true → n < label_count records
is_update_at-below records n is = elim (cases_lt n (label_count records)) [
  | inl below ↦ below
  | inr above ↦
      let none = ap (λ label. option_map_or (λ l. is_update l.op) label false) (no_label_there records n above) in
      absurd (false≢true (sym none ∙ is))
]

-- and remains an update after one more record
is_update_at-next : (command : _) (before : Records) (n : ℕ) → is_update_at before n ≡ true
    → is_update_at (command ∷ before) n ≡ true
is_update_at-next command before n is =
    is_update_at-append (command ∷ []) before n (is_update_at-below before n is) ∙ is

-- what was delivered to a replica is an update
pub had_update : (records : Records) (replica m : ℕ) → has_delivered records replica m ≡ true → is_update_at records m ≡ true
had_update [] replica m had_it = absurd (false≢true had_it)
had_update (Operate by op clock ∷ before) replica m had_it =
    elim (or_cases (by == replica && m == label_count before && is_update op) (has_delivered before replica m) had_it) [
      | inl own ↦
          let parts = and_parts (by == replica && m == label_count before) (is_update op) own in
          let same : label_count before ≡ m =
          sym (eqb-true m (label_count before) (and_parts (by == replica) (m == label_count before) parts.0).1) in
          ap (λ label. option_map_or (λ l. is_update l.op) label false)
          (cond-true (eqb (label_count before) m) _ _ (eq-eqb _ _ same))
          ∙ parts.1
      | inr older ↦ is_update_at-next (Operate by op clock) before m (had_update before replica m older)
    ]
had_update (Deliver to label ∷ before) replica m had_it =
    elim (or_cases (to == replica && m == label && is_update_at before m) (has_delivered before replica m) had_it) [
      | inl got ↦ (and_parts (to == replica && m == label) (is_update_at before m) got).1
      | inr older ↦ had_update before replica m older
    ]
had_update (Join joined from ∷ before) replica m had_it =
    elim (or_cases (joined == replica && has_delivered before from m) (has_delivered before replica m) had_it) [
      | inl taken ↦ had_update before from m (and_parts (joined == replica) (has_delivered before from m) taken).1
      | inr older ↦ had_update before replica m older
    ]
had_update (_ ∷ before) replica m had_it = had_update before replica m had_it

-- a label sees only updates with smaller numbers
pub sees_earlier : (records : Records) (n m : ℕ) → sees records n m ≡ true → (m < n) × (is_update_at records m ≡ true)
sees_earlier [] n m seen = absurd (false≢true seen)
sees_earlier (Operate by op clock ∷ before) n m seen =
    cond_both (eqb n (label_count before)) (has_delivered before by m) (sees before n m)
    (λ test. test ≡ true → (m < n) × (is_update_at (Operate by op clock ∷ before) m ≡ true))
    (λ is had_it.
    let update = had_update before by m had_it in
    let below = is_update_at-below before m update in
    let same = eqb-true n (label_count before) is in
    (omega arith, is_update_at-next (Operate by op clock) before m update))
    (λ other older.
    let known = sees_earlier before n m older in
    (known.0, is_update_at-next (Operate by op clock) before m known.1))
    seen
sees_earlier (_ ∷ before) n m seen = sees_earlier before n m seen

-- in causal records, a replica that was delivered a label was delivered all that the label sees
pub had_closed : (records : Records) → IsCausal records → (replica m k : ℕ) → has_delivered records replica m ≡ true
    → sees records m k ≡ true → has_delivered records replica k ≡ true
had_closed [] causal replica m k had_it seen = absurd (false≢true had_it)
had_closed (Operate by op clock ∷ before) causal replica m k had_it seen =
    elim (or_cases (by == replica && m == label_count before && is_update op) (has_delivered before replica m) had_it) [
      | inl own ↦
          let parts = and_parts (by == replica) (m == label_count before)
          (and_parts (by == replica && m == label_count before) (is_update op) own).0 in
          let known : has_delivered before by k ≡ true =
          sym (cond-true (eqb m (label_count before)) (has_delivered before by k) (sees before m k) parts.1) ∙ seen in
          or_right _ (has_delivered before replica k) (subst (λ r. has_delivered before r k ≡ true) (eqb-true by replica parts.0) known)
      | inr older ↦
          let below = is_update_at-below before m (had_update before replica m older) in
          or_right _ (has_delivered before replica k)
          (had_closed before causal replica m k older
          (sym (sees-append (Operate by op clock ∷ []) before m k below) ∙ seen))
    ]
had_closed (Deliver to label ∷ before) causal replica m k had_it seen =
    elim (or_cases (to == replica && m == label && is_update_at before m) (has_delivered before replica m) had_it) [
      | inl got ↦
          let parts = and_parts (to == replica) (m == label)
          (and_parts (to == replica && m == label) (is_update_at before m) got).0 in
          let known = causal.1 k (subst (λ l. sees before l k ≡ true) (eqb-true m label parts.1) seen) in
          or_right _ (has_delivered before replica k) (subst (λ r. has_delivered before r k ≡ true) (eqb-true to replica parts.0) known)
      | inr older ↦ or_right _ (has_delivered before replica k) (had_closed before causal.2 replica m k older seen)
    ]
had_closed (Join joined from ∷ before) causal replica m k had_it seen =
    elim (or_cases (joined == replica && has_delivered before from m) (has_delivered before replica m) had_it) [
      | inl taken ↦
          let parts = and_parts (joined == replica) (has_delivered before from m) taken in
          let known = had_closed before causal from m k parts.1 seen in
          or_left _ (has_delivered before replica k) (and_from (joined == replica) (has_delivered before from k) parts.0 known)
      | inr older ↦ or_right _ (has_delivered before replica k) (had_closed before causal replica m k older seen)
    ]
had_closed (Verdict ∷ before) causal replica m k had_it seen = had_closed before causal replica m k had_it seen

-- and a label sees what is seen by the labels that it sees
pub sees_through : (records : Records) → IsCausal records → (n m k : ℕ) → sees records n m ≡ true
    → sees records m k ≡ true → sees records n k ≡ true
sees_through [] causal n m k first then = absurd (false≢true first)
sees_through (Operate by op clock ∷ before) causal n m k first then =
    cond_both (eqb n (label_count before)) (has_delivered before by m) (sees before n m)
    (λ test. test ≡ true → sees (Operate by op clock ∷ before) n k ≡ true)
    (λ is had_it.
    let below = is_update_at-below before m (had_update before by m had_it) in
    let older = sym (sees-append (Operate by op clock ∷ []) before m k below) ∙ then in
    cond-true (eqb n (label_count before)) _ _ is ∙ had_closed before causal by m k had_it older)
    (λ other seen.
    let below = is_update_at-below before m (sees_earlier before n m seen).1 in
    let older = sym (sees-append (Operate by op clock ∷ []) before m k below) ∙ then in
    cond-false (eqb n (label_count before)) _ _ other ∙ sees_through before causal n m k seen older)
    first
sees_through (Deliver to label ∷ before) causal n m k first then = sees_through before causal.2 n m k first then
sees_through (_ ∷ before) causal n m k first then = sees_through before causal n m k first then

-- earlier records of causal records are causal
IsCausal-append : (later records : Records) → IsCausal (later ++ records) → IsCausal records
IsCausal-append [] records causal = causal
IsCausal-append (Deliver to label ∷ later) records causal = IsCausal-append later records causal.2
IsCausal-append (_ ∷ later) records causal = IsCausal-append later records causal

abbrev EachDeliveryIsCausal : Records → Type 0
EachDeliveryIsCausal records =
    (later before : Records) (replica n : ℕ) → records ≡ later ++ Deliver replica n ∷ before
    → IsCausalDelivery before replica n

causal-from_deliveries : (records : Records) → EachDeliveryIsCausal records → IsCausal records
causal-from_deliveries [] each = tt
causal-from_deliveries (Deliver to label ∷ before) each =
    let this = each [] before to label refl in
    let older =
    causal-from_deliveries before
    (λ later earlier replica n is. each (Deliver to label ∷ later) earlier replica n
    (ap (λ rs. Deliver to label ∷ rs) is)) in
    (this.0, this.1, older)
causal-from_deliveries (command ∷ before) each =
    causal-from_deliveries before
    (λ later earlier replica n is. each (command ∷ later) earlier replica n (ap (λ rs. command ∷ rs) is))

-- records are causal exactly if each delivery is
pub causal-exactly : (records : Records) → IsCausal records ↔ EachDeliveryIsCausal records
causal-exactly records = (
  (λ causal later before replica n is.
      let here = IsCausal-append later (Deliver replica n ∷ before) (subst IsCausal is causal) in
      (here.0, here.1)),
  causal-from_deliveries records,
)
