-- Lemmas on siblings as the labels that no other delivered one sees.
use Rattle.std.proofs.Common.{◌≡◌, ℕ, ◌<◌, Bool, true, false, eqb, [], ◌∷◌, filter, refl, sym, ap, ◌∙◌, subst, inl, inr, arith}
use Rattle.std.specs.Prelude.{◌↔◌, ◌&&◌, not, Contains}
use Rattle.std.specs.List.{list_any, range_with_len}
use Rattle.std.proofs.lemmas.Bool.{false≢true, cases_Bool, cases_eq, eqb-true, eq-eqb, ne_eqb, cond-true, cond-false, and_parts, and_from, not-true, not_from_false, false_from_ne_true}
use Rattle.ra_labels.specs.declared.operation.Op.{Op}
use Rattle.ra_labels.specs.declared.command.Command.{Command}
use Rattle.ra_labels.specs.declared.command.Command.TheVariants.{Operate, Deliver, Join, Verdict}
use Rattle.ra_labels.specs.Lists.{rises}
use Rattle.ra_labels.specs.Records.{Records, label_count}
use Rattle.ra_labels.specs.Visibility.{is_update_at, has_delivered, sees}
use Rattle.ra_labels.specs.Siblings.{is_replaced, is_sibling, siblings_at, replaced_by}
use Rattle.ra_labels.proofs.Members.{kept-there, there-kept, what_passes}
use Rattle.ra_theorems.proofs.TheoremIndex.{sees_persists, delivered_are_updates-updates, delivered_are_updates-there, sees_earlier_updates-updates}
use Rattle.ra_mvregister_model.specs.Unseen.{IsUnseenAmong}
use Rattle.ra_labels.proofs.Ranges.{in_range, range_rises, filter_rises, any_passes}

-- a delivered label, and a seen one, is below the number of labels
pub delivered_below : (records : Records) (replica n : ℕ) → has_delivered records replica n ≡ true
    → n < label_count records
delivered_below records replica n had_it =
    delivered_are_updates-there records n (delivered_are_updates-updates records replica n had_it)

pub seen_below : (records : Records) (n m : ℕ) → sees records n m ≡ true → m < label_count records
seen_below records n m seen = delivered_are_updates-there records m (sees_earlier_updates-updates records n m seen)

-- a label is replaced exactly if a delivered one sees it
replaced_if : (records : Records) (replica n m : ℕ) → has_delivered records replica n ≡ true
    → sees records n m ≡ true → is_replaced records replica m ≡ true
replaced_if records replica n m had_it seen =
    any_passes (λ k. has_delivered records replica k && sees records k m) (range_with_len 0 (label_count records)) n
    (in_range 0 (label_count records) n (omega arith) (omega (arith, delivered_below records replica n had_it)))
    (and_from (has_delivered records replica n) (sees records n m) had_it seen)

replaced_from : (records : Records) (replica m : ℕ) → is_replaced records replica m ≡ true
    → (n : ℕ) × (has_delivered records replica n ≡ true) × (sees records n m ≡ true)
replaced_from records replica m is =
    let (n, there, passes) = what_passes (λ k. has_delivered records replica k && sees records k m)
    (range_with_len 0 (label_count records)) is in
    let parts = and_parts (has_delivered records replica n) (sees records n m) passes in
    (n, parts.0, parts.1)

sibling_exactly : (records : Records) (replica m : ℕ) → (is_sibling records replica m ≡ true)
    ↔ IsUnseenAmong records (has_delivered records replica) m
sibling_exactly records replica m = (
  (λ is.
      let parts = and_parts (has_delivered records replica m) (not (is_replaced records replica m)) is in (
        parts.0,
        λ n had_it. false_from_ne_true (sees records n m) (λ seen.
            false≢true (sym (not-true (is_replaced records replica m) parts.1)
            ∙ replaced_if records replica n m had_it seen)),
      )),
  (λ known.
      and_from (has_delivered records replica m) (not (is_replaced records replica m)) known.0
      (not_from_false (is_replaced records replica m) (false_from_ne_true (is_replaced records replica m) (λ is.
      let (n, had_it, seen) = replaced_from records replica m is in
      false≢true (sym (known.1 n had_it) ∙ seen))))),
)

pub siblings_exactly : (records : Records) (replica m : ℕ) → Contains (siblings_at records replica) m
    ↔ IsUnseenAmong records (has_delivered records replica) m
siblings_exactly records replica m =
    let test = is_sibling records replica in
    let labels = range_with_len 0 (label_count records) in (
      (λ there. (sibling_exactly records replica m).0 (there-kept test labels m there).1),
      (λ known. kept-there test labels m
          (in_range 0 (label_count records) m (omega arith) (omega (arith, delivered_below records replica m known.0)))
          ((sibling_exactly records replica m).1 known)),
    )

pub siblings_rise : (records : Records) (replica : ℕ) → rises (siblings_at records replica) ≡ true
siblings_rise records replica =
    let labels = range_with_len 0 (label_count records) in
    filter_rises (is_sibling records replica) labels (range_rises 0 (label_count records))

-- one more command changes nothing of what no label sees among labels that exist
pub unseen_later : (command : Command) (before : Records) (p q : ℕ → Bool) (m : ℕ) → ((n : ℕ) → q n ≡ p n)
    → ((n : ℕ) → p n ≡ true → n < label_count before)
    → IsUnseenAmong (command ∷ before) q m ↔ IsUnseenAmong before p m
unseen_later command before p q m same below = (
  (λ now. (
    sym (same m) ∙ now.0,
    λ n passes. sym (sees_persists (command ∷ []) before n m (below n passes)) ∙ now.1 n (same n ∙ passes),
  )),
  (λ was. (
    same m ∙ was.0,
    λ n passes.
        let before_too = sym (same n) ∙ passes in
        sees_persists (command ∷ []) before n m (below n before_too) ∙ was.1 n before_too,
  )),
)

iff_through : {A B C : Type 0} → A ↔ B → B ↔ C → A ↔ C
iff_through first second = ((λ a. second.0 (first.0 a)), (λ c. first.1 (second.1 c)))

iff_back : {A B : Type 0} → A ↔ B → B ↔ A
iff_back both = (both.1, both.0)

pub replaced-new : (before : Records) (by : ℕ) (op : Op) (clock : _)
    → replaced_by (Operate by op clock ∷ before) (label_count before) ≡ siblings_at before by
replaced-new before by op clock =
    cond-true (eqb (label_count before) (label_count before)) _ _ (eq-eqb _ _ refl)

pub replaced-others : (before : Records) (by n : ℕ) (op : Op) (clock : _) → ¬ (n ≡ label_count before)
    → replaced_by (Operate by op clock ∷ before) n ≡ replaced_by before n
replaced-others before by n op clock other = cond-false (eqb n (label_count before)) _ _ (ne_eqb _ _ other)

-- a label replaces what it sees and none of what it sees does
pub replaced_exactly : (records : Records) (n m : ℕ) → Contains (replaced_by records n) m
    ↔ IsUnseenAmong records (sees records n) m
replaced_exactly [] n m = (
  (λ there. absurd (omega (arith, there.1))),
  (λ known. absurd (false≢true known.0)),
)
replaced_exactly (Operate by op clock ∷ before) n m =
    let now : Records = Operate by op clock ∷ before in
    elim (cases_eq n (label_count before)) [
      | inl is ↦
          let test = eq-eqb n (label_count before) is in
          subst (λ labels. Contains labels m ↔ IsUnseenAmong now (sees now n) m)
          (sym (cond-true (eqb n (label_count before)) (siblings_at before by) (replaced_by before n) test))
          (iff_through (siblings_exactly before by m)
          (iff_back (unseen_later (Operate by op clock) before (has_delivered before by) (sees now n) m
          (λ k. cond-true (eqb n (label_count before)) (has_delivered before by k) (sees before n k) test)
          (λ k had_it. delivered_below before by k had_it))))
      | inr other ↦
          let test = ne_eqb n (label_count before) other in
          subst (λ labels. Contains labels m ↔ IsUnseenAmong now (sees now n) m)
          (sym (cond-false (eqb n (label_count before)) (siblings_at before by) (replaced_by before n) test))
          (iff_through (replaced_exactly before n m)
          (iff_back (unseen_later (Operate by op clock) before (sees before n) (sees now n) m
          (λ k. cond-false (eqb n (label_count before)) (has_delivered before by k) (sees before n k) test)
          (λ k seen. seen_below before n k seen))))
    ]
replaced_exactly (Deliver to label ∷ before) n m =
    iff_through (replaced_exactly before n m)
    (iff_back (unseen_later (Deliver to label) before (sees before n) (sees before n) m (λ k. refl)
    (λ k seen. seen_below before n k seen)))
replaced_exactly (Join joined from ∷ before) n m =
    iff_through (replaced_exactly before n m)
    (iff_back (unseen_later (Join joined from) before (sees before n) (sees before n) m (λ k. refl)
    (λ k seen. seen_below before n k seen)))
replaced_exactly (Verdict ∷ before) n m =
    iff_through (replaced_exactly before n m)
    (iff_back (unseen_later Verdict before (sees before n) (sees before n) m (λ k. refl)
    (λ k seen. seen_below before n k seen)))
