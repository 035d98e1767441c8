-- Lemmas on the visible labels in a list that pass a test.
use Rattle.std.proofs.Common.{◌≡◌, ℕ, Bool, true, false, List, [], ◌∷◌, length, refl, sym, ap, ◌∙◌, subst, arith}
use Rattle.std.specs.Prelude.{filter, slice_get, option_map, Contains}
use Rattle.std.specs.Option.{option_map_or}
use Rattle.ra_labels.specs.declared.operation.Op.{Op}
use Rattle.ra_labels.specs.declared.label.Label.{Label}
use Rattle.ra_labels.specs.Records.{Records, labels_of, label_at}
use Rattle.ra_labels.specs.Visibility.{is_update, is_update_at, sees}
use Rattle.ra_labels.proofs.Members.{at_head, none_there, kept-there, there-kept}
use Rattle.ra_theorems.proofs.TheoremIndex.{label_at_each_number-found, sees_earlier_updates-updates, delivered_are_updates-there}
use Rattle.ra_some_order.specs.VisibleUpdates.{visible_labels, numbers_where}
use Rattle.ra_some_order.proofs.MetConditions.{number_there, visible_there, there_visible, from_visible}
use Rattle.ra_some_order.proofs.LabelSequences.{label_here, updates_at}
use Rattle.ra_any_order.specs.Reading.{passes_at}

-- holds if the list has the operation of each label
abbrev pub AreListed : Records → List Op → Type 0
AreListed records operations = (n : ℕ) → slice_get operations n ≡ option_map (λ label. label.op) (label_at records n)

pub no_length : {A : Type 0} (xs : List A) → length xs ≡ 0 → (x : A) → ¬ Contains xs x
no_length [] none x there = none_there x there
no_length (y ∷ ys) none x there = omega (arith, none)

pub some_length : {A : Type 0} (xs : List A) → ¬ (length xs ≡ 0) → (x : A) × Contains xs x
some_length [] some = absurd (some refl)
some_length (x ∷ xs) some = (x, at_head x xs x refl)

module _ (records : Records) (operations : List Op) (listed : AreListed records operations) (n : ℕ) (newest : List ℕ)
    (each_seen : (m : ℕ) → Contains newest m → sees records n m ≡ true) where
  abbrev visible : List Label
  visible = visible_labels records n

  pub test_at : (passes : Op → Bool) (label : Label) → Contains (labels_of records) label
      → passes_at operations passes label.number ≡ passes label.op
  test_at passes label there =
      ap (λ o. option_map_or passes o false)
      (listed label.number ∙ ap (option_map (λ (l : Label). l.op)) (label_at_each_number-found records label there))

  -- a label that n sees
  pub seen_label : (m : ℕ) → sees records n m ≡ true
      → (label : Label) × Contains visible label × (label.number ≡ m) × (is_update label.op ≡ true)
  seen_label m seen =
      let updates = sees_earlier_updates-updates records n m seen in
      let (label, there, numbered) = label_here records m (delivered_are_updates-there records m updates) in (
        label,
        visible_there records n label there (ap (sees records n) numbered ∙ seen),
        numbered,
        sym (updates_at records label there) ∙ ap (is_update_at records) numbered ∙ updates,
      )

  -- what passes a test among the newest does so among all visible ones
  pub narrow_side : (passes : Op → Bool) (m : ℕ) → Contains (filter (passes_at operations passes) newest) m
      → Contains (numbers_where passes visible) m
  narrow_side passes m there =
      let (among, is) = there-kept (passes_at operations passes) newest m there in
      let (label, seen, numbered, updates) = seen_label m (each_seen m among) in
      subst (Contains (numbers_where passes visible)) numbered
      (number_there passes visible label seen
      (sym (test_at passes label (there_visible records n label seen).0)
      ∙ ap (passes_at operations passes) numbered ∙ is))

  pub wide_side : (passes : Op → Bool) (label : Label) → Contains visible label → Contains newest label.number
      → passes label.op ≡ true → Contains (filter (passes_at operations passes) newest) label.number
  wide_side passes label seen among is =
      kept-there (passes_at operations passes) newest label.number among
      (test_at passes label (there_visible records n label seen).0 ∙ is)

  pub number_seen : (passes : Op → Bool) (k : ℕ) → Contains (numbers_where passes visible) k → sees records n k ≡ true
  number_seen passes k there =
      let (label, seen, passing, numbered) = from_visible records n passes k there in
      ap (sees records n) (sym numbered) ∙ (there_visible records n label seen).1
