-- Lemmas on orders of all labels: conditions name only updates, so what counts is how these stand.
use Rattle.std.proofs.Common.{◌≡◌, ℕ, Bool, true, false, List, [], ◌∷◌, filter, sym, ap, ◌∙◌, subst, inl, inr}
use Rattle.std.specs.Prelude.{Contains}
use Rattle.std.specs.Option.{option_map_or}
use Rattle.std.proofs.lemmas.Bool.{cases_Bool, cond_both, cond-true, cond-false}
use Rattle.std.proofs.lemmas.List.Elements.{Contains-get_or}
use Rattle.ra_labels.specs.declared.operation.Op.{Op}
use Rattle.ra_labels.specs.declared.operation.Op.TheVariants as op
use Rattle.ra_labels.specs.declared.label.Label.{Label}
use Rattle.ra_labels.specs.Lists.{is_among}
use Rattle.ra_labels.specs.Edges.{IsBefore}
use Rattle.ra_labels.specs.Records.{Records, label_count, labels_of}
use Rattle.ra_labels.specs.Visibility.{is_update, is_update_at}
use Rattle.ra_labels.proofs.Members.{head_or_behind, none_there, from_where, piece_of, kept-there, there-kept}
use Rattle.ra_list_model.proofs.OnceListed.{once_kept}
use Rattle.ra_theorems.proofs.TheoremIndex.{sees_earlier_updates-updates, delivered_are_updates-there, label_at_each_number-found}
use Rattle.ra_precedence.specs.Conditions.{Condition, MeetsAll, HasEachBelow, NameOnlyBelow, no_condition, condition_at}
use Rattle.ra_some_order.specs.VisibleUpdates.{writes, writes_other, adds, removes, visible_labels, numbers_where, elements_in}
use Rattle.ra_some_order.specs.UpdateConditions.{precedence, value_condition, element_condition, visibility_conditions, read_conditions, conditions_of, conditions_of_label, IsOrderOfUpdates}
use Rattle.ra_some_order.proofs.MetConditions.{there_visible, from_visible}

-- the condition names only updates
record NamesUpdates (records : Records) (condition : Condition) : Type 0 where
  before : (b : ℕ) → Contains condition.before b → is_update_at records b ≡ true
  after : (c : ℕ) → Contains condition.after c → is_update_at records c ≡ true

module _ (records : Records) (n : ℕ) where
  visible_updates_it : (label : Label) → Contains (visible_labels records n) label
      → is_update_at records label.number ≡ true
  visible_updates_it label visible =
      sees_earlier_updates-updates records n label.number (there_visible records n label visible).1

  where_updates : (passes : Op → Bool) (m : ℕ) → Contains (numbers_where passes (visible_labels records n)) m
      → is_update_at records m ≡ true
  where_updates passes m there =
      let (label, visible, is, numbered) = from_visible records n passes m there in
      subst (λ k. is_update_at records k ≡ true) numbered (visible_updates_it label visible)

  where_names : (first second : Op → Bool) → NamesUpdates records
      (record {
        before = numbers_where first (visible_labels records n);
        after = numbers_where second
            (visible_labels records n);
      })
  where_names first second = record { before = where_updates first; after = where_updates second }

  read_names : (operation : Op) (condition : Condition)
      → Contains (read_conditions (visible_labels records n) operation) condition → NamesUpdates records condition
  read_names (op.Last value) condition there =
      elim (head_or_behind (value_condition (visible_labels records n) value) [] condition there) [
        | inl here ↦ subst (NamesUpdates records) here (where_names (writes_other value) (writes value))
        | inr further ↦ absurd (none_there condition further)
      ]
  read_names (op.LwwRead list) condition there =
      let (x, changed, is) = from_where (element_condition (visible_labels records n) list)
      (elements_in (visible_labels records n)) condition there in
      subst (NamesUpdates records) is (cond_both (is_among x list)
      (record {
        before = numbers_where (removes x) (visible_labels records n);
        after = numbers_where (adds x)
            (visible_labels records n);
      })
      (record {
        before = numbers_where (adds x) (visible_labels records n);
        after = numbers_where (removes x)
            (visible_labels records n);
      })
      (NamesUpdates records) (λ listed. where_names (removes x) (adds x))
      (λ unlisted. where_names (adds x) (removes x)))
  read_names _ condition there = absurd (none_there condition there)

  visibility_names : is_update_at records n ≡ true → (condition : Condition)
      → Contains (visibility_conditions (visible_labels records n) n) condition → NamesUpdates records condition
  visibility_names updates condition there =
      let (seen, visible, is) = from_where (λ (l : Label). precedence l.number n)
      (visible_labels records n) condition there in
      subst (NamesUpdates records) is (record {
        before = λ b first. only b seen.number first (visible_updates_it seen visible);
        after = λ c second. only c n second updates;
      })
    where
      only : (b m : ℕ) → Contains (m ∷ []) b → is_update_at records m ≡ true → is_update_at records b ≡ true
      only b m there is = elim (head_or_behind m [] b there) [
        | inl here ↦ subst (λ k. is_update_at records k ≡ true) here is
        | inr further ↦ absurd (none_there b further)
      ]

names_updates : (records : Records) (condition : Condition) → Contains (conditions_of records) condition
    → NamesUpdates records condition
names_updates records condition there =
    let (label, among, of_label) = piece_of (conditions_of_label records) (labels_of records) condition there in
    let visible = visible_labels records label.number in
    let by_visibility = visibility_conditions visible label.number in
    let by_read = read_conditions visible label.op in
    elim (cases_Bool (is_update label.op)) [
      | inl updates ↦
          visibility_names records label.number
          (ap (λ o. option_map_or (λ (l : Label). is_update l.op) o false)
          (label_at_each_number-found records label among) ∙ updates)
          condition (subst (λ cs. Contains cs condition)
          (cond-true (is_update label.op) by_visibility by_read updates) of_label)
      | inr reads ↦
          read_names records label.number label.op condition
          (subst (λ cs. Contains cs condition) (cond-false (is_update label.op) by_visibility by_read reads) of_label)
    ]

pub names_before : (records : Records) (condition : Condition) (b : ℕ) → Contains (conditions_of records) condition
    → Contains condition.before b → is_update_at records b ≡ true
names_before records condition b there first = (names_updates records condition there).before b first

pub names_after : (records : Records) (condition : Condition) (c : ℕ) → Contains (conditions_of records) condition
    → Contains condition.after c → is_update_at records c ≡ true
names_after records condition c there second = (names_updates records condition there).after c second

pub names_below : (records : Records) → NameOnlyBelow (label_count records) (conditions_of records)
names_below records = record {
  before =
      λ i b within first. delivered_are_updates-there records b
      (names_before records (condition_at (conditions_of records) i) b
      (Contains-get_or (conditions_of records) i no_condition within) first);
  after =
      λ i c within second. delivered_are_updates-there records c
      (names_after records (condition_at (conditions_of records) i) c
      (Contains-get_or (conditions_of records) i no_condition within) second);
}

-- ---- the updates in an order of all labels
pub before_filtered : (p : ℕ → Bool) (xs : List ℕ) (a b : ℕ) → p a ≡ true → p b ≡ true → IsBefore xs a b
    → IsBefore (filter p xs) a b
before_filtered p [] a b first second before = absurd before
before_filtered p (x ∷ xs) a b first second before = elim before [
  | inl here ↦ subst (λ ys. IsBefore ys a b)
      (sym (cond-true (p x) (x ∷ filter p xs) (filter p xs) (ap p here.0 ∙ first)))
      (inl (here.0, kept-there p xs b here.1 second))
  | inr further ↦
      let rest = before_filtered p xs a b first second further in
      cond_both (p x) (x ∷ filter p xs) (filter p xs) (λ ys. IsBefore ys a b) (λ keeps. inr rest) (λ drops. rest)
]

abbrev pub updates_in : Records → List ℕ → List ℕ
updates_in records order = filter (is_update_at records) order

pub order_in : (records : Records) (order : List ℕ) → HasEachBelow (label_count records) order
    → IsOrderOfUpdates records (updates_in records order)
order_in records order each = record {
  once = once_kept (is_update_at records) order each.once;
  all =
      λ n. (
        (λ updates. kept-there (is_update_at records) order n
            ((each.all n).0 (delivered_are_updates-there records n updates)) updates),
        (λ there. (there-kept (is_update_at records) order n there).1),
      );
}

pub met_in : (records : Records) (order : List ℕ) → MeetsAll order (conditions_of records)
    → MeetsAll (updates_in records order) (conditions_of records)
met_in records order meets condition among b first =
    let (c, second, before) = meets condition among b first in (
      c,
      second,
      before_filtered (is_update_at records) order b c (names_before records condition b among first)
          (names_after records condition c among second) before,
    )
